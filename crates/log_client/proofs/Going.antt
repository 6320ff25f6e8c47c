-- A client that goes on: what stays, and what explains its calls.
pub mod AtHome
pub mod Everywhere
pub mod Explaining
pub mod Forgetting
pub mod GoingOn
pub mod Growing
pub mod Helping
pub mod Looked
pub mod NextNodes
pub mod StandsLater
pub mod Staying
