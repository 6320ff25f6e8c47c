pub mod Decisions
pub mod Laws
pub mod Parts
pub mod Waits
pub mod PartStates
pub mod Agreement
pub mod Ruled
