pub mod States
pub mod Guards
pub mod Effects
pub mod Worlds
pub mod Completing
pub mod Lines
pub mod Laws
