pub mod Places
pub mod Givens
pub mod Rings
pub mod NewRings
pub mod Making
