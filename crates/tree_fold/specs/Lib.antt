pub mod Paths
pub mod Changes
pub mod Readings
pub mod Laws
pub mod Trees
pub mod Places
pub mod TreeStates
