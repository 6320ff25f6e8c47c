pub mod Jobs
pub mod Nodes
pub mod Stores
pub mod Tallies
pub mod Writers
