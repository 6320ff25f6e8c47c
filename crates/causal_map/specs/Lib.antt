pub mod Played
pub mod CausalMaps
