pub mod Colours
pub mod Writes
pub mod Several
