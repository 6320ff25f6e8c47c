pub mod Begins
pub mod Dealt
pub mod Joining
pub mod Lists
pub mod Parts
