pub mod Tracks
pub mod Doing
