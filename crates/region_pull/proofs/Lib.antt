mod Lists
mod Seen
mod Giving
mod Carrying
mod Steps
mod Kept
pub mod CallerLemmas
