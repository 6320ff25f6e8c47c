pub mod CallerLemmas
mod Givens
mod Lists
mod Making
mod Joining
mod Dealing
