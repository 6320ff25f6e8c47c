mod Lists
mod Known
mod Append
mod Sync
mod Trim
mod Pull
mod End
mod Going
mod Telling
mod Dealing
mod Joining
mod Read
mod Results
mod Object
pub mod CallerLemmas
