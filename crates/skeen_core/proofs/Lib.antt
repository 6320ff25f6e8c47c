mod Lists
mod Entries
mod Delivery
mod Stored
mod Delivering
mod Placing
mod Adding
mod Settling
mod Settled
mod RowMarks
mod KeptRows
mod Clients
pub mod CallerLemmas
