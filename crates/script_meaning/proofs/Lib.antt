mod Run
mod World
mod Client
mod Append
mod Lists
mod Object
mod Move
mod Read
mod Part
mod Stop
mod Transaction
mod Tree
pub mod CallerLemmas
