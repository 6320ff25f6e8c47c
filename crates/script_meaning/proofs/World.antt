-- What steps do to a world.
pub mod Additions
pub mod ChainNodes
pub mod Clearing
pub mod CompletionParts
pub mod Completions
pub mod Counting
pub mod Lines
pub mod Playing
pub mod Reached
pub mod Rows
pub mod RowsOfClients
pub mod Settled
pub mod StaysComplete
