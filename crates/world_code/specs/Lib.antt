pub mod Clients
pub mod Replies
pub mod WorldView
pub mod Completed
pub mod Looks
