-- Trims.
pub mod TrimReplies
pub mod Trims
