-- Syncs, pulls and trims.
pub mod AfterMoves
pub mod Carried
pub mod MoveCases
pub mod Pulling
pub mod Sync
pub mod Trimming
