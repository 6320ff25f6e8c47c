pub mod Players
pub mod Deciding
pub mod MapPlayers
