-- Notes from one client to another.
pub mod Hearing
pub mod TellingAll
