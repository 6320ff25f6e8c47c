-- What a client keeps.
pub mod Kept
pub mod OwnEvents
pub mod ReadsLeft
pub mod Refusing
