-- What a client knows by its holds, and whose that is.
pub mod Fitting
pub mod Foreign
pub mod Once
pub mod OwnNodes
pub mod Seeing
pub mod Steps
pub mod Truly
