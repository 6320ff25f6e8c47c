pub mod Generated
pub mod Summing
pub mod Plain
pub mod Laws
