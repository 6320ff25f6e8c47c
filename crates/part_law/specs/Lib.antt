pub mod Premises
pub mod UpTo
pub mod Laws
