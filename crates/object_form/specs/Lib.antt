pub mod Forms
pub mod Readings
pub mod Laws
pub mod Reasons
