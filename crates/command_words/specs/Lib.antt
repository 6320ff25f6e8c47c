pub mod Inside
pub mod Parting
