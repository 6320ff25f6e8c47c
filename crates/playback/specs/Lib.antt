pub mod Orders
pub mod Playing
pub mod Merging
pub mod Inside
pub mod Laws
