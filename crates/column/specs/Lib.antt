pub mod Entering
pub mod Columns
pub mod Inside
pub mod Views
