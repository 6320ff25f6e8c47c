pub mod Words
pub mod Rows
pub mod Views
pub mod Law
pub mod Seats
pub mod Closing
pub mod Inside
