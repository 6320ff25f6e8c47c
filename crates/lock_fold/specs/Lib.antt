pub mod Rising
pub mod Tickets
