pub mod Stores
pub mod Origins
pub mod Pulls
pub mod Inside
