pub mod Reads
pub mod Transactions
