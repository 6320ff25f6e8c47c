-- Transactions.
pub mod CommitRuns
pub mod Telling
pub mod TellingRuns
pub mod TransactionReads
pub mod TransactionVerdicts
pub mod VersionsFit
