-- What callers may cite of this crate's proofs; all else there is private.
pub use Rattle.few_rows.proofs.Enough.{enough_rows}
pub use Rattle.few_rows.proofs.MoreRows.{fewer_rows}
