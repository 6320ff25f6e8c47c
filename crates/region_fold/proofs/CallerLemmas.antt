-- What callers may cite of this crate's proofs; all else there is private.
pub use Rattle.region_fold.proofs.ReadAnswers.{colours_later, kept_later, shards_own}
pub use Rattle.region_fold.proofs.TellAnswers.{told_more}
pub use Rattle.region_fold.proofs.TxAnswers.{map_later}
