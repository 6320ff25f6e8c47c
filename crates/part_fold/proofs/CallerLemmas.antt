-- What callers may cite of this crate's proofs; all else there is private.
pub use Rattle.part_fold.proofs.UndecidedLemmas.{StandsAmong, has_outcome, undecided_stands}
pub use Rattle.part_fold.proofs.VerdictLemmas.{IsTransaction}
