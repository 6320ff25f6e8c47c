-- What callers may cite of this crate's proofs; all else there is private.
pub use Rattle.log_tree.proofs.TreeAnswers.{tree_later}
