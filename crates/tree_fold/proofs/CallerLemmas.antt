-- What callers may cite of this crate's proofs; all else there is private.
pub use Rattle.tree_fold.proofs.TextLemmas.{root_is, path_is, below_root_is, make_fits, remove_fits, move_fits, some_keys}
pub use Rattle.tree_fold.proofs.TreeLemmas.{there_same, why_same}
pub use Rattle.tree_fold.proofs.FoldLemmas.{told_of_same}
pub use Rattle.tree_fold.proofs.ListedLemmas.{answer_is, answer_same, names_after_same}
