-- What callers may cite of this crate's proofs; all else there is private.
pub use Rattle.object_fold.proofs.Versions.{versions_fit}
pub use Rattle.object_fold.proofs.FoldLemmas.{found_cond, found_there, passed_cond}
pub use Rattle.object_fold.proofs.CausalLemmas.{all_fed, counts_fed, none_fed, one_more_fed, same_fed}
