-- What callers may cite of this crate's proofs; all else there is private.
pub use Rattle.object_form.proofs.CutLemmas.{Lacks, lacks_append, lacks_by, before_cut, after_cut, cut_back}
pub use Rattle.object_form.proofs.KeyLemmas.{IsRanged, ranged, key_read, key_lacks, key_back, key_ranged}
