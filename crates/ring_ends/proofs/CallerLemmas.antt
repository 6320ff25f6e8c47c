-- Lemmas for crates above.
pub use Rattle.ring_ends.proofs.Givens.{heads_more}
pub use Rattle.ring_ends.proofs.Joining.{place_before, place_behind, place_within}
