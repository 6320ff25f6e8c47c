-- What callers may cite of this crate's proofs; all else there is private.
pub use Rattle.causal_map.proofs.GetAnswers.{causal_later}
