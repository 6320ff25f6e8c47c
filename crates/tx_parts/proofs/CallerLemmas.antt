-- What callers may cite of this crate's proofs; all else there is private.
pub use Rattle.tx_parts.proofs.PlayerAnswers.{player_later}
pub use Rattle.tx_parts.proofs.MapAnswers.{players_later}
