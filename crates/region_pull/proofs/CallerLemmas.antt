-- What callers may cite of this crate's proofs; all else there is private.
pub use Rattle.region_pull.proofs.Seen.{chain_longer, held_longer, held_for_longer}
pub use Rattle.region_pull.proofs.Carrying.{carries_more, looks_carries}
pub use Rattle.region_pull.proofs.Kept.{held_stays}
