-- What callers may cite of this crate's proofs; all else there is private.
pub use Rattle.world_code.proofs.Sets.{is_there, not_before}
