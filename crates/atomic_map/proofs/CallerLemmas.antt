-- What callers may cite of this crate's proofs; all else there is private.
pub use Rattle.atomic_map.proofs.MapLines.{map_later}
