-- What callers may cite of this crate's proofs; all else there is private.
pub use Rattle.skeen_core.proofs.Lists.{each-append, each-at, each-drop, each-filter, each-map, each-weaker}
pub use Rattle.skeen_core.proofs.Lists.{filter-map}
