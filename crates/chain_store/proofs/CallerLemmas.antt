-- What callers may cite of this crate's proofs; all else there is private.
pub use Rattle.chain_store.proofs.Entering.{fresh, single_entered, entered_below}
pub use Rattle.chain_store.proofs.Begun.{begun_at, begun_later}
pub use Rattle.chain_store.proofs.Passing.{made_place, made_with}
pub use Rattle.chain_store.proofs.Resting.{ids_seen, lawful_seen}
pub use Rattle.chain_store.proofs.ListedRows.{IsAmong, row_place, row_listed}
pub use Rattle.chain_store.proofs.Going.{prefix_same, prefix_with, prefix_then, later_same, later_then, append_later}
pub use Rattle.chain_store.proofs.Going.{goes_same, goes_then, goes_weaken, looks_on, makes_on}
pub use Rattle.chain_store.proofs.Stamps.{own_stamped}
pub use Rattle.chain_store.proofs.Copied.{copied, carried_heads}
pub use Rattle.chain_store.proofs.Places.{all_by, got, member_at, member_has}
pub use Rattle.chain_store.proofs.Outcomes.{final_number, no_end}
