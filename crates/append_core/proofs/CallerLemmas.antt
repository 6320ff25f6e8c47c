-- What callers may cite of this crate's proofs; all else there is private.
pub use Rattle.append_core.proofs.Taking.{entries_split, entered_in, entered_more}
pub use Rattle.append_core.proofs.Complete.{complete_later}
pub use Rattle.append_core.proofs.Keeping.{enters_later}
pub use Rattle.append_core.proofs.Helped.{helped_complete, helped_longer, helps_then, never_helped}
pub use Rattle.append_core.proofs.Lasting.{longer, lawful_longer, final_later}
pub use Rattle.append_core.proofs.Marked.{colour_within, below_all, marked_at, marked_later, all_known, settled_at, settled_elsewhere}
pub use Rattle.append_core.proofs.Cleared.{under_clock, under_least, under_later}
pub use Rattle.append_core.proofs.Closed.{stands_closed}
