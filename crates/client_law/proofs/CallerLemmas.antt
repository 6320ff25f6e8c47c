-- What callers may cite of this crate's proofs; all else there is private.
pub use Rattle.client_law.proofs.Keeping.{chain_later, explained_at_end, explained_on, kept_stays, lawful_at, nothing_is_kept, replies_last, seen_later}
pub use Rattle.client_law.proofs.Keeping.{steps_at_end}
pub use Rattle.client_law.proofs.Rows.{closed_stays, gone_at_end, gone_for_memory, kept_after_row, steps_of_made, stops_stand}
pub use Rattle.client_law.proofs.Several.{kept_after_several, several_stand}
pub use Rattle.client_law.proofs.Counting.{steps_among_made}
pub use Rattle.client_law.proofs.Syncs.{kept_after_keys, plays_stand, syncs_stand, trimmed_there}
pub use Rattle.client_law.proofs.AppendOne.{appends_stand, kept_after_append, no_stamp_was_left, wants_are_starts}
pub use Rattle.client_law.proofs.Events.{kept_after, kept_after_looking}
pub use Rattle.client_law.proofs.Lists.{at_new_at}
pub use Rattle.client_law.proofs.StampedReads.{clear_syncs_on, kept_with_floor, raise_stands, raises_on, reads_stand}
pub use Rattle.client_law.proofs.Pulls.{kept_after_gives, kept_after_pulling, pulls_stand, trims_stand}
pub use Rattle.client_law.proofs.Origins.{copies_are_true}
