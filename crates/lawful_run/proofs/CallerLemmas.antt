-- What callers may cite of this crate's proofs; all else there is private.
pub use Rattle.lawful_run.proofs.AppendFacts.{enters_after, enters_within, enters_lower, past_within, PointsLeave, points_leave, settled_by_now, unshown_too}
pub use Rattle.lawful_run.proofs.Clients.{shown_there}
pub use Rattle.lawful_run.proofs.Folds.{closing_line, line_prefix, played_first, read_order, reason}
pub use Rattle.lawful_run.proofs.HiddenReads.{kept_after_hidden, hides_more, hides_one_more, hides_none}
pub use Rattle.lawful_run.proofs.HiddenReads.{hides_without}
pub use Rattle.lawful_run.proofs.Later.{explained_later}
pub use Rattle.lawful_run.proofs.LaterAppends.{append_later, unshown_later}
pub use Rattle.lawful_run.proofs.LaterFacts.{taken_same, objects_later}
pub use Rattle.lawful_run.proofs.LaterReads.{raise_later, raises_later, syncs_later, piece_same, clear_later, read_later, keys_later, hides_syncs_later}
pub use Rattle.lawful_run.proofs.LettingGo.{before_is, behind_is, asks_before, commit_asks}
pub use Rattle.lawful_run.proofs.Prefixes.{get-append, get_within, prefix_get, prefix_length, prefix_take}
pub use Rattle.lawful_run.proofs.LineKeys.{writer_fits}
pub use Rattle.lawful_run.proofs.Lines.{append_of, node_there}
pub use Rattle.lawful_run.proofs.ObjectAnswers.{explains_append, explains_next, explains_moved, explains_get, explains_values, explains_get_trimmed, explains_get_without}
pub use Rattle.lawful_run.proofs.ObjectAnswers.{explains_take, explains_unread, explains_unread_without, explains_away}
pub use Rattle.lawful_run.proofs.ObjectAnswers.{explains_read, explains_verdict, explains_unruled, explains_unruled_without, explains_no_read}
pub use Rattle.lawful_run.proofs.ObjectAnswers.{explains_change, explains_names}
pub use Rattle.lawful_run.proofs.PartAnswers.{explains_peek, explains_undecided, explains_settled, explains_decided, explains_decide_refused, explains_decide_hidden}
pub use Rattle.lawful_run.proofs.Places.{more_places, range_more, same_places}
pub use Rattle.lawful_run.proofs.PlayedStamps.{stamps_played, in_counted, counted_in, in_stretch, stretch_in, in_regions, regions_in, greatest_bounded, zip_of, zip_to}
pub use Rattle.lawful_run.proofs.ReadsKept.{explained_ids, explained_keeps, reads_keep}
pub use Rattle.lawful_run.proofs.ScriptForms.{key_is_word, key_some, pairs_are, can_read, read_versions_fit}
pub use Rattle.lawful_run.proofs.Shards.{asked_kind, decide_kind, key_gets, key_synced, not_several, one_shard}
pub use Rattle.lawful_run.proofs.Shown.{legal_at, stands_in}
pub use Rattle.lawful_run.proofs.Standing.{Stands}
pub use Rattle.lawful_run.proofs.Traces.{at_updated, read as read_quiet}
pub use Rattle.lawful_run.proofs.TreeAsks.{make_asks, remove_asks, move_asks, path_of_field, below_of_field, make_said, remove_said, move_said, list_said}
