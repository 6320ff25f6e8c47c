-- What callers may cite of this crate's proofs; all else there is private.
pub use Rattle.log_client.proofs.Known.Seeing.{sees_on, seen_there}
pub use Rattle.log_client.proofs.Known.Fitting.{fits_less, text_named}
pub use Rattle.log_client.proofs.Going.GoingOn.{client_sees_on, same_caller}
pub use Rattle.log_client.proofs.End.LeftOpen.{open_row}
pub use Rattle.log_client.proofs.Going.Forgetting.{rests_forgotten}
pub use Rattle.log_client.proofs.Going.Growing.{grown_same, grown_then}
pub use Rattle.log_client.proofs.Read.ItemsRead.{items_show, items_are_objects, made_from, made_of, rising_head, rising_tail}
pub use Rattle.log_client.proofs.Read.ReadCalls.{line_is_own, line_rises}
pub use Rattle.log_client.proofs.Read.ReadLater.{behind_all, read_above}
pub use Rattle.log_client.proofs.Going.Explaining.{rests_same, rests_then}
pub use Rattle.lawful_run.proofs.CallerLemmas.{stamps_played}
pub use Rattle.log_client.proofs.Object.ObjectNodes.{line_counted, line_first, first_are_own, snapshot_is_own}
pub use Rattle.log_client.proofs.Object.ObjectFolds.{folds_none, folds_on, follows_later}
pub use Rattle.log_client.proofs.Object.ObjectCalls.{explained_less, explained_then, first_position, one_known, one_started, tracks_long}
pub use Rattle.log_client.proofs.Object.ObjectCalls.{rests_synced, sync_hidden, untold_hidden, none_hidden, nothing_hidden, at_one, append_unshown, stands_behind, unread_leaves, unfolded_leaves}
pub use Rattle.log_client.proofs.Object.ObjectAppends.{append_left, append_stood, put_refused}
pub use Rattle.log_client.proofs.Object.ObjectShards.{shard_in, shard_low}
pub use Rattle.log_client.proofs.Object.ColourSets.{listed_of_store, one_of_store, shard_rising, shards_of_store}
pub use Rattle.log_client.proofs.Append.NextAnswers.{only_stood, only_moved, only_ended}
pub use Rattle.log_client.proofs.Append.UnshownAppends.{several_are_unshown, unshown}
pub use Rattle.log_client.proofs.Object.ObjectReads.{reads_later, all_appended, all_explained, first_kept, all_kept, last_keys, rising_front}
pub use Rattle.log_client.proofs.Object.ObjectPlaces.{IsPlacedIn, PlayedIn, played_in, stood_there}
pub use Rattle.log_client.proofs.Sync.PlayedOrders.{of_region, counted_more}
pub use Rattle.log_client.proofs.Sync.PlayedPlaces.{zip_at, zip_long}
pub use Rattle.log_client.proofs.Sync.SyncAnswers.{answer_from, answers_from}
