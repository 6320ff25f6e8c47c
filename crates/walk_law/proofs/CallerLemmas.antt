-- For the crates above.
pub use Rattle.walk_law.proofs.ChainBeginnings.{begins}
pub use Rattle.walk_law.proofs.FirstLemmas.{low_objects}
pub use Rattle.walk_law.proofs.FoundSteps.{find_keys, its_within, keys_unnamed, to_bare, to_found, told}
pub use Rattle.walk_law.proofs.LeftLemmas.{by_place, journal_is}
pub use Rattle.walk_law.proofs.Lists.{all_end, item_step, item_stop, told_not, told_so}
pub use Rattle.walk_law.proofs.Members.{told_as}
pub use Rattle.walk_law.proofs.RepliesLemmas.{Reads, behind_reads, chained, found_before, kept_found, reads_by}
pub use Rattle.walk_law.proofs.SameKeeping.{before_same}
pub use Rattle.walk_law.proofs.SayingLemmas.{deciding_uses, found_same}
pub use Rattle.walk_law.proofs.ShapeColours.{appended_within, below_all, kind_within, rising_below, shards_within, synced_within, whole_within}
pub use Rattle.walk_law.proofs.Shards.{shard_low}
pub use Rattle.walk_law.proofs.ShownSteps.{home_low, its_within as its_within_shown, to_bare as to_bare_shown, to_shown, told as told_shown}
pub use Rattle.walk_law.proofs.SubjectLemmas.{longer_cases}
pub use Rattle.walk_law.proofs.ThirdLemmas.{few_colours}
pub use Rattle.walk_law.proofs.WalkLemmas.{ClientsSo, WalkedSo, clients_all, clients_off, clients_on, first_walked, replies_many, step_few, step_goes, step_stops, walked_all}
