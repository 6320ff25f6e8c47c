use Rattle.std.proofs.Common.{◌≡◌, take}
use Rattle.lawful_run.specs.Callers.{caller_of}
use Rattle.lawful_run.specs.Reads.{lines_read}
use Rattle.playback.specs.Merging.{region_order}
use Rattle.walk_law.specs.Walking.{log_walked}
use Rattle.walk_law.proofs.subject.Subject.keys_read.Given as goal

-- those of the syncs so far
abbrev pub invariant-loop-sync : goal.invariant-loop-sync
invariant-loop-sync l =
    l.keys.items ≡ region_order l.stamp (lines_read (log_walked l.self) (caller_of l.self.script l.client) (take l.sync-index l.syncs))
