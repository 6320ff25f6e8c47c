use Rattle.std.proofs.Common.{◌≡◌, ◌≤◌, ◌++◌, drop, length}
use Rattle.playback.specs.Merging.{merged}
use Rattle.playback.proofs.merging.merged.Given as goal

-- what was merged so far
abbrev pub invariant-loop-key : goal.invariant-loop-key
invariant-loop-key l = record {
  within : l.next ≤ length l.others;
  so_far : l.all.items ++ merged (drop l.key-index l.keys) (drop l.next l.others)
      ≡ merged l.keys l.others;
}
