use Rattle.std.proofs.Common.{◌≡◌, ◌++◌, List, ℕ, map, take}
use Rattle.log_node.specs.declared.forms.Pair.{Pair}
use Rattle.report_text.specs.declared.report.KeyAnswer.{KeyAnswer}
use Rattle.log_node.specs.Sets.{set_of}
use Rattle.object_fold.specs.Nodes.{shard_of}
use Rattle.walk_law.specs.Asking.{keys_shown}
use Rattle.walk_law.proofs.object_colours.transaction_set.Given as goal

-- the shards of the keys that were read so far
abbrev pub invariant-loop-answer : goal.invariant-loop-answer
invariant-loop-answer l = l.set ≡ set_of (map (λ (x : KeyAnswer). shard_of l.own x.key) (take l.answer-index l.read))

-- of all of them, and of those that are written so far
abbrev pub invariant-loop-pair : goal.invariant-loop-pair
invariant-loop-pair l =
    l.set ≡ set_of (map (λ (k : List ℕ). shard_of l.own k) (keys_shown l.read)
    ++ map (λ (x : Pair). shard_of l.own x.key) (take l.pair-index l.pairs))
