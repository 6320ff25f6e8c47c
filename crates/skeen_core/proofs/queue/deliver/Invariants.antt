-- What is in the line and what the drain still has are the line and what the drain began with; there is room for it.
use Rattle.std.proofs.Common.{◌≡◌, ◌+◌, ◌≤◌, ◌++◌, map, length, vec_len, vec_capacity}
use Rattle.std.specs.Vec.Iter.{drain_items, DrainKeeps}
use Rattle.skeen_core.proofs.queue.deliver.Given as goal

abbrev pub invariant-loop-entry : goal.invariant-loop-entry
invariant-loop-entry g l = (goal.iterator-loop-entry g).can_next l.entry-iterator
    × (goal.iterator-loop-entry g).is_finite l.entry-iterator
    × DrainKeeps l.initial.entry-iterator l.entry-iterator
    × (l.line.items ++ map (λ w. w.key) (drain_items l.entry-iterator) ≡ l.initial.line.items ++ map (λ w. w.key)
    (drain_items l.initial.entry-iterator))
    × (l.kept.items ++ map (λ w. w.thing) (drain_items l.entry-iterator) ≡ l.initial.kept.items ++ map (λ w. w.thing)
    (drain_items l.initial.entry-iterator))
    × (vec_len l.line + length (drain_items l.entry-iterator) ≤ vec_capacity l.initial.line)
    × (vec_len l.kept + length (drain_items l.entry-iterator) ≤ vec_capacity l.initial.kept)
    × (vec_capacity l.initial.line ≤ vec_capacity l.line)
    × (vec_capacity l.initial.kept ≤ vec_capacity l.kept)
