use Rattle.std.proofs.Common.{◌≡◌, ◌++◌, length, map}
use Rattle.std.specs.Iterator.Adapters.{enumerate_source, enumerate_count}
use Rattle.std.specs.Vec.Iter.{into_iter_items}
use Rattle.ring_ends.specs.Making.{Dealt}
use Rattle.ring_ends.proofs.make.deal.Given as goal

abbrev pub invariant-loop-region : goal.invariant-loop-region
invariant-loop-region l =
    (enumerate_count l.region-iterator ≡ length l.yielded)
    × (map (λ p. p.1) l.yielded ++ into_iter_items (enumerate_source l.region-iterator) ≡ l.fn.column.items)
    × Dealt l.fn.column.items (length l.yielded) l.initial.all l.all
