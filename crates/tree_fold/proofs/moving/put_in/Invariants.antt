use Rattle.std.proofs.Common.{length}
use Rattle.std.specs.BTreeMap.{IsOrdered}
use Rattle.std.specs.List.{AllByRecursion}
use Rattle.std.specs.Prelude.{IsTrue}
use Rattle.tree_fold.specs.Paths.{is_below_root}
use Rattle.tree_fold.specs.Places.{IsPlaced, place_cmp}
use Rattle.tree_fold.proofs.MoveLemmas.{ArePut}
use Rattle.tree_fold.proofs.moving.put_in.Given as goal

-- the last entries are in
abbrev pub invariant-loop-entry : goal.invariant-loop-entry
invariant-loop-entry l = record {
  placed : AllByRecursion IsPlaced l.entries.entries;
  ordered : IsOrdered place_cmp l.entries;
  paths : AllByRecursion (λ e. IsTrue (is_below_root e.path)) l.moved.items;
  put : ArePut l.moved.items l.initial.moved.items l.initial.entries l.entries;
}

abbrev pub decreases-loop-entry : goal.decreases-loop-entry
decreases-loop-entry l = length l.moved.items
