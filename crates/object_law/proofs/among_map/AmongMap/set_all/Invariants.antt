use Rattle.std.proofs.Common.{◌≡◌, ◌≤◌, ◌+◌, ℕ, List, length}
use Rattle.log_node.specs.declared.forms.Form.TheVariants.{PutAll}
use Rattle.log_node.specs.declared.forms.Pair.{Pair}
use Rattle.log_node.specs.declared.ids.Colours.{Colours}
use Rattle.object_fold.specs.Tables.{value_at}
use Rattle.object_law.specs.AmongMaps.{counted_with}
use Rattle.object_law.specs.declared.among_map.AmongMap.{AmongMap}
use Rattle.object_law.proofs.among_map.AmongMap.set_all.Given as goal

-- the pairs so far are set
pub record SetsPairs (old new : AmongMap) (colours : Colours) (pairs set : List Pair) : Type 0 where
  pub colours_are : new.colours ≡ old.colours
  pub room : length pairs ≤ new.values.spare + length set
  pub values : (other : List ℕ) → value_at new.values.entries other ≡ counted_with old colours other (PutAll set)

abbrev pub invariant-loop-key : goal.invariant-loop-key
invariant-loop-key l = SetsPairs l.fn.self l.self l.fn.set l.fn.pairs l.yielded
