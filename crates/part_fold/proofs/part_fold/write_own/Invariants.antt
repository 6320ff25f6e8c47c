use Rattle.std.proofs.Common.{◌≡◌, ◌≤◌, ◌+◌, ℕ, List, length}
use Rattle.log_node.specs.declared.ids.Key.{Key}
use Rattle.log_node.specs.declared.forms.Pair.{Pair}
use Rattle.object_fold.specs.declared.tx_state.Written.{Written}
use Rattle.object_fold.specs.Tables.{Table, value_at}
use Rattle.part_fold.specs.Parts.{Part}
use Rattle.part_fold.specs.PartStates.{own_pairs}
use Rattle.part_fold.proofs.part_fold.write_own.Given as goal

-- the pairs so far are written
pub record WritesOwn (old new : Table Written) (part : Part) (writer : Key) (pairs : List Pair) (set : List Pair) : Type 0 where
  pub room : length pairs ≤ new.spare + length set
  pub least : old.spare ≤ new.spare + length set
  pub values : (key : List ℕ) → value_at new.entries key ≡ own_pairs part writer key (value_at old.entries key) set

abbrev pub invariant-loop-pair : goal.invariant-loop-pair
invariant-loop-pair l = WritesOwn l.fn.written l.written l.part l.writer l.fn.pairs l.yielded
