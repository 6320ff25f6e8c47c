use Rattle.std.proofs.Common.{◌≡◌, ◌≤◌, ◌+◌, ℕ, List, length}
use Rattle.log_node.specs.declared.ids.Key.{Key}
use Rattle.log_node.specs.declared.forms.Pair.{Pair}
use Rattle.object_fold.specs.declared.tx_state.TxState.{TxState}
use Rattle.object_fold.specs.Tables.{value_at}
use Rattle.object_fold.specs.States.{written_pairs}
use Rattle.object_fold.proofs.tx_state.TxState.write_all.Given as goal

-- the pairs so far are written
pub record WritesPairs (old new : TxState) (writer : Key) (pairs : List Pair) (set : List Pair) : Type 0 where
  pub room : length pairs ≤ new.written.spare + length set
  pub values : (key : List ℕ) → value_at new.written.entries key ≡ written_pairs writer key (value_at old.written.entries key) set

abbrev pub invariant-loop-key : goal.invariant-loop-key
invariant-loop-key l = WritesPairs l.fn.self l.self l.writer l.fn.pairs l.yielded
