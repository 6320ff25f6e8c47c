use Rattle.std.proofs.Common.{◌≡◌, map, take}
use Rattle.object_fold.specs.States.{value_in}
use Rattle.object_fold.proofs.tx_state.TxState.values.Given as goal

abbrev pub invariant-loop-key : goal.invariant-loop-key
invariant-loop-key l = l.values ≡ map (value_in l.self.written.entries) (take l.key-index l.keys)
