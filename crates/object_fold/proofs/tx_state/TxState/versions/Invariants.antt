use Rattle.std.proofs.Common.{◌≡◌, map, take}
use Rattle.object_fold.specs.States.{version_in}
use Rattle.object_fold.proofs.tx_state.TxState.versions.Given as goal

abbrev pub invariant-loop-key : goal.invariant-loop-key
invariant-loop-key l = l.versions ≡ map (version_in l.self.written.entries) (take l.key-index l.keys)
