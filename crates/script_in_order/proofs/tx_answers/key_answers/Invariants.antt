use Rattle.std.proofs.Common.{◌≡◌, List, take}
use Rattle.object_fold.specs.Nodes.{ObjectNode}
use Rattle.object_fold.specs.States.{IsTxState}
use Rattle.object_fold.specs.Transactions.{value_of, writes_after}
use Rattle.script_meaning.specs.Gets.{key_answers}
use Rattle.script_in_order.proofs.tx_answers.key_answers.Given as goal

-- the keys so far
abbrev pub invariant-loop-key : goal.invariant-loop-key
invariant-loop-key l =
    (nodes : List ObjectNode) → IsTxState l.state nodes
    → l.answers ≡ key_answers (value_of (writes_after nodes)) (take l.key-index l.keys)
