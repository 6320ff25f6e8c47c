use Rattle.std.proofs.Common.{List}
use Rattle.object_fold.specs.Nodes.{ObjectNode}
use Rattle.object_fold.specs.States.{IsTxState}
use Rattle.object_fold.specs.Transactions.{value_of, writes_after}
use Rattle.object_law.proofs.AnswerLemmas.{AnswerFirst}
use Rattle.object_law.proofs.tx_plays.are_values.Given as goal

-- the answers so far are those to the keys
abbrev pub invariant-loop-at : goal.invariant-loop-at
invariant-loop-at l = (nodes : List ObjectNode) → IsTxState l.state nodes
    → AnswerFirst (value_of (writes_after nodes)) l.asked l.shown l.at
