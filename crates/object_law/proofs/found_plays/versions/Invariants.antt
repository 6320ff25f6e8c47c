use Rattle.std.proofs.Common.{◌≡◌, List, take}
use Rattle.object_fold.specs.Nodes.{ObjectNode}
use Rattle.object_fold.specs.States.{IsTxState}
use Rattle.object_fold.specs.Transactions.{versions_after}
use Rattle.run_rules.specs.Computing.{keys_shown}
use Rattle.object_law.proofs.found_plays.versions.Given as goal

-- those of the keys so far
abbrev pub invariant-loop-answer : goal.invariant-loop-answer
invariant-loop-answer l = (nodes : List ObjectNode) → IsTxState l.state nodes
    → l.versions ≡ versions_after nodes (keys_shown (take l.answer-index l.shown))
