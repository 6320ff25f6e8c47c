-- For which nodes a map stands that keeps what became of its transactions.
use Rattle.std.specs.Prelude.{◌≡◌, Bool, List, [], ◌∷◌, Option, Some, None}
use Rattle.std.specs.Option.{option_map}
use Rattle.log_node.specs.declared.ids.Key.{Key}
use Rattle.object_fold.specs.declared.verdict.Verdict.{Verdict}
use Rattle.object_fold.specs.Nodes.{ObjectNode}
use Rattle.object_fold.specs.Folds.{IsAbsent}
use Rattle.object_fold.specs.States.{IsTxState}
use Rattle.object_fold.specs.Transactions.{verdict_of}
use Rattle.part_fold.specs.declared.decision.Decision.{Decision}
use Rattle.part_fold.specs.declared.ruled_fold.RuledFold.{RuledFold}
use Rattle.part_fold.specs.Agreement.{outcome}
use Rattle.part_fold.specs.PartStates.{decided_at, decided_with}

-- no two nodes have one key
abbrev pub AreApart : List ObjectNode → Type 0
AreApart [] = Unit {0}
AreApart (node ∷ nodes) = IsAbsent node.key nodes × AreApart nodes

-- what a verdict, if there is one, decides on the transaction with this key
abbrev pub decision_on : Key → Option Verdict → Option Decision
decision_on key verdict = option_map (λ commits. record { key = key; commits = commits }) (outcome verdict)

-- what is decided on a transaction after one more decision, if there is one
abbrev pub decided_then : Option Bool → Option Decision → Key → Option Bool
decided_then before None key = before
decided_then before (Some decision) key = decided_with before decision key

-- what the fold has of a transaction: what became of it
abbrev pub outcome_in : RuledFold → Key → Option Bool
outcome_in fold key = decided_then (decided_at fold.outcomes key) fold.latest key

-- the fold after these nodes: it has what became of each transaction among them
pub record IsRuled (fold : RuledFold) (nodes : List ObjectNode) : Type 0 where
  pub map : IsTxState fold.map nodes
  pub outcomes : AreApart nodes → (key : Key) → outcome_in fold key ≡ outcome (verdict_of nodes key)
