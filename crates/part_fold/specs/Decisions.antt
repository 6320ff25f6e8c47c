-- The decision on a transaction: the text that a node with it has, and the decision of a text.
use Rattle.std.specs.Prelude.{◌≡◌, Bool, IsTrue, true, false, ℕ, ◌==◌, List, [], ◌∷◌, ◌++◌, Option, Some, None, codes, if◌then◌else◌}
use Rattle.std.specs.Str.{bytes_eq}
use Rattle.log_node.specs.declared.ids.Key.{Key}
use Rattle.object_form.specs.Forms.{equals, writer_text, is_writer}
use Rattle.object_form.specs.Readings.{before, after, key_in}
use Rattle.part_fold.specs.declared.decision.Decision.{Decision}

-- 1 where the transaction commits, else 0
abbrev pub outcome_text : Bool → List ℕ
outcome_text true = codes "1"
outcome_text false = codes "0"

-- z:STAMP.CLIENT.COUNT=B, the numbers being those of the transaction's key
abbrev pub decision_text : Decision → List ℕ
decision_text decision = codes "z:" ++ writer_text (Some decision.key) ++ equals ∷ outcome_text decision.commits

-- the decision is on a key that a transaction can name
abbrev pub IsDecision : Decision → Type 0
IsDecision decision = IsTrue (is_writer (Some decision.key))

-- the decision may be, and this is its text
abbrev pub IsSaidAs : Decision → List ℕ → Type 0
IsSaidAs decision text = IsDecision decision × (decision_text decision ≡ text)

-- the outcome that stands behind the sign, if that is one
abbrev pub outcome_of : List ℕ → Option Bool
outcome_of bytes =
    if bytes_eq bytes (codes "1") then Some true
    else (if bytes_eq bytes (codes "0") then Some false else None)

-- a decision is a key and an outcome
abbrev pub decision_by : Option Key → Option Bool → Option Decision
decision_by (Some key) (Some commits) = Some (record { key = key; commits = commits })
decision_by (Some key) None = None
decision_by None outcome = None

-- the decision behind `z:`
abbrev pub decision_after : List ℕ → Option Decision
decision_after bytes = decision_by (key_in (before equals bytes)) (outcome_of (after equals bytes))

-- the decision of a text, if it is that of one
abbrev pub decision_of : List ℕ → Option Decision
decision_of [] = None
decision_of (letter ∷ []) = None
decision_of (letter ∷ sign ∷ bytes) =
    if letter == 122 then (if sign == 58 then decision_after bytes else None) else None
