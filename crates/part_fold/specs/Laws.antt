-- What the texts of decisions have for consequences.
use Rattle.std.specs.Prelude.{◌≡◌, ◌↔◌, ℕ, List, length, Some}
use Rattle.log_node.specs.declared.forms.Form.TheVariants.{Plain}
use Rattle.log_node.specs.Texts.{IsTextLength}
use Rattle.object_form.specs.Readings.{form_of}
use Rattle.part_fold.specs.declared.decision.Decision.{Decision}
use Rattle.part_fold.specs.Decisions.{IsDecision, IsSaidAs, decision_text, decision_of}

-- a text is read as the decision that has it, and as no other
abbrev pub ReadsDecisions : Type 0
ReadsDecisions = (text : List ℕ) (decision : Decision) → IsSaidAs decision text ↔ (decision_of text ≡ Some decision)

-- no two decisions have one text
abbrev pub DecisionsDiffer : Type 0
DecisionsDiffer = (decision other : Decision) (text : List ℕ) → IsSaidAs decision text → IsSaidAs other text
    → decision ≡ other

-- to all objects else the text of a decision says nothing
abbrev pub DecisionsArePlain : Type 0
DecisionsArePlain = (decision : Decision) → form_of (decision_text decision) ≡ Plain

-- the text of a decision is one that a node may have
abbrev pub DecisionsFit : Type 0
DecisionsFit = (decision : Decision) → IsDecision decision → IsTextLength (length (decision_text decision))
