use Rattle.std.proofs.Common.{◌∙◌, List, ℕ, Some, ap}
use Rattle.script_in_order.proofs.tx_answers.value.Goals as goal

pub returns-in-None : goal.returns-in-None
returns-in-None c = λ nodes is. c.in-None.ensures nodes is

pub returns-in_ok-copied-in-Some : goal.returns-in_ok-copied-in-Some
returns-in_ok-copied-in-Some c = λ nodes is.
    ap (λ (v : List ℕ). Some v) (c.in_ok-copied-in-Some.ensures ∙ c.as_bytes.ensures) ∙ c.in-Some.ensures nodes is
