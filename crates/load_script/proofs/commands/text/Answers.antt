use Rattle.std.proofs.Common.{◌≡◌, ℕ, List, [], ◌∷◌, ap, sym, subst, ◌∙◌, append_assoc}
use Rattle.std.specs.Prelude.{IfOk, decimal}
use Rattle.load_script.proofs.commands.text.Goals as goal

pub returns : goal.returns
returns c =
    let joined = sym (ap (λ (l : List ℕ). 116 ∷ l) (append_assoc (decimal c.args.client) (45 ∷ []) (decimal c.args.round))) in
    let is = c.as_bytes.ensures.value ∙ ((c.in_ok-text.ensures).ok ∙ joined) in
    subst (λ (b : List ℕ). IfOk c.copied.result (λ (text : List ℕ). text ≡ b)) is c.copied.ensures
