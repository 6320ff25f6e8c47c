use Rattle.std.proofs.Common.{[], ◌∷◌, ◌++◌, ◌∙◌, List, ℕ, subst, ap, append_assoc}
use Rattle.std.specs.Option.{option_copied}
use Rattle.object_form.specs.Forms.{equals}
use Rattle.walk_law.specs.TextsSaid.{IsBehind}
use Rattle.walk_law.proofs.FrontLemmas.{behind_both, gives_none}
use Rattle.walk_law.proofs.fronts.behind_pair.Goals as goal

pub returns-in_err-behind_signed : goal.returns-in_err-behind_signed
returns-in_err-behind_signed c =
    let key = c.as_bytes.result.now in
    let value = c.args.value.now in
    subst (λ (l : List ℕ). IsBehind l c.args.bytes.now (option_copied c.from_residual.result))
    (append_assoc key (equals ∷ []) value ∙ ap (λ (l : List ℕ). l ++ equals ∷ value) c.as_bytes.ensures)
    (gives_none (key ++ equals ∷ []) value c.args.bytes.now c.from_residual.result c.from_residual.ensures
    c.in_err-behind_signed.ensures)

pub returns : goal.returns
returns c =
    let key = c.as_bytes.result.now in
    let value = c.as_bytes-2.result.now in
    subst (λ (l : List ℕ). IsBehind l c.args.bytes.now (option_copied c.behind.result))
    (append_assoc key (equals ∷ []) value
    ∙ (ap (λ (l : List ℕ). l ++ equals ∷ value) c.as_bytes.ensures ∙ ap (λ (l : List ℕ). c.args.key.now ++ equals ∷ l) c.as_bytes-2.ensures))
    (behind_both (key ++ equals ∷ []) value c.args.bytes.now c.in_ok-behind_signed.field-0.now (option_copied c.behind.result)
    c.in_ok-behind_signed.ensures c.behind.ensures)
