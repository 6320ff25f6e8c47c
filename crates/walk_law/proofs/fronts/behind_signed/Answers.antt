use Rattle.std.proofs.Common.{[], ◌∷◌, List, ℕ, subst}
use Rattle.std.specs.Option.{option_copied}
use Rattle.walk_law.specs.TextsSaid.{IsBehind}
use Rattle.walk_law.proofs.FrontLemmas.{behind_both}
use Rattle.walk_law.proofs.fronts.behind_signed.Goals as goal

pub returns : goal.returns
returns c =
    behind_both c.args.word.now (c.args.sign ∷ []) c.args.bytes.now c.in_ok-behind.field-0.now (option_copied c.behind-2.result)
    c.in_ok-behind.ensures
    (subst (λ (l : List ℕ). IsBehind l c.in_ok-behind.field-0.now (option_copied c.behind-2.result)) c.from_ref.ensures.value
    c.behind-2.ensures)
