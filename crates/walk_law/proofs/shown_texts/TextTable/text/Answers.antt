use Rattle.std.proofs.Common.{◌∙◌, ap, List, ℕ, Option}
use Rattle.std.specs.Option.{option_copied}
use denote.Ref.{Bor}
use Rattle.walk_law.proofs.ShownTextLemmas.{looked_up}
use Rattle.walk_law.proofs.shown_texts.TextTable.text.Goals as goal

pub returns : goal.returns
returns c =
    ap (λ (o : Option (Bor (List ℕ))). option_copied o) (c.copied.ensures ∙ c.get.ensures.value)
    ∙ looked_up c.args.self.now c.args.id
