use Rattle.std.proofs.Common.{List, ℕ, eqb, length, ◌∙◌, rules, tests}
use Rattle.std.specs.Borrow.{Bor}
use Rattle.std.proofs.lemmas.Iterator.{YieldsList-from_slice}
use Rattle.std.proofs.lemmas.Iterator.Search.{any_from_yields_List}
use Rattle.script_text.proofs.NameLemmas.{any_in}
use Rattle.script_text.proofs.line.has_empty.Goals as goal

pub returns : goal.returns
returns c =
    any_from_yields_List (λ (o : Bor (List ℕ)). eqb (length o.now) 0) _ _ _ c.any.ensures.ran (YieldsList-from_slice c.args.fields.now cc) (λ x b q k. search (rules, tests))
    ∙ any_in (λ f. eqb (length f) 0) c.args.fields.now
