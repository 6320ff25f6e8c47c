use Rattle.std.proofs.Common.{List, ℕ, ◌∙◌, rules, tests}
use Rattle.std.specs.Borrow.{Bor}
use Rattle.std.specs.Str.{bytes_eq}
use Rattle.std.proofs.lemmas.Iterator.{YieldsList-from_slice}
use Rattle.std.proofs.lemmas.Iterator.Search.{any_from_yields_List}
use Rattle.script_text.proofs.NameLemmas.{any_fields}
use Rattle.script_text.proofs.names.is_repeated.Goals as goal

pub returns : goal.returns
returns c =
    any_from_yields_List (λ (o : Bor (List ℕ)). bytes_eq c.args.field.now o.now) _ _ _ c.any.ensures.ran (YieldsList-from_slice c.args.earlier.now cc) (λ x b q k. search (rules, tests))
    ∙ any_fields c.args.field.now c.args.earlier.now
