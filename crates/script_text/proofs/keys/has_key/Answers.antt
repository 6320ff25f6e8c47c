use Rattle.std.proofs.Common.{◌∙◌, rules, tests}
use Rattle.std.specs.Str.{bytes_eq}
use Rattle.std.proofs.lemmas.Iterator.{YieldsList-from_slice}
use Rattle.std.proofs.lemmas.Iterator.Search.{any_from_yields_List}
use Rattle.log_node.specs.declared.forms.Pair.{Pair}
use Rattle.script_text.proofs.NameLemmas.{any_named}
use Rattle.script_text.proofs.keys.has_key.Goals as goal

pub returns : goal.returns
returns c =
    any_from_yields_List (λ (p : Pair). bytes_eq c.args.key.now p.key) _ _ _ c.any.ensures.ran (YieldsList-from_slice c.args.pairs.now cc) (λ x b q k. search (rules, tests))
    ∙ any_named (λ (p : Pair). p.key) c.args.key.now c.args.pairs.now
