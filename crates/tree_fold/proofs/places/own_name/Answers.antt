use Rattle.std.proofs.Common.{sym, ◌∙◌}
use Rattle.tree_fold.proofs.PlaceLemmas.{own_last}
use Rattle.tree_fold.proofs.places.own_name.Goals as goal

pub returns-in-Some : goal.returns-in-Some
returns-in-Some c = c.as_bytes.ensures ∙ sym (own_last c.args.path.now c.in-Some.name.now (sym c.in-Some.ensures.value))
