use Rattle.std.proofs.Common.{◌∷◌, ◌++◌}
use Rattle.std.specs.Option.{option_copied}
use Rattle.object_form.specs.Forms.{equals}
use Rattle.walk_law.proofs.FrontLemmas.{behind_told, whole_just}
use Rattle.walk_law.proofs.could_say.is_pair_of.Goals as goal

pub returns-in-Some : goal.returns-in-Some
returns-in-Some c =
    let pair = c.args.key.now ++ equals ∷ c.args.value.now in
    behind_told c.args.front.now pair c.args.text.now c.in-Some.rest.now c.is_whole.result c.in-Some.ensures
    (whole_just pair c.in-Some.rest.now (option_copied c.behind_pair.result) c.is_whole.result c.behind_pair.ensures
    c.is_whole.ensures)
