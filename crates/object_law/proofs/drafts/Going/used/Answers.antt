use Rattle.std.proofs.Common.{◌∙◌, ap, refl}
use Rattle.std.specs.Option.{option_map}
use Rattle.object_law.proofs.drafts.Going.used.Goals as goal

pub returns-in-Some : goal.returns-in-Some
returns-in-Some c = record {
  read = λ found kept reads. c.used.ensures found kept reads ∙ ap (option_map found) c.in-Some.is;
  commit = refl;
}
