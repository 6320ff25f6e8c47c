use Rattle.std.proofs.Common.{◌∙◌, ap, []}
use Rattle.part_fold.specs.Parts.{Part, undecided_after}
use Rattle.object_law.proofs.decided_plays.before_any.Goals as goal

pub returns : goal.returns
returns c = c.undecided.ensures [] c.open-part.ensures.empty ∙ ap (λ (p : Part). undecided_after p []) c.open-part.ensures.part
