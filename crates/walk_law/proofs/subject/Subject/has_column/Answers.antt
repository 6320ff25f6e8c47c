use Rattle.std.proofs.Common.{subst}
use Rattle.std.specs.Prelude.{nat_lt}
use Rattle.walk_law.specs.Behind.{HasColumn}
use Rattle.walk_law.specs.Walking.{Walked}
use Rattle.walk_law.proofs.SubjectLemmas.{column_off, column_told}
use Rattle.walk_law.proofs.subject.Subject.has_column.Goals as goal

pub returns-then-region-shape : goal.returns-then-region-shape
returns-then-region-shape c =
    subst (λ (w : Walked). HasColumn w c.args.region c.args.colour (nat_lt c.args.colour c.self.inside.script.now.shape.colours)) c.self.view_is
    (column_told _ _ c.self.inside.tracks.now c.self.invariant.may c.args.region c.args.colour c.if-region-shape.true)

pub returns-else-region-shape : goal.returns-else-region-shape
returns-else-region-shape c =
    subst (λ (w : Walked). HasColumn w c.args.region c.args.colour (nat_lt c.args.region c.self.inside.script.now.shape.regions)) c.self.view_is
    (column_off _ _ c.self.inside.tracks.now c.self.invariant.may c.args.region c.args.colour c.if-region-shape.false)
