use Rattle.std.proofs.Common.{Some, subst, sym, ◌<◌, true}
use Rattle.walk_law.specs.Behind.{HasColumn}
use Rattle.walk_law.specs.Subjects.{AtColumn}
use Rattle.walk_law.specs.Walking.{Walked}
use Rattle.walk_law.proofs.SubjectLemmas.{column_at}
use Rattle.walk_law.proofs.subject.Subject.column.Goals as goal

pub returns-then-has_column : goal.returns-then-has_column
returns-then-has_column c =
    let has : HasColumn c.args.self.now c.args.region c.args.colour true =
    subst (HasColumn c.args.self.now c.args.region c.args.colour) c.if-has_column.true c.has_column.ensures in
    let lt = subst (λ (w : Walked). c.args.region < w.script.shape.regions) (sym c.self.view_is) has.0 in
    let low = subst (λ (w : Walked). c.args.colour < w.script.shape.colours) (sym c.self.view_is) has.1 in
    subst (λ (w : Walked). AtColumn w.script w.report c.args.region c.args.colour (Some c.column_place.result)) c.self.view_is
    (column_at _ _ c.self.inside.tracks.now c.self.invariant.may c.args.region c.args.colour c.column_place.result lt low
    c.column_place.ensures)
