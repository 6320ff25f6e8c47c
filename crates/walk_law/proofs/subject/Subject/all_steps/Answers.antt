use Rattle.std.proofs.Common.{Some, subst, ap, ◌∙◌, List, length}
use Rattle.col_core.specs.declared.Entry.{Entry}
use Rattle.walk_law.specs.PlaceTables.{is_own_step, numbers_where}
use Rattle.walk_law.specs.Subjects.{AreAllPlaces, AtColumn}
use Rattle.walk_law.specs.Walking.{Walked}
use Rattle.walk_law.proofs.BehindLemmas.{steps_at}
use Rattle.walk_law.proofs.subject.Subject.all_steps.Goals as goal

pub returns-in-Some : goal.returns-in-Some
returns-in-Some c =
    let walked = c.args.self.now in
    let at : AtColumn walked.script walked.report c.args.region c.args.colour (Some c.in-Some.at) =
    subst (AtColumn walked.script walked.report c.args.region c.args.colour) c.in-Some.is c.column.ensures in
    let are : AreAllPlaces (length walked.script.shape.homes) walked.report.columns c.self.inside.places.items =
    subst (λ (w : Walked). AreAllPlaces (length w.script.shape.homes) w.report.columns c.self.inside.places.items) c.self.view_is
    c.self.invariant.places_are in
    c.steps.ensures
    ∙ (steps_at (length walked.script.shape.homes) c.in-Some.at walked.report.columns c.self.inside.places.items at.0
    c.index.result.now c.args.id are at.1 c.index.ensures
    ∙ ap (λ (h : List Entry). numbers_where (is_own_step c.args.id) 0 h) at.2)
