use Rattle.std.proofs.Common.{◌≡◌, ◌∙◌, List, ap, subst}
use Rattle.report_text.specs.declared.report.RowReport.{RowReport}
use Rattle.walk_law.specs.RowPlaces.{place_in, row_at}
use Rattle.walk_law.specs.Walking.{Walked}
use Rattle.walk_law.proofs.SubjectLemmas.{seen}
use Rattle.walk_law.proofs.subject.Subject.row.Goals as goal

pub returns : goal.returns
returns c =
    let inv = seen c.args.self.now c.self.inside.script.now c.self.inside.report.now c.self.inside.tracks.now c.self.inside.commands
    c.self.inside.places.items c.self.inside.printed c.self.inside.rows c.self.view_is c.self.invariant in
    let rows = subst (λ (w : Walked). c.as_slice.result.now ≡ w.report.rows) c.self.view_is c.as_slice.ensures in
    c.row.ensures
    ∙ (ap (λ (l : List RowReport). row_at l (place_in c.self.inside.rows c.args.region c.args.id)) rows
    ∙ inv.rows_are c.args.region c.args.id)
