use Rattle.std.proofs.Common.{Bool, List, ◌∙◌, ap, subst, sym}
use Rattle.log_node.proofs.CallerLemmas.{ok_then}
use Rattle.report_text.specs.declared.report.ColumnReport.{ColumnReport}
use Rattle.report_text.specs.declared.report.Report.{Report}
use Rattle.column_track.specs.Tracks.{Tells}
use Rattle.run_rules.specs.Deciding.{account_showing}
use Rattle.run_rules.specs.Shown.{Rule12}
use Rattle.walk_law.specs.Twelfth.{AreOfColumns, IsGuarded, open_in, opens_in}
use Rattle.walk_law.specs.Walking.{DecidesEachStep}
use Rattle.walk_law.proofs.GuardLemmas.{of_columns, twelfth_told}
use Rattle.walk_law.proofs.twelfth.keeps_twelfth.Goals as goal

pub of_columns-requires : goal.of_columns-requires
of_columns-requires c =
    let walked = c.args.subject.now in
    subst (λ (cs : List ColumnReport). AreOfColumns cs c.tracks.result.now)
    (sym (c.as_slice.ensures ∙ ap (λ (r : Report). r.columns) c.report.ensures))
    (of_columns walked.script walked.report c.tracks.result.now c.tracks.ensures)

pub returns : goal.returns
returns c =
    let walked = c.args.subject.now in
    let may = c.agrees.ensures.may in
    let lists = c.in_ok-opens.opens.by_column.items in
    ok_then c.each_step.result
    (DecidesEachStep walked (λ caller step. IsGuarded (open_in walked.script.shape.colours lists) walked caller step))
    (λ (b : Bool). Tells b (Rule12 walked.script walked.report (account_showing walked.script walked.report)))
    (λ b told. twelfth_told walked.script walked.report may.0 may.1 c.twelfth_is_bare.ensures c.requires.0 lists
    (c.in_ok-opens.ensures ∙ ap opens_in (c.as_slice.ensures ∙ ap (λ (r : Report). r.columns) c.report.ensures)) b told)
    c.each_step.ensures
