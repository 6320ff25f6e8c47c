use Rattle.std.proofs.Common.{subst, sym, List}
use Rattle.report_text.specs.declared.report.ColumnReport.{ColumnReport}
use Rattle.column_track.specs.Tracks.{Tells}
use Rattle.walk_law.specs.Columns.{AreCopies, AreTracked}
use Rattle.walk_law.specs.Third.{AreRows}
use Rattle.walk_law.proofs.ThirdLemmas.{few_colours, rows_of, third_told}
use Rattle.walk_law.proofs.third.keeps_third.Goals as goal

pub are_rows-requires-clause-few : goal.are_rows-requires-clause-few
are_rows-requires-clause-few c = few_colours c.args.script.now c.requires.fitting

pub are_copies-requires : goal.are_copies-requires
are_copies-requires c =
    subst (λ (l : List ColumnReport). AreTracked c.args.script.now.shape.regions c.args.script.now.shape.colours l c.args.tracks.now)
    (sym c.as_slice-columns.ensures) c.requires.tracked

pub returns-then-not-branch : goal.returns-then-not-branch
returns-then-not-branch c = λ rule.
    subst (λ b. Tells b (AreRows c.args.script.now c.args.report.now)) c.if-not-branch.true c.in_ok-are_rows.ensures
    (rows_of c.args.script.now c.args.report.now c.args.tracks.now c.requires.tracked c.requires.formed rule)

pub returns : goal.returns
returns c =
    third_told c.args.script.now c.args.report.now c.args.tracks.now c.requires.tracked c.requires.formed
    (subst (λ b. Tells b (AreRows c.args.script.now c.args.report.now)) c.if-not-branch.false c.in_ok-are_rows.ensures)
    c.are_copies.result
    (subst (λ (l : List ColumnReport). Tells c.are_copies.result (AreCopies c.args.script.now.shape.regions c.args.script.now.shape.colours l))
    c.as_slice-columns.ensures c.are_copies.ensures)
