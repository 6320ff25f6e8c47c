use Rattle.std.proofs.Common.{subst, sym, List}
use Rattle.std.specs.List.{All}
use Rattle.log_node.specs.declared.marks.ColourMark.{ColourMark}
use Rattle.log_node.proofs.CallerLemmas.{ok_then}
use Rattle.col_core.specs.Rows.{IsMarkOf}
use Rattle.walk_law.specs.RowsBeside.{bare_row, histories_in}
use Rattle.walk_law.proofs.Lists.{told_not, told_so}
use Rattle.walk_law.proofs.RowLemmas.{marked_told}
use Rattle.walk_law.proofs.rows.is_marked.Goals as goal

pub returns-then-not-are_marks_of : goal.returns-then-not-are_marks_of
returns-then-not-are_marks_of c = λ both.
    told_not c.are_marks_of.result c.are_marks_of.ensures c.if-not-are_marks_of.true
    (subst (λ (ms : List ColourMark). All (λ (m : ColourMark). IsMarkOf (histories_in c.args.columns.now m.colour)
    (bare_row c.args.columns.now c.args.row.now).node m.mark) ms) (sym c.as_slice-marks.ensures) both.0)

pub returns : goal.returns
returns c =
    ok_then c.has_outcome_of.result _ _
    (λ b told. marked_told c.args.columns.now c.args.row.now b
    (subst (λ (ms : List ColourMark). All (λ (m : ColourMark). IsMarkOf (histories_in c.args.columns.now m.colour)
    (bare_row c.args.columns.now c.args.row.now).node m.mark) ms) c.as_slice-marks.ensures
    (told_so c.are_marks_of.result c.are_marks_of.ensures c.if-not-are_marks_of.false)) told)
    c.has_outcome_of.ensures
