use Rattle.std.proofs.Common.{subst, sym}
use Rattle.std.specs.List.{All}
use Rattle.log_node.proofs.CallerLemmas.{ok_then}
use Rattle.walk_law.specs.LeftOpen.{IsColumnLeft, IsRowLeft}
use Rattle.walk_law.proofs.Lists.{told_not, told_so}
use Rattle.walk_law.proofs.LeftLemmas.{columns_left, eighth_told, rows_left}
use Rattle.walk_law.proofs.left_open.keeps_eighth.Goals as goal

pub returns-then-not-are_columns_left : goal.returns-then-not-are_columns_left
returns-then-not-are_columns_left c = λ nodes rule.
    told_not c.are_columns_left.result c.are_columns_left.ensures c.if-not-are_columns_left.true
    (subst (All (IsColumnLeft c.args.report.now)) (sym c.as_slice-columns.ensures)
    (columns_left c.args.script.now c.args.report.now c.requires.formed c.requires.columns c.requires.second nodes rule))

pub returns-then-not-are_rows_left : goal.returns-then-not-are_rows_left
returns-then-not-are_rows_left c = λ nodes rule.
    told_not c.are_rows_left.result c.are_rows_left.ensures c.if-not-are_rows_left.true
    (subst (All (IsRowLeft c.args.report.now)) (sym c.as_slice-rows.ensures)
    (rows_left c.args.script.now c.args.report.now c.requires.formed c.requires.columns c.requires.second nodes rule))

pub returns : goal.returns
returns c = λ nodes.
    ok_then c.are_all_whole.result _ _
    (λ b told. eighth_told c.args.script.now c.args.report.now c.requires.formed c.requires.columns c.requires.second nodes
    (subst (All (IsColumnLeft c.args.report.now)) c.as_slice-columns.ensures
    (told_so c.are_columns_left.result c.are_columns_left.ensures c.if-not-are_columns_left.false))
    (subst (All (IsRowLeft c.args.report.now)) c.as_slice-rows.ensures
    (told_so c.are_rows_left.result c.are_rows_left.ensures c.if-not-are_rows_left.false)) b c.as_slice-columns.result.now c.as_slice-rows.result.now
    c.as_slice-columns.ensures c.as_slice-rows.ensures told)
    c.are_all_whole.ensures
