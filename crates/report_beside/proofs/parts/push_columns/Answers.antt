use Rattle.std.proofs.Common.{[], ◌∷◌, ◌++◌, take, ℕ, List, ap, sym, ◌∙◌}
use Rattle.std.specs.List.{flat_map}
use Rattle.std.proofs.lemmas.List.{flat_map_more, take_more}
use Rattle.report_text.specs.declared.report.ColumnReport.{ColumnReport}
use Rattle.report_text.specs.Columns.{column_lines}
use Rattle.report_beside.specs.Parts.{part_text}
use Rattle.report_beside.proofs.PartLemmas.{one_more}
use Rattle.report_beside.proofs.parts.push_columns.Goals as goal

pub loop-column-preserved : goal.loop-column-preserved
loop-column-preserved c report =
    let columns = c.args.columns.now in
    let n = c.loop-column.column-index in
    let column = c.column-item.result in
    let before = take n columns in
    one_more (λ r. flat_map (column_lines r) before) c.args.parts.now.items c.loop-column.parts.items c.push.new.self.items _
    c.loop-column.invariant c.in_ok-push.ensures.items report
    ∙ ap (λ (l : List ℕ). flat_map (part_text report) c.args.parts.now.items ++ l)
    (flat_map_more (column_lines report) [] before column
    ∙ ap (flat_map (column_lines report)) (ap (λ (x : ColumnReport). before ++ x ∷ []) c.column-item.is ∙ sym (take_more columns n column c.loop-column-test.true)))
