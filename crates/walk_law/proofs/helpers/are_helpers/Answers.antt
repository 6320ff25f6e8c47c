use Rattle.std.proofs.Common.{◌∙◌, ap, subst}
use Rattle.std.specs.List.{All}
use Rattle.report_text.specs.declared.report.Report.{Report}
use Rattle.walk_law.specs.Fourth.{AreHelpers}
use Rattle.walk_law.proofs.Lists.{all_end, item_step}
use Rattle.walk_law.proofs.helpers.are_helpers.Goals as goal

pub loop-column-preserved : goal.loop-column-preserved
loop-column-preserved c =
    item_step (AreHelpers c.args.subject.now.script) c.as_slice-column-items.result.now c.loop-column.column-index c.column-item.result
    c.has_helpers.result c.loop-column-test.true c.column-item.is c.loop-column.invariant c.has_helpers.ensures c.if-not-has_helpers.false

pub returns : goal.returns
returns c =
    subst (All (AreHelpers c.args.subject.now.script))
    (c.as_slice-column-items.ensures ∙ ap (λ (r : Report). r.columns) c.report.ensures)
    (all_end (AreHelpers c.args.subject.now.script) c.as_slice-column-items.result.now c.loop-column.column-index c.loop-column-test.false
    c.loop-column.invariant)
