use Rattle.std.proofs.Common.{◌∙◌, ap, sym, List}
use Rattle.log_node.specs.declared.marks.ColourMark.{ColourMark}
use Rattle.lawful_run.specs.Callers.{caller_of}
use Rattle.run_rules.specs.Telling.{marked_colours}
use Rattle.walk_law.specs.Walking.{log_walked}
use Rattle.walk_law.proofs.Lists.{told_so}
use Rattle.walk_law.proofs.NextNodes.{next_row_told}
use Rattle.walk_law.proofs.fifth.is_next_row.Goals as goal

pub returns : goal.returns
returns c = λ kept is.
    next_row_told c.args.subject.now.script.shape.colours (log_walked c.args.subject.now)
    (caller_of c.args.subject.now.script c.args.client) kept c.args.asked.now c.args.row.now c.as_slice-marks.result.now
    c.if-row-client.false (c.if-row-rows.false ∙ (c.rows.ensures ∙ is.rows))
    (ap marked_colours (sym c.as_slice-marks.ensures)
    ∙ (sym c.in_ok-colours.ensures ∙ (sym c.deref.ensures.value
    ∙ told_so c.same_colours.result c.same_colours.ensures c.if-not-same_colours.false)))
    c.as_slice-marks.ensures c.are_next_marks.result (c.are_next_marks.ensures kept is)
