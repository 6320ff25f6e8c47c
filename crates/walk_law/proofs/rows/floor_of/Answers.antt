use Rattle.std.proofs.Common.{◌∙◌, sym}
use Rattle.walk_law.specs.RowsBeside.{histories_in}
use Rattle.walk_law.proofs.ToldLemmas.{floor_end, floor_found, floor_on}
use Rattle.walk_law.proofs.rows.floor_of.Goals as goal

pub returns-in-Some : goal.returns-in-Some
returns-in-Some c =
    floor_found c.args.id (histories_in c.args.columns.now) c.args.marks.now c.loop-mark.mark-index _ c.in-Some.proposal c.loop-mark-test.true
    c.loop-mark.invariant c.in-Some.ensures

pub loop-mark-preserved : goal.loop-mark-preserved
loop-mark-preserved c =
    floor_on c.args.id (histories_in c.args.columns.now) c.args.marks.now c.loop-mark.mark-index _ c.loop-mark-test.true c.loop-mark.invariant
    (sym c.in_default.is ∙ c.told_at.ensures)

pub returns : goal.returns
returns c =
    floor_end c.args.id (histories_in c.args.columns.now) c.args.marks.now c.loop-mark.mark-index c.loop-mark-test.false c.loop-mark.invariant
