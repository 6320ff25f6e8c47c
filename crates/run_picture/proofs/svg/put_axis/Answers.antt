use Rattle.report_text.proofs.CallerLemmas.{adds_then}
use Rattle.run_picture.specs.Svg.{slot_text}
use Rattle.run_picture.proofs.Axis.{axis_more}
use Rattle.run_picture.proofs.svg.put_axis.Goals as goal

pub loop-slot-preserved : goal.loop-slot-preserved
loop-slot-preserved g c =
    rw (axis_more (slot_text c.args.first) c.loop-slot.slot)
    (adds_then _ _ _ _ _ c.loop-slot.invariant (rw c.saturating_add.ensures at c.put_stamp.ensures))
