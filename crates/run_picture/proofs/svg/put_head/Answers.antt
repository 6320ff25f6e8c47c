use Rattle.run_picture.proofs.svg.put_head.Goals as goal

pub returns : goal.returns
returns g c = rw c.slots.ensures at (rw c.slot_x-width.ensures.value at (rw c.bottom_of.ensures.value at c.put_start.ensures))
