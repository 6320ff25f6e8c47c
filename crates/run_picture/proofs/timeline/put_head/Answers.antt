use Rattle.run_picture.proofs.timeline.put_head.Goals as goal

pub returns : goal.returns
returns g c =
    rw c.x_of.ensures.value at (rw c.max-width.ensures at (rw c.top_of.ensures.value at c.put_start.ensures))
