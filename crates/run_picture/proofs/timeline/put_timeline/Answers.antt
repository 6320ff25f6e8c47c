use Rattle.run_picture.proofs.timeline.put_timeline.Goals as goal

pub returns : goal.returns
returns g c =
    rw c.shown_of.ensures at (rw c.as_slice.ensures at c.put_parts.ensures)
