use Rattle.run_picture.proofs.svg.put_box_start.Goals as goal

pub returns : goal.returns
returns g c =
    rw c.slot_x.ensures.value at (rw c.spot_y.ensures.value at (rw c.class.ensures at (rw c.client_name.ensures at (rw c.note.ensures at c.put_all.ensures))))
