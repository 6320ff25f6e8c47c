use Rattle.run_picture.proofs.svg.put_by.Goals as goal

pub returns : goal.returns
returns g c =
    rw c.slot_x.ensures.value at (rw c.spot_y.ensures.value at (rw c.client_name.ensures at c.put_all.ensures))
