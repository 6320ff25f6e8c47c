use Rattle.run_picture.proofs.lanes.put_holding.Goals as goal

pub returns : goal.returns
returns g c =
    rw c.lane_of.ensures at (rw c.lane_top.ensures.value at (rw c.as_bytes.ensures at (rw c.held_of.ensures at (rw c.count_of.ensures at (rw c.count_of-2.ensures at c.put_all.ensures)))))
