use Rattle.run_picture.proofs.lanes.put_lane_start.Goals as goal

pub returns : goal.returns
returns g c =
    rw c.lane_of.ensures at (rw c.lane_top.ensures.value at (rw c.as_bytes.ensures at (rw c.as_bytes-2.ensures at c.put_all.ensures)))
