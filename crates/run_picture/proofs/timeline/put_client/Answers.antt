use Rattle.run_picture.proofs.timeline.put_client.Goals as goal

pub returns : goal.returns
returns g c =
    rw c.min.ensures at (rw c.home_of-region.ensures at (rw c.top_of.ensures.value at (rw c.as_bytes.ensures at (rw c.name_among.ensures at c.put_all.ensures))))
