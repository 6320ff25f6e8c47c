use Rattle.run_picture.proofs.timeline.put_end.Goals as goal

pub returns : goal.returns
returns g c = rw c.top_of.ensures.value at c.put_all.ensures
