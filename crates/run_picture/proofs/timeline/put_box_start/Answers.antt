use Rattle.run_picture.proofs.timeline.put_box_start.Goals as goal

pub returns : goal.returns
returns g c =
    rw c.x_of.ensures.value at (rw c.top_of.ensures.value at (rw c.home_of.ensures at (rw c.form_of.ensures at (rw c.heading_y.ensures at c.put_all.ensures))))
