use Rattle.run_picture.proofs.labels.put_decides.Goals as goal

pub returns-in-true : goal.returns-in-true
returns-in-true g c = rw c.in-true.is c.put_all.ensures

pub returns-in-false : goal.returns-in-false
returns-in-false g c = rw c.in-false.is c.put_all-in-false.ensures
