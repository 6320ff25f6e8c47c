use Rattle.run_picture.proofs.answers.put_answer.Goals as goal

pub returns-in-Stopped : goal.returns-in-Stopped
returns-in-Stopped g c =
    rw c.in-Stopped.is c.put_all-in-Stopped.ensures
