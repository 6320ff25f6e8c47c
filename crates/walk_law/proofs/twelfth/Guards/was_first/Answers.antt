use Rattle.lawful_run.specs.Callers.{caller_of}
use Rattle.walk_law.specs.Twelfth.{open_in}
use Rattle.walk_law.specs.Walking.{log_walked}
use Rattle.walk_law.proofs.GuardLemmas.{first_told}
use Rattle.walk_law.proofs.Lists.{told_so}
use Rattle.walk_law.proofs.twelfth.Guards.was_first.Goals as goal

pub returns : goal.returns
returns c = λ kept is low.
    first_told (open_in c.args.subject.now.script.shape.colours c.args.self.now.opens.by_column.items)
    (log_walked c.args.subject.now) (caller_of c.args.subject.now.script c.args.client) kept c.args.point c.in-Event.place
    c.in-Event.is (told_so c.is_so_long.result (c.is_so_long.ensures kept is low) c.if-not-is_so_long.false) c.has_played.result
    (c.has_played.ensures kept is)
