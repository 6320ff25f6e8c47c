use Rattle.object_law.proofs.fourteenth.PartPlays.ruled_of.Goals as goal

pub returns-then-is_of-clause-play : goal.returns-then-is_of-clause-play
returns-then-is_of-clause-play c = λ table plays. (c.in-Some.ensures c.args.subject.now table plays).0

pub returns-then-is_of-clause-plays : goal.returns-then-is_of-clause-plays
returns-then-is_of-clause-plays c = λ table plays. (c.take_ruled.ensures c.args.subject.now table plays).1

pub returns-clause-play : goal.returns-clause-play
returns-clause-play c = λ table plays. c.new.ensures.holds table

pub returns-clause-plays : goal.returns-clause-plays
returns-clause-plays c = λ table plays. (c.take_ruled.ensures c.args.subject.now table plays).1
