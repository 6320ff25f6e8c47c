use Rattle.object_law.proofs.fourteenth.PartPlays.part_of.Goals as goal

pub returns-clause-play : goal.returns-clause-play
returns-clause-play c = λ table plays. (c.open.ensures.holds table, (c.take_part.ensures c.args.subject.now table plays).1)
