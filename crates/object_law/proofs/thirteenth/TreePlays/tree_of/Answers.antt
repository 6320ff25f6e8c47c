use Rattle.object_law.proofs.thirteenth.TreePlays.tree_of.Goals as goal

pub returns-then-is_of-clause-play : goal.returns-then-is_of-clause-play
returns-then-is_of-clause-play c = (c.in-Some.ensures c.args.subject.now c.args.nodes.now c.requires.stands).0

pub returns-then-is_of-clause-stands : goal.returns-then-is_of-clause-stands
returns-then-is_of-clause-stands c = (c.take.ensures c.args.subject.now c.args.nodes.now c.requires.stands).1

pub returns-clause-stands : goal.returns-clause-stands
returns-clause-stands c = (c.take.ensures c.args.subject.now c.args.nodes.now c.requires.stands).1
