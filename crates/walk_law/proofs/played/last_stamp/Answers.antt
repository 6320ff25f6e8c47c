use Rattle.walk_law.proofs.PlayedLemmas.{stretch_last}
use Rattle.walk_law.proofs.played.last_stamp.Goals as goal

pub returns-then-from-to : goal.returns-then-from-to
returns-then-from-to c = stretch_last c.args.keys.now c.requires.rises c.args.from c.args.to _ c.if-from-to.true c.requires.within
