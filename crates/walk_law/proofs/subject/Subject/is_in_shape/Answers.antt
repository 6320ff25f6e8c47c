use Rattle.std.proofs.Common.{rules}
use Rattle.walk_law.proofs.ReadingLemmas.{in_shape}
use Rattle.walk_law.proofs.subject.Subject.is_in_shape.Goals as goal

pub returns : goal.returns
returns c = in_shape c.args.self.now c.agrees.ensures.may.0 c.agrees.ensures.may.1 c.args.region c.args.colour (search rules) (search rules)
