use Rattle.walk_law.proofs.Members.{all_told}
use Rattle.walk_law.proofs.can_have.in_all.Goals as goal

pub returns : goal.returns
returns c = all_told c.args.own.now c.args.colour c.requires c.has_colour.result c.has_colour.ensures
