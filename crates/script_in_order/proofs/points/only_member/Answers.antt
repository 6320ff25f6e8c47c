use Rattle.std.proofs.Common.{sym}
use Rattle.log_node.specs.Sets.{members}
use Rattle.script_in_order.proofs.Sets.{only_item, some_item}
use Rattle.script_in_order.proofs.points.only_member.Goals as goal

pub unreachable-requires : goal.unreachable-requires
unreachable-requires c = some_item (members c.args.colours) c.requires (sym c.in-None.ensures)

pub returns : goal.returns
returns c = only_item (members c.args.colours) c.in-Some.colour c.requires (sym c.in-Some.ensures)
