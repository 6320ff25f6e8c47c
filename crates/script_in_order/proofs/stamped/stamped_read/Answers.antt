use Rattle.std.proofs.Common.{sym}
use Rattle.log_node.specs.Sets.{members}
use Rattle.world_code.specs.WorldView.{world_of}
use Rattle.script_in_order.specs.Stamped.{end_in}
use Rattle.script_in_order.proofs.StampedWholes.{reads_unraised, reads_on}
use Rattle.script_in_order.proofs.stamped.stamped_read.Goals as goal

pub returns-then-is_some-clause-ok : goal.returns-then-is_some-clause-ok
returns-then-is_some-clause-ok c =
    reads_unraised (world_of c.args.world.now) (world_of c.raise_all.new.world) c.args.client c.read_stamp-stamp.result
    (members c.args.colours) c.raise_all.result c.read_stamp-stamp.ensures.value (sym c.if-is_some.ensures)
    c.raise_all.ensures.raises

pub returns-clause-ok : goal.returns-clause-ok
returns-clause-ok c =
    let new = world_of c.read_raised.new.world in
    let cs = members c.args.colours in
    reads_on (world_of c.args.world.now) (world_of c.raise_all.new.world) new c.args.client c.read_stamp-stamp.result cs
    c.raise_all.result c.in_ok-raises.raises (end_in new c.args.client cs c.read_raised.result)
    c.read_stamp-stamp.ensures.value (sym c.if-is_some.ensures) c.raise_all.ensures.raises
    c.in_ok-raises.ensures c.read_raised.ensures.reads
