use Rattle.std.proofs.Common.{refl}
use Rattle.column_track.proofs.EventLemmas.{none_left, propose_goes}
use Rattle.column_track.proofs.again.propose_again.Goals as goal

pub returns-in-Ok : goal.returns-in-Ok
returns-in-Ok c = propose_goes c.args.column.now c.propose.new.self c.args.by c.region.result c.args.id c.args.floor c.args.wants c.args.stamp c.in-Ok.given
    c.in_ok-node.node.value c.in_ok-node.ensures c.requires.colour c.in-Ok.ensures.answer.1 c.in-Ok.ensures.entry _ refl

pub returns-in-Err-StampEnd : goal.returns-in-Err-StampEnd
returns-in-Err-StampEnd c = none_left c.args.column.now c.args.id c.args.floor c.args.stamp c.in_ok-node.node.value c.in_ok-node.ensures.floor_is
    (rw c.in-Err-StampEnd.field-0-is at c.in-Err-StampEnd.ensures.cause).1
