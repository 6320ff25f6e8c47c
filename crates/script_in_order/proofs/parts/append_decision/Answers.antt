use Rattle.world_code.specs.WorldView.{world_of}
use Rattle.script_in_order.proofs.DequeueSteps.{entered_of, one_there, stood_so}
use Rattle.script_in_order.proofs.PartSteps.{ends_stood, ends_without_memory, ends_without_stamp}
use Rattle.script_in_order.proofs.parts.append_decision.Goals as goal

pub bounds-as_slice-0 : goal.bounds-as_slice-0
bounds-as_slice-0 c =
    let command = c.args.command.now in
    let text = c.args.text.now in
    let w = world_of c.args.world.now in
    let v = world_of c.append_one.new.world in
    one_there command text c.args.colour w v c.in-Stood.stamp c.in-Stood.points c.as_slice.result.now c.as_slice.ensures
    (stood_so command text c.args.colour w v c.in-Ok.answer c.in-Stood.stamp c.in-Stood._row c.in-Stood.points c.in-Stood.is
    (entered_of command text c.args.colour w v c.in-Ok.answer c.in-Ok.ensures.ok))

pub returns-in-Stood : goal.returns-in-Stood
returns-in-Stood c =
    ends_stood c.args.command.now c.args.text.now c.args.colour (world_of c.args.world.now) (world_of c.append_one.new.world)
    c.in-Ok.answer c.in-Stood.stamp c.in-Stood._row c.in-Stood.points c.as_slice.result.now _ c.in-Stood.is
    c.as_slice.ensures c.in-Ok.ensures.ok

pub returns-in-Ok : goal.returns-in-Ok
returns-in-Ok c =
    ends_without_stamp c.args.command.now c.args.text.now c.args.colour (world_of c.args.world.now)
    (world_of c.append_one.new.world) c.in-Ok.answer c.in_default.not-Stood c.in-Ok.ensures.ok

pub returns : goal.returns
returns c =
    ends_without_memory c.args.command.now c.args.text.now c.args.colour (world_of c.args.world.now)
    (world_of c.append_one.new.world) c.in-Err.ensures.err
