use Rattle.std.proofs.Common.{◌∙◌, ap}
use Rattle.world_laws.specs.Worlds.{World, reply}
use Rattle.world_laws.specs.declared.steps.Step.TheVariants.{Carry}
use Rattle.world_code.specs.WorldView.{WorldView, world_of}
use Rattle.script_in_order.specs.Points.{event_or_look}
use Rattle.script_in_order.proofs.MoveGuards.{both_there, give_at, carry_at}
use Rattle.script_in_order.proofs.PullsAndTrims.{pulls_all, pulls_none}
use Rattle.script_in_order.proofs.moves.pull_from.Goals as goal

pub returns-in-Ok-clause-ok : goal.returns-in-Ok-clause-ok
returns-in-Ok-clause-ok c =
    let w = world_of c.args.world.now in
    let client = c.args.command.now.client in
    let region = c.args.region in
    let own = c.args.own in
    let held = c.held-held.result in
    let count = c.lacking-count.result in
    let reached = c.is_whole.ensures.reached in
    let two = both_there w region own c.args.colour c.requires.region c.requires.own c.requires.within c.requires.other in
    pulls_all c.args.command.now w (world_of c.give.new.self) (world_of c.carry.new.self) region own c.args.colour held
    count c.event_or_look.result c.event_or_look-in-Ok.result c.requires.home c.held-held.ensures c.lacking-count.ensures
    (c.event_or_look.ensures ∙ give_at w reached c.copies_are_true.ensures.trimmed client region own c.args.colour held
    count two c.held-held.ensures c.lacking-count.ensures c.in_ok-given.given c.events-theirs.result
    c.in_ok-given.ensures.reply)
    (c.event_or_look-in-Ok.ensures
    ∙ (ap (event_or_look c.in-Ok.carried) c.events-ours.ensures
    ∙ carry_at w reached c.copies_are_true.ensures.trimmed client region own c.args.colour held count two
    c.held-held.ensures c.lacking-count.ensures c.in-Ok.carried
    (c.in-Ok.ensures.reply
    ∙ ap (λ (x : World). reply x (Carry client region own c.args.colour held count)) c.in_ok-given.ensures.ok)))
    c.in_ok-given.ensures.ok c.in-Ok.ensures.ok

pub returns-in-Err-clause-ok : goal.returns-in-Err-clause-ok
returns-in-Err-clause-ok c =
    pulls_none c.args.command.now (world_of c.args.world.now) (world_of c.give.new.self) (world_of c.carry.new.self)
    c.args.region c.args.own c.args.colour c.held-held.result c.requires.home c.held-held.ensures
    c.in_ok-given.ensures.ok (ap (λ (k : WorldView). world_of k) c.in-Err.ensures.err)
