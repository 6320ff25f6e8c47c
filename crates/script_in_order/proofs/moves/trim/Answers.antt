use Rattle.std.proofs.Common.{◌∙◌}
use Rattle.world_code.specs.WorldView.{world_of}
use Rattle.script_in_order.proofs.MoveGuards.{there, trim_at}
use Rattle.script_in_order.proofs.PullsAndTrims.{trims}
use Rattle.script_in_order.proofs.CommandKinds.{does_what}
use Rattle.script_in_order.proofs.moves.trim.Goals as goal

pub returns-clause-ok : goal.returns-clause-ok
returns-clause-ok c =
    let w = world_of c.args.world.now in
    let own = c.home-own.result in
    does_what c.args.objects.now c.args.command.now c.requires.asks (trims c.args.command.now w (world_of c.trim.new.self) own c.args.colour c.event_or_look.result
    c.played-played.result c.base.result c.home-own.ensures.home
    (c.event_or_look.ensures ∙ trim_at w c.args.command.now.client own c.args.colour c.played-played.result
    c.in_ok-trimmed.trimmed c.events-ours.result (there w own c.args.colour c.home-own.ensures.within c.requires.within)
    c.in_ok-trimmed.ensures.reply)
    c.played-played.ensures c.in_ok-trimmed.ensures.ok c.base.ensures)
