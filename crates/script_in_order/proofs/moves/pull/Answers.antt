use Rattle.std.proofs.Common.{◌∙◌, [], sym}
use Rattle.std.proofs.lemmas.Result.{IfOk-weaker}
use Rattle.world_code.specs.WorldView.{world_of}
use Rattle.script_meaning.specs.Moves.{pulled, pulled_from}
use Rattle.script_in_order.specs.Doing.{DoneBy}
use Rattle.script_in_order.proofs.PullsAndTrims.{pulls_own, pulls_other}
use Rattle.script_in_order.proofs.CommandKinds.{does_what, all_do}
use Rattle.script_in_order.proofs.moves.pull.Goals as goal

pub returns-then-region-own-clause-ok : goal.returns-then-region-own-clause-ok
returns-then-region-own-clause-ok c =
    does_what c.args.objects.now c.args.command.now c.requires.asks (pulls_own c.args.command.now (world_of c.args.world.now) c.args.region c.args.colour
    (c.if-region-own.true ∙ c.home-own.ensures.home))

pub returns-clause-ok : goal.returns-clause-ok
returns-clause-ok c =
    let command = c.args.command.now in
    let w = world_of c.args.world.now in
    let new = world_of c.pull_from.new.world in
    all_do c.args.objects.now c.args.command.now c.requires.asks c.pull_from.result w new [] (IfOk-weaker c.pull_from.result
    (λ answer. DoneBy (λ grants state. pulled_from grants state command c.args.region c.args.colour) command w new answer
    [])
    (λ answer. DoneBy (λ grants state. pulled grants state command c.args.region c.args.colour) command w new answer [])
    (λ answer d. pulls_other command w new c.args.region c.args.colour answer
    (λ e. c.if-region-own.false (e ∙ sym c.home-own.ensures.home)) d)
    c.pull_from.ensures.ok)
