use Rattle.std.proofs.Common.{[], ◌∷◌, refl, sym}
use Rattle.world_laws.specs.declared.steps.Step.TheVariants.{Play}
use Rattle.world_laws.specs.Worlds.{home_of}
use Rattle.script_text.specs.declared.script.Kind.TheVariants as kinds
use Rattle.world_code.specs.WorldView.{world_of}
use Rattle.script_in_order.proofs.FoldsKept.{tx_stays}
use Rattle.script_in_order.proofs.PartSteps.{shard_is, peek_trimmed, peek_done}
use Rattle.script_in_order.proofs.parts.peek_in.Goals as goal

pub returns-in-Some-clause-ok : goal.returns-in-Some-clause-ok
returns-in-Some-clause-ok c =
    let w = world_of c.args.world.now in
    let colours = c.args.colours.now in
    let key = c.args.key.now in
    let colour = c.shard_of-colour.result in
    peek_trimmed c.args.command.now w w colours key colour
    (shard_is colours colours key c.as_bytes.result.now colour c.shard_of-colour.ensures refl c.as_bytes.ensures)
    c.in-Some.base c.in-Some.ensures.some.0 c.in-Some.ensures.some.1 refl

pub returns-clause-ok : goal.returns-clause-ok
returns-clause-ok c =
    let w = world_of c.args.world.now in
    let colours = c.args.colours.now in
    let key = c.args.key.now in
    let colour = c.shard_of-colour.result in
    peek_done c.args.command.now w (world_of c.play-played.new.self) colours key colour
    (shard_is colours colours key c.as_bytes.result.now colour c.shard_of-colour.ensures refl c.as_bytes.ensures)
    c.in_ok-answer.answer c.as_bytes-2.result.now (c.trimmed_base.ensures.none c.in_default.is) c.play-played.ensures.world
    c.as_bytes-2.ensures c.in_ok-answer.ensures.answer

pub returns-clause-folded : goal.returns-clause-folded
returns-clause-folded c =
    let w = world_of c.args.world.now in
    let client = c.args.command.now.client in
    tx_stays w (world_of c.play-played.new.self) c.is_whole.ensures.reached
    (record { steps = Play client c.shard_of-colour.result ∷ []; run = sym c.play-played.ensures.world })
    (kinds.Parts (home_of w client) c.args.colours.now) c.peek.new.self c.in_ok-answer.ensures.folded
