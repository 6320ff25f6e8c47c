use Rattle.std.proofs.Common.{◌<◌, [], ◌∷◌, refl, sym, subst}
use Rattle.log_node.specs.declared.node.Shape.{Shape}
use Rattle.world_laws.specs.declared.steps.Step.TheVariants.{Play}
use Rattle.world_laws.specs.Worlds.{home_of}
use Rattle.script_text.specs.declared.script.Kind.TheVariants as kinds
use Rattle.script_text.specs.Fitting.{AreBelow}
use Rattle.report_text.specs.declared.report.SyncPiece.{SyncPiece}
use Rattle.world_code.specs.WorldView.{world_of}
use Rattle.script_in_order.proofs.FoldsKept.{ruled_with, tx_stays}
use Rattle.script_in_order.proofs.PartSteps.{behind_to, decide_none, decide_some, decide_trimmed, play_reached, play_shape, shard_is, shard_within, synced_here, waits_here}
use Rattle.script_in_order.proofs.parts.decide_in.Goals as goal

pub returns-in-Some-clause-ok : goal.returns-in-Some-clause-ok
returns-in-Some-clause-ok c = λ objects object its.
    let w = world_of c.args.world.now in
    let colours = c.args.colours.now in
    let key = c.args.key.now in
    let colour = c.shard_of-colour.result in
    decide_trimmed objects object c.args.command.now w w colours key colour its
    (shard_is colours colours key c.as_bytes.result.now colour c.shard_of-colour.ensures refl c.as_bytes.ensures)
    c.in-Some.base c.in-Some.ensures.some.0 c.in-Some.ensures.some.1 refl

pub decide_on-requires-clause-within : goal.decide_on-requires-clause-within
decide_on-requires-clause-within c =
    let w = world_of c.args.world.now in
    let v = world_of c.play-played.new.self in
    subst (λ (s : Shape). AreBelow s.colours c.args.all)
    (sym (play_shape w v c.args.command.now.client c.shard_of-colour.result c.play-played.ensures.world)) c.requires.within

pub decide_on-requires-clause-shard : goal.decide_on-requires-clause-shard
decide_on-requires-clause-shard c =
    let w = world_of c.args.world.now in
    let v = world_of c.play-played.new.self in
    let client = c.args.command.now.client in
    let colours = c.args.colours.now in
    let key = c.args.key.now in
    let colour = c.shard_of-colour.result in
    let is = shard_is colours colours key c.as_bytes.result.now colour c.shard_of-colour.ensures refl c.as_bytes.ensures in
    let sync = c.in_ok-waits.sync in
    let here = synced_here w client colours key c.as_bytes-2.result.now colour is c.as_bytes-2.ensures sync
    c.in_ok-waits.ensures.sync in
    subst (λ (s : Shape). sync.colour < s.colours) (sym (play_shape w v client colour c.play-played.ensures.world))
    (subst (λ (y : SyncPiece). y.colour < w.shape.colours) (sym here)
    (shard_within w.shape.colours colours key colour c.requires.colours is))

pub decide_on-requires-clause-folded : goal.decide_on-requires-clause-folded
decide_on-requires-clause-folded c =
    let w = world_of c.args.world.now in
    let client = c.args.command.now.client in
    (tx_stays w (world_of c.play-played.new.self) c.is_whole.ensures.reached
    (record { steps = Play client c.shard_of-colour.result ∷ []; run = sym c.play-played.ensures.world })
    (kinds.Parts (home_of w client) c.args.colours.now) c.waits.new.self c.in_ok-waits.ensures.folded).ruled

pub returns-in-None-clause-ok : goal.returns-in-None-clause-ok
returns-in-None-clause-ok c = λ objects object its.
    let w = world_of c.args.world.now in
    let v = world_of c.play-played.new.self in
    let command = c.args.command.now in
    let client = command.client in
    let colours = c.args.colours.now in
    let key = c.args.key.now in
    let bytes = c.as_bytes-2.result.now in
    let colour = c.shard_of-colour.result in
    let is = shard_is colours colours key c.as_bytes.result.now colour c.shard_of-colour.ensures refl c.as_bytes.ensures in
    let same = c.as_bytes-2.ensures in
    decide_none objects object command w v colours key colour its is v c.in_ok-waits.sync c.in_ok-waits.waits
    (c.trimmed_base.ensures.none c.in_default.is) c.play-played.ensures.world
    (synced_here w client colours key bytes colour is same c.in_ok-waits.sync c.in_ok-waits.ensures.sync)
    (waits_here w client colours key bytes colour is same c.in_ok-waits.waits c.in_ok-waits.ensures.waits) c.in-None.is refl

pub returns-in-None-clause-folded : goal.returns-in-None-clause-folded
returns-in-None-clause-folded c =
    let w = world_of c.args.world.now in
    let client = c.args.command.now.client in
    tx_stays w (world_of c.play-played.new.self) c.is_whole.ensures.reached
    (record { steps = Play client c.shard_of-colour.result ∷ []; run = sym c.play-played.ensures.world })
    (kinds.Parts (home_of w client) c.args.colours.now) c.waits.new.self c.in_ok-waits.ensures.folded

pub returns-in-Some-waits-clause-ok : goal.returns-in-Some-waits-clause-ok
returns-in-Some-waits-clause-ok c = λ objects object its.
    let w = world_of c.args.world.now in
    let v = world_of c.play-played.new.self in
    let command = c.args.command.now in
    let client = command.client in
    let colours = c.args.colours.now in
    let key = c.args.key.now in
    let bytes = c.as_bytes-2.result.now in
    let colour = c.shard_of-colour.result in
    let is = shard_is colours colours key c.as_bytes.result.now colour c.shard_of-colour.ensures refl c.as_bytes.ensures in
    let same = c.as_bytes-2.ensures in
    decide_some objects object command w (world_of c.decide_on.new.world) colours key colour its is v c.in_ok-waits.sync
    c.in_ok-waits.waits (c.trimmed_base.ensures.none c.in_default.is) c.play-played.ensures.world
    (synced_here w client colours key bytes colour is same c.in_ok-waits.sync c.in_ok-waits.ensures.sync)
    (waits_here w client colours key bytes colour is same c.in_ok-waits.waits c.in_ok-waits.ensures.waits)
    c.in-Some-waits.waits c.decide_on.result c.in-Some-waits.is (c.decide_on.ensures.decides colours c.requires.all)

pub returns-in-Some-waits-clause-folded : goal.returns-in-Some-waits-clause-folded
returns-in-Some-waits-clause-folded c =
    let w = world_of c.args.world.now in
    let v = world_of c.play-played.new.self in
    let x = world_of c.decide_on.new.world in
    let command = c.args.command.now in
    let kind = kinds.Parts (home_of w command.client) c.args.colours.now in
    let then = tx_stays w v c.is_whole.ensures.reached
    (record { steps = Play command.client c.shard_of-colour.result ∷ []; run = sym c.play-played.ensures.world }) kind c.waits.new.self c.in_ok-waits.ensures.folded in
    ruled_with x kind c.waits.new.self c.decide_on.new.ruled
    (tx_stays v x (play_reached w v command.client c.shard_of-colour.result c.is_whole.ensures.reached c.play-played.ensures.world)
    (behind_to command c.args.colours.now c.in_ok-waits.sync c.in-Some-waits.waits v x c.decide_on.result
    (c.decide_on.ensures.decides c.args.colours.now c.requires.all)) kind c.waits.new.self then) c.decide_on.ensures.folded
