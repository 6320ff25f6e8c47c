use Rattle.std.proofs.Common.{ℕ, [], ◌∷◌, ◌∙◌, ap, sym}
use Rattle.world_laws.specs.declared.steps.Step.TheVariants.{Play}
use Rattle.world_code.specs.WorldView.{world_of}
use Rattle.script_meaning.specs.CausalGets.{causal_values}
use Rattle.script_in_order.specs.CausalFolds.{cut_to_play, held_nodes}
use Rattle.script_in_order.proofs.CausalSteps.{got_all, got_refused}
use Rattle.script_in_order.proofs.FoldsKept.{folds_stay}
use Rattle.script_in_order.proofs.causal.get_values.Goals as goal

pub returns-in-Some-clause-ok : goal.returns-in-Some-clause-ok
returns-in-Some-clause-ok c =
    got_refused c.args.command.now (world_of c.args.world.now) c.args.colour c.args.key.now c.in-Some.base
    c.in-Some.ensures.some.0 c.in-Some.ensures.some.1

pub values-requires-clause-may : goal.values-requires-clause-may
values-requires-clause-may c = (c.args.objects.now, c.requires.folded, c.requires.kind)

pub returns-clause-ok : goal.returns-clause-ok
returns-clause-ok c =
    let w = world_of c.args.world.now in
    got_all c.args.command.now w (world_of c.play-played.new.self) c.args.colour c.args.key.now c.in_ok-values.values
    c.sync_now-sync.result (c.trimmed_base.ensures.none c.in_default.is)
    (c.in_ok-values.ensures.values
    ∙ ap (λ (own : ℕ). causal_values (held_nodes w own c.args.colour (cut_to_play w own c.args.colour)) c.args.key.now)
    c.home-own.ensures.home)
    c.sync_now-sync.ensures c.play-played.ensures.world

pub returns-clause-folded : goal.returns-clause-folded
returns-clause-folded c =
    let w = world_of c.args.world.now in
    folds_stay w (world_of c.play-played.new.self) c.is_whole.ensures.reached
    (record { steps = Play c.args.command.now.client c.args.colour ∷ []; run = sym c.play-played.ensures.world })
    c.args.objects.now c.values.new.self
    (c.in_ok-values.ensures.folded c.args.objects.now c.requires.kind c.requires.folded)
