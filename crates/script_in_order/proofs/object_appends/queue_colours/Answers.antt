use Rattle.std.proofs.Common.{◌<◌, ◌∙◌, ℕ, [], Some, sym, subst}
use Rattle.std.proofs.lemmas.List.Elements.{All-nil, All-cons}
use Rattle.log_node.specs.declared.limits.TheConstants.{MAX_COLOURS}
use Rattle.lawful_run.specs.Asks.{object_colours}
use Rattle.script_meaning.proofs.CallerLemmas.{shard_below}
use Rattle.script_in_order.proofs.ObjectSteps.{queue_shard}
use Rattle.script_in_order.proofs.object_appends.queue_colours.Goals as goal

pub of-requires : goal.of-requires
of-requires c =
    let are = c.requires.colours in
    All-cons (λ x. x < MAX_COLOURS) c.shard.result []
    (subst (λ (x : ℕ). x < MAX_COLOURS) (sym c.shard.ensures)
    (shard_below MAX_COLOURS (object_colours (Some c.args.kind.now)) are.some are.below []))
    (All-nil (λ x. x < MAX_COLOURS))

pub returns : goal.returns
returns c = c.of.ensures ∙ queue_shard c.args.kind.now c.requires.queue c.shard.result c.shard.ensures
