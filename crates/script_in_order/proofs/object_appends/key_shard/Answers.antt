use Rattle.std.proofs.Common.{◌<◌, ◌∙◌, ℕ, [], ◌∷◌, Some, ap, sym, subst}
use Rattle.std.proofs.lemmas.List.Elements.{All-nil, All-cons}
use Rattle.log_node.specs.declared.limits.TheConstants.{MAX_COLOURS}
use Rattle.log_node.specs.Sets.{set_of}
use Rattle.lawful_run.specs.Asks.{object_colours}
use Rattle.script_meaning.proofs.CallerLemmas.{keys_set, shard_below}
use Rattle.script_in_order.proofs.object_appends.key_shard.Goals as goal

pub of-requires : goal.of-requires
of-requires c =
    All-cons (λ x. x < MAX_COLOURS) c.shard.result []
    (subst (λ (x : ℕ). x < MAX_COLOURS) (sym c.shard.ensures)
    (shard_below MAX_COLOURS (object_colours (Some c.args.kind.now)) c.requires.some c.requires.below c.args.key.now))
    (All-nil (λ x. x < MAX_COLOURS))

pub returns : goal.returns
returns c =
    c.of.ensures ∙ (ap (λ (x : ℕ). set_of (x ∷ [])) c.shard.ensures
    ∙ keys_set (object_colours (Some c.args.kind.now)) c.requires (c.args.key.now ∷ []))
