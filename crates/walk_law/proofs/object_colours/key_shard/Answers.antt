use Rattle.std.proofs.Common.{◌∙◌, ◌++◌, ◌∷◌, [], ℕ, List, ap, sym}
use Rattle.lawful_run.proofs.CallerLemmas.{one_shard}
use Rattle.walk_law.specs.Asking.{shards_of}
use Rattle.walk_law.proofs.Shards.{shard_low}
use Rattle.walk_law.proofs.object_colours.key_shard.Goals as goal

pub returns : goal.returns
unfolding shards_of
returns c =
    c.in_ok-push.ensures.ok
    ∙ (ap (λ (l : List ℕ). l ++ c.shard_of.result ∷ []) c.new-colours.ensures
    ∙ (ap (λ (x : ℕ). x ∷ []) c.shard_of.ensures
    ∙ sym (one_shard c.args.own.now c.args.key.now (shard_low c.args.own.now c.args.key.now c.requires))))
