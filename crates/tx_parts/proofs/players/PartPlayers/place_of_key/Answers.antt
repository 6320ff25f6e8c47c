use Rattle.std.proofs.Common.{List, ℕ, ap, sym, ◌∙◌}
use Rattle.object_fold.specs.Nodes.{shard_of}
use Rattle.tx_parts.proofs.MapAnswers.{at_place}
use Rattle.tx_parts.proofs.players.PartPlayers.place_of_key.Goals as goal

pub returns-in-Ok-clause-players : goal.returns-in-Ok-clause-players
returns-in-Ok-clause-players c = c.place_for.ensures.players c.args.client.now c.requires.players

pub returns-in-Ok-clause-there : goal.returns-in-Ok-clause-there
returns-in-Ok-clause-there c =
    let e = c.in-Ok.ensures.there in
    at_place c.args.client.now c.place_for.new.self c.args.key.now c.in-Ok.place e.0 (returns-in-Ok-clause-players c) e.1
    (e.2 ∙ (c.shard_of-colour.ensures ∙ (ap (λ (l : List ℕ). shard_of l c.as_bytes.result.now) c.as_slice.ensures
    ∙ (ap (shard_of c.args.self.now.colours) c.as_bytes.ensures
    ∙ ap (λ (l : List ℕ). shard_of l c.args.key.now) (sym c.place_for.ensures.same.1)))))

pub returns-in-Err-clause-players : goal.returns-in-Err-clause-players
returns-in-Err-clause-players c = c.place_for.ensures.players c.args.client.now c.requires.players
