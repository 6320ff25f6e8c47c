use Rattle.std.proofs.Common.{ℕ, List, subst, sym}
use Rattle.object_fold.specs.Causal.{IsCausalAnswer}
use Rattle.log_node.specs.Seen.{PlacedNode}
use Rattle.log_client.proofs.CallerLemmas.{played_in, rests_synced}
use Rattle.causal_map.specs.Played.{AreInCausalOrder, KeepsFirst, chain_nodes}
use Rattle.causal_map.proofs.GetAnswers.{causal_later, gets_many}
use Rattle.causal_map.proofs.PlayedNodes.{are_played}
use Rattle.causal_map.proofs.causal.CausalMap.get.Goals as goal

pub values-requires-clause-played : goal.values-requires-clause-played
values-requires-clause-played g c =
    let e = c.sync.ensures in
    let later = causal_later c.args.store.now c.args.client.now c.sync.new.self c.args.self.now c.requires.client
    (rests_synced c.args.store.now c.args.client.now c.sync.new.self e.client e.same e.goes e.grows e.finished) c.requires.map in
    subst AreInCausalOrder (sym c.played-nodes.ensures)
    (are_played c.sync.new.self c.args.self.now.colour
    (played_in c.args.store.now c.sync.new.self c.args.self.now.colour e.client later.colour))

pub values-requires-clause-folds : goal.values-requires-clause-folds
values-requires-clause-folds g c =
    let e = c.sync.ensures in
    let later = causal_later c.args.store.now c.args.client.now c.sync.new.self c.args.self.now c.requires.client
    (rests_synced c.args.store.now c.args.client.now c.sync.new.self e.client e.same e.goes e.grows e.finished) c.requires.map in
    subst (λ (l : List PlacedNode). KeepsFirst l c.args.self.now.map) (sym c.played-nodes.ensures) later.folds

pub returns-in-Ok-values-clause-ok : goal.returns-in-Ok-values-clause-ok
returns-in-Ok-values-clause-ok g c =
    let e = c.in-Ok.ensures in
    let later = causal_later c.args.store.now c.args.client.now c.sync.new.self c.args.self.now c.requires.client
    (rests_synced c.args.store.now c.args.client.now c.sync.new.self e.client e.same e.goes e.grows e.finished) c.requires.map in
    let colour = c.args.self.now.colour in
    gets_many c.args.store.now c.args.client.now c.sync.new.self c.args.key.now colour c.in-Ok-values.values
    c.in-Ok.synced e.client later.colour e.answer e.ok
    (subst (λ (l : List PlacedNode). IsCausalAnswer (chain_nodes l) c.args.key.now c.in-Ok-values.values) c.played-nodes.ensures
    (subst (λ (k : List ℕ). IsCausalAnswer (chain_nodes c.played-nodes.result.now) k c.in-Ok-values.values) c.as_bytes.ensures
    c.in-Ok-values.ensures.values))

pub returns-in-Err-values-clause-err : goal.returns-in-Err-values-clause-err
returns-in-Err-values-clause-err g c = (c.in-Ok.synced, c.in-Ok.ensures.answer, c.in-Ok.ensures.ok)

pub returns-in-Err-clause-map : goal.returns-in-Err-clause-map
returns-in-Err-clause-map g c =
    let e = c.sync.ensures in
    causal_later c.args.store.now c.args.client.now c.sync.new.self c.args.self.now c.requires.client
    (rests_synced c.args.store.now c.args.client.now c.sync.new.self e.client e.same e.goes e.grows e.finished) c.requires.map

pub returns-in-Err-clause-err : goal.returns-in-Err-clause-err
returns-in-Err-clause-err g c = c.in-Err.ensures.err
