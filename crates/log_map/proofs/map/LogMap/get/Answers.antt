use Rattle.std.proofs.Common.{ap, subst, sym, ◌∙◌, ◌<◌, List, ℕ, length}
use Rattle.object_fold.specs.Nodes.{object_nodes, shard_of}
use Rattle.object_fold.specs.Maps.{shard_value}
use Rattle.log_client.specs.Clients.{own_line, tracks_of}
use Rattle.log_client.specs.Calls.{AnswersSync, SyncRefused}
use Rattle.log_client.specs.Objects.{SyncsUntold}
use Rattle.log_client.proofs.CallerLemmas.{rests_synced, shard_in}
use Rattle.log_map.specs.Maps.{Gets}
use Rattle.log_map.proofs.MapAnswers.{gets, map_later, within}
use Rattle.log_map.proofs.map.LogMap.get.Goals as goal

pub value-requires-clause-map : goal.value-requires-clause-map
value-requires-clause-map g c =
    let e = c.sync.ensures in
    map_later c.args.store.now c.args.client.now c.sync.new.self c.args.self.now c.requires.client
    (rests_synced c.args.store.now c.args.client.now c.sync.new.self e.client e.same e.goes e.grows e.finished) c.requires.map

pub returns-in-Ok-value-clause-ok : goal.returns-in-Ok-value-clause-ok
returns-in-Ok-value-clause-ok g c =
    let e = c.in-Ok.ensures in
    let colours = c.args.self.now.colours in
    let is = c.shard_of-colour.ensures ∙ (ap (λ (l : List ℕ). shard_of l c.as_bytes.result.now) c.as_slice.ensures
    ∙ ap (shard_of colours) c.as_bytes.ensures) in
    let later = map_later c.args.store.now c.args.client.now c.sync.new.self c.args.self.now c.requires.client
    (rests_synced c.args.store.now c.args.client.now c.sync.new.self e.client e.same e.goes e.grows e.finished)
    c.requires.map in
    subst (λ (k : ℕ). Gets c.args.store.now c.args.client.now c.sync.new.self colours k c.args.key.now c.in-Ok-value.value
    c.in-Ok.synced) is
    (gets c.args.store.now c.args.client.now c.sync.new.self colours c.args.key.now c.shard_of-colour.result
    c.in-Ok-value.value c.in-Ok.synced e.client
    (subst (λ (k : ℕ). k < length (tracks_of c.sync.new.self)) (sym is)
    (within c.sync.new.self colours later.colours (shard_of colours c.args.key.now)
    (shard_in colours c.args.key.now later.colours.some))) e.answer e.ok
    (c.in-Ok-value.ensures.value
    ∙ ap (shard_value colours c.shard_of-colour.result (object_nodes (own_line c.sync.new.self c.shard_of-colour.result)))
    c.as_bytes-in-Ok.ensures))

pub returns-in-Ok-value-clause-played : goal.returns-in-Ok-value-clause-played
returns-in-Ok-value-clause-played g c =
    let is = c.shard_of-colour.ensures ∙ (ap (λ (l : List ℕ). shard_of l c.as_bytes.result.now) c.as_slice.ensures
    ∙ ap (shard_of c.args.self.now.colours) c.as_bytes.ensures) in
    subst (λ (k : ℕ). AnswersSync c.args.client.now c.sync.new.self k c.in-Ok.synced) is c.in-Ok.ensures.answer

pub returns-in-Err-value-clause-err : goal.returns-in-Err-value-clause-err
returns-in-Err-value-clause-err g c =
    let is = c.shard_of-colour.ensures ∙ (ap (λ (l : List ℕ). shard_of l c.as_bytes.result.now) c.as_slice.ensures
    ∙ ap (shard_of c.args.self.now.colours) c.as_bytes.ensures) in
    subst (λ (k : ℕ). SyncsUntold c.args.store.now c.args.client.now c.sync.new.self k) is
    (c.in-Ok.synced, c.in-Ok.ensures.answer, c.in-Ok.ensures.ok)

pub returns-in-Err-clause-map : goal.returns-in-Err-clause-map
returns-in-Err-clause-map g c =
    let e = c.sync.ensures in
    map_later c.args.store.now c.args.client.now c.sync.new.self c.args.self.now c.requires.client
    (rests_synced c.args.store.now c.args.client.now c.sync.new.self e.client e.same e.goes e.grows e.finished) c.requires.map

pub returns-in-Err-clause-err : goal.returns-in-Err-clause-err
returns-in-Err-clause-err g c =
    let is = c.shard_of-colour.ensures ∙ (ap (λ (l : List ℕ). shard_of l c.as_bytes.result.now) c.as_slice.ensures
    ∙ ap (shard_of c.args.self.now.colours) c.as_bytes.ensures) in
    subst (λ (k : ℕ). SyncRefused c.args.store.now c.args.client.now c.sync.new.self k c.in-Err.fault) is
    c.in-Err.ensures.err
