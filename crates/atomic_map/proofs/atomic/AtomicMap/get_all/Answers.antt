use Rattle.std.proofs.Common.{rules, ◌^◌, ◌∙◌, ◌<◌, Option, ap}
use Rattle.log_node.specs.declared.limits.TheConstants.{MAX_COLOURS}
use Rattle.log_node.specs.declared.ids.Key.{Key}
use Rattle.log_node.specs.Sets.{members}
use Rattle.object_fold.specs.Folds.{last_after}
use Rattle.lawful_run.specs.Asks.{shards}
use Rattle.log_client.proofs.CallerLemmas.{rests_synced}
use Rattle.atomic_map.proofs.MapLines.{can_go_on, few_members, lines_later, of_keys, of_store}
use Rattle.atomic_map.proofs.MapReads.{gets_all, read_hidden, read_refused}
use Rattle.atomic_map.proofs.atomic.AtomicMap.get_all.Goals as goal

pub read_on-requires-clause-colours : goal.read_on-requires-clause-colours
read_on-requires-clause-colours g c =
    let colours = c.args.self.now.colours in
    of_store c.args.store.now c.args.client.now colours c.requires.client c.requires.map.colours c.args.keys.now
    c.requires.some c.key_shards-set.result
    (search rules)
    (of_keys c.key_shards-set.result c.as_slice.result.now colours c.as_slice-2.result.now c.args.keys.now
    c.key_shards-set.ensures c.as_slice.ensures c.as_slice-2.ensures)

pub values_read-requires-clause-map : goal.values_read-requires-clause-map
values_read-requires-clause-map g c =
    let e = c.read_on.ensures in
    lines_later c.args.store.now c.args.client.now c.read_on.new.self c.args.self.now c.requires.client
    (rests_synced c.args.store.now c.args.client.now c.read_on.new.self e.client e.same e.goes e.grows e.finished)
    c.requires.map

pub values_read-requires-clause-goes : goal.values_read-requires-clause-goes
values_read-requires-clause-goes g c =
    let s = c.args.store.now in
    let x = c.args.client.now in
    let y = c.read_on.new.self in
    let set = c.key_shards-set.result in
    let keys = c.args.keys.now in
    let colours = c.args.self.now.colours in
    let e = c.read_on.ensures in
    let bits : set.0 < 2 ^ MAX_COLOURS = search rules in
    let are = of_keys set c.as_slice.result.now colours c.as_slice-2.result.now keys c.key_shards-set.ensures
    c.as_slice.ensures c.as_slice-2.ensures in
    can_go_on s x y c.args.self.now set c.in-Ok.read.stamp c.requires.client
    (rests_synced s x y e.client e.same e.goes e.grows e.finished) c.requires.map
    (of_store s x colours c.requires.client c.requires.map.colours keys c.requires.some set bits are)
    (few_members s x colours c.requires.client c.requires.map.colours keys c.requires.some set bits are) c.in-Ok.ensures.above

pub returns-in-Ok-values_read-clause-ok : goal.returns-in-Ok-values_read-clause-ok
returns-in-Ok-values_read-clause-ok g c =
    let set = c.key_shards-set.result in
    let colours = c.args.self.now.colours in
    let r = c.in-Ok in
    gets_all c.args.store.now c.args.client.now c.read_on.new.self set colours c.args.keys.now
    (of_keys set c.as_slice.result.now colours c.as_slice-2.result.now c.args.keys.now c.key_shards-set.ensures
    c.as_slice.ensures c.as_slice-2.ensures)
    c.read_on.ensures.client c.args.self.now.last r.read r.ensures.ok r.ensures.held c.in-Ok-values_read.values
    c.in-Ok-values_read.ensures.values

pub returns-in-Ok-values_read-clause-map : goal.returns-in-Ok-values_read-clause-map
returns-in-Ok-values_read-clause-map g c = record {
  colours = c.values_read.ensures.map.colours;
  lines = c.values_read.ensures.map.lines;
}

pub returns-in-Ok-values_read-clause-last : goal.returns-in-Ok-values_read-clause-last
returns-in-Ok-values_read-clause-last g c =
    c.last_after-self.ensures ∙ ap (λ (l : Option Key). last_after l c.in-Ok.read.items) c.values_read.ensures.same.2

pub returns-in-Ok-values_read-clause-raises : goal.returns-in-Ok-values_read-clause-raises
returns-in-Ok-values_read-clause-raises g c =
    c.in-Ok.ensures.raises
    ∙ of_keys c.key_shards-set.result c.as_slice.result.now c.args.self.now.colours c.as_slice-2.result.now c.args.keys.now
    c.key_shards-set.ensures c.as_slice.ensures c.as_slice-2.ensures

pub returns-in-Ok-values_read-clause-syncs : goal.returns-in-Ok-values_read-clause-syncs
returns-in-Ok-values_read-clause-syncs g c =
    c.in-Ok.ensures.syncs
    ∙ of_keys c.key_shards-set.result c.as_slice.result.now c.args.self.now.colours c.as_slice-2.result.now c.args.keys.now
    c.key_shards-set.ensures c.as_slice.ensures c.as_slice-2.ensures

pub returns-in-Err-values_read-clause-err : goal.returns-in-Err-values_read-clause-err
returns-in-Err-values_read-clause-err g c =
    let colours = c.args.self.now.colours in
    read_hidden c.args.store.now c.args.client.now c.read_on.new.self (members c.key_shards-set.result)
    (shards colours c.args.keys.now)
    (of_keys c.key_shards-set.result c.as_slice.result.now colours c.as_slice-2.result.now c.args.keys.now
    c.key_shards-set.ensures c.as_slice.ensures c.as_slice-2.ensures)
    c.in-Ok.ensures.hidden

pub returns-in-Err-clause-map : goal.returns-in-Err-clause-map
returns-in-Err-clause-map g c =
    let e = c.read_on.ensures in
    lines_later c.args.store.now c.args.client.now c.read_on.new.self c.args.self.now c.requires.client
    (rests_synced c.args.store.now c.args.client.now c.read_on.new.self e.client e.same e.goes e.grows e.finished)
    c.requires.map

pub returns-in-Err-clause-err : goal.returns-in-Err-clause-err
returns-in-Err-clause-err g c =
    let colours = c.args.self.now.colours in
    read_refused c.args.store.now c.args.client.now c.read_on.new.self (members c.key_shards-set.result)
    (shards colours c.args.keys.now) c.in-Err.fault
    (of_keys c.key_shards-set.result c.as_slice.result.now colours c.as_slice-2.result.now c.args.keys.now
    c.key_shards-set.ensures c.as_slice.ensures c.as_slice-2.ensures)
    c.in-Err.ensures.err
