use Rattle.std.proofs.Common.{rules, ◌<◌, Some, List, ℕ, IfOk, IfErr, ap, subst, ◌∙◌}
use Rattle.log_node.specs.declared.forms.Form.TheVariants as forms
use Rattle.log_node.specs.declared.forms.Pair.{Pair}
use Rattle.log_node.specs.Sets.{members}
use Rattle.object_form.specs.Forms.{form_text}
use Rattle.lawful_run.specs.Asks.{keys_of_pairs}
use Rattle.log_client.specs.Objects.{PutRefused, StandsIn}
use Rattle.log_client.proofs.CallerLemmas.{put_refused}
use Rattle.atomic_map.proofs.MapLines.{keys_some, lines_later, of_keys, of_store}
use Rattle.atomic_map.proofs.atomic.AtomicMap.put_all.Goals as goal

pub append_form-requires-clause-colours : goal.append_form-requires-clause-colours
append_form-requires-clause-colours g c κs within =
    let colours = c.args.self.now.colours in
    of_store c.args.store.now c.args.client.now colours c.requires.client c.requires.map.colours (keys_of_pairs c.args.pairs.now)
    (keys_some c.args.pairs.now c.requires.pairs.some) c.pair_shards-set.result
    (search rules)
    (of_keys c.pair_shards-set.result c.as_slice-2.result.now colours (keys_of_pairs c.as_slice-3.result.now)
    (keys_of_pairs c.args.pairs.now) c.pair_shards-set.ensures c.as_slice-2.ensures (ap keys_of_pairs c.as_slice-3.ensures))

pub returns-clause-map : goal.returns-clause-map
returns-clause-map g c =
    lines_later c.args.store.now c.args.client.now c.append_form.new.self c.args.self.now c.requires.client
    c.append_form.ensures.client c.requires.map

pub returns-clause-ok : goal.returns-clause-ok
returns-clause-ok g c =
    let colours = c.args.self.now.colours in
    let s = c.args.store.now in
    let x = c.args.client.now in
    let y = c.append_form.new.self in
    subst (λ (l : List ℕ). IfOk c.append_form.result (StandsIn s x y l (form_text (forms.PutAll c.args.pairs.now))))
    (of_keys c.pair_shards-set.result c.as_slice-2.result.now colours (keys_of_pairs c.as_slice-3.result.now)
    (keys_of_pairs c.args.pairs.now) c.pair_shards-set.ensures c.as_slice-2.ensures (ap keys_of_pairs c.as_slice-3.ensures))
    (subst (λ (t : List ℕ). IfOk c.append_form.result (StandsIn s x y (members c.pair_shards-set.result) t))
    (ap (λ (ps : List Pair). form_text (forms.PutAll ps)) (c.in-Ok.ensures ∙ c.as_slice.ensures)) c.append_form.ensures.ok)

pub returns-clause-err : goal.returns-clause-err
returns-clause-err g c =
    let colours = c.args.self.now.colours in
    let s = c.args.store.now in
    let x = c.args.client.now in
    let y = c.append_form.new.self in
    let text = form_text (forms.PutAll c.args.pairs.now) in
    subst (λ (l : List ℕ). IfErr c.append_form.result (PutRefused (Some c.args.self.now.home) s x y l text))
    (of_keys c.pair_shards-set.result c.as_slice-2.result.now colours (keys_of_pairs c.as_slice-3.result.now)
    (keys_of_pairs c.args.pairs.now) c.pair_shards-set.ensures c.as_slice-2.ensures (ap keys_of_pairs c.as_slice-3.ensures))
    (put_refused (Some c.args.self.now.home) s x y (members c.pair_shards-set.result)
    (form_text (forms.PutAll c.in-Ok.copy)) text c.append_form.result
    (ap (λ (ps : List Pair). form_text (forms.PutAll ps)) (c.in-Ok.ensures ∙ c.as_slice.ensures)) c.append_form.ensures.err)
