use Rattle.std.proofs.Common.{ℕ, None, ap, refl, sym, subst, ◌∙◌, arith, ◌∷◌, []}
use Rattle.object_form.specs.Forms.{form_text}
use Rattle.log_node.specs.declared.forms.Form.TheVariants as forms
use Rattle.object_fold.specs.Nodes.{shard_of}
use Rattle.script_text.specs.declared.script.Kind.TheVariants as kinds
use Rattle.script_text.specs.declared.commands.What.TheVariants as whats
use Rattle.lawful_run.specs.Deeds.{ShardsOf}
use Rattle.log_client.proofs.CallerLemmas.{rests_same}
use Rattle.atomic_map.proofs.CallerLemmas.{map_later as atomic_later}
use Rattle.log_map.specs.declared.map.LogMap.{LogMap}
use Rattle.causal_map.specs.declared.causal.CausalMap.{CausalMap}
use Rattle.run_script.specs.declared.serving.opened.Opened.TheVariants as opened
use Rattle.run_script.specs.Opened.{IsOpenedOf, kind_opened}
use Rattle.run_script.proofs.GivingObjects.{gives_unasked_of}
use Rattle.run_script.proofs.GivingPuts.{gives_in_shard, gives_said, only_shard, points_fit}
use Rattle.run_script.proofs.ReadsFound.{any_map_not_tx}
use Rattle.run_script.proofs.serving.puts.put.Goals as goal

pub returns-in_default-clause-rests : goal.returns-in_default-clause-rests
returns-in_default-clause-rests g c = rests_same c.args.store.now c.args.client.now c.requires.client

pub returns-in_default-clause-gives : goal.returns-in_default-clause-gives
returns-in_default-clause-gives g c =
    gives_unasked_of c.args.store.now c.args.client.now c.args.opened.now (λ (object : ℕ). whats.Put object c.args.key c.args.value) c.requires.client
    (any_map_not_tx (kind_opened c.args.opened.now) c.requires.kind) (λ object. refl)

pub put-put-requires-clause-map : goal.put-put-requires-clause-map
put-put-requires-clause-map g c κs within = (subst (IsOpenedOf c.args.client.now) c.in-Map.is c.requires.kept).0

pub appended-requires-clause-room : goal.appended-requires-clause-room
appended-requires-clause-room g c =
    let room = c.in-Ok.ensures.capacity in
    points_fit c.args.store.now c.args.client.now c.put-put.new.client (shard_of c.in-Map.single.colours c.args.key ∷ [])
    (form_text (forms.Put c.args.key c.args.value)) c.put-put.result _ c.put-put.ensures.ok (omega (arith, room))

pub returns-in-Map-clause-stays : goal.returns-in-Map-clause-stays
returns-in-Map-clause-stays g c =
    let e = c.put-put.ensures in
    let is = subst (IsOpenedOf c.args.client.now) c.in-Map.is c.requires.kept in (
      ap (λ (m : LogMap). kinds.Map m.home m.colours) e.same ∙ ap kind_opened (sym c.in-Map.is),
      (
        e.map,
        atomic_later c.reads_go_on.ensures c.args.store.now c.args.client.now c.put-put.new.client e.client
            c.in-Map.several c.requires.client is.1,
        is.2 ∙ ap (λ (m : LogMap). m.home) (sym e.same),
        is.3 ∙ ap (λ (m : LogMap). m.colours) (sym e.same),
      ),
    )

pub returns-in-Map-clause-gives : goal.returns-in-Map-clause-gives
returns-in-Map-clause-gives g c =
    let e = c.put-put.ensures in
    let is = subst (IsOpenedOf c.args.client.now) c.in-Map.is c.requires.kept in
    gives_in_shard c.args.store.now c.args.client.now c.put-put.new.client e.client c.args.opened.now
    (opened.Map c.put-put.new.self c.in-Map.several) (returns-in-Map-clause-stays g c).0 c.put-put.result c.appended.result
    c.appended.ensures (λ object. whats.Put object c.args.key c.args.value) c.in-Map.single.home c.in-Map.single.colours
    is.0.colours e.away c.args.key (form_text (forms.Put c.args.key c.args.value))
    (record { uses = λ object. refl; appends = λ object. refl; said = λ object. refl }) (ap kind_opened c.in-Map.is) e.ok e.err

pub put-put-requires-in-Causal-clause-map : goal.put-put-requires-in-Causal-clause-map
put-put-requires-in-Causal-clause-map g c κs within = subst (IsOpenedOf c.args.client.now) c.in-Causal.is c.requires.kept

pub appended-requires-in-Causal-clause-room : goal.appended-requires-in-Causal-clause-room
appended-requires-in-Causal-clause-room g c =
    let room = c.in-Ok.ensures.capacity in
    points_fit c.args.store.now c.args.client.now c.put-put-in-Causal.new.client (c.in-Causal.map.colour ∷ [])
    (form_text (forms.Causal c.args.key c.args.value)) c.put-put-in-Causal.result _ c.put-put-in-Causal.ensures.ok
    (omega (arith, room))

pub returns-in-Causal-clause-stays : goal.returns-in-Causal-clause-stays
returns-in-Causal-clause-stays g c = (
  ap (λ (m : CausalMap). kinds.Causal m.colour) c.put-put-in-Causal.ensures.same ∙ ap kind_opened (sym c.in-Causal.is),
  c.put-put-in-Causal.ensures.map,
)

pub returns-in-Causal-clause-gives : goal.returns-in-Causal-clause-gives
returns-in-Causal-clause-gives g c =
    let e = c.put-put-in-Causal.ensures in
    let is = subst (IsOpenedOf c.args.client.now) c.in-Causal.is c.requires.kept in
    let few = is.few in
    gives_said c.args.store.now c.args.client.now c.put-put-in-Causal.new.client e.client c.args.opened.now
    (opened.Causal c.put-put-in-Causal.new.self) (returns-in-Causal-clause-stays g c).0 c.put-put-in-Causal.result
    c.appended-in-Causal.result c.appended-in-Causal.ensures (kinds.Causal c.in-Causal.map.colour)
    (λ object. whats.Put object c.args.key c.args.value) (ShardsOf (c.args.key ∷ []))
    (form_text (forms.Causal c.args.key c.args.value)) (c.in-Causal.map.colour ∷ []) None
    (record { uses = λ object. refl; appends = λ object. refl; said = λ object. refl }) (ap kind_opened c.in-Causal.is) refl refl
    (λ set one. one ∙ sym (only_shard c.in-Causal.map.colour c.args.key (omega (arith, few))))
    (λ home some far. absurd (let f : ⊥ = cc (some) in f)) e.ok e.err
