use Rattle.std.proofs.Common.{ℕ, ap, refl, sym, subst, ◌∙◌, arith, ◌∷◌, []}
use Rattle.object_form.specs.Forms.{form_text}
use Rattle.log_node.specs.declared.forms.Form.TheVariants as forms
use Rattle.object_fold.specs.Nodes.{shard_of}
use Rattle.script_text.specs.declared.script.Kind.TheVariants as kinds
use Rattle.script_text.specs.declared.commands.What.TheVariants as whats
use Rattle.log_client.proofs.CallerLemmas.{rests_same}
use Rattle.atomic_map.proofs.CallerLemmas.{map_later as atomic_later}
use Rattle.log_map.specs.declared.map.LogMap.{LogMap}
use Rattle.run_script.specs.declared.serving.opened.Opened.TheVariants as opened
use Rattle.run_script.specs.Opened.{IsOpenedOf, kind_opened}
use Rattle.run_script.proofs.GivingObjects.{gives_unasked_of}
use Rattle.run_script.proofs.GivingPuts.{gives_in_shard, points_fit}
use Rattle.run_script.proofs.ReadsFound.{map_not_tx}
use Rattle.run_script.proofs.serving.puts.del.Goals as goal

pub returns-in_default-clause-rests : goal.returns-in_default-clause-rests
returns-in_default-clause-rests g c = rests_same c.args.store.now c.args.client.now c.requires.client

pub returns-in_default-clause-gives : goal.returns-in_default-clause-gives
returns-in_default-clause-gives g c =
    gives_unasked_of c.args.store.now c.args.client.now c.args.opened.now (λ (object : ℕ). whats.Del object c.args.key) c.requires.client
    (map_not_tx (kind_opened c.args.opened.now) c.requires.kind) (λ object. refl)

pub del-del-requires-clause-map : goal.del-del-requires-clause-map
del-del-requires-clause-map g c κs within = (subst (IsOpenedOf c.args.client.now) c.in-Map.is c.requires.kept).0

pub appended-requires-clause-room : goal.appended-requires-clause-room
appended-requires-clause-room g c =
    let room = c.in-Ok.ensures.capacity in
    points_fit c.args.store.now c.args.client.now c.del-del.new.client (shard_of c.in-Map.single.colours c.args.key ∷ [])
    (form_text (forms.Delete c.args.key)) c.del-del.result _ c.del-del.ensures.ok (omega (arith, room))

pub returns-clause-stays : goal.returns-clause-stays
returns-clause-stays g c =
    let e = c.del-del.ensures in
    let is = subst (IsOpenedOf c.args.client.now) c.in-Map.is c.requires.kept in (
      ap (λ (m : LogMap). kinds.Map m.home m.colours) e.same ∙ ap kind_opened (sym c.in-Map.is),
      (
        e.map,
        atomic_later c.reads_go_on.ensures c.args.store.now c.args.client.now c.del-del.new.client e.client
            c.in-Map.several c.requires.client is.1,
        is.2 ∙ ap (λ (m : LogMap). m.home) (sym e.same),
        is.3 ∙ ap (λ (m : LogMap). m.colours) (sym e.same),
      ),
    )

pub returns-clause-gives : goal.returns-clause-gives
returns-clause-gives g c =
    let e = c.del-del.ensures in
    let is = subst (IsOpenedOf c.args.client.now) c.in-Map.is c.requires.kept in
    gives_in_shard c.args.store.now c.args.client.now c.del-del.new.client e.client c.args.opened.now
    (opened.Map c.del-del.new.self c.in-Map.several) (returns-clause-stays g c).0 c.del-del.result c.appended.result
    c.appended.ensures (λ object. whats.Del object c.args.key) c.in-Map.single.home c.in-Map.single.colours is.0.colours e.away
    c.args.key (form_text (forms.Delete c.args.key)) (record { uses = λ object. refl; appends = λ object. refl; said = λ object. refl })
    (ap kind_opened c.in-Map.is) e.ok e.err
