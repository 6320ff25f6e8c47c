use Rattle.std.proofs.Common.{ℕ, List, Some, ap, refl, sym, subst, ◌∙◌, arith}
use Rattle.std.proofs.lemmas.List.{length-map}
use Rattle.object_form.specs.Forms.{form_text}
use Rattle.log_node.specs.declared.forms.Form.TheVariants as forms
use Rattle.log_node.specs.declared.forms.Pair.{Pair}
use Rattle.lawful_run.specs.Asks.{keys_of_pairs, shards}
use Rattle.lawful_run.specs.Deeds.{ShardsOf}
use Rattle.script_text.specs.declared.script.Kind.TheVariants as kinds
use Rattle.script_text.specs.declared.commands.What.TheVariants as whats
use Rattle.log_client.proofs.CallerLemmas.{rests_same}
use Rattle.log_map.proofs.CallerLemmas.{map_later}
use Rattle.atomic_map.specs.declared.atomic.AtomicMap.{AtomicMap}
use Rattle.run_script.specs.declared.serving.opened.Opened.TheVariants as opened
use Rattle.run_script.specs.Opened.{IsOpenedOf, kind_opened}
use Rattle.run_script.proofs.GivingObjects.{gives_unasked_of, told_home}
use Rattle.run_script.proofs.GivingPuts.{gives_said, points_fit}
use Rattle.run_script.proofs.ReplyRoom.{shards_few}
use Rattle.run_script.proofs.ReadsFound.{map_not_tx}
use Rattle.run_script.proofs.serving.puts.put_all.Goals as goal

pub returns-in_default-clause-rests : goal.returns-in_default-clause-rests
returns-in_default-clause-rests g c = rests_same c.args.store.now c.args.client.now c.requires.client

pub returns-in_default-clause-gives : goal.returns-in_default-clause-gives
returns-in_default-clause-gives g c =
    gives_unasked_of c.args.store.now c.args.client.now c.args.opened.now (λ (object : ℕ). whats.PutAll object c.args.pairs) c.requires.client
    (map_not_tx (kind_opened c.args.opened.now) c.requires.kind) (λ object. refl)

pub put_all-put-requires-clause-map : goal.put_all-put-requires-clause-map
put_all-put-requires-clause-map g c κs within = (subst (IsOpenedOf c.args.client.now) c.in-Map.is c.requires.kept).1

pub appended-requires-clause-room : goal.appended-requires-clause-room
appended-requires-clause-room g c =
    let room = c.in-Ok.ensures.capacity in
    let count = c.len.ensures in
    let many = length-map c.args.pairs (λ (p : Pair). p.key) in
    let few = shards_few c.in-Map.several.colours (keys_of_pairs c.args.pairs) in
    points_fit c.args.store.now c.args.client.now c.put_all-put.new.client
    (shards c.in-Map.several.colours (keys_of_pairs c.args.pairs)) (form_text (forms.PutAll c.args.pairs)) c.put_all-put.result _
    c.put_all-put.ensures.ok (omega (arith, room, count, many, few))

pub returns-clause-stays : goal.returns-clause-stays
returns-clause-stays g c =
    let e = c.put_all-put.ensures in
    let is = subst (IsOpenedOf c.args.client.now) c.in-Map.is c.requires.kept in (
      ap kind_opened (sym c.in-Map.is),
      (
        map_later c.args.store.now c.args.client.now c.put_all-put.new.client c.in-Map.single c.requires.client e.client is.0,
        e.map,
        ap (λ (m : AtomicMap). m.home) e.same ∙ is.2,
        ap (λ (m : AtomicMap). m.colours) e.same ∙ is.3,
      ),
    )

pub returns-clause-gives : goal.returns-clause-gives
returns-clause-gives g c =
    let e = c.put_all-put.ensures in
    let is = subst (IsOpenedOf c.args.client.now) c.in-Map.is c.requires.kept in
    gives_said c.args.store.now c.args.client.now c.put_all-put.new.client e.client c.args.opened.now
    (opened.Map c.in-Map.single c.put_all-put.new.self) (returns-clause-stays g c).0 c.put_all-put.result
    c.appended.result c.appended.ensures (kinds.Map c.in-Map.several.home c.in-Map.several.colours)
    (λ object. whats.PutAll object c.args.pairs) (ShardsOf (keys_of_pairs c.args.pairs))
    (form_text (forms.PutAll c.args.pairs)) (shards c.in-Map.several.colours (keys_of_pairs c.args.pairs))
    (Some c.in-Map.several.home) (record { uses = λ object. refl; appends = λ object. refl; said = λ object. refl })
    (ap kind_opened c.in-Map.is ∙ (ap (λ (home : ℕ). kinds.Map home c.in-Map.single.colours) (sym is.2)
    ∙ ap (λ (colours : List ℕ). kinds.Map c.in-Map.several.home colours) (sym is.3))) refl refl
    (λ set are. are) (told_home c.args.client.now c.in-Map.several.home c.put_all-put.result e.away) e.ok e.err
