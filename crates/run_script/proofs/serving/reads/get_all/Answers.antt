use Rattle.std.proofs.Common.{ℕ, List, ap, sym, subst, ◌∙◌, refl}
use Rattle.script_text.specs.declared.script.Kind.TheVariants as kinds
use Rattle.script_text.specs.declared.commands.What.TheVariants as whats
use Rattle.log_map.proofs.CallerLemmas.{map_later}
use Rattle.run_script.specs.declared.serving.opened.Opened.TheVariants as opened
use Rattle.run_script.specs.Opened.{IsOpenedOf, kind_opened}
use Rattle.run_script.proofs.FewShown.{shows_few_all}
use Rattle.run_script.proofs.GivingObjects.{gives_unasked_of}
use Rattle.run_script.proofs.GivingReads.{gives_map_get_all}
use Rattle.run_script.proofs.ReadsFound.{map_not_tx}
use Rattle.run_script.proofs.serving.reads.get_all.Goals as goal

pub returns-in_default-clause-gives : goal.returns-in_default-clause-gives
returns-in_default-clause-gives g c =
    gives_unasked_of c.args.store.now c.args.client.now c.args.opened.now (λ (object : ℕ). whats.GetAll object c.args.keys) c.requires.client
    (map_not_tx (kind_opened c.args.opened.now) c.requires.kind) (λ object. refl)

pub returns-in_default-room_for-clause-gives : goal.returns-in_default-room_for-clause-gives
returns-in_default-room_for-clause-gives g c =
    gives_unasked_of c.args.store.now c.args.client.now c.args.opened.now (λ (object : ℕ). whats.GetAll object c.args.keys) c.requires.client
    (map_not_tx (kind_opened c.args.opened.now) c.requires.kind) (λ object. refl)

pub got_keys-requires-clause-many : goal.got_keys-requires-clause-many
got_keys-requires-clause-many g c = c.get_all-get.ensures.many

pub got_keys-requires-clause-few : goal.got_keys-requires-clause-few
got_keys-requires-clause-few g c =
    let e = c.get_all-get.ensures in
    shows_few_all c.in-Map.several.colours c.in-Ok-room_for.room c.get_all-get.result c.args.keys _ c.len-2.ensures
    c.in-Ok-room_for.ensures.places e.raises e.syncs

pub returns-clause-stays : goal.returns-clause-stays
returns-clause-stays g c =
    let kept = subst (IsOpenedOf c.args.client.now) c.in-Map.is c.requires.kept in
    let e = c.get_all-get.ensures in (
      ap kind_opened (sym c.in-Map.is),
      (
        map_later c.args.store.now c.args.client.now c.get_all-get.new.client c.in-Map.single c.requires.client e.client kept.0,
        e.map,
        e.same.0 ∙ kept.2,
        e.same.1 ∙ kept.3,
      ),
    )

pub returns-clause-gives : goal.returns-clause-gives
returns-clause-gives g c =
    let kept = subst (IsOpenedOf c.args.client.now) c.in-Map.is c.requires.kept in
    let e = c.get_all-get.ensures in
    gives_map_get_all c.args.store.now c.args.client.now c.get_all-get.new.client e.client c.got_keys.result c.args.opened.now
    (opened.Map c.in-Map.single c.get_all-get.new.self) c.in-Map.several.home c.in-Map.several.colours c.in-Map.several.last
    c.args.keys c.get_all-get.result
    (ap kind_opened c.in-Map.is ∙ (ap (λ (home : ℕ). kinds.Map home c.in-Map.single.colours) (sym kept.2)
    ∙ ap (λ (colours : List ℕ). kinds.Map c.in-Map.several.home colours) (sym kept.3))) (returns-clause-stays g c).0
    c.got_keys.ensures e.away e.ok e.err
