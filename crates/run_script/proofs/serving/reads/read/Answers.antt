use Rattle.std.proofs.Common.{ℕ, List, Option, None, ap, sym, subst, ◌∙◌}
use Rattle.std.specs.Prelude.{IfOk, IfSome, Result}
use Rattle.object_form.specs.Forms.{AreVersions}
use Rattle.object_fold.specs.Maps.{Value}
use Rattle.script_text.specs.declared.commands.What.TheVariants as whats
use Rattle.report_text.specs.declared.report.Answer.TheVariants as answers
use Rattle.log_client.specs.declared.answers.StampedRead.{StampedRead}
use Rattle.log_client.specs.declared.object_fault.ObjectFault.{ObjectFault}
use Rattle.region_fold.specs.declared.transactions.Tx.{Tx}
use Rattle.run_script.specs.declared.serving.opened.Opened.{Opened}
use Rattle.run_script.specs.declared.serving.opened.Opened.TheVariants as opened
use Rattle.run_script.specs.Opened.{IsOpenedOf, kind_opened, tx_kind}
use Rattle.run_script.specs.Replying.{HasRoomFor, ShowsKeys}
use Rattle.run_script.specs.Serving.{GivesTo}
use Rattle.run_script.proofs.FewShown.{shows_few_found, versions_found}
use Rattle.run_script.proofs.GivingReads.{gives_read, gives_unread}
use Rattle.run_script.proofs.PartsKept.{tx_players_later}
use Rattle.lawful_run.proofs.CallerLemmas.{can_read}
use Rattle.run_script.proofs.serving.reads.read.Goals as goal

pub returns-in_default-with_capacity-clause-gives : goal.returns-in_default-with_capacity-clause-gives
returns-in_default-with_capacity-clause-gives g c =
    subst (λ (x : Opened). GivesTo c.args.store.now c.args.client.now c.args.client.now x (opened.Tx c.in-Tx.players c.in-Tx.map None)
    (λ object. whats.Read object c.args.keys) answers.NoMemory) (sym c.in-Tx.is)
    (gives_unread c.args.store.now c.args.client.now c.requires.client c.in-Tx.players c.in-Tx.map c.in-Tx.map c.in-Tx.found c.args.keys)

pub returns-in_default-room_for-clause-gives : goal.returns-in_default-room_for-clause-gives
returns-in_default-room_for-clause-gives g c =
    subst (λ (x : Opened). GivesTo c.args.store.now c.args.client.now c.args.client.now x (opened.Tx c.in-Tx.players c.in-Tx.map None)
    (λ object. whats.Read object c.args.keys) answers.NoMemory) (sym c.in-Tx.is)
    (gives_unread c.args.store.now c.args.client.now c.requires.client c.in-Tx.players c.in-Tx.map c.in-Tx.map c.in-Tx.found c.args.keys)

pub got_keys-requires-clause-few : goal.got_keys-requires-clause-few
got_keys-requires-clause-few g c =
    let e = c.read.ensures in
    subst (λ (call : Result (List Value × StampedRead) ObjectFault). IfOk call (λ r. HasRoomFor c.in-Ok-room_for.room r.1))
    (sym c.found_apart-read.ensures.keys)
    (shows_few_found c.in-Tx.map.colours c.in-Ok-room_for.room c.read.result _ c.colour_count.ensures
    c.in-Ok-room_for.ensures.places e.raises e.syncs)

pub returns-in_default-with_capacity-clause-stays : goal.returns-in_default-with_capacity-clause-stays
returns-in_default-with_capacity-clause-stays g c =
    let kept = subst (IsOpenedOf c.args.client.now) c.in-Tx.is c.requires.kept in
    (ap kind_opened (sym c.in-Tx.is), (kept.0, tt, kept.2))

pub returns-in_default-room_for-clause-stays : goal.returns-in_default-room_for-clause-stays
returns-in_default-room_for-clause-stays g c =
    let kept = subst (IsOpenedOf c.args.client.now) c.in-Tx.is c.requires.kept in
    (ap kind_opened (sym c.in-Tx.is), (kept.0, tt, kept.2))

pub returns-clause-stays : goal.returns-clause-stays
returns-clause-stays g c =
    let e = c.read.ensures in (
      ap (λ (home : ℕ). tx_kind c.in-Tx.players home c.read.new.self.colours) e.same.0
          ∙ (ap (λ (colours : List ℕ). tx_kind c.in-Tx.players c.in-Tx.map.home colours) e.same.1 ∙ ap kind_opened (sym c.in-Tx.is)),
      (
        e.map,
        subst (λ (o : Option Tx). IfSome o (λ (t : Tx). AreVersions t.versions)) (sym c.found_apart-read.ensures.tx)
            (versions_found c.read.result (e.versions (can_read c.args.keys c.requires.keys))),
        tx_players_later c.reads_go_on.ensures c.args.store.now c.args.client.now c.read.new.client c.in-Tx.map c.read.new.self
            c.in-Tx.players c.requires.client e.client e.same (subst (IsOpenedOf c.args.client.now) c.in-Tx.is c.requires.kept).2,
      ),
    )

pub returns-clause-gives : goal.returns-clause-gives
returns-clause-gives g c =
    let e = c.read.ensures in
    subst (λ (x : Opened). GivesTo c.args.store.now c.args.client.now c.read.new.client x
    (opened.Tx c.in-Tx.players c.read.new.self c.found_apart-read.result.1) (λ object. whats.Read object c.args.keys) c.got_keys.result)
    (sym c.in-Tx.is)
    (gives_read c.args.store.now c.args.client.now c.read.new.client e.client c.got_keys.result c.in-Tx.players c.in-Tx.map c.read.new.self
    c.in-Tx.found c.found_apart-read.result.1 c.args.keys c.read.result c.found_apart-read.ensures.tx
    (subst (λ (call : Result (List Value × StampedRead) ObjectFault). ShowsKeys c.args.keys call c.got_keys.result)
    c.found_apart-read.ensures.keys c.got_keys.ensures) e.away e.ok e.err)
