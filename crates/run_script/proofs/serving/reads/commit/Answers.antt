use Rattle.std.proofs.Common.{ℕ, List, Option, None, ap, sym, subst, ◌∙◌}
use Rattle.std.specs.Prelude.{IfSome}
use Rattle.object_form.specs.Forms.{AreVersions}
use Rattle.script_text.specs.declared.commands.What.TheVariants as whats
use Rattle.report_text.specs.declared.report.Answer.TheVariants as answers
use Rattle.region_fold.specs.declared.transactions.Tx.{Tx}
use Rattle.run_script.specs.declared.serving.opened.Opened.{Opened}
use Rattle.run_script.specs.declared.serving.opened.Opened.TheVariants as opened
use Rattle.run_script.specs.Opened.{IsOpenedOf, kind_opened, tx_kind}
use Rattle.run_script.specs.Serving.{GivesTo}
use Rattle.run_script.proofs.FewShown.{points_few, shows_few_ruled}
use Rattle.run_script.proofs.GivingReads.{gives_commit, gives_uncommitted}
use Rattle.run_script.proofs.PartsKept.{tx_players_later}
use Rattle.run_script.proofs.serving.reads.commit.Goals as goal

pub returns-in_default-with_capacity-clause-gives : goal.returns-in_default-with_capacity-clause-gives
returns-in_default-with_capacity-clause-gives g c =
    subst (λ (x : Opened). GivesTo c.args.store.now c.args.client.now c.args.client.now x
    (opened.Tx c.in-Tx.players c.in-Tx.map c.replace-tx.new.dest) (λ object. whats.Commit object c.args.pairs) answers.NoMemory)
    (sym c.in-Tx.is)
    (subst (λ (o : Option Tx). GivesTo c.args.store.now c.args.client.now c.args.client.now
    (opened.Tx c.in-Tx.players c.in-Tx.map c.in-Tx.found) (opened.Tx c.in-Tx.players c.in-Tx.map o) (λ object. whats.Commit object c.args.pairs)
    answers.NoMemory) (sym c.replace-tx.ensures.after)
    (gives_uncommitted c.args.store.now c.args.client.now c.requires.client c.in-Tx.players c.in-Tx.map c.in-Tx.map c.in-Tx.found
    c.args.pairs))

pub returns-in_default-room_for-clause-gives : goal.returns-in_default-room_for-clause-gives
returns-in_default-room_for-clause-gives g c =
    subst (λ (x : Opened). GivesTo c.args.store.now c.args.client.now c.args.client.now x
    (opened.Tx c.in-Tx.players c.in-Tx.map c.replace-tx.new.dest) (λ object. whats.Commit object c.args.pairs) answers.NoMemory)
    (sym c.in-Tx.is)
    (subst (λ (o : Option Tx). GivesTo c.args.store.now c.args.client.now c.args.client.now
    (opened.Tx c.in-Tx.players c.in-Tx.map c.in-Tx.found) (opened.Tx c.in-Tx.players c.in-Tx.map o) (λ object. whats.Commit object c.args.pairs)
    answers.NoMemory) (sym c.replace-tx.ensures.after)
    (gives_uncommitted c.args.store.now c.args.client.now c.requires.client c.in-Tx.players c.in-Tx.map c.in-Tx.map c.in-Tx.found
    c.args.pairs))

pub most_points-requires-clause-found : goal.most_points-requires-clause-found
most_points-requires-clause-found g c =
    subst (λ (o : Option Tx). IfSome o (λ (t : Tx). AreVersions t.versions)) (sym c.replace-tx.ensures.value)
    (subst (IsOpenedOf c.args.client.now) c.in-Tx.is c.requires.kept).1

pub told_shown-requires-clause-points : goal.told_shown-requires-clause-points
told_shown-requires-clause-points g c =
    points_few c.in-Tx.map.colours c.commit-commit.result c.replace-tx.result c.args.pairs _ _ c.most_points.ensures
    c.in-Ok.ensures.capacity c.commit-commit.ensures.points

pub told_shown-requires-clause-few : goal.told_shown-requires-clause-few
told_shown-requires-clause-few g c =
    let e = c.commit-commit.ensures in
    shows_few_ruled c.in-Tx.map.colours c.in-Ok-room_for.room c.commit-commit.result _ c.colour_count.ensures
    c.in-Ok-room_for.ensures.places e.raises e.syncs

pub returns-in_default-with_capacity-clause-stays : goal.returns-in_default-with_capacity-clause-stays
returns-in_default-with_capacity-clause-stays g c =
    let kept = subst (IsOpenedOf c.args.client.now) c.in-Tx.is c.requires.kept in (
      ap kind_opened (sym c.in-Tx.is),
      (
        kept.0,
        subst (λ (o : Option Tx). IfSome o (λ (t : Tx). AreVersions t.versions)) (sym c.replace-tx.ensures.after) tt,
        kept.2,
      ),
    )

pub returns-in_default-room_for-clause-stays : goal.returns-in_default-room_for-clause-stays
returns-in_default-room_for-clause-stays g c =
    let kept = subst (IsOpenedOf c.args.client.now) c.in-Tx.is c.requires.kept in (
      ap kind_opened (sym c.in-Tx.is),
      (
        kept.0,
        subst (λ (o : Option Tx). IfSome o (λ (t : Tx). AreVersions t.versions)) (sym c.replace-tx.ensures.after) tt,
        kept.2,
      ),
    )

pub returns-clause-stays : goal.returns-clause-stays
returns-clause-stays g c =
    let e = c.commit-commit.ensures in (
      ap (λ (home : ℕ). tx_kind c.in-Tx.players home c.commit-commit.new.self.colours) e.same.0
          ∙ (ap (λ (colours : List ℕ). tx_kind c.in-Tx.players c.in-Tx.map.home colours) e.same.1 ∙ ap kind_opened (sym c.in-Tx.is)),
      (
        e.map,
        subst (λ (o : Option Tx). IfSome o (λ (t : Tx). AreVersions t.versions)) (sym c.replace-tx.ensures.after) tt,
        tx_players_later c.reads_go_on.ensures c.args.store.now c.args.client.now c.commit-commit.new.client c.in-Tx.map
            c.commit-commit.new.self c.in-Tx.players c.requires.client e.client e.same
            (subst (IsOpenedOf c.args.client.now) c.in-Tx.is c.requires.kept).2,
      ),
    )

pub returns-clause-gives : goal.returns-clause-gives
returns-clause-gives g c =
    let e = c.commit-commit.ensures in
    subst (λ (x : Opened). GivesTo c.args.store.now c.args.client.now c.commit-commit.new.client x
    (opened.Tx c.in-Tx.players c.commit-commit.new.self c.replace-tx.new.dest) (λ object. whats.Commit object c.args.pairs) c.told_shown.result)
    (sym c.in-Tx.is)
    (subst (λ (o : Option Tx). GivesTo c.args.store.now c.args.client.now c.commit-commit.new.client
    (opened.Tx c.in-Tx.players c.in-Tx.map c.in-Tx.found) (opened.Tx c.in-Tx.players c.commit-commit.new.self o)
    (λ object. whats.Commit object c.args.pairs) c.told_shown.result) (sym c.replace-tx.ensures.after)
    (subst (λ (o : Option Tx). GivesTo c.args.store.now c.args.client.now c.commit-commit.new.client
    (opened.Tx c.in-Tx.players c.in-Tx.map o) (opened.Tx c.in-Tx.players c.commit-commit.new.self None)
    (λ object. whats.Commit object c.args.pairs) c.told_shown.result) c.replace-tx.ensures.value
    (gives_commit c.args.store.now c.args.client.now c.commit-commit.new.client e.client c.told_shown.result c.in-Tx.players c.in-Tx.map
    c.commit-commit.new.self c.replace-tx.result c.args.pairs c.commit-commit.result c.told_shown.ensures e.away e.ok e.err)))
