use Rattle.std.proofs.Common.{ℕ, List, Option, Some, ap, sym, subst, ◌∙◌}
use Rattle.script_text.specs.declared.commands.What.TheVariants as whats
use Rattle.report_text.specs.declared.report.Answer.TheVariants as answers
use Rattle.object_fold.specs.Nodes.{shard_of}
use Rattle.region_fold.proofs.CallerLemmas.{map_later}
use Rattle.tx_parts.specs.declared.players.PartPlayers.{PartPlayers}
use Rattle.run_script.specs.declared.serving.opened.Opened.{Opened}
use Rattle.run_script.specs.declared.serving.opened.Opened.TheVariants as opened
use Rattle.run_script.specs.Opened.{IsOpenedOf, kind_opened}
use Rattle.run_script.specs.Serving.{GivesTo}
use Rattle.run_script.proofs.GivingParts.{decision_fits, gives_decide, gives_undecided, has_point}
use Rattle.run_script.proofs.serving.parts.decide.Goals as goal

pub returns-in_default-room_for-clause-gives : goal.returns-in_default-room_for-clause-gives
returns-in_default-room_for-clause-gives g c =
    subst (λ (x : Opened). GivesTo c.args.store.now c.args.client.now c.args.client.now c.args.opened.now x
    (λ object. whats.Decide object c.args.key) answers.NoMemory) (c.in-Tx-Some-default-default.is ∙ ap (λ (p : Option PartPlayers). opened.Tx p c.in-Tx-Some-default-default.map c.in-Tx-Some-default-default.found) c.in-Tx-Some-default-default.players-is)
    (gives_undecided c.args.store.now c.args.client.now c.requires.client c.args.opened.now c.args.key)

pub decide-decide-requires-clause-players : goal.decide-decide-requires-clause-players
decide-decide-requires-clause-players g c κs within =
    (subst (IsOpenedOf c.args.client.now) (c.in-Tx-Some-default-default.is ∙ ap (λ (p : Option PartPlayers). opened.Tx p c.in-Tx-Some-default-default.map c.in-Tx-Some-default-default.found) c.in-Tx-Some-default-default.players-is) c.requires.kept).2.0

pub decide_shown-requires-clause-few : goal.decide_shown-requires-clause-few
decide_shown-requires-clause-few g c =
    decision_fits c.in-Tx-Some-default-default.players.colours c.in-Ok.room _ c.decide-decide.result c.colour_count.ensures
    c.in-Ok.ensures.places c.decide-decide.ensures.shows

pub decide_shown-requires-clause-point : goal.decide_shown-requires-clause-point
decide_shown-requires-clause-point g c =
    has_point (shard_of c.in-Tx-Some-default-default.players.colours c.args.key) c.decide-decide.result c.decide-decide.ensures.stands

pub returns-clause-stays : goal.returns-clause-stays
returns-clause-stays g c =
    let kept = subst (IsOpenedOf c.args.client.now) (c.in-Tx-Some-default-default.is ∙ ap (λ (p : Option PartPlayers). opened.Tx p c.in-Tx-Some-default-default.map c.in-Tx-Some-default-default.found) c.in-Tx-Some-default-default.players-is) c.requires.kept in
    let e = c.decide-decide.ensures in (
      ap kind_opened (sym (c.in-Tx-Some-default-default.is ∙ ap (λ (p : Option PartPlayers). opened.Tx p c.in-Tx-Some-default-default.map c.in-Tx-Some-default-default.found) c.in-Tx-Some-default-default.players-is)),
      (
        map_later c.reads_go_on.ensures c.args.store.now c.args.client.now c.decide-decide.new.client e.client c.in-Tx-Some-default-default.map
            c.requires.client kept.0,
        kept.1,
        (e.players, e.same.0 ∙ kept.2.1, e.same.1 ∙ kept.2.2),
      ),
    )

pub returns-clause-gives : goal.returns-clause-gives
returns-clause-gives g c =
    let kept = subst (IsOpenedOf c.args.client.now) (c.in-Tx-Some-default-default.is ∙ ap (λ (p : Option PartPlayers). opened.Tx p c.in-Tx-Some-default-default.map c.in-Tx-Some-default-default.found) c.in-Tx-Some-default-default.players-is) c.requires.kept in
    let e = c.decide-decide.ensures in
    subst (λ (x : Opened). GivesTo c.args.store.now c.args.client.now c.decide-decide.new.client x
    (opened.Tx (Some c.decide-decide.new.self) c.in-Tx-Some-default-default.map c.in-Tx-Some-default-default.found) (λ object. whats.Decide object c.args.key)
    c.decide_shown.result) (sym (c.in-Tx-Some-default-default.is ∙ ap (λ (p : Option PartPlayers). opened.Tx p c.in-Tx-Some-default-default.map c.in-Tx-Some-default-default.found) c.in-Tx-Some-default-default.players-is))
    (gives_decide c.args.store.now c.args.client.now c.decide-decide.new.client e.client c.in-Tx-Some-default-default.map c.in-Tx-Some-default-default.players
    c.decide-decide.new.self c.in-Tx-Some-default-default.found kept.2 c.args.key c.decide-decide.result c.decide_shown.result
    c.decide_shown.ensures e.away e.ok e.err)
