use Rattle.std.proofs.Common.{ℕ, List, Option, Some, ap, sym, subst, ◌∙◌}
use Rattle.script_text.specs.declared.script.Kind.TheVariants as kinds
use Rattle.script_text.specs.declared.commands.What.TheVariants as whats
use Rattle.region_fold.proofs.CallerLemmas.{map_later}
use Rattle.tx_parts.specs.declared.players.PartPlayers.{PartPlayers}
use Rattle.run_script.specs.declared.serving.opened.Opened.{Opened}
use Rattle.run_script.specs.declared.serving.opened.Opened.TheVariants as opened
use Rattle.run_script.specs.Opened.{IsOpenedOf, kind_opened}
use Rattle.run_script.specs.Serving.{GivesTo}
use Rattle.run_script.proofs.GivingParts.{gives_peek}
use Rattle.run_script.proofs.serving.parts.peek.Goals as goal

pub peek-peek-requires-clause-players : goal.peek-peek-requires-clause-players
peek-peek-requires-clause-players g c κs within =
    (subst (IsOpenedOf c.args.client.now) (c.in-Tx-Some-default-default.is ∙ ap (λ (p : Option PartPlayers). opened.Tx p c.in-Tx-Some-default-default.map c.in-Tx-Some-default-default.found) c.in-Tx-Some-default-default.players-is) c.requires.kept).2.0

pub returns-clause-stays : goal.returns-clause-stays
returns-clause-stays g c =
    let kept = subst (IsOpenedOf c.args.client.now) (c.in-Tx-Some-default-default.is ∙ ap (λ (p : Option PartPlayers). opened.Tx p c.in-Tx-Some-default-default.map c.in-Tx-Some-default-default.found) c.in-Tx-Some-default-default.players-is) c.requires.kept in
    let e = c.peek-peek.ensures in (
      ap kind_opened (sym (c.in-Tx-Some-default-default.is ∙ ap (λ (p : Option PartPlayers). opened.Tx p c.in-Tx-Some-default-default.map c.in-Tx-Some-default-default.found) c.in-Tx-Some-default-default.players-is)),
      (
        map_later c.reads_go_on.ensures c.args.store.now c.args.client.now c.peek-peek.new.client e.client c.in-Tx-Some-default-default.map
            c.requires.client kept.0,
        kept.1,
        (e.players, e.same.0 ∙ kept.2.1, e.same.1 ∙ kept.2.2),
      ),
    )

pub returns-clause-gives : goal.returns-clause-gives
returns-clause-gives g c =
    let kept = subst (IsOpenedOf c.args.client.now) (c.in-Tx-Some-default-default.is ∙ ap (λ (p : Option PartPlayers). opened.Tx p c.in-Tx-Some-default-default.map c.in-Tx-Some-default-default.found) c.in-Tx-Some-default-default.players-is) c.requires.kept in
    let e = c.peek-peek.ensures in
    subst (λ (x : Opened). GivesTo c.args.store.now c.args.client.now c.peek-peek.new.client x
    (opened.Tx (Some c.peek-peek.new.self) c.in-Tx-Some-default-default.map c.in-Tx-Some-default-default.found) (λ object. whats.Peek object c.args.key) c.peeked.result)
    (sym (c.in-Tx-Some-default-default.is ∙ ap (λ (p : Option PartPlayers). opened.Tx p c.in-Tx-Some-default-default.map c.in-Tx-Some-default-default.found) c.in-Tx-Some-default-default.players-is))
    (gives_peek c.args.store.now c.args.client.now c.peek-peek.new.client e.client c.in-Tx-Some-default-default.map c.in-Tx-Some-default-default.players
    c.peek-peek.new.self c.in-Tx-Some-default-default.found kept.2 c.args.key c.peek-peek.result c.peeked.result c.peeked.ensures e.idle e.away e.ok
    e.err)
