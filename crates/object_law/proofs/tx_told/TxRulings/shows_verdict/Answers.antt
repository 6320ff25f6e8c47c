use Rattle.std.proofs.Common.{◌∙◌, ap, sym, subst, ℕ, List}
use Rattle.std.proofs.lemmas.Option.{get_or_from_slice_get, slice_get_within}
use Rattle.column_track.specs.Tracks.{Tells}
use Rattle.lawful_run.specs.Explains.{ShowsVerdict}
use Rattle.object_law.specs.AnswerPlays.{IsTxRuling}
use Rattle.object_law.specs.Tenth.{stamped_nodes}
use Rattle.object_law.specs.declared.tx_told.TxRuling.{TxRuling}
use Rattle.object_law.proofs.tx_told.TxRulings.shows_verdict.Goals as goal

pub shows_verdict-requires : goal.shows_verdict-requires
shows_verdict-requires c =
    let at = c.in_ok-place.ensures.at in
    let place = c.in_ok-place.place in
    let items = c.place.new.self.rulings.items in
    subst (IsTxRuling c.args.subject.now c.args.nodes.now) (sym c.index.ensures)
    (c.in_ok-place.ensures.rulings place c.index.result.now (slice_get_within items place at.play at.there))

pub returns-clause-told : goal.returns-clause-told
returns-clause-told c =
    let walked = c.args.subject.now in
    let q = c.index.result.now in
    let at = c.in_ok-place.ensures.at in
    let is = c.index.ensures
    ∙ get_or_from_slice_get c.place.new.self.rulings.items c.in_ok-place.place at.play q at.there in
    let Told : ℕ → List ℕ → Type 0 = λ region colours. Tells c.shows_verdict.result (ShowsVerdict c.args.conflict.now c.args.stamp c.args.own
    (stamped_nodes walked c.args.nodes.now region colours c.args.read_stamp)) in
    subst (λ (region : ℕ). Told region c.args.colours.now) (ap (λ (p : TxRuling). p.order.region) is ∙ at.is.0)
    (subst (λ (colours : List ℕ). Told q.order.region colours) (ap (λ (p : TxRuling). p.order.colours) is ∙ at.is.1)
    c.shows_verdict.ensures)
