use Rattle.std.proofs.Common.{◌≡◌, ◌∙◌, ◌<◌, List, ℕ, ap, length, rules, subst, sym}
use Rattle.std.specs.List.{All}
use Rattle.std.proofs.lemmas.List.Elements.{All-push}
use Rattle.object_law.specs.AnswerPlays.{IsAt, IsTxRuling}
use Rattle.object_law.specs.declared.key_order.KeyOrder.{KeyOrder}
use Rattle.object_law.specs.declared.tx_told.TxRuling.{TxRuling}
use Rattle.object_law.proofs.AtPlaces.{at_end}
use Rattle.object_law.proofs.tx_told.TxRulings.add.Goals as goal

pub of-requires-clause-colours : goal.of-requires-clause-colours
of-requires-clause-colours c =
    subst (All (λ (colour : ℕ). colour < c.args.subject.now.script.shape.colours)) (sym c.in_ok-copied.ensures) c.requires.colours

pub returns-clause-at : goal.returns-clause-at
returns-clause-at c =
    let so = λ (p : TxRuling). (p.order.region ≡ c.args.region) × (p.order.colours ≡ c.args.colours.now) in
    let many : c.len-place.result ≡ length c.args.self.now.rulings.items = search rules in
    subst (IsAt so c.push.new.self.items) (sym many)
    (at_end so c.args.self.now.rulings.items c.push.new.self.items c.in_ok-open.field-0 c.in_ok-push.ensures.items (
      ap (λ (o : KeyOrder). o.region) c.in_ok-open.ensures.order ∙ c.in_ok-order.ensures.region,
      ap (λ (o : KeyOrder). o.colours) c.in_ok-open.ensures.order ∙ (c.in_ok-order.ensures.colours ∙ c.in_ok-copied.ensures),
    ))

pub returns-clause-rulings : goal.returns-clause-rulings
returns-clause-rulings c =
    let is = IsTxRuling c.args.subject.now c.args.nodes.now in
    subst (λ (rulings : List TxRuling). All is rulings) (sym c.in_ok-push.ensures.items)
    (All-push is c.args.self.now.rulings.items c.in_ok-open.field-0 c.requires.rulings c.in_ok-open.ensures.holds)
