use Rattle.std.proofs.Common.{◌≡◌, ◌∙◌, ◌<◌, List, ℕ, ap, length, rules, subst, sym}
use Rattle.std.specs.List.{All}
use Rattle.std.proofs.lemmas.List.Elements.{All-push}
use Rattle.object_law.specs.AnswerPlays.{IsAt}
use Rattle.object_law.specs.ObjectAnswers.{IsTxPlay}
use Rattle.object_law.specs.declared.key_order.KeyOrder.{KeyOrder}
use Rattle.object_law.specs.declared.tx_plays.TxPlay.{TxPlay}
use Rattle.object_law.proofs.AtPlaces.{at_end}
use Rattle.object_law.proofs.tx_plays.TxPlays.add.Goals as goal

pub of-requires-clause-colours : goal.of-requires-clause-colours
of-requires-clause-colours c =
    subst (All (λ (colour : ℕ). colour < c.args.subject.now.script.shape.colours)) (sym c.in_ok-copied.ensures) c.requires.colours

pub returns-clause-at : goal.returns-clause-at
returns-clause-at c =
    let so = λ (p : TxPlay). (p.order.region ≡ c.args.region) × (p.order.colours ≡ c.args.colours.now) in
    let many : c.len-place.result ≡ length c.args.self.now.plays.items = search rules in
    subst (IsAt so c.push.new.self.items) (sym many)
    (at_end so c.args.self.now.plays.items c.push.new.self.items c.new.result c.in_ok-push.ensures.items (
      ap (λ (o : KeyOrder). o.region) c.new.ensures.order ∙ c.in_ok-order.ensures.region,
      ap (λ (o : KeyOrder). o.colours) c.new.ensures.order ∙ (c.in_ok-order.ensures.colours ∙ c.in_ok-copied.ensures),
    ))

pub returns-clause-plays : goal.returns-clause-plays
returns-clause-plays c = λ table all.
    let is = IsTxPlay c.args.subject.now table in
    subst (λ (plays : List TxPlay). All is plays) (sym c.in_ok-push.ensures.items)
    (All-push is c.args.self.now.plays.items c.new.result all (c.new.ensures.holds table))
