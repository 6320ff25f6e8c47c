use Rattle.std.proofs.Common.{◌≡◌, ◌∙◌, List, ap, length, rules, subst, sym}
use Rattle.std.specs.List.{All}
use Rattle.std.proofs.lemmas.List.Elements.{All-push}
use Rattle.object_law.specs.AnswerPlays.{IsAt}
use Rattle.object_law.specs.Found.{IsFoundPlay}
use Rattle.object_law.specs.declared.found_plays.FoundPlay.{FoundPlay}
use Rattle.object_law.specs.declared.key_order.KeyOrder.{KeyOrder}
use Rattle.object_law.proofs.AtPlaces.{at_end}
use Rattle.object_law.proofs.found_plays.FoundPlays.add.Goals as goal

pub returns-clause-at : goal.returns-clause-at
returns-clause-at c =
    let so = λ (p : FoundPlay). (p.order.region ≡ c.args.region) × (p.order.colours ≡ c.args.colours) in
    let many : c.len-place.result ≡ length c.args.self.now.plays.items = search rules in
    subst (IsAt so c.push.new.self.items) (sym many)
    (at_end so c.args.self.now.plays.items c.push.new.self.items c.new.result c.in_ok-push.ensures.items (
      ap (λ (o : KeyOrder). o.region) c.new.ensures.order ∙ c.in_ok-order.ensures.region,
      ap (λ (o : KeyOrder). o.colours) c.new.ensures.order ∙ c.in_ok-order.ensures.colours,
    ))

pub returns-clause-plays : goal.returns-clause-plays
returns-clause-plays c =
    let is = IsFoundPlay c.args.subject.now in
    subst (λ (plays : List FoundPlay). All is plays) (sym c.in_ok-push.ensures.items)
    (All-push is c.args.self.now.plays.items c.new.result c.requires.plays c.new.ensures.play)
