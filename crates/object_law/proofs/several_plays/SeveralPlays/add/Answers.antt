use Rattle.std.proofs.Common.{◌≡◌, ◌∙◌, ◌<◌, List, ℕ, ap, length, rules, subst, sym}
use Rattle.std.specs.List.{All}
use Rattle.std.proofs.lemmas.List.Elements.{All-push}
use Rattle.script_text.specs.declared.script.Script.{Script}
use Rattle.object_law.specs.AnswerPlays.{IsAt}
use Rattle.object_law.specs.ObjectAnswers.{IsSeveralPlay, colours_used}
use Rattle.object_law.specs.declared.key_order.KeyOrder.{KeyOrder}
use Rattle.object_law.specs.declared.several_plays.SeveralPlay.{SeveralPlay}
use Rattle.object_law.proofs.AtPlaces.{at_end}
use Rattle.object_law.proofs.several_plays.SeveralPlays.add.Goals as goal

pub of-requires-clause-colours : goal.of-requires-clause-colours
of-requires-clause-colours c =
    subst (All (λ (colour : ℕ). colour < c.args.subject.now.script.shape.colours)) (sym c.in_ok-copied.ensures) c.requires.colours

pub returns-clause-at : goal.returns-clause-at
returns-clause-at c =
    let own = colours_used c.args.subject.now.script c.args.object in
    let so = λ (p : SeveralPlay). (p.own ≡ own) × (p.order.region ≡ c.args.region) × (p.order.colours ≡ c.args.colours.now) in
    let many : c.len-place.result ≡ length c.args.self.now.plays.items = search rules in
    subst (IsAt so c.push.new.self.items) (sym many)
    (at_end so c.args.self.now.plays.items c.push.new.self.items c.in_ok-new.field-0 c.in_ok-push.ensures.items (
      c.in_ok-new.ensures.own
          ∙ (c.in_ok-own.ensures
          ∙ (c.colours_used.ensures ∙ ap (λ (s : Script). colours_used s c.args.object) c.script.ensures)),
      ap (λ (o : KeyOrder). o.region) c.in_ok-new.ensures.order ∙ c.in_ok-order.ensures.region,
      ap (λ (o : KeyOrder). o.colours) c.in_ok-new.ensures.order ∙ (c.in_ok-order.ensures.colours ∙ c.in_ok-copied.ensures),
    ))

pub returns-clause-plays : goal.returns-clause-plays
returns-clause-plays c = λ table all.
    let is = IsSeveralPlay c.args.subject.now table in
    subst (λ (plays : List SeveralPlay). All is plays) (sym c.in_ok-push.ensures.items)
    (All-push is c.args.self.now.plays.items c.in_ok-new.field-0 all (c.in_ok-new.ensures.holds table))
