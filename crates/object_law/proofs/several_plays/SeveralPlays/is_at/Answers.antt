use Rattle.std.proofs.Common.{◌≡◌, List, rules, subst}
use Rattle.column_track.specs.Tracks.{Tells}
use Rattle.object_law.specs.AnswerPlays.{IsAt}
use Rattle.object_law.specs.declared.several_plays.SeveralPlay.{SeveralPlay}
use Rattle.object_law.proofs.AtPlaces.{at_none, at_told}
use Rattle.object_law.proofs.several_plays.SeveralPlays.is_at.Goals as goal

pub returns-in-Some : goal.returns-in-Some
returns-in-Some c =
    let so = λ (p : SeveralPlay). (p.own ≡ c.args.own.now) × (p.order.region ≡ c.args.region) × (p.order.colours ≡ c.args.colours.now) in
    let same : c.deref.result.now ≡ c.args.self.now.plays.items = search rules in
    subst (λ (l : List SeveralPlay). Tells c.is_of.result (IsAt so l c.args.place)) same
    (at_told so c.deref.result.now c.args.place c.in-Some.play.now c.in-Some.ensures.lookup.3.0
    (c.in-Some.ensures.lookup.3.1 _) c.is_of.result c.is_of.ensures)

pub returns-in-None : goal.returns-in-None
returns-in-None c =
    let so = λ (p : SeveralPlay). (p.own ≡ c.args.own.now) × (p.order.region ≡ c.args.region) × (p.order.colours ≡ c.args.colours.now) in
    let same : c.deref.result.now ≡ c.args.self.now.plays.items = search rules in
    subst (λ (l : List SeveralPlay). IsAt so l c.args.place → ⊥) same
    (at_none so c.deref.result.now c.args.place c.in-None.ensures.lookup.3)
