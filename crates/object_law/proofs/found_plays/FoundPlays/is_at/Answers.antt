use Rattle.std.proofs.Common.{◌≡◌, List, rules, subst}
use Rattle.column_track.specs.Tracks.{Tells}
use Rattle.object_law.specs.AnswerPlays.{IsAt}
use Rattle.object_law.specs.declared.found_plays.FoundPlay.{FoundPlay}
use Rattle.object_law.proofs.AtPlaces.{at_none, at_told}
use Rattle.object_law.proofs.found_plays.FoundPlays.is_at.Goals as goal

pub returns-in-Some : goal.returns-in-Some
returns-in-Some c =
    let so = λ (p : FoundPlay). (p.order.region ≡ c.args.region) × (p.order.colours ≡ c.args.colours.now) in
    let same : c.deref.result.now ≡ c.args.self.now.plays.items = search rules in
    subst (λ (l : List FoundPlay). Tells c.is_of.result (IsAt so l c.args.place)) same
    (at_told so c.deref.result.now c.args.place c.in-Some.play.now c.in-Some.ensures.lookup.3.0
    (c.in-Some.ensures.lookup.3.1 _) c.is_of.result c.is_of.ensures)

pub returns-in-None : goal.returns-in-None
returns-in-None c =
    let so = λ (p : FoundPlay). (p.order.region ≡ c.args.region) × (p.order.colours ≡ c.args.colours.now) in
    let same : c.deref.result.now ≡ c.args.self.now.plays.items = search rules in
    subst (λ (l : List FoundPlay). IsAt so l c.args.place → ⊥) same
    (at_none so c.deref.result.now c.args.place c.in-None.ensures.lookup.3)
