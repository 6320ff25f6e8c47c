use Rattle.std.proofs.Common.{◌≡◌, List, rules, subst}
use Rattle.column_track.specs.Tracks.{Tells}
use Rattle.object_law.specs.AnswerPlays.{IsAt}
use Rattle.object_law.specs.declared.queue_plays.QueuePlay.{QueuePlay}
use Rattle.object_law.proofs.AtPlaces.{at_none, at_told}
use Rattle.object_law.proofs.queue_plays.QueuePlays.is_at.Goals as goal

pub returns-in-Some : goal.returns-in-Some
returns-in-Some c =
    let so = λ (p : QueuePlay). (p.region ≡ c.args.id.region) × (p.colour ≡ c.args.id.colour) in
    let same : c.deref.result.now ≡ c.args.self.now.plays.items = search rules in
    subst (λ (l : List QueuePlay). Tells c.is_of.result (IsAt so l c.args.place)) same
    (at_told so c.deref.result.now c.args.place c.in-Some.play.now c.in-Some.ensures.lookup.3.0
    (c.in-Some.ensures.lookup.3.1 _) c.is_of.result c.is_of.ensures)

pub returns-in-None : goal.returns-in-None
returns-in-None c =
    let so = λ (p : QueuePlay). (p.region ≡ c.args.id.region) × (p.colour ≡ c.args.id.colour) in
    let same : c.deref.result.now ≡ c.args.self.now.plays.items = search rules in
    subst (λ (l : List QueuePlay). IsAt so l c.args.place → ⊥) same
    (at_none so c.deref.result.now c.args.place c.in-None.ensures.lookup.3)
