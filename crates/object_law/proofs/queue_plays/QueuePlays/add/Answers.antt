use Rattle.std.proofs.Common.{◌≡◌, List, length, rules, subst, sym}
use Rattle.std.specs.List.{All}
use Rattle.std.proofs.lemmas.List.Elements.{All-push}
use Rattle.object_law.specs.AnswerPlays.{IsAt}
use Rattle.object_law.specs.ObjectAnswers.{IsQueuePlay}
use Rattle.object_law.specs.declared.queue_plays.QueuePlay.{QueuePlay}
use Rattle.object_law.proofs.AtPlaces.{at_end}
use Rattle.object_law.proofs.queue_plays.QueuePlays.add.Goals as goal

pub returns-clause-at : goal.returns-clause-at
returns-clause-at c =
    let so = λ (p : QueuePlay). (p.region ≡ c.args.id.region) × (p.colour ≡ c.args.id.colour) in
    let many : c.len-place.result ≡ length c.args.self.now.plays.items = search rules in
    subst (IsAt so c.push.new.self.items) (sym many)
    (at_end so c.args.self.now.plays.items c.push.new.self.items c.new-play.result c.in_ok-push.ensures.items
    (c.new-play.ensures.region, c.new-play.ensures.colour))

pub returns-clause-plays : goal.returns-clause-plays
returns-clause-plays c = λ table all.
    let is = IsQueuePlay c.args.subject.now table in
    subst (λ (plays : List QueuePlay). All is plays) (sym c.in_ok-push.ensures.items)
    (All-push is c.args.self.now.plays.items c.new-play.result all (c.new-play.ensures.holds table))
