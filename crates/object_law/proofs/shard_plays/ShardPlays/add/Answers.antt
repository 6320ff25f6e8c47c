use Rattle.std.proofs.Common.{List, subst, sym}
use Rattle.std.specs.List.{All}
use Rattle.std.proofs.lemmas.List.Elements.{All-push}
use Rattle.object_law.specs.ObjectAnswers.{IsShardPlay}
use Rattle.object_law.specs.declared.shard_plays.ShardPlay.{ShardPlay}
use Rattle.object_law.proofs.shard_plays.ShardPlays.add.Goals as goal

pub returns-clause-plays : goal.returns-clause-plays
returns-clause-plays c = λ table all.
    let is = IsShardPlay c.args.subject.now table in
    subst (λ (plays : List ShardPlay). All is plays) (sym c.in_ok-push.ensures.items)
    (All-push is c.args.self.now.plays.items c.in_ok-play.play all (c.in_ok-play.ensures.holds table))
