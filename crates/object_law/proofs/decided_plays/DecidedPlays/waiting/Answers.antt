use Rattle.std.proofs.Common.{subst, sym, take}
use Rattle.std.specs.List.{All}
use Rattle.log_node.specs.Vectors.{at}
use Rattle.col_core.specs.History.{line}
use Rattle.object_law.specs.Decided.{StandsDecided}
use Rattle.object_law.specs.declared.part_plays.Shard.{Shard}
use Rattle.walk_law.specs.Finds.{decision_at}
use Rattle.walk_law.specs.Walking.{journal_walked}
use Rattle.object_law.proofs.decided_plays.DecidedPlays.waiting.Goals as goal

pub waiting-requires-clause-stand : goal.waiting-requires-clause-stand
waiting-requires-clause-stand c =
    subst (λ (s : Shard). All (StandsDecided c.args.subject.now (decision_at c.args.decisions.now))
    (take (at c.args.sync.now.counts s.region) (line (journal_walked c.args.subject.now s.region s.colour))))
    (sym c.part_of-play.ensures.shard) c.requires.stand
