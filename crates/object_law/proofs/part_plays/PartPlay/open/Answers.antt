use Rattle.std.proofs.Common.{◌∙◌}
use Rattle.col_core.specs.History.{line}
use Rattle.walk_law.specs.Walking.{journal_walked}
use Rattle.object_law.proofs.part_plays.PartPlay.open.Goals as goal

pub returns-clause-holds : goal.returns-clause-holds
returns-clause-holds c = λ table. record {
  holds = c.of.ensures.holds table (line (journal_walked c.args.subject.now c.args.shard.region c.args.shard.colour));
  part = c.of.ensures.opened ∙ c.open.ensures.part;
}
