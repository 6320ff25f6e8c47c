use Rattle.col_core.specs.History.{line}
use Rattle.walk_law.specs.Walking.{journal_walked}
use Rattle.object_law.proofs.queue_plays.QueuePlay.new.Goals as goal

pub returns-clause-holds : goal.returns-clause-holds
returns-clause-holds c = λ table.
    c.of.ensures.holds table (line (journal_walked c.args.subject.now c.args.region c.args.colour))
