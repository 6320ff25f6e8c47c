use Rattle.column.proofs.Helping.{begun_at}
use Rattle.column.proofs.waits.first_below.Goals as goal

pub returns-in-Some : goal.returns-in-Some
returns-in-Some c = begun_at c.args.key c.args.waiting.now c.in-Some.entry.now c.begun.result c.requires.rows
    c.in-Some.ensures c.begun.ensures
