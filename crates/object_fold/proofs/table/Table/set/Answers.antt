use Rattle.std.proofs.Common.{Some}
use Rattle.object_fold.proofs.TableLemmas.{value_set}
use Rattle.object_fold.proofs.table.Table.set.Goals as goal

pub returns-clause-values : goal.returns-clause-values
returns-clause-values g c = λ other.
    rw (← c.self.view_is)
    (value_set c.self.inside.entries.entries c.insert.new.self.entries c.args.key other (Some c.args.value)
    (c.in-Ok.ensures.updates.0 other))
