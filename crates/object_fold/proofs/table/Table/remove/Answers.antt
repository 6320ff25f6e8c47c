use Rattle.std.proofs.Common.{None}
use Rattle.object_fold.proofs.TableLemmas.{value_set}
use Rattle.object_fold.proofs.table.Table.remove.Goals as goal

pub returns-clause-values : goal.returns-clause-values
returns-clause-values g c = λ other.
    rw (← c.self.view_is)
    (value_set c.self.inside.entries.entries c.swap_remove-value.new.self.entries c.args.key.now other None
    (c.swap_remove-value.ensures.updates.0 other))
