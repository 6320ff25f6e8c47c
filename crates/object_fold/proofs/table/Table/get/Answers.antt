use Rattle.std.proofs.Common.{sym, ◌∙◌}
use Rattle.object_fold.proofs.TableLemmas.{value_found}
use Rattle.object_fold.proofs.table.Table.get.Goals as goal

pub returns : goal.returns
returns g c =
    rw (← c.self.view_is) (c.get.ensures.value ∙ sym (value_found c.self.inside.entries.entries c.args.key.now))
