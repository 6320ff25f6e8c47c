use Rattle.std.proofs.Common.{◌∙◌, ap}
use Rattle.std.specs.Prelude.{is_none}
use Rattle.walk_law.proofs.TableLemmas.{found, none_is, one_more}
use Rattle.walk_law.proofs.row_table.RowTable.add.Goals as goal

pub returns-clause-fresh : goal.returns-clause-fresh
returns-clause-fresh c =
    none_is c.in_ok-insert.field-0 c.is_none.result c.is_none.ensures
    ∙ ap is_none (c.in_ok-insert.ensures.old ∙ found c.args.id c.args.self.now.by_id.entries)

pub returns-clause-added : goal.returns-clause-added
returns-clause-added c = one_more c.args.self.now (record { by_id = c.insert.new.self }) c.args.id c.args.place c.in_ok-insert.ensures.updates.0
