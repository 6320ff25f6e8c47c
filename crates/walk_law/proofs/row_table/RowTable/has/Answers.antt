use Rattle.std.proofs.Common.{◌∙◌, ap}
use Rattle.std.specs.Prelude.{is_some}
use Rattle.walk_law.proofs.TableLemmas.{found}
use Rattle.walk_law.proofs.row_table.RowTable.has.Goals as goal

pub returns : goal.returns
returns c =
    c.is_some.ensures ∙ ap is_some (c.copied.ensures ∙ c.get.ensures.value ∙ found c.args.id c.args.self.now.by_id.entries)
