use Rattle.std.proofs.Common.{◌∙◌, subst, sym}
use Rattle.walk_law.specs.RowsBeside.{HasRow}
use Rattle.walk_law.proofs.TableLemmas.{found}
use Rattle.walk_law.proofs.row_table.RowTable.place.Goals as goal

pub returns : goal.returns
returns c =
    subst (HasRow c.args.rows.now c.args.id) (sym (c.copied.ensures ∙ c.get.ensures.value ∙ found c.args.id c.args.self.now.by_id.entries))
    (c.requires.each c.args.id)
