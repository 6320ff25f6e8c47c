use Rattle.std.proofs.Common.{◌+◌, subst, sym, take}
use Rattle.walk_law.specs.Seventh.{AreOpenTables}
use Rattle.walk_law.proofs.SeventhLemmas.{tables_more}
use Rattle.walk_law.proofs.seventh.open_tables.Goals as goal

pub loop-column-preserved : goal.loop-column-preserved
loop-column-preserved c =
    subst (AreOpenTables (take (c.loop-column.column-index + 1) c.args.columns.now)) (sym c.in_ok-push.ensures.items)
    (tables_more c.args.columns.now c.loop-column.column-index c.loop-column.tables.items c.column-item.result _ c.loop-column-test.true
    c.column-item.is c.in_ok-open_in.ensures c.loop-column.invariant)
