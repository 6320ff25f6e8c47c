use Rattle.std.proofs.Common.{◌+◌, List, subst, sym, take}
use Rattle.col_core.specs.declared.Entry.{Entry}
use Rattle.walk_law.specs.Subjects.{AreAllPlaces, ArePlacesOf}
use Rattle.walk_law.proofs.SubjectLemmas.{column_more}
use Rattle.walk_law.proofs.column_places.places_of_columns.Goals as goal

pub loop-column-preserved : goal.loop-column-preserved
loop-column-preserved c =
    subst (AreAllPlaces c.args.clients (take (c.loop-column.column-index + 1) c.args.columns.now)) (sym c.in_ok-push.ensures.items)
    (column_more c.args.clients c.args.columns.now c.loop-column.column-index c.loop-column.places.items c.column-item.result _
    c.loop-column-test.true c.column-item.is
    (subst (λ (j : List Entry). ArePlacesOf c.args.clients j c.in_ok-of_journal.field-0) c.as_slice.ensures c.in_ok-of_journal.ensures)
    c.loop-column.invariant)
