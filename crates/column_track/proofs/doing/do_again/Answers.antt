use Rattle.std.proofs.Common.{subst}
use Rattle.col_core.specs.Computed.{dated}
use Rattle.col_core.specs.Legal.{IsColumnHistory}
use Rattle.column.specs.Columns.{ColumnState}
use Rattle.column_track.specs.Doing.{GoesThrough, MaybePlaces}
use Rattle.column_track.proofs.TrackLemmas.{lawful_once}
use Rattle.column_track.proofs.doing.do_again.Goals as goal

pub returns-in_default : goal.returns-in_default
returns-in_default c = λ lawful.
    subst (MaybePlaces c.args.journal.now) c.in_default.is c.in_ok-places.ensures
    (lawful_once c.args.region c.args.shape.now.regions c.args.journal.now lawful)

pub returns-then-not-branch : goal.returns-then-not-branch
returns-then-not-branch c =
    subst (λ (s : ColumnState). IsColumnHistory s.region s.regions (dated s.region c.args.journal.now) → ⊥) c.in_ok-column.ensures
    (subst (GoesThrough c.in_ok-column.column c.entries_again.new.column c.args.journal.now c.entries_again.new.marks.items)
    c.if-not-branch.true c.in_ok-entries_again.ensures)
