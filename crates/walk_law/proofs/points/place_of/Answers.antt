use Rattle.std.proofs.Common.{List, subst}
use Rattle.col_core.specs.declared.Entry.{Entry}
use Rattle.col_core.specs.Computed.{dated}
use Rattle.col_core.specs.Legal.{IsColumnHistory}
use Rattle.column_track.specs.Tracks.{EntersAt}
use Rattle.walk_law.specs.Walking.{journal_walked}
use Rattle.walk_law.proofs.SixthLemmas.{enters_here, enters_nowhere}
use Rattle.walk_law.proofs.points.place_of.Goals as goal

pub returns-then-not-has_column : goal.returns-then-not-has_column
returns-then-not-has_column c =
    enters_nowhere (journal_walked c.args.subject.now c.args.region c.args.colour) c.args.id c.if-not-has_column.ensures

pub returns : goal.returns
returns c =
    let t = c.track-track.result.now in
    enters_here t.region t.regions (journal_walked c.args.subject.now c.args.region c.args.colour)
    (subst (λ (h : List Entry). IsColumnHistory t.region t.regions (dated t.region h)) c.track-track.ensures.journal c.agrees.ensures)
    c.args.id c.place.result
    (subst (λ (h : List Entry). EntersAt h c.args.id c.place.result) c.track-track.ensures.journal c.place.ensures)
