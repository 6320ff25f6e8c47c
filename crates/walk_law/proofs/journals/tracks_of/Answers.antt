use Rattle.std.proofs.Common.{◌≡◌, ◌<◌, get_or, length, refl, subst, List}
use Rattle.std.proofs.lemmas.Option.{slice_get_read}
use Rattle.col_core.proofs.CallerLemmas.{slice_in}
use Rattle.report_text.specs.declared.report.ColumnReport.{ColumnReport}
use Rattle.walk_law.specs.Journals.{IsTrackOf}
use Rattle.walk_law.proofs.ColumnPlaces.{column_within}
use Rattle.walk_law.proofs.ClosingLemmas.{tracks_more}
use Rattle.walk_law.proofs.journals.tracks_of.Goals as goal

pub track_of-requires-clause-region : goal.track_of-requires-clause-region
track_of-requires-clause-region c =
    let column = c.column-item.result in
    let columns = c.args.report.now.columns in
    let at = c.loop-column.column-index in
    let lt = subst (λ (l : List ColumnReport). at < length l) c.as_slice-column-items.ensures c.loop-column-test.true in
    let is = subst (λ (l : List ColumnReport). column ≡ get_or l at column) c.as_slice-column-items.ensures c.column-item.is in
    (column_within c.args.script.now.shape.regions c.args.script.now.shape.colours columns c.requires.columns column
    (slice_in columns at column (slice_get_read columns (length columns) at column refl lt is))).0

pub loop-column-preserved : goal.loop-column-preserved
loop-column-preserved c =
    let column = c.column-item.result in
    let at = c.loop-column.column-index in
    tracks_more c.args.script.now c.args.report.now.columns at c.loop-column.tracks.items c.loop-column.invariant column c.in-Some.track
    c.push.new.self.items (subst (λ (l : List ColumnReport). at < length l) c.as_slice-column-items.ensures c.loop-column-test.true)
    (subst (λ (l : List ColumnReport). column ≡ get_or l at column) c.as_slice-column-items.ensures c.column-item.is)
    (subst (IsTrackOf c.args.script.now column) c.in-Some.is c.in_ok-track.ensures) c.in_ok-push.ensures.items
