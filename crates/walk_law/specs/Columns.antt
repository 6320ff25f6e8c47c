-- The columns of a report with their tracks, by region and then colour, and what regions hold of one another's chains.
use Rattle.std.specs.Prelude.{◌≡◌, ◌≢◌, ℕ, ◌+◌, ◌*◌, ◌<◌, List, map, slice_get}
use Rattle.col_core.specs.declared.Entry.{Entry}
use Rattle.col_core.specs.Computed.{dated}
use Rattle.col_core.specs.Copies.{IsTrueCopy}
use Rattle.report_text.specs.declared.report.ColumnReport.{ColumnReport}
use Rattle.lawful_run.specs.Columns.{column_numbers}
use Rattle.column_track.specs.Tracks.{Tracked}
use Rattle.walk_law.specs.Journals.{track_shown}
use Rattle.walk_law.specs.RowsBeside.{history_or}

-- the columns are all there, in order
abbrev pub AreAllColumns : ℕ → ℕ → List ColumnReport → Type 0
AreAllColumns regions colours columns =
    map (λ (c : ColumnReport). (c.region, c.colour)) columns ≡ column_numbers regions colours

-- and each has its track
pub record AreTracked (regions colours : ℕ) (columns : List ColumnReport) (tracks : List Tracked) : Type 0 where
  pub numbers : AreAllColumns regions colours columns
  pub tracks_are : tracks ≡ map (track_shown regions) columns

-- the journal at a column's place
abbrev pub journal_at : ℕ → List ColumnReport → ℕ → ℕ → List Entry
journal_at colours columns region colour = history_or (slice_get columns (region * colours + colour))

-- what one region holds of another's chain is a true copy
abbrev pub IsCopyAt : ℕ → List ColumnReport → ℕ → ℕ → ℕ → Type 0
IsCopyAt colours columns colour origin copier = origin ≢ copier
    → IsTrueCopy origin copier (dated origin (journal_at colours columns origin colour))
    (dated copier (journal_at colours columns copier colour))

-- and so for all regions that hold something of one
abbrev pub AreCopiesOf : ℕ → ℕ → List ColumnReport → ℕ → ℕ → Type 0
AreCopiesOf regions colours columns colour origin = (copier : ℕ) → copier < regions → IsCopyAt colours columns colour origin copier

-- for all regions
abbrev pub AreCopiesIn : ℕ → ℕ → List ColumnReport → ℕ → Type 0
AreCopiesIn regions colours columns colour = (origin : ℕ) → origin < regions → AreCopiesOf regions colours columns colour origin

-- and for all colours
abbrev pub AreCopies : ℕ → ℕ → List ColumnReport → Type 0
AreCopies regions colours columns = (colour : ℕ) → colour < colours → AreCopiesIn regions colours columns colour
