-- What a subject of a walk has looked up.
use Rattle.std.specs.Prelude.{◌≡◌, ℕ, ◌<◌, List, [], length, Option, Some, None, slice_get}
use Rattle.col_core.specs.declared.Entry.{Entry}
use Rattle.script_text.specs.declared.script.Script.{Script}
use Rattle.report_text.specs.declared.report.Report.{Report}
use Rattle.report_text.specs.declared.report.ColumnReport.{ColumnReport}
use Rattle.run_rules.specs.Telling.{is_among, journal_among, places_shown}
use Rattle.column_track.specs.Tracks.{Tracked}
use Rattle.walk_law.specs.declared.column_places.ColumnPlaces.{ColumnPlaces}
use Rattle.walk_law.specs.declared.printed.Printed.{Printed}
use Rattle.walk_law.specs.declared.row_places.RowPlaces.{RowPlaces}
use Rattle.walk_law.specs.PlaceTables.{AreOfClients, AreOfMakers, AreSteps, is_printed}
use Rattle.walk_law.specs.RowPlaces.{AreRowPlaces}
use Rattle.walk_law.specs.Walking.{MayWalk}

-- the places of own events of a journal, by client, and of the own steps of each id
pub record ArePlacesOf (clients : ℕ) (journal : List Entry) (places : ColumnPlaces) : Type 0 where
  pub own : AreOfMakers clients journal places.own
  pub steps : AreSteps journal places.steps

-- those of each column, in their order
pub record AreAllPlaces (clients : ℕ) (columns : List ColumnReport) (places : List ColumnPlaces) : Type 0 where
  pub many : length places ≡ length columns
  pub each : (n : ℕ) (c : ColumnReport) (p : ColumnPlaces) → slice_get columns n ≡ Some c → slice_get places n ≡ Some p
      → ArePlacesOf clients c.journal p

-- the column stands at the place; or it is none of the shape, and no column has these numbers
abbrev pub AtColumn : Script → Report → ℕ → ℕ → Option ℕ → Type 0
AtColumn script report region colour None = journal_among report.columns region colour ≡ []
AtColumn script report region colour (Some place) =
    (c : ColumnReport) × (slice_get report.columns place ≡ Some c) × (c.journal ≡ journal_among report.columns region colour)

-- what replies to the script's clients print
abbrev pub ArePrints : Script → Report → Printed → Type 0
ArePrints script report table = (client : ℕ) → client < length script.shape.homes → (region colour place : ℕ)
    → is_printed table client region colour place ≡ is_among place (places_shown script report client region colour)

-- what is kept true of what is looked up
pub record IsSubject (script : Script) (report : Report) (tracks : List Tracked) (commands : List (List ℕ))
    (places : List ColumnPlaces) (printed : Printed) (rows : RowPlaces) : Type 0 where
  pub may : MayWalk script report tracks
  pub commands_are : AreOfClients (length script.shape.homes) script.commands commands
  pub places_are : AreAllPlaces (length script.shape.homes) report.columns places
  pub printed_are : ArePrints script report printed
  pub rows_are : AreRowPlaces report.rows rows
