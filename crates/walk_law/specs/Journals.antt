-- What the second rule leaves: a track for each column.
use Rattle.std.specs.Prelude.{◌≡◌, ℕ, ◌<◌, List, map, Option, Some, None}
use Rattle.std.specs.List.{All}
use Rattle.log_node.specs.Standings.{Standing}
use Rattle.col_core.specs.declared.Entry.{Entry}
use Rattle.script_text.specs.declared.script.Script.{Script}
use Rattle.report_text.specs.declared.report.QueueKey.{QueueKey}
use Rattle.report_text.specs.declared.report.ColumnReport.{ColumnReport}
use Rattle.report_text.specs.declared.report.Report.{Report}
use Rattle.column_track.specs.Tracks.{Tracked}
use Rattle.run_rules.specs.Rules.{IsLawfulColumn, Rule2}

-- the column is of one of the first so many regions
abbrev pub HasRegions : ℕ → ColumnReport → Type 0
HasRegions regions column = column.region < regions

-- what a closing line shows of an entry
abbrev pub standing_shown : QueueKey → Standing
standing_shown shown = record { key = shown.key; settled = shown.settled }

-- all events are of the first so many clients
abbrev pub AreMakers : ℕ → List Entry → Type 0
AreMakers clients journal = All (λ (e : Entry). e.by < clients) journal

-- the track of a column's journal
abbrev pub track_shown : ℕ → ColumnReport → Tracked
track_shown regions column = record { region = column.region; regions = regions; journal = column.journal }

-- the track of a lawful column; none where it is not lawful
abbrev pub IsTrackOf : Script → ColumnReport → Option Tracked → Type 0
IsTrackOf script column None = IsLawfulColumn script column → ⊥
IsTrackOf script column (Some track) =
    (track ≡ track_shown script.shape.regions column) × IsLawfulColumn script column

-- The tracks of all columns where they keep the second rule; none where they do not.
abbrev pub AreTracksOf : Script → Report → Option (List Tracked) → Type 0
AreTracksOf script report None = Rule2 script report → ⊥
AreTracksOf script report (Some tracks) =
    (tracks ≡ map (track_shown script.shape.regions) report.columns) × Rule2 script report
