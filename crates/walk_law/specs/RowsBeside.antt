-- The rows of one region beside the journals of its columns.
use Rattle.std.specs.Prelude.{◌≡◌, ◌≢◌, Bool, false, ℕ, ◌+◌, ◌==◌, ◌<◌, ◌≤◌, List, [], ◌∷◌, length, map, Option, Some, None, slice_get, slice_index}
use Rattle.std.specs.List.{All, AllPairs, filter, find, range_with_len}
use Rattle.std.specs.Option.{option_map}
use Rattle.log_node.specs.declared.ids.Id.{Id}
use Rattle.log_node.specs.declared.marks.ColourMark.{ColourMark}
use Rattle.log_node.specs.Order.{same_id}
use Rattle.log_node.specs.Sets.{members, set_of}
use Rattle.col_core.specs.declared.Event.{Event}
use Rattle.col_core.specs.declared.Event.TheVariants.{Single, Propose, Settle, Raise, Give, Carry, Trim}
use Rattle.col_core.specs.declared.Entry.{Entry}
use Rattle.col_core.specs.Ids.{Proposes}
use Rattle.col_core.specs.Rows.{BegunRow, AreLawfulRows, FitsMarks, FitsRows, IsMarkOf}
use Rattle.script_text.specs.declared.script.Script.{Script}
use Rattle.report_text.specs.declared.report.ColumnReport.{ColumnReport}
use Rattle.report_text.specs.declared.report.RowReport.{RowReport}
use Rattle.lawful_run.specs.Columns.{IsClientIn}
use Rattle.column_track.specs.Tracks.{Tracked}
use Rattle.run_rules.specs.Telling.{floor_told, marked_colours, no_nodes, proposal_in, row_of}
use Rattle.walk_law.specs.declared.row_table.RowTable.{RowTable}

-- COLUMNS OF ONE REGION

-- the journal of a column, where there is one
abbrev pub history_or : Option ColumnReport → List Entry
history_or None = []
history_or (Some column) = column.journal

-- the journals of a region's columns, by colour
abbrev pub histories_in : List ColumnReport → ℕ → List Entry
histories_in columns colour = history_or (slice_get columns colour)

-- the tracks are those of the columns' journals
abbrev pub AreBeside : List ColumnReport → List Tracked → Type 0
AreBeside columns tracks =
    map (λ (t : Tracked). t.journal) tracks ≡ map (λ (c : ColumnReport). c.journal) columns

-- a proposal in the history is the first one of its id
abbrev pub ProposesFirst : List Entry → Event → Type 0
ProposesFirst history (Single id floor wants) = Unit {0}
ProposesFirst history (Propose id floor wants) = proposal_in id history ≡ Some (floor, wants)
ProposesFirst history (Settle id outcome) = Unit {0}
ProposesFirst history (Raise to) = Unit {0}
ProposesFirst history (Give region from) = Unit {0}
ProposesFirst history (Carry region start heads) = Unit {0}
ProposesFirst history (Trim counts) = Unit {0}

-- no event proposes the id
abbrev pub IsUnproposed : List Entry → Id → Type 0
IsUnproposed history id = (stamp : ℕ) → Proposes history id stamp → ⊥

-- ROWS OF ONE REGION

-- a row with what proposals tell of its node
abbrev pub bare_row : List ColumnReport → RowReport → BegunRow
bare_row columns r = row_of (λ (region : ℕ). histories_in columns) no_nodes r

-- the floor of its node
abbrev pub floor_beside : List ColumnReport → RowReport → ℕ
floor_beside columns r = floor_told r.id (histories_in columns) (marked_colours r.marks)

-- what is asked of a row by itself: it is of a client of the region, with an id of this one, and has marks of two colours
-- or more of those that there are, rising
pub record IsRowAlone (script : Script) (region : ℕ) (r : RowReport) : Type 0 where
  pub in_region : r.region ≡ region
  pub of_client : IsClientIn script region r.row.client
  pub own_id : r.id.client ≡ r.row.client
  pub several : 2 ≤ length r.marks
  pub below : All (λ (m : ColourMark). m.colour < script.shape.colours) r.marks
  pub rising : marked_colours r.marks ≡ members (set_of (marked_colours r.marks))

-- the marks' colours rise from a number on, and are below another one
abbrev pub RiseFrom : ℕ → ℕ → List ColourMark → Type 0
RiseFrom low colours [] = Unit {0}
RiseFrom low colours (m ∷ ms) = (low ≤ m.colour) × (m.colour < colours) × RiseFrom (m.colour + 1) colours ms

-- the row is of the client
abbrev pub is_by : ℕ → RowReport → Bool
is_by client r = r.row.client == client

-- the rows of a client
abbrev pub rows_by : ℕ → List RowReport → List RowReport
rows_by client rows = filter (is_by client) rows

-- each client's rows have the numbers 0, 1, 2 in their order
abbrev pub AreInOrder : List RowReport → Type 0
AreInOrder rows = (client : ℕ)
    → map (λ (r : RowReport). r.row.number) (rows_by client rows) ≡ range_with_len 0 (length (rows_by client rows))

-- so many rows of each client are there, in order
pub record AreCounted (clients : ℕ) (rows : List RowReport) (counts : List ℕ) : Type 0 where
  pub many : length counts ≡ clients
  pub each : (client : ℕ) → client < clients → slice_index counts client ≡ length (rows_by client rows)
  pub ordered : (client : ℕ) → client < clients
      → map (λ (r : RowReport). r.row.number) (rows_by client rows) ≡ range_with_len 0 (length (rows_by client rows))

-- no two rows have the same id
abbrev pub HaveOwnIds : List RowReport → Type 0
HaveOwnIds rows = AllPairs (λ (r s : RowReport). r.id ≢ s.id) rows

-- the place that is kept for an id
abbrev pub row_in : RowTable → Id → Option ℕ
row_in table id = option_map (λ e. e.1) (find (λ e. same_id e.0 id) table.by_id.entries)

-- the id is this one
abbrev pub is_same_as : Id → Option Id → Bool
is_same_as id None = false
is_same_as id (Some other) = same_id id other

-- a row with the id is at the place, or there is none
abbrev pub HasRow : List RowReport → Id → Option ℕ → Type 0
HasRow rows id None = All (λ (r : RowReport). r.id ≢ id) rows
HasRow rows id (Some place) = (r : RowReport) × (slice_get rows place ≡ Some r) × (r.id ≡ id)

-- each id has its place, and no two rows have the same
pub record AreRowsAt (rows : List RowReport) (table : RowTable) : Type 0 where
  pub each : (id : Id) → HasRow rows id (row_in table id)
  pub apart : HaveOwnIds rows

-- the places of all ids; or two rows have the same
abbrev pub MaybeRowsAt : List RowReport → Option RowTable → Type 0
MaybeRowsAt rows None = HaveOwnIds rows → ⊥
MaybeRowsAt rows (Some table) = AreRowsAt rows table

-- the row's marks are what the columns say
abbrev pub AreMarksOf : List ColumnReport → RowReport → Type 0
AreMarksOf columns r = All (λ (m : ColourMark). IsMarkOf (histories_in columns m.colour) (bare_row columns r).node m.mark) r.marks

-- and its outcome is what the marks say
abbrev pub HasOutcomeOf : RowReport → Type 0
HasOutcomeOf r = FitsMarks (map (λ (m : ColourMark). m.mark) r.marks) r.last

-- The rows of a region are lawful beside its columns, each is what it may be by itself.
pub record AreRowsBeside (script : Script) (region : ℕ) (columns : List ColumnReport) (rows : List RowReport) : Type 0 where
  pub alone : All (IsRowAlone script region) rows
  pub lawful : AreLawfulRows region script.shape.colours (histories_in columns) (map (bare_row columns) rows)

-- PARTS OF IT

-- the row's marks are of the first so many colours
abbrev pub HasMarksBelow : ℕ → RowReport → Type 0
HasMarksBelow colours r = All (λ (m : ColourMark). m.colour < colours) r.marks

-- there are some
abbrev pub HasMarks : RowReport → Type 0
HasMarks r = 0 < length r.marks

-- the row's marks rise
abbrev pub HasRising : RowReport → Type 0
HasRising r = marked_colours r.marks ≡ members (set_of (marked_colours r.marks))

-- its marks and its outcome are those of the columns
abbrev pub IsMarkedBeside : List ColumnReport → RowReport → Type 0
IsMarkedBeside columns r = AreMarksOf columns r × HasOutcomeOf r

-- a row is at the place, of which this is so
abbrev pub IsAtPlace : List RowReport → Option ℕ → (ℕ → RowReport → Type 0) → Type 0
IsAtPlace rows None P = ⊥
IsAtPlace rows (Some place) P = (r : RowReport) × (slice_get rows place ≡ Some r) × P place r

-- the rows are there that the events of the first so many colours ask for
abbrev pub FitRows : ℕ → List ColumnReport → List RowReport → Type 0
FitRows colours columns rows = (colour : ℕ) → colour < colours
    → All (λ (e : Entry). FitsRows (map (bare_row columns) rows) colour e.event) (histories_in columns colour)

-- the rows are what they may be by themselves, and in order
abbrev pub AreBegun : Script → ℕ → List RowReport → Type 0
AreBegun script region rows = All (IsRowAlone script region) rows × AreInOrder rows

-- rows have ids of their own, and marks, outcomes and events fit one another
abbrev pub FitColumns : ℕ → List ColumnReport → List RowReport → Type 0
FitColumns colours columns rows = HaveOwnIds rows × All (IsMarkedBeside columns) rows × FitRows colours columns rows
