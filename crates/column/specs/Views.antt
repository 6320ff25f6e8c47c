-- What the calls show that read a column.
use Rattle.std.specs.Prelude.{◌≡◌, ℕ, ◌<◌, [], length, slice_index_or}
use Rattle.std.specs.List.{filter, find}
use Rattle.std.specs.Option.{option_map}
use Rattle.log_node.specs.declared.ids.Key.{Key}
use Rattle.log_node.specs.declared.ids.Counts.{Counts}
use Rattle.log_node.specs.Vectors.{at}
use Rattle.log_node.specs.Seen.{BegunAppend}
use Rattle.log_node.specs.Standings.{Standing}
use Rattle.skeen_core.specs.Queues.{waiting_entries}
use Rattle.col_core.specs.History.{entries}
use Rattle.col_core.specs.declared.view.View.{View}
use Rattle.column.specs.declared.views.Below.{Below}
use Rattle.column.specs.Columns.{ColumnState, cut_of, base_of, greater, AreItems, is_open_below, is_waiting_below}
use Rattle.column.specs.Columns.{IsBegunAt}

-- what one sees who looked at a column from these counts on
pub record IsView (column : ColumnState) (from : Counts) (view : View) : Type 0 where
  pub region : view.region ≡ column.region
  pub colour : view.colour ≡ column.colour
  pub events : view.events ≡ length column.journal
  pub cut : view.cut ≡ cut_of column
  pub base : view.base ≡ base_of column
  pub start : view.from ≡ greater from (base_of column)
  pub chains : length view.items ≡ 4
  pub items : (region : ℕ) → region < 4
      → AreItems column region (at view.from region) (at view.cut region) (slice_index_or view.items region [])

-- how many open entries of a column have a key below, and the least of them
pub record IsBelow (column : ColumnState) (key : Key) (below : Below) : Type 0 where
  pub events : below.events ≡ length column.journal
  pub count : below.count ≡ length (filter (is_open_below key) (entries column.journal))
  -- its id by the journal, and its node among those that wait
  pub first_id : option_map (λ (b : BegunAppend). b.id) below.first
      ≡ option_map (λ (e : Standing). e.key.id) (find (is_open_below key) (entries column.journal))
  pub first : IsBegunAt below.first (find (is_waiting_below key) (waiting_entries column.queue))

-- a column of a region among two
abbrev pub IsOfTwo : ℕ → ColumnState → Type 0
IsOfTwo region column = (column.region ≡ region) × (column.regions ≡ 2)
