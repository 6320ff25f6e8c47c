-- A column's journal done again, and what held after each number of its events.
use Rattle.std.specs.Prelude.{◌≡◌, IsTrue, IsFalse, Bool, true, false, not, ℕ, ◌≤◌, List, take, Option, Some, None, slice_get}
use Rattle.std.specs.List.{find}
use Rattle.std.specs.Option.{option_map}
use Rattle.log_node.specs.declared.ids.Id.{Id}
use Rattle.log_node.specs.declared.ids.Key.{Key}
use Rattle.log_node.specs.declared.ids.Counts.{Counts}
use Rattle.log_node.specs.Reach.{IsGreatestReachable}
use Rattle.log_node.specs.Standings.{Standing}
use Rattle.col_core.specs.declared.Entry.{Entry}
use Rattle.col_core.specs.History.{clock, entries, enters, has_entered, line}
use Rattle.col_core.specs.Cuts.{base, chain, held}
use Rattle.col_core.specs.Computed.{cut, dated}
use Rattle.col_core.specs.Legal.{IsColumnHistory}
use Rattle.column_track.specs.declared.marks.Mark.{Mark}

-- a column's region, how many regions there are, and its events
pub record Tracked : Type 0 where
  pub region : ℕ
  pub regions : ℕ
  pub journal : List Entry

-- there is a track where the journal is a lawful history, and none where it is not
abbrev pub IsDoneAgain : ℕ → ℕ → List Entry → Option Tracked → Type 0
IsDoneAgain own regions journal None = IsColumnHistory own regions (dated own journal) → ⊥
IsDoneAgain own regions journal (Some track) =
    (track ≡ record { region = own; regions = regions; journal = journal })
    × IsColumnHistory own regions (dated own journal)

-- the stamp of the first open entry; entries rise, so it is the least of an open one
abbrev pub least_open : List Standing → Option ℕ
least_open entries = option_map (λ (e : Standing). e.key.stamp) (find (λ (e : Standing). not e.settled) entries)

-- what holds of a column of this region, of so many regions, after a history
abbrev pub mark_after : ℕ → ℕ → List Entry → Mark
mark_after own regions history = record {
  clock = clock history;
  cut = cut own (dated own history);
  base = base own regions (dated own history);
  held = held own (dated own history);
  least_open = least_open (entries history);
}

-- the answer says whether it is so
abbrev pub Tells : Bool → Type 0 → Type 0
Tells true P = P
Tells false P = P → ⊥

-- the clock was the stamp after some number of events, from this one to that
abbrev pub WasClock : List Entry → ℕ → ℕ → ℕ → Type 0
WasClock history from to stamp = (n : ℕ) × (from ≤ n) × (n ≤ to) × (clock (take n history) ≡ stamp)

-- the id enters by the event at the place, or by none
abbrev pub EntersAt : List Entry → Id → Option ℕ → Type 0
EntersAt history id None = IsFalse (has_entered id history)
EntersAt history id (Some place) = (e : Entry) × (slice_get history place ≡ Some e) × IsTrue (enters id e.event)

-- after all events the clock, the line, the cut and the base are these
pub record EndsAs (track : Tracked) (clock_shown : ℕ) (line_shown : List Key) (cut_shown base_shown : Counts) : Type 0 where
  pub clock_is : clock_shown ≡ clock track.journal
  pub line_is : line_shown ≡ line track.journal
  pub cut_is : IsGreatestReachable (chain track.region (dated track.region track.journal)) cut_shown
  pub base_is : base_shown ≡ base track.region track.regions (dated track.region track.journal)
