-- What the definitions have for consequences, on which the layers above rest.
use Rattle.std.specs.Prelude.{◌≡◌, ◌≢◌, IsTrue, ℕ, ◌<◌, ◌≤◌, List, ◌++◌, length, Some, slice_get}
use Rattle.std.specs.List.{Contains}
use mathlib.Core.List.{IsPrefix}
use Rattle.log_node.specs.declared.ids.Id.{Id}
use Rattle.log_node.specs.declared.ids.Key.{Key}
use Rattle.log_node.specs.declared.ids.Counts.{Counts}
use Rattle.log_node.specs.declared.node.Node.{Node}
use Rattle.log_node.specs.Order.{key_below}
use Rattle.log_node.specs.Vectors.{IsWithin}
use Rattle.log_node.specs.declared.marks.Mark.{Mark}
use Rattle.log_node.specs.declared.marks.Mark.TheVariants as marks
use Rattle.log_node.specs.declared.marks.Outcome.{Outcome}
use Rattle.log_node.specs.declared.marks.Outcome.TheVariants.{Open}
use Rattle.col_core.specs.declared.Entry.{Entry}
use Rattle.col_core.specs.History.{line}
use Rattle.log_node.specs.Reach.{Chains, Reachable, IsGreatestReachable}
use Rattle.col_core.specs.Cuts.{Dated, IsDated, entries_of, chain, held, base}
use Rattle.col_core.specs.Computed.{cut, dated}
use Rattle.col_core.specs.PlayOrder.{Place, IsPlayOrder}
use Rattle.col_core.specs.Legal.{IsColumnHistory}
use Rattle.col_core.specs.Rows.{BegunRow}
use Rattle.col_core.specs.Log.{Log, IsLater, IsLaterRow, first, HasText, HasMark, HasOutcome}
use Rattle.col_core.specs.RegionOrder.{IsRegionOrder}

-- Two greatest vectors that can be reached are equal: the order of the steps does not matter.
abbrev pub CutIsUnique : Type 0
CutIsUnique = (chains : Chains) (v w : Counts) → IsGreatestReachable chains v → IsGreatestReachable chains w → v ≡ w

-- The cut that is computed is the greatest vector that can be reached.
abbrev pub CutIsGreatest : Type 0
CutIsGreatest = (own : ℕ) (history : List Dated) → IsGreatestReachable (chain own history) (cut own history)

-- The cuts that are computed for a history are the greatest vectors that could be reached after each of its
-- beginnings.
abbrev pub DatesAreGreatest : Type 0
DatesAreGreatest = (own : ℕ) (history : List Entry) → IsDated own history (dated own history)

-- and no others are
abbrev pub DatesAreUnique : Type 0
DatesAreUnique = (own : ℕ) (history : List Entry) (ds : List Dated) → IsDated own history ds → ds ≡ dated own history

-- The line of a lawful history only grows at its end.
abbrev pub LinesGrow : Type 0
LinesGrow = (own regions : ℕ) (history more : List Dated) → IsColumnHistory own regions (history ++ more)
    → IsPrefix (line (entries_of history)) (line (entries_of (history ++ more)))

-- So do all chains of a lawful history, with the needs of their nodes.
abbrev pub ChainsGrow : Type 0
ChainsGrow = (own regions : ℕ) (history more : List Dated) → IsColumnHistory own regions (history ++ more)
    → (region : ℕ) → IsPrefix (chain own history region) (chain own (history ++ more) region)

-- A vector that can be reached stays one when the chains grow at their ends.
abbrev pub ReachedStays : Type 0
ReachedStays = (chains later : Chains) → ((region : ℕ) → IsPrefix (chains region) (later region))
    → (v : Counts) → Reachable chains v → Reachable later v

-- What is held, the cut and the base of a lawful history only grow.
pub record OnlyGrows (own regions : ℕ) (history more : List Dated) : Type 0 where
  pub held_more : IsWithin (held own history) (held own (history ++ more))
  pub cut_more : IsWithin (cut own history) (cut own (history ++ more))
  pub base_more : IsWithin (base own regions history) (base own regions (history ++ more))

abbrev pub CutsGrow : Type 0
CutsGrow = (own regions : ℕ) (history more : List Dated) → IsColumnHistory own regions (history ++ more)
    → OnlyGrows own regions history more

-- There is one play order from one vector to another that can be reached.
abbrev pub PlayOrderIsUnique : Type 0
PlayOrderIsUnique = (chains : Chains) (from to : Counts) (one other : List Place) → Reachable chains to
    → IsPlayOrder chains from to one → IsPlayOrder chains from to other → one ≡ other

-- What a client was told of a log stays true of a later one: the event at a place, the key at a position of a line,
-- what a look after some number of events saw, the text of an id, a mark that was set, and an outcome that was decided.
pub record StaysTrue (old new : Log) : Type 0 where
  pub event : (region colour place : ℕ) (e : Entry)
      → slice_get (old.histories region colour) place ≡ Some e → slice_get (new.histories region colour) place ≡ Some e
  pub position : (region colour position : ℕ) (key : Key)
      → slice_get (line (old.histories region colour)) position ≡ Some key
      → slice_get (line (new.histories region colour)) position ≡ Some key
  pub look : (region colour events : ℕ) → events ≤ length (old.histories region colour)
      → first new region colour events ≡ first old region colour events
  pub text : (id : Id) (text : List ℕ) → HasText old id text → HasText new id text
  pub mark : (node : Node) (colour : ℕ) (mark : Mark) → mark ≢ marks.None
      → HasMark old node colour mark → HasMark new node colour mark
  pub outcome : (node : Node) (outcome : Outcome) → outcome ≢ Open
      → HasOutcome old node outcome → HasOutcome new node outcome

abbrev pub SeenStaysTrue : Type 0
SeenStaysTrue = (old new : Log) → IsLater old new → StaysTrue old new

-- A line rises in key, so no node stands in it twice.
abbrev pub LinesRise : Type 0
LinesRise = (own regions : ℕ) (history : List Dated) → IsColumnHistory own regions history
    → (i j : ℕ) (k l : Key) → i < j → slice_get (line (entries_of history)) i ≡ Some k
    → slice_get (line (entries_of history)) j ≡ Some l → IsTrue (key_below k l)

-- A log whose histories and nodes begin as those of another, and which has its rows, is later, where its histories are
-- lawful.
abbrev pub GrowthIsLater : Type 0
GrowthIsLater = (regions : ℕ) (old new : Log)
    → ((region colour : ℕ) → IsPrefix (old.histories region colour) (new.histories region colour))
    → ((client : ℕ) → IsPrefix (old.nodes client) (new.nodes client))
    → ((region : ℕ) (r : BegunRow) → Contains (old.rows region) r
    → (s : BegunRow) × Contains (new.rows region) s × IsLaterRow r s)
    → ((region colour : ℕ) → IsColumnHistory region regions (dated region (new.histories region colour)))
    → IsLater old new

-- There is one order of a region up to a stamp.
abbrev pub RegionOrderIsUnique : Type 0
RegionOrderIsUnique = (lines : List (List Key)) (stamp : ℕ) (one other : List Key)
    → IsRegionOrder lines stamp one → IsRegionOrder lines stamp other → one ≡ other
