-- Conditions that follow from others, so that no report breaks them alone.
use Rattle.std.specs.Prelude.{◌≡◌, ℕ, ◌<◌, List, Some, slice_get}
use Rattle.log_node.specs.declared.ids.Id.{Id}
use Rattle.log_node.specs.declared.ids.Counts.{Counts}
use Rattle.col_core.specs.declared.Event.TheVariants.{Single, Raise}
use Rattle.col_core.specs.declared.Entry.{Entry}
use Rattle.col_core.specs.Computed.{dated}
use Rattle.col_core.specs.Legal.{IsColumnHistory}

-- The stamp by which a node enters a column of a lawful history is above the node's floor.
abbrev pub EntersAboveItsFloor : Type 0
EntersAboveItsFloor = (own regions : ℕ) (history : List Entry) → IsColumnHistory own regions (dated own history)
    → (place client floor stamp : ℕ) (id : Id) (wants : Counts)
    → slice_get history place ≡ Some (record { by = client; event = Single id floor wants; stamp = stamp })
    → floor < stamp

-- A lawful history has one raise to a stamp at most. So a read that was refused raised each colour once at most, since
-- all its raises are to one stamp; no definition says it.
abbrev pub RaisesOnce : Type 0
RaisesOnce = (own regions : ℕ) (history : List Entry) → IsColumnHistory own regions (dated own history)
    → (p q to : ℕ) (one other : Entry) → one.event ≡ Raise to → other.event ≡ Raise to
    → slice_get history p ≡ Some one → slice_get history q ≡ Some other → p ≡ q
