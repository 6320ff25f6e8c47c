-- What is said of outcomes and lines, and the laws of them.
use Rattle.std.specs.Prelude.{◌≡◌, IsTrue, true, false, ℕ, ◌<◌, List, Some, slice_get, take}
use Rattle.std.specs.List.{Contains}
use Rattle.log_node.specs.declared.ids.Id.{Id}
use Rattle.log_node.specs.declared.ids.Key.{Key}
use Rattle.log_node.specs.declared.ids.Row.{Row}
use Rattle.log_node.specs.declared.ids.Counts.{Counts}
use Rattle.log_node.specs.Order.{key_below}
use Rattle.log_node.specs.declared.marks.Why.{Why}
use Rattle.log_node.specs.declared.marks.Mark.TheVariants as marks
use Rattle.log_node.specs.declared.marks.Outcome.{Outcome}
use Rattle.log_node.specs.Standings.{Standing}
use Rattle.col_core.specs.declared.Event.TheVariants as events
use Rattle.col_core.specs.declared.Entry.{Entry}
use Rattle.col_core.specs.History.{entries, line, entry_key}
pub use Rattle.col_core.specs.Ids.{Settles, IsFinal, HasEntry, StandsAt}
use Rattle.world_laws.specs.Worlds.{World, is_begun, row_of}

-- all settlings of an id, in all columns, have one outcome
abbrev pub SettlesOnce : World → Type 0
SettlesOnce w = (id : Id) (region colour region' colour' : ℕ) (outcome outcome' : Outcome)
    → Settles (w.histories region colour) id outcome → Settles (w.histories region' colour') id outcome'
    → outcome ≡ outcome'

-- an id is final under one stamp, in all columns
abbrev pub OneFinalStamp : World → Type 0
OneFinalStamp w = (id : Id) (region colour region' colour' stamp stamp' : ℕ)
    → IsFinal (w.histories region colour) id stamp → IsFinal (w.histories region' colour') id stamp' → stamp ≡ stamp'

-- every line rises in key
abbrev pub EachLineRises : World → Type 0
EachLineRises w = (region colour i j : ℕ) (k l : Key) → i < j → slice_get (line (w.histories region colour)) i ≡ Some k
    → slice_get (line (w.histories region colour)) j ≡ Some l → IsTrue (key_below k l)

-- two nodes that stand in two lines stand in the same order in both
abbrev pub OrderedAlike : World → Type 0
OrderedAlike w = (region colour region' colour' i j i' j' : ℕ) (one other : Id)
    → StandsAt (w.histories region colour) i one → StandsAt (w.histories region colour) j other
    → StandsAt (w.histories region' colour') i' one → StandsAt (w.histories region' colour') j' other → i < j → i' < j'

-- the id is final in no column, and stands in no line
pub record IsNowhere (w : World) (id : Id) : Type 0 where
  pub final : (region colour stamp : ℕ) → IsFinal (w.histories region colour) id stamp → ⊥
  pub in_line : (region colour position : ℕ) → StandsAt (w.histories region colour) position id → ⊥

-- the node of a row that bears a fence is final in no column, and stands in no line
abbrev pub FencedIsNowhere : World → Type 0
FencedIsNowhere w = (row : Row) (colour : ℕ) (why : Why) → IsTrue (is_begun w row)
    → (row_of w row).marks colour ≡ marks.Fenced why → IsNowhere w (row_of w row).node.id

-- For a single at a place and each later moment, every open entry with a key below the single's was open before it.
abbrev pub NoneGetsBefore : World → Type 0
NoneGetsBefore w = (region colour place later : ℕ) (e : Entry) (id : Id) (floor : ℕ) (wants : Counts) (f : Standing)
    → slice_get (w.histories region colour) place ≡ Some e → e.event ≡ events.Single id floor wants → place < later
    → Contains (entries (take later (w.histories region colour))) f → f.settled ≡ false
    → IsTrue (key_below f.key (entry_key e.stamp id)) → Contains (entries (take place (w.histories region colour))) f
