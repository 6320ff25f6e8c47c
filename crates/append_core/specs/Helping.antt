-- What a client's hold makes that helps.
use Rattle.std.specs.Prelude.{◌≡◌, ◌≢◌, ℕ, true, false, List, None, ◌<◌}
use mathlib.Core.List.{IsPrefix}
use Rattle.log_node.specs.declared.ids.Id.{Id}
use Rattle.log_node.specs.declared.ids.Key.{Key}
use Rattle.log_node.specs.declared.ids.Row.{Row}
use Rattle.log_node.specs.declared.node.Node.{Node}
use Rattle.log_node.specs.declared.marks.Why.{Why}
use Rattle.log_node.specs.declared.marks.Mark.TheVariants.{Fenced}
use Rattle.log_node.specs.Order.{key_below}
use Rattle.log_node.specs.Seen.{BegunAppend}
use Rattle.log_node.specs.Sets.{has}
use Rattle.log_node.specs.Standings.{open_entry}
use Rattle.col_core.specs.declared.Entry.{Entry}
use Rattle.col_core.specs.declared.Event.{Event}
use Rattle.col_core.specs.History.{clock, entries}
use Rattle.col_core.specs.Ids.{IsStepOf}
use Rattle.stamp_board.specs.Rows.{IsRow}
use Rattle.stamp_board.specs.Views.{KnowsBegun, KnowsMark}
use Rattle.chain_store.specs.declared.told.Told.{Told}
use Rattle.chain_store.specs.declared.hold.Hold.{Hold}
use Rattle.chain_store.specs.Histories.{entries_in}
use Rattle.chain_store.specs.Holds.{seen_in, view_of}
use Rattle.append_core.specs.Settled.{HoldKnowsComplete}

-- an event of a begun append in the column of a colour: a step of its id in one of its colours
abbrev pub IsStepIn : BegunAppend → ℕ → Event → Type 0
IsStepIn begun colour event = (has begun.colours colour ≡ true) × IsStepOf begun.id event

-- where the hold knew of a row of this id, its node has the colour, and the row was not known to be fenced there
abbrev pub MayBeOpenIn : Hold → Id → ℕ → Type 0
MayBeOpenIn g id colour =
    (row : Row) (x : Node) → IsRow (view_of g).size row → KnowsBegun (view_of g) row x → x.id ≡ id
    → (has x.colours colour ≡ true) × ((why : Why) → KnowsMark (view_of g) row colour (Fenced why) → ⊥)

-- The id was open in the column of a colour, at some time between what g has seen there and what h has seen there; g had
-- no row of it known as fenced there.
pub record WasOpen (g h : Hold) (id : Id) : Type 0 where
  pub colour : ℕ
  pub log : List Told
  pub after : IsPrefix (seen_in g colour) log
  pub before : IsPrefix log (seen_in h colour)
  pub opened : open_entry id (entries (entries_in log)) ≢ None
  pub unfenced : MayBeOpenIn g id colour

-- an event that helps: a step of an id that was open, of which the append is then complete
abbrev pub HelpsOpen : Hold → Hold → Event → Type 0
HelpsOpen g h event = (id : Id) × IsStepOf id event × WasOpen g h id × HoldKnowsComplete h id

-- no entry that opens after the history has a key below this one, as each has a stamp above the clock
abbrev pub IsUnderClock : Key → List Entry → Type 0
IsUnderClock key history = (k : Key) → clock history < k.stamp → key_below k key ≡ false
