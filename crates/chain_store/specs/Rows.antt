-- What one who helps knows of a begun append.
use Rattle.std.specs.Prelude.{◌≡◌, ℕ, ◌^◌, ◌<◌, ◌≤◌, true, List, Option, None}
use Rattle.std.specs.List.{position}
use Rattle.log_node.specs.declared.ids.Id.{Id}
use Rattle.log_node.specs.declared.ids.Key.{Key}
use Rattle.log_node.specs.Order.{same_key}
use Rattle.log_node.specs.Sets.{has}
use Rattle.log_node.specs.declared.marks.Outcome.{Outcome}
use Rattle.log_node.specs.declared.marks.Outcome.TheVariants.{Open, Gone, Final}
use Rattle.col_core.specs.declared.Entry.{Entry}
use Rattle.col_core.specs.History.{entry_key, line}
use Rattle.log_node.specs.declared.ids.Row.{Row}
use Rattle.log_node.specs.declared.limits.TheConstants.{MAX_STAMP}
use Rattle.log_node.specs.declared.node.Node.{Node}
use Rattle.log_node.specs.Seen.{BegunAppend}
use Rattle.column.specs.Columns.{IsBegun}
use Rattle.stamp_board.specs.declared.view.Size.{Size}
use Rattle.stamp_board.specs.declared.view.View.{View}
use Rattle.stamp_board.specs.Rows.{IsRow, AreColours}
use Rattle.stamp_board.specs.Views.{KnowsBegun}

-- The seat knows the append's row as begun for this node, which is one of the row's client and of the region, with two
-- colours or more of the board's.
pub record IsBegunRow (size : Size) (region : ℕ) (v : View) (begun : BegunAppend) (x : Node) : Type 0 where
  pub row : IsRow size begun.row
  pub knows : KnowsBegun v begun.row x
  pub of : IsBegun begun x
  pub mine : x.id.client ≡ begun.row.client
  pub in_region : x.region ≡ region
  pub counted : x.id.count < 2 ^ 63
  pub floored : x.floor ≤ MAX_STAMP
  pub several : AreColours size x.colours

-- the same for some node
abbrev pub KnowsRow : Size → ℕ → View → BegunAppend → Type 0
KnowsRow size region v begun = (x : Node) × IsBegunRow size region v begun x

-- the row is known as begun for one node at most
abbrev pub OneNode : View → Row → Type 0
OneNode v row = (x y : Node) → KnowsBegun v row x → KnowsBegun v row y → x ≡ y

-- an append that is known and has the colour
abbrev pub IsKnownBelow : Size → ℕ → ℕ → View → BegunAppend → Type 0
IsKnownBelow size region colour v begun = KnowsRow size region v begun × (has begun.colours colour ≡ true)

-- the position of an append's final key in the line; none where it has none
abbrev pub place_after : List Entry → Id → Outcome → Option ℕ
place_after history id Open = None
place_after history id (Gone why) = None
place_after history id (Final f) = position (λ (k : Key). same_key k (entry_key f id)) (line history)
