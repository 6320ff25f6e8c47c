-- Appends to several colours on their way.
use Rattle.std.specs.Prelude.{◌≡◌, ◌≢◌, ℕ, ◌+◌, ◌<◌, ◌≤◌, List, ◌++◌, map, length, Option, Some, None, slice_get}
use Rattle.log_node.specs.declared.ids.Key.{Key}
use Rattle.log_node.specs.declared.ids.Colours.{Colours}
use Rattle.log_node.specs.declared.ids.Row.{Row}
use Rattle.log_node.specs.declared.node.At.{At}
use Rattle.log_node.specs.declared.node.Node.{Node}
use Rattle.log_node.specs.declared.marks.Why.TheVariants.{Memory, StampEnd}
use Rattle.log_node.specs.declared.marks.Mark.{Mark}
use Rattle.log_node.specs.declared.marks.Mark.TheVariants as marks
use Rattle.log_node.specs.declared.marks.Outcome.{Outcome}
use Rattle.log_node.specs.declared.marks.Outcome.TheVariants.{Open, Gone, Final}
use Rattle.log_node.specs.Sets.{members}
use Rattle.col_core.specs.History.{line}
use Rattle.col_core.specs.Appending.{StandsUnder}
use Rattle.stamp_board.specs.Views.{KnowsMark, KnowsOutcome}
use Rattle.chain_store.specs.declared.hold.Hold.{Hold}
use Rattle.chain_store.specs.declared.region.Region.{Region}
use Rattle.chain_store.specs.Holds.{IsHold, entries_seen, view_of}
use Rattle.append_core.specs.declared.stood.Point.{Point}
use Rattle.append_core.specs.Settled.{HoldKnowsSettled}
use Rattle.append_core.specs.Several.{HoldEnters, IsMarkedElse, IsFirstEnd, HoldSettlesAll, HoldStopsAfter, own_append, own_row}

-- the colours of points
abbrev pub point_colours : List Point → List ℕ
point_colours points = map (λ (p : Point). p.colour) points

-- points of a set of colours, the least first
pub record ArePointsOf (points : List Point) (colours : Colours) : Type 0 where
  pub same : point_colours points ≡ members colours

-- points of the first of a set of colours, and the colours that are left
pub record AreFirstOf (points : List Point) (left : List ℕ) (colours : Colours) : Type 0 where
  pub all : point_colours points ++ left ≡ members colours

-- a stop, where there is one, is after more steps than these
abbrev pub IsAhead : Option ℕ → ℕ → Type 0
IsAhead None steps = Unit {0}
IsAhead (Some stop) steps = steps < stop

-- the append stopped after these steps, one or more, as was asked
abbrev pub IsStopAt : Region → Hold → Hold → Node → Option ℕ → ℕ → Type 0
IsStopAt r g h x stop steps = (stop ≡ Some steps) × (0 < steps) × HoldStopsAfter r g h x steps

-- the first colour whose mark is a fence for the stamps' end, with the mark of one colour more
abbrev pub end_after : Option ℕ → ℕ → Mark → Option ℕ
end_after (Some first) c mark = Some first
end_after None c marks.None = None
end_after None c (marks.Number n) = None
end_after None c (marks.Fenced Memory) = None
end_after None c (marks.Fenced StampEnd) = Some c

-- the node is of the hold's client, and comes after all that it appended here
pub record IsNextOf (r : Region) (g : Hold) (x : Node) : Type 0 where
  pub rests : IsHold r g
  pub client : x.id.client ≡ g.passes.number
  pub fresh : g.next ≤ x.id.count

-- the first such colour among the node's first n colours, or none
abbrev pub EndsAmong : Hold → Node → Row → ℕ → Option ℕ → Type 0
EndsAmong h x row n None = (i c : ℕ) → i < n → slice_get (members x.colours) i ≡ Some c → IsMarkedElse h row c
EndsAmong h x row n (Some c) = IsFirstEnd h x row c

-- the row's mark of the colour is known; where it is a number, the node entered there as the answer says
pub record IsProposedThere (g h : Hold) (x : Node) (c : ℕ) (at : At) : Type 0 where
  pub mark : Mark
  pub set : mark ≢ marks.None
  pub known : KnowsMark (view_of h) (own_row g) c mark
  pub entered : (n : ℕ) → mark ≡ marks.Number n → HoldEnters g h x c at

-- the node's first n colours are proposed
pub record AreProposed (r : Region) (g h : Hold) (x : Node) (points : List Point) (n : ℕ) (ended : Option ℕ) : Type 0 where
  pub steps : HoldStopsAfter r g h x (n + 1)
  pub each : (i : ℕ) (p : Point) → i < n → slice_get points i ≡ Some p → IsProposedThere g h x p.colour p.at
  pub ends : EndsAmong h x (own_row g) n ended

-- all its colours are proposed, and no stop has come
pub record HasProposed (r : Region) (g h : Hold) (x : Node) (points : List Point) (ended stop : Option ℕ) : Type 0 where
  pub all : AreProposed r g h x points (length (members x.colours)) ended
  pub ahead : IsAhead stop (length (members x.colours) + 1)

-- it is decided: where it is final it entered as the points say, and where it is gone the least such colour is known
pub record IsDecidedSo (g h : Hold) (x : Node) (points : List Point) (ended : Option ℕ) (o : Outcome) : Type 0 where
  pub shut : o ≢ Open
  pub outcome : KnowsOutcome (view_of h) (own_row g) o
  pub entered : (f n : ℕ) (p : Point) → o ≡ Final f → slice_get points n ≡ Some p → HoldEnters g h x p.colour p.at
  pub ends : o ≡ Gone StampEnd → (c : ℕ) × (ended ≡ Some c) × IsFirstEnd h x (own_row g) c

-- the node's first n colours are settled with the outcome, and stand where the places say, where it is final
pub record AreSettled (r : Region) (g h : Hold) (x : Node) (o : Outcome) (places : List (Option ℕ)) (n : ℕ) : Type 0 where
  pub steps : HoldStopsAfter r g h x (n + length (members x.colours) + 2)
  pub settled : (i c : ℕ) → i < n → slice_get (members x.colours) i ≡ Some c → HoldKnowsSettled h (own_append g x) o c
  pub placed : (i c q f : ℕ) → i < n → slice_get (members x.colours) i ≡ Some c → slice_get places i ≡ Some (Some q)
      → o ≡ Final f → StandsUnder (entries_seen h c) x f q

-- none of its colours is settled yet, and no stop has come
pub record HasDecided (r : Region) (g h : Hold) (x : Node) (o : Outcome) (places : List (Option ℕ)) (stop : Option ℕ) : Type 0 where
  pub none : AreSettled r g h x o places 0
  pub ahead : IsAhead stop (length (members x.colours) + 2)

-- all its colours are settled, and no stop has come
pub record HasSettled (r : Region) (g h : Hold) (x : Node) (o : Outcome) (places : List (Option ℕ)) (stop : Option ℕ) : Type 0 where
  pub all : AreSettled r g h x o places (length (members x.colours))
  pub ahead : IsAhead stop (length (members x.colours) + length (members x.colours) + 2)

-- all its steps are taken
pub record HasTakenAll (r : Region) (g h : Hold) (x : Node) (points : List Point) (places : List (Option ℕ))
    (ended : Option ℕ) (o : Outcome) : Type 0 where
  pub decided : IsDecidedSo g h x points ended o
  pub all : HoldSettlesAll r g h x o
  pub placed : (n q f : ℕ) (p : Point) → slice_get points n ≡ Some p → slice_get places n ≡ Some (Some q) → o ≡ Final f
      → StandsUnder (entries_seen h p.colour) x f q

-- all its steps are taken, and no stop has come
pub record TakesAll (r : Region) (g h : Hold) (x : Node) (points : List Point) (places : List (Option ℕ))
    (ended : Option ℕ) (o : Outcome) (stop : Option ℕ) : Type 0 where
  pub done : HasTakenAll r g h x points places ended o
  pub ahead : IsAhead stop (length (members x.colours) + length (members x.colours) + 2)

-- the point is the one that was there, with the position of the key in the line that the hold has seen
abbrev pub HasPosition : Hold → Key → List Point → ℕ → Point → Type 0
HasPosition h key points n p =
    (q : Point) × (slice_get points n ≡ Some q) × (p.colour ≡ q.colour) × (p.at ≡ q.at)
    × (slice_get (line (entries_seen h p.colour)) p.position ≡ Some key)
