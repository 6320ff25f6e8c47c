-- What a seat knows of its board.
use Rattle.std.specs.Prelude.{◌≡◌, ◌≢◌, ◌⊎◌, ℕ, ◌+◌, ◌<◌, ◌==◌, true, if◌then◌else◌, List, [], ◌∷◌}
use Rattle.log_node.specs.declared.ids.Row.{Row}
use Rattle.log_node.specs.declared.node.Node.{Node}
use Rattle.log_node.specs.Sets.{has}
use Rattle.log_node.specs.declared.marks.Mark.{Mark}
use Rattle.log_node.specs.declared.marks.Outcome.{Outcome}
use Rattle.log_node.specs.declared.marks.Outcome.TheVariants.{Open}
use Rattle.log_node.specs.Marks.{IsMark}
use Rattle.stamp_board.specs.declared.view.Size.{Size}
use Rattle.stamp_board.specs.declared.view.View.{View}
use Rattle.stamp_board.specs.Words.{row_at, word_at, mark_word, mark_from, outcome_from}
use Rattle.stamp_board.specs.Rows.{AreColours, IsRow, IsBegun, colours_in, mark_in, decided_in, outcome_in}

-- the list has the pair of i and x
abbrev pub Has : {X : Type 0} → List (ℕ × X) → ℕ → X → Type 0
Has [] i x = ⊥
Has (p ∷ ps) i x = ((p.0 ≡ i) × (p.1 ≡ x)) ⊎ Has ps i x

-- the numbers that the list has at i, added up
abbrev pub at : List (ℕ × ℕ) → ℕ → ℕ
at [] i = 0
at (p ∷ ps) i = (if p.0 == i then p.1 else 0) + at ps i

-- the seat knows the row as begun for this node
abbrev pub KnowsBegun : View → Row → Node → Type 0
KnowsBegun v row node = Has v.begun (row_at v.size row) node

-- the seat knows the word of the part p of the row, which is set for good
abbrev pub KnowsWord : View → Row → ℕ → ℕ → Type 0
KnowsWord v row p n = Has v.known (word_at v.size (row_at v.size row) p) n

-- the seat knows that the row's mark of the colour c is m, for good
abbrev pub KnowsMark : View → Row → ℕ → Mark → Type 0
KnowsMark v row c m = (n : ℕ) × KnowsWord v row (1 + c) n × (mark_from n ≡ m)

-- the seat knows that the row was decided with the outcome o, for good
abbrev pub KnowsOutcome : View → Row → Outcome → Type 0
KnowsOutcome v row o = (n : ℕ) × KnowsWord v row (v.size.colours + 1) n × (outcome_from n ≡ o)

-- the seat knows the row as begun for a node with the colour
abbrev pub KnowsColour : View → Row → ℕ → Type 0
KnowsColour v row c = (x : Node) × KnowsBegun v row x × (has x.colours c ≡ true)

-- the seat knows the row as begun, and all its marks
abbrev pub KnowsAll : View → Row → Type 0
KnowsAll v row =
    (x : Node) × KnowsBegun v row x × ((c : ℕ) → has x.colours c ≡ true → (m : Mark) × KnowsMark v row c m)

-- the mark that the seat of the colour c has set in the row
abbrev pub own_mark : View → Row → ℕ → Mark
own_mark v row c = mark_from (at v.mine (mark_word v.size row c))

-- the later view knows all that the other one knew
pub record Learns (v w : View) : Type 0 where
  pub known : (i n : ℕ) → Has v.known i n → Has w.known i n
  pub begun : (r : ℕ) (x : Node) → Has v.begun r x → Has w.begun r x

-- the later view knows all that the earlier one knew, and its seat has the same parts of the board
pub record Grows (v w : View) : Type 0 where
  pub size : w.size ≡ v.size
  pub low : w.low ≡ v.low
  pub high : w.high ≡ v.high
  pub known : (i n : ℕ) → Has v.known i n → Has w.known i n
  pub begun : (r : ℕ) (x : Node) → Has v.begun r x → Has w.begun r x

-- what both know of a row is the same: the node for which it is begun, a mark, and the outcome; and no two rows are begun
-- for nodes with one id
pub record Agree (v w : View) : Type 0 where
  pub id : (row other : Row) (x y : Node) → IsRow v.size row → IsRow v.size other
      → KnowsBegun v row x → KnowsBegun w other y → x.id ≡ y.id → row ≡ other
  pub node : (row : Row) (x y : Node) → KnowsBegun v row x → KnowsBegun w row y → x ≡ y
  pub mark : (row : Row) (c : ℕ) (m n : Mark) → KnowsMark v row c m → KnowsMark w row c n → m ≡ n
  pub outcome : (row : Row) (o p : Outcome) → KnowsOutcome v row o → KnowsOutcome w row p → o ≡ p

-- a seat that has seen as much, and has no part of the board
abbrev pub told : View → View
told v = record v { low = 0; high = 0; mine = [] }

-- The board may have these words: they break no rule of boards, and agree with all that the seat knows.
-- What is known of a row, a mark or an outcome is what stands, a row has one node, which is of its client, and no two
-- rows have nodes with one id. A begun row has two colours or more of the board's, marks have stamps, and a decided one
-- is the outcome of its row's marks.
pub record MayBe (k : Size) (ws : List ℕ) (v : View) : Type 0 where
  pub begun : (row : Row) (x : Node) → KnowsBegun v row x → IsBegun k ws row × (colours_in k ws row ≡ x.colours)
  pub one_node : (row : Row) (x y : Node) → KnowsBegun v row x → KnowsBegun v row y → x ≡ y
  pub clients : (row : Row) (x : Node) → IsRow k row → KnowsBegun v row x → x.id.client ≡ row.client
  pub ids : (row other : Row) (x y : Node) → IsRow k row → IsRow k other
      → KnowsBegun v row x → KnowsBegun v other y → x.id ≡ y.id → row ≡ other
  pub marks : (row : Row) (c : ℕ) (m : Mark) → KnowsMark v row c m → mark_in k ws row c ≡ m
  pub outcomes : (row : Row) (o : Outcome) → KnowsOutcome v row o → decided_in k ws row ≡ o
  pub colours : (row : Row) → IsBegun k ws row → AreColours k (colours_in k ws row)
  pub stamps : (row : Row) (c : ℕ) → c < k.colours → IsMark (mark_in k ws row c)
  pub decided : (row : Row) → decided_in k ws row ≢ Open → decided_in k ws row ≡ outcome_in k ws row

-- P holds of some board that may be, by all that the seat knows
abbrev pub Possibly : Size → View → (List ℕ → Type 0) → Type 0
Possibly k v P = (ws : List ℕ) × MayBe k ws v × P ws

-- P holds of each board that may be
abbrev pub Surely : Size → View → (List ℕ → Type 0) → Type 0
Surely k v P = (ws : List ℕ) → MayBe k ws v → P ws
