-- The rule of a board's table, and what its steps tell.
use Rattle.std.specs.Prelude.{◌≡◌, ◌≢◌, ℕ, ◌+◌, ◌/◌, ◌^◌, ◌<◌, ◌≤◌, ◌==◌, true, if◌then◌else◌}
use Rattle.std.specs.Prelude.{List, [], ◌∷◌, ◌++◌, length, slice_index}
use mathlib.Core.Option.{Option, none, some}
use lib.ListN.{get_elem?}
use Rattle.atomic_table.specs.Table.{State, Me, Step}
use Rattle.log_node.specs.declared.ids.Id.{Id}
use Rattle.log_node.specs.declared.ids.Row.{Row}
use Rattle.log_node.specs.declared.node.Node.{Node}
use Rattle.log_node.specs.Sets.{has}
use Rattle.log_node.specs.declared.marks.Mark.{Mark}
use Rattle.log_node.specs.declared.marks.Mark.TheVariants as marks
use Rattle.log_node.specs.declared.marks.Outcome.{Outcome}
use Rattle.log_node.specs.declared.marks.Outcome.TheVariants.{Open, Gone, Final}
use Rattle.log_node.specs.Marks.{IsStamp}
use Rattle.stamp_board.specs.declared.view.Size.{Size}
use Rattle.stamp_board.specs.declared.view.View.{View}
use Rattle.stamp_board.specs.Words.{width, words_of, row_at, word_at, row_word, owner_of, outcome_from}
use Rattle.stamp_board.specs.Rows.{AreColours, outcome_at}
use Rattle.stamp_board.specs.Views.{Has, at}

-- a mark that is set
abbrev pub IsSet : Mark → Type 0
IsSet marks.None = ⊥
IsSet (marks.Number s) = IsStamp s
IsSet (marks.Fenced why) = Unit {0}

abbrev pub AreSet : List Mark → Type 0
AreSet [] = Unit {0}
AreSet (m ∷ ms) = IsSet m × AreSet ms

-- an outcome with which a row is decided
abbrev pub IsDecided : Outcome → Type 0
IsDecided Open = ⊥
IsDecided (Gone why) = Unit {0}
IsDecided (Final f) = IsStamp f

-- only a seat that plays the part a sets the words of a
abbrev pub Plays : View → ℕ → Type 0
Plays v a = (0 < a) × (v.low ≤ a) × (a < v.high)

-- the words agree with what the seat knows, and with what it set of its own
pub record Fits (k : Size) (ws : List ℕ) (v : View) : Type 0 where
  pub known : (i n : ℕ) → Has v.known i n → (0 < n) × (slice_index ws i ≡ n)
  pub begun : (r : ℕ) (x : Node) → Has v.begun r x → (0 < x.colours.0) × (slice_index ws (word_at k r 0) ≡ x.colours.0)
  pub same : (r : ℕ) (x y : Node) → Has v.begun r x → Has v.begun r y → x ≡ y
  pub owned : (r : ℕ) (x : Node) → Has v.begun r x → x.id.client ≡ r / k.rows
  pub ids : (r q : ℕ) (x y : Node) → Has v.begun r x → Has v.begun q y → x.id ≡ y.id → r ≡ q
  pub mine : (i : ℕ) → Plays v (owner_of k i) → at v.mine i ≡ slice_index ws i
  pub own : (i : ℕ) → at v.mine i ≢ 0 → Plays v (owner_of k i)

-- the number of each mark and of each final word keeps its bound, each begun row has two colours or more, and each final
-- word has the outcome of its row's marks
pub record Lawful (k : Size) (ws : List ℕ) : Type 0 where
  pub small : (r p : ℕ) → 0 < p → p < width k → slice_index ws (word_at k r p) < 2 ^ 62 + 2
  pub colours : (r : ℕ) → slice_index ws (word_at k r 0) ≢ 0
      → AreColours k record { 0 = slice_index ws (word_at k r 0) }
  pub finals : (r : ℕ) → slice_index ws (word_at k r (k.colours + 1)) ≢ 0
      → outcome_from (slice_index ws (word_at k r (k.colours + 1))) ≡ outcome_at k ws r

-- what holds of each view: what is known stands, a begun row has its one node, and the seat has set those of its own
-- words that are set, and no others
pub record Sits (k : Size) (ws : List ℕ) (nodes : ℕ → Option Node) (v : View) : Type 0 where
  pub known : (i n : ℕ) → Has v.known i n → (0 < n) × (slice_index ws i ≡ n)
  pub begun : (r : ℕ) (x : Node) → Has v.begun r x → nodes r ≡ some x
  pub mine : (i : ℕ) → Plays v (owner_of k i) → at v.mine i ≡ slice_index ws i
  pub own : (i : ℕ) → at v.mine i ≢ 0 → Plays v (owner_of k i)

-- there is a node for each begun row, which is of the row's client and has an id of its own; and no two seats play one
-- part
pub record IsLawfulState (k : Size) (s : State Node View) : Type 0 where
  pub long : length s.words ≡ words_of k
  pub lawful : Lawful k s.words
  pub nodes : ℕ → Option Node
  pub named : (r : ℕ) (x : Node) → nodes r ≡ some x
      → (0 < x.colours.0) × (slice_index s.words (word_at k r 0) ≡ x.colours.0)
  pub owned : (r : ℕ) (x : Node) → nodes r ≡ some x → x.id.client ≡ r / k.rows
  pub ids : (r q : ℕ) (x y : Node) → nodes r ≡ some x → nodes q ≡ some y → x.id ≡ y.id → r ≡ q
  pub sits : (id : ℕ) (v : View) → get_elem? s.views id ≡ some v → Sits k s.words nodes v
  pub apart : (id id' : ℕ) (v v' : View) (a : ℕ) → get_elem? s.views id ≡ some v → get_elem? s.views id' ≡ some v'
      → Plays v a → Plays v' a → id ≡ id'

-- there is a list of words that fits what the seat knows, in which this word was found
abbrev pub Told : View → ℕ → ℕ → Type 0
Told v i n = (ws : List ℕ) × Lawful v.size ws × Fits v.size ws v × (slice_index ws i ≡ n)

-- a word that is set is known from now on
abbrev pub heard : View → ℕ → ℕ → View
heard v i n = if n == 0 then v else record v { known = (i, n) ∷ v.known }

-- the seat has set a word of its own
abbrev pub wrote : View → ℕ → ℕ → View
wrote v i n = record v { mine = (i, n) ∷ v.mine; known = (i, n) ∷ v.known }

abbrev pub with_node : View → ℕ → Option Node → View
with_node v r none = v
with_node v r (some x) = record v { begun = (r, x) ∷ v.begun }

-- the view of a seat that was to set a mark from 0 to `new`, and found n
abbrev pub after_mark : View → ℕ → ℕ → ℕ → View
after_mark v i new n = if n == 0 then wrote v i new else heard v i n

-- the view of a seat that was to set a final word from 0 to `new`, and found n
abbrev pub after_final : View → ℕ → ℕ → ℕ → View
after_final v i new n = heard v i (if n == 0 then new else n)

-- the view after a load; after a mark was to be set; after a final word was to be set; after a row was to be begun
abbrev pub looked : Step Node → View → ℕ → View
looked s v n = heard v s.word n

abbrev pub marked : Step Node → View → ℕ → View
marked s v n = after_mark v s.word s.second n

abbrev pub ended : Step Node → View → ℕ → View
ended s v n = after_final v s.word s.second n

abbrev pub began : Step Node → View → ℕ → View
began s v n = if n == 0 then with_node (wrote v s.word s.second) (s.word / width v.size) s.said else heard v s.word n

abbrev pub Turns : (Step Node → View → ℕ → View) → Step Node → Me Node View → ℕ → Me Node View → Type 0
Turns f s me n me' = (me' ≡ (f s me.0 n, me.1)) × Told me.0 s.word n

-- the lowest part alone, and the rest
abbrev pub lowest : View → View
lowest v = record v { high = v.low + 1 }

abbrev pub others : View → View
others v = record v { low = v.low + 1 }

abbrev pub both : View → View → View
both v w = record v { known = v.known ++ w.known; begun = v.begun ++ w.begun }

-- two seats of which the second plays the parts that follow those of the first
abbrev pub merged : View → View → View
merged v w = record v { high = w.high; mine = v.mine ++ w.mine; known = v.known ++ w.known; begun = v.begun ++ w.begun }

-- what is left of a seat that another took in
abbrev pub spent : View
spent =
    let none : Size = record { clients = 0; colours = 0; rows = 0 } in
    record { size = none; low = 0; high = 0; mine = []; known = []; begun = [] }

-- the first seat's view: it plays each part
abbrev pub newcomer : Size → ℕ → View
newcomer k high = record { size = k; low = 1; high = high; mine = []; known = []; begun = [] }

abbrev pub came : Me Node View → Me Node View → Type 0
came me me' = me' ≡ (record me.0 { low = me.0.high }, me.1)

-- a seat that plays no part and stands behind all parts
abbrev pub nobody : Size → View
nobody k =
    let behind : ℕ = 1 + k.clients + k.colours in
    record { size = k; low = behind; high = behind; mine = []; known = []; begun = [] }

-- the view of a seat that has begun the row for x
abbrev pub after_begin : View → Size → Row → Node → View
after_begin v k row x = with_node (wrote v (row_word k row) x.colours.0) (row_at k row) (some x)

-- the seat plays this part alone
abbrev pub PlaysOne : View → ℕ → Type 0
PlaysOne v a = (v.low ≡ a) × (v.high ≡ v.low + 1)

-- the seat knows the row r as begun for a node with the colour c
abbrev pub HasColour : View → ℕ → ℕ → Type 0
HasColour v r c = (x : Node) × Has v.begun r x × (has x.colours c ≡ true)

-- each row of the client that the seat has begun is known as begun for a node with another id
abbrev pub IsNewTo : View → ℕ → Id → Type 0
IsNewTo v client id =
    (q : ℕ) → q / v.size.rows ≡ client → at v.mine (word_at v.size q 0) ≢ 0
    → (y : Node) × Has v.begun q y × (y.id ≢ id)

-- P holds of all lawful words that fit what the seat knows
abbrev pub AlwaysIn : Size → View → (List ℕ → Type 0) → Type 0
AlwaysIn k v P = (ws : List ℕ) → Lawful k ws → Fits k ws v → P ws

-- P holds of some
abbrev pub OnceIn : Size → View → (List ℕ → Type 0) → Type 0
OnceIn k v P = (ws : List ℕ) × Lawful k ws × Fits k ws v × P ws

-- the view of a seat that knows what v and w know, after one more load
abbrev pub Joins : View → View → View → Type 0
Joins v w u = (n : ℕ) × (u ≡ heard (both v w) 0 n) × Told (both v w) 0 n

-- the second seat's parts are those behind the first one's
abbrev pub Follows : View → View → Type 0
Follows v w = (v.high ≡ w.low) × (v.low ≤ v.high) × (w.low ≤ w.high)
