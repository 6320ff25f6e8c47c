-- What a history says of one id: how it entered, how it was settled, and what has come of it.
use Rattle.std.specs.Prelude.{◌≡◌, Bool, true, ℕ, List, not, ◌&&◌, Some, slice_get}
use Rattle.std.specs.List.{Contains, filter}
use Rattle.log_node.specs.declared.ids.Id.{Id}
use Rattle.log_node.specs.declared.ids.Key.{Key}
use Rattle.log_node.specs.declared.ids.Counts.{Counts}
use Rattle.log_node.specs.Order.{key_below}
use Rattle.log_node.specs.declared.marks.Outcome.{Outcome}
use Rattle.log_node.specs.declared.marks.Outcome.TheVariants.{Open, Gone, Final}
use Rattle.log_node.specs.Standings.{Standing}
use Rattle.col_core.specs.declared.Event.{Event}
use Rattle.col_core.specs.declared.Event.TheVariants.{Single, Propose, Settle, Raise, Give, Carry, Trim}
use Rattle.col_core.specs.declared.Entry.{Entry}
use Rattle.col_core.specs.History.{entries, line, entry_key}

-- the column entered the id as final under this stamp
abbrev pub Singles : List Entry → Id → ℕ → Type 0
Singles history id stamp =
    (n : ℕ) × (e : Entry) × (floor : ℕ) × (wants : Counts)
    × (slice_get history n ≡ Some e) × (e.event ≡ Single id floor wants) × (e.stamp ≡ stamp)

-- the column proposed the id under this stamp
abbrev pub Proposes : List Entry → Id → ℕ → Type 0
Proposes history id stamp =
    (n : ℕ) × (e : Entry) × (floor : ℕ) × (wants : Counts)
    × (slice_get history n ≡ Some e) × (e.event ≡ Propose id floor wants) × (e.stamp ≡ stamp)

-- a settling of the id with this outcome stands in the history
abbrev pub Settles : List Entry → Id → Outcome → Type 0
Settles history id outcome = (e : Entry) × Contains history e × (e.event ≡ Settle id outcome)

-- the event proposes or settles the id
abbrev pub IsStepOf : Id → Event → Type 0
IsStepOf id (Single other floor wants) = ⊥
IsStepOf id (Propose other floor wants) = other ≡ id
IsStepOf id (Settle other outcome) = other ≡ id
IsStepOf id (Raise to) = ⊥
IsStepOf id (Give region from) = ⊥
IsStepOf id (Carry region start heads) = ⊥
IsStepOf id (Trim counts) = ⊥

-- the id is final under the stamp
abbrev pub IsFinal : List Entry → Id → ℕ → Type 0
IsFinal history id stamp = Contains (entries history) (record { key = entry_key stamp id; settled = true })

-- the id has an entry, open or final
abbrev pub HasEntry : List Entry → Id → Type 0
HasEntry history id = (e : Standing) × Contains (entries history) e × (e.key.id ≡ id)

-- the id stands at the position of the line
abbrev pub StandsAt : List Entry → ℕ → Id → Type 0
StandsAt history position id = (key : Key) × (slice_get (line history) position ≡ Some key) × (key.id ≡ id)

-- what comes of an id that is settled with an outcome: it is final under the number, or has no entry
abbrev pub HasCome : List Entry → Id → Outcome → Type 0
HasCome history id Open = ⊥
HasCome history id (Gone why) = HasEntry history id → ⊥
HasCome history id (Final f) = IsFinal history id f

-- how an id that has entered came to be no longer open
pub data IsOver (history : List Entry) (id : Id) : Type 0 where
  alone : (stamp : ℕ) → Singles history id stamp → IsOver history id
  settled : (outcome : Outcome) → Settles history id outcome → IsOver history id

-- the entry is open, and its key is below this one
abbrev pub is_open_below : Key → Standing → Bool
is_open_below key e = not e.settled && key_below e.key key

-- the open entries below a key, in rising key
abbrev pub open_below : Key → List Entry → List Standing
open_below key history = filter (is_open_below key) (entries history)
