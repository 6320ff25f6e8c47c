-- Parts of what pulls and trims say of the log.
use Rattle.std.specs.Prelude.{◌≡◌, ◌⊎◌, ℕ, ◌==◌, ◌<◌, ◌≤◌, List, length, Option, Some, None, if◌then◌else◌}
use Rattle.col_core.specs.declared.Event.{Event}
use Rattle.col_core.specs.declared.Event.TheVariants as events
use Rattle.col_core.specs.Cuts.{chain}
use Rattle.col_core.specs.Keeping.{Kept, seen_after}
use Rattle.col_core.specs.Log.{Log, first}
use Rattle.log_node.specs.declared.node.At.{At}
use Rattle.log_node.specs.declared.node.Head.{Head}
use Rattle.lawful_run.specs.Callers.{Caller}
use Rattle.lawful_run.specs.Moves.{AsksFor, CarriesNodes, GivesFrom}
use Rattle.walk_law.specs.Walking.{Walked, log_walked}

-- how many nodes of a region's chain a column held after so many events
abbrev pub held_of : Walked → ℕ → ℕ → ℕ → ℕ → ℕ
held_of walked own colour of events = length (chain own (first (log_walked walked) own colour events) of)

-- From one number of events to another it is the first after which so many nodes were held, or the last one where there is none.
pub record IsFirstHolding (walked : Walked) (own colour of from to count looked : ℕ) : Type 0 where
  pub above : from ≤ looked
  pub within : looked ≤ to
  pub least : (n : ℕ) → from ≤ n → n < looked → held_of walked own colour of n < count
  pub enough : (looked ≡ to) ⊎ (count ≤ held_of walked own colour of looked)

-- the number from which an event gives to a region
abbrev pub given_in : ℕ → Event → Option ℕ
given_in region (events.Single id floor wants) = None
given_in region (events.Propose id floor wants) = None
given_in region (events.Settle id outcome) = None
given_in region (events.Raise to) = None
given_in region (events.Give to from) = if to == region then Some from else None
given_in region (events.Carry of start heads) = None
given_in region (events.Trim counts) = None

abbrev pub given_by : ℕ → Option Event → Option ℕ
given_by region None = None
given_by region (Some event) = given_in region event

-- the event carries so many nodes of a region
abbrev pub CarriesMany : ℕ → ℕ → Option Event → Type 0
CarriesMany region many event =
    (start : ℕ) × (heads : List Head) × (event ≡ Some (events.Carry region start heads)) × (many ≡ length heads)

-- at a place the client gave from this number what was held then; or it did not
abbrev pub IsGiven : Log → Caller → ℕ → ℕ → ℕ → ℕ → ℕ → Option ℕ → Type 0
IsGiven log caller region colour seen until place None =
    (from : ℕ) → GivesFrom log caller region colour place from → AsksFor log caller region colour seen until place from → ⊥
IsGiven log caller region colour seen until place (Some from) =
    GivesFrom log caller region colour place from × AsksFor log caller region colour seen until place from

-- the client carried so many nodes, and had seen so many events of its own column then; or it did not
abbrev pub IsCarried : Log → Caller → Kept → ℕ → ℕ → ℕ → At → Option ℕ → Type 0
IsCarried log caller kept region colour nodes carry None = CarriesNodes log caller kept region colour nodes carry → ⊥
IsCarried log caller kept region colour nodes carry (Some events) =
    CarriesNodes log caller kept region colour nodes carry × (events ≡ seen_after carry)
