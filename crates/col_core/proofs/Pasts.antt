-- A column's past, which is its history with the newest entry first, and what it says of one id. Growth is proved over pasts,
-- where one more event stands at the head.
use Rattle.std.specs.Prelude.{◌≡◌, true, false, ℕ, ◌+◌, ◌<◌, ◌≤◌, max, List, [], ◌∷◌, Option, Some, None, if◌then◌else◌}
use Rattle.log_node.specs.declared.ids.Id.{Id}
use Rattle.log_node.specs.Order.{same_id}
use Rattle.log_node.specs.declared.marks.Outcome.{Outcome}
use Rattle.log_node.specs.declared.marks.Outcome.TheVariants.{Open, Gone, Final}
use Rattle.log_node.specs.Standings.{Standing}
use Rattle.col_core.specs.declared.Event.{Event}
use Rattle.col_core.specs.declared.Event.TheVariants.{Single, Propose, Settle, Raise, Give, Carry, Trim}
use Rattle.col_core.specs.declared.Entry.{Entry}
use Rattle.col_core.specs.History.{event_number, last_stamp, with_event, entry_key}

-- an id has not entered, has entered as final, waits under its tentative stamp, or was settled
pub data Status : Type 0 where
  Absent : Status
  Alone : (stamp : ℕ) → Status
  Waits : (stamp : ℕ) → Status
  Settled : (outcome : Outcome) → Status

abbrev pub after_event : Id → Event → ℕ → Status → Status
after_event id (Single other _ _) stamp before = if same_id id other then Alone stamp else before
after_event id (Propose other _ _) stamp before = if same_id id other then Waits stamp else before
after_event id (Settle other outcome) _ before = if same_id id other then Settled outcome else before
after_event id (Raise _) _ before = before
after_event id (Give _ _) _ before = before
after_event id (Carry _ _ _) _ before = before
after_event id (Trim _) _ before = before

abbrev pub status : Id → List Entry → Status
status id [] = Absent
status id (e ∷ past) = after_event id e.event e.stamp (status id past)

-- the entry of an id, if it has one
abbrev pub standing_of : Id → Status → Option Standing
standing_of id Absent = None
standing_of id (Alone stamp) = Some (record { key = entry_key stamp id; settled = true })
standing_of id (Waits stamp) = Some (record { key = entry_key stamp id; settled = false })
standing_of id (Settled Open) = None
standing_of id (Settled (Gone why)) = None
standing_of id (Settled (Final f)) = Some (record { key = entry_key f id; settled = true })

-- Lamport's clock after a past
abbrev pub clock : List Entry → ℕ
clock [] = 0
clock (e ∷ past) = max (clock past) (event_number e.event e.stamp)

abbrev pub top : List Entry → ℕ → ℕ
top past floor = max (clock past) floor

-- the entries after a past
abbrev pub entries : List Entry → List Standing
entries [] = []
entries (e ∷ past) = with_event (entries past) e.event e.stamp

-- an outcome that an entry that waits under the stamp may have
abbrev pub IsSettling : Outcome → ℕ → Type 0
IsSettling Open stamp = ⊥
IsSettling (Gone why) stamp = Unit {0}
IsSettling (Final f) stamp = (stamp ≤ f) × (f ≤ last_stamp)

-- the id may enter under the stamp
pub record MayEnter (past : List Entry) (id : Id) (floor stamp : ℕ) : Type 0 where
  pub fresh : status id past ≡ Absent
  pub stamped : stamp ≡ top past floor + 1
  pub in_range : stamp ≤ last_stamp

pub record MaySettle (past : List Entry) (id : Id) (outcome : Outcome) (given : ℕ) : Type 0 where
  pub none : given ≡ 0
  pub stamp : ℕ
  pub waits : status id past ≡ Waits stamp
  pub settling : IsSettling outcome stamp

pub record MayRaise (past : List Entry) (to given : ℕ) : Type 0 where
  pub none : given ≡ 0
  pub above : clock past < to
  pub in_range : to ≤ last_stamp

-- The event may come after the past. What is given, carried and trimmed changes no entry.
abbrev pub IsLawfulNext : List Entry → Event → ℕ → Type 0
IsLawfulNext past (Single id floor wants) stamp = MayEnter past id floor stamp
IsLawfulNext past (Propose id floor wants) stamp = MayEnter past id floor stamp
IsLawfulNext past (Settle id outcome) stamp = MaySettle past id outcome stamp
IsLawfulNext past (Raise to) stamp = MayRaise past to stamp
IsLawfulNext past (Give _ _) stamp = Unit {0}
IsLawfulNext past (Carry _ _ _) stamp = Unit {0}
IsLawfulNext past (Trim _) stamp = Unit {0}

abbrev pub IsLawfulPast : List Entry → Type 0
IsLawfulPast [] = Unit {0}
IsLawfulPast (e ∷ past) = IsLawfulNext past e.event e.stamp × IsLawfulPast past
