-- What the definitions have for consequences about one id, about open entries, and about clocks. A history is lawful as it is
-- dated; what is said of a longer history is said of the history itself too, with nothing more.
use Rattle.std.specs.Prelude.{◌≡◌, IsTrue, false, ℕ, ◌<◌, ◌≤◌, List, [], ◌++◌, length, Some, None}
use Rattle.std.specs.List.{Contains}
use Rattle.log_node.specs.declared.ids.Id.{Id}
use Rattle.log_node.specs.declared.ids.Key.{Key}
use Rattle.log_node.specs.declared.marks.Outcome.{Outcome}
use Rattle.log_node.specs.Vectors.{at}
use Rattle.log_node.specs.Standings.{Standing, open_entry}
use Rattle.col_core.specs.declared.Entry.{Entry}
use Rattle.col_core.specs.History.{clock, last_stamp, entries, line, entry_key, has_entered, IsAtEnd}
use Rattle.col_core.specs.Computed.{cut, dated}
use Rattle.col_core.specs.Legal.{IsColumnHistory}
use Rattle.col_core.specs.Ids.{Singles, Proposes, Settles, IsFinal, HasCome, IsOver, is_open_below, open_below}

-- The own line lies wholly within the cut.
abbrev pub OwnLineWithin : Type 0
OwnLineWithin = (own regions : ℕ) (history : List Entry) → own < 4 → IsColumnHistory own regions (dated own history)
    → at (cut own (dated own history)) own ≡ length (line history)

-- What opens later has a stamp above the clock: an open entry with a stamp at or under an earlier clock was open then.
abbrev pub OpensAbove : Type 0
OpensAbove = (own regions : ℕ) (history more : List Entry) (f : Standing)
    → IsColumnHistory own regions (dated own (history ++ more))
    → Contains (entries (history ++ more)) f → f.settled ≡ false → f.key.stamp ≤ clock history
    → Contains (entries history) f

-- So of the open entries below a key at or under the clock some only leave.
pub record OnlyLeave (history more : List Entry) (key : Key) : Type 0 where
  pub fewer : length (open_below key (history ++ more)) ≤ length (open_below key history)
  -- there are fewer, where one of them is no longer open
  pub left : (f : Standing) → Contains (entries history) f → IsTrue (is_open_below key f)
      → open_entry f.key.id (entries (history ++ more)) ≡ None
      → length (open_below key (history ++ more)) < length (open_below key history)

abbrev pub OpenOnlyLeave : Type 0
OpenOnlyLeave = (own regions : ℕ) (history more : List Entry) (key : Key)
    → IsColumnHistory own regions (dated own (history ++ more)) → key.stamp ≤ clock history
    → OnlyLeave history more key

-- A final entry stands in the line where no open one is below its key.
abbrev pub ClearStands : Type 0
ClearStands = (own regions : ℕ) (history : List Entry) (id : Id) (stamp : ℕ)
    → IsColumnHistory own regions (dated own history) → IsFinal history id stamp
    → open_below (entry_key stamp id) history ≡ [] → Contains (line history) (entry_key stamp id)

-- An id that has entered and is not open came by a single, or was settled.
abbrev pub EnteredIsOver : Type 0
EnteredIsOver = (own regions : ℕ) (history : List Entry) (id : Id) → IsColumnHistory own regions (dated own history)
    → IsTrue (has_entered id history) → open_entry id (entries history) ≡ None → IsOver history id

-- A settled id stays settled, with that outcome alone.
pub record IsSettled (history : List Entry) (id : Id) (outcome : Outcome) : Type 0 where
  pub once : (other : Outcome) → Settles history id other → other ≡ outcome
  pub closed : open_entry id (entries history) ≡ None
  pub come : HasCome history id outcome

abbrev pub SettledStays : Type 0
SettledStays = (own regions : ℕ) (history more : List Entry) (id : Id) (outcome : Outcome)
    → IsColumnHistory own regions (dated own (history ++ more)) → Settles history id outcome
    → IsSettled (history ++ more) id outcome

-- The id of a single stays final under its stamp, and is never settled.
pub record IsAlone (history : List Entry) (id : Id) (stamp : ℕ) : Type 0 where
  pub unsettled : (outcome : Outcome) → Settles history id outcome → ⊥
  pub closed : open_entry id (entries history) ≡ None
  pub final : IsFinal history id stamp

abbrev pub SinglesStay : Type 0
SinglesStay = (own regions : ℕ) (history more : List Entry) (id : Id) (stamp : ℕ)
    → IsColumnHistory own regions (dated own (history ++ more)) → Singles history id stamp
    → IsAlone (history ++ more) id stamp

-- An open id was proposed, under the stamp that its entry has.
pub record IsProposed (history : List Entry) (id : Id) (e : Standing) : Type 0 where
  pub of_id : e.key.id ≡ id
  pub unsettled : e.settled ≡ false
  pub proposed : Proposes history id e.key.stamp

abbrev pub OpenIsProposed : Type 0
OpenIsProposed = (own regions : ℕ) (history : List Entry) (id : Id) (e : Standing)
    → IsColumnHistory own regions (dated own history) → open_entry id (entries history) ≡ Some e
    → IsProposed history id e

-- A proposed id is open until it is settled.
abbrev pub ProposedIsOpen : Type 0
ProposedIsOpen = (own regions : ℕ) (history : List Entry) (id : Id) (stamp : ℕ)
    → IsColumnHistory own regions (dated own history) → Proposes history id stamp
    → ((outcome : Outcome) → Settles history id outcome → ⊥)
    → open_entry id (entries history) ≡ Some (record { key = entry_key stamp id; settled = false })

-- An id is proposed once.
abbrev pub ProposedOnce : Type 0
ProposedOnce = (own regions : ℕ) (history : List Entry) (id : Id) (one other : ℕ)
    → IsColumnHistory own regions (dated own history) → Proposes history id one → Proposes history id other
    → one ≡ other

-- A clock does not fall, and is at most the last stamp; no entry's stamp is above it.
pub record ClockRises (history more : List Entry) : Type 0 where
  pub rises : clock history ≤ clock (history ++ more)
  pub within : clock (history ++ more) ≤ last_stamp
  -- where no stamp was left for a floor none is
  pub ended : (floor : ℕ) → IsAtEnd history floor → IsAtEnd (history ++ more) floor
  pub stamps : (e : Standing) → Contains (entries (history ++ more)) e → e.key.stamp ≤ clock (history ++ more)

abbrev pub ClocksRise : Type 0
ClocksRise = (own regions : ℕ) (history more : List Entry)
    → IsColumnHistory own regions (dated own (history ++ more)) → ClockRises history more
