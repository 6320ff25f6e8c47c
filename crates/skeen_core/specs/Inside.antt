-- What a delivery queue keeps true of its fields.
use Rattle.std.specs.Prelude.{◌≡◌, ◌≤◌, ℕ, ◌+◌, ◌-◌, true, false, if◌then◌else◌}
use Rattle.std.specs.Prelude.{List, [], ◌∷◌, ◌++◌, map, take, drop, length}
use Rattle.std.specs.List.{AllByRecursion, prefix_len}
use Rattle.log_node.specs.declared.ids.Key.{Key}
use Rattle.log_node.specs.Order.{same_id, key_below}
use Rattle.log_node.specs.declared.marks.Why.TheVariants.{Memory, StampEnd}
use Rattle.log_node.specs.declared.marks.Outcome.{Outcome}
use Rattle.log_node.specs.declared.marks.Outcome.TheVariants.{Open, Gone, Final}
use Rattle.skeen_core.specs.declared.outcomes.Tally.{Tally}
use Rattle.log_node.specs.declared.limits.TheConstants.{MAX_STAMP}
use Rattle.skeen_core.specs.declared.waiting.Waiting.{Waiting}
use Rattle.log_node.specs.Standings.{Standing}
use Rattle.skeen_core.specs.Queues.{Queued, standing_of}

-- the final entry under a key
abbrev pub final_at : Key → Standing
final_at key = record { key = key; settled = true }

-- the entries of a line, and those that wait behind it
abbrev pub all_entries : {T : Type 0} → List Key → List (Waiting T) → List Standing
all_entries line waiting = map final_at line ++ map standing_of waiting

-- final entries with these keys and things
abbrev pub with_things : {T : Type 0} → List Key → List T → List (Waiting T)
with_things [] things = []
with_things (k ∷ ks) [] = []
with_things (k ∷ ks) (t ∷ ts) = record { key = k; settled = true; thing = t } ∷ with_things ks ts

-- the entries of a line whose things are kept, and those that wait behind it
abbrev pub all_stored : {T : Type 0} → List Key → List T → List (Waiting T) → List (Waiting T)
all_stored line kept waiting = with_things (drop (length line - length kept) line) kept ++ waiting

-- what contracts see of these fields
abbrev pub queued : {T : Type 0} → ℕ → ℕ → List Key → List T → List (Waiting T) → Queued T
queued clock spare line kept waiting = record {
  clock = clock;
  entries = all_entries line waiting;
  base = length line - length kept;
  stored = all_stored line kept waiting;
  spare = spare;
}

-- every key is above those before it
abbrev pub IsRising : List Standing → Type 0
IsRising [] = Unit {0}
IsRising (e ∷ es) = AllByRecursion (λ f. key_below e.key f.key ≡ true) es × IsRising es

-- no two entries have one id
abbrev pub AreApart : List Standing → Type 0
AreApart [] = Unit {0}
AreApart (e ∷ es) = AllByRecursion (λ f. same_id f.key.id e.key.id ≡ false) es × AreApart es

-- entries by Skeen: in rising key, of different ids, none above the clock
pub record AreEntries (clock : ℕ) (entries : List Standing) : Type 0 where
  pub rising : IsRising entries
  pub apart : AreApart entries
  pub within : AllByRecursion (λ e. e.key.stamp ≤ clock) entries

-- nothing waits, or the first that waits is open
abbrev pub StartsOpen : {T : Type 0} → List (Waiting T) → Type 0
StartsOpen [] = Unit {0}
StartsOpen (w ∷ ws) = w.settled ≡ false

-- how many entries in front are final
abbrev pub ready : {T : Type 0} → List (Waiting T) → ℕ
ready waiting = prefix_len (λ w. w.settled) waiting

-- their keys and their things, and what is left behind them
abbrev pub ready_keys : {T : Type 0} → List (Waiting T) → List Key
ready_keys waiting = map (λ w. w.key) (take (ready waiting) waiting)

abbrev pub ready_things : {T : Type 0} → List (Waiting T) → List T
ready_things waiting = map (λ w. w.thing) (take (ready waiting) waiting)

abbrev pub left : {T : Type 0} → List (Waiting T) → List (Waiting T)
left waiting = drop (ready waiting) waiting

-- the keys of these entries rise
abbrev pub IsRisingStored : {T : Type 0} → List (Waiting T) → Type 0
IsRisingStored ws = IsRising (map standing_of ws)

-- the fields of a queue: the room in each vector is for all that wait and for the spare places
pub record IsQueue {T : Type 0} (clock spare : ℕ) (line : List Key) (kept : List T) (waiting : List (Waiting T))
    (line_room kept_room waiting_room : ℕ) : Type 0 where
  pub entries : AreEntries clock (all_entries line waiting)
  pub front : StartsOpen waiting
  pub bounded : clock ≤ MAX_STAMP
  pub fewer : length kept ≤ length line
  pub in_line : length line + (length waiting + spare) ≤ line_room
  pub in_kept : length kept + (length waiting + spare) ≤ kept_room
  pub in_waiting : length waiting + spare ≤ waiting_room

-- the outcome of marks that have this among them
abbrev pub outcome_among : Tally → Outcome
outcome_among all =
    if all.missing then Open
    else (if all.stamp_end then Gone StampEnd
    else (if all.memory then Gone Memory
    else Final all.greatest))
