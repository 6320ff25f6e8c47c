-- What contracts see of a delivery queue, and what its calls make of it.
use Rattle.std.specs.Prelude.{◌≡◌, ◌<◌, ◌≤◌, ℕ, ◌+◌, ◌-◌, max, Bool, true, false, not, if◌then◌else◌, refl}
use Rattle.std.specs.Prelude.{List, [], ◌∷◌, ◌++◌, take, drop, length, Option, Some, None}
use Rattle.std.specs.Coded.{Coded, code_by, coded×, coded_ℕ, coded_list}
use Rattle.std.specs.List.{list_any, filter, find}
use Rattle.log_node.specs.declared.ids.Id.{Id}
use Rattle.log_node.specs.declared.ids.Key.{Key}
use Rattle.log_node.specs.Order.{same_id, key_below}
use Rattle.log_node.specs.declared.limits.TheConstants.{MAX_STAMP}
use Rattle.log_node.specs.declared.marks.Outcome.{Outcome}
use Rattle.log_node.specs.declared.marks.Outcome.TheVariants.{Open, Gone, Final}
use Rattle.skeen_core.specs.declared.waiting.Waiting.{Waiting}
use Rattle.log_node.specs.Outcomes.{final_number}
use Rattle.skeen_core.specs.Codes.{standing_code, waiting_code}
use Rattle.log_node.specs.Standings.{Standing, is_open_id, open_entry, settled_entries, with_entry, line_of}

-- a delivery queue: its clock, all its entries in rising key, how many things of its line are dropped, the entries
-- from there on with their things, and for how many more entries it has memory
pub record Queued (T : Type 0) : Type 0 where
  pub clock : ℕ
  pub entries : List Standing
  pub base : ℕ
  pub stored : List (Waiting T)
  pub spare : ℕ

-- a queue is stored as the tuple of its fields
abbrev pub queued_code : {T : Type 0} → Coded T → Coded (Queued T)
queued_code {T} code =
    code_by
    (ℕ × (List Standing × (ℕ × (List (Waiting T) × ℕ))))
    (coded× coded_ℕ (coded× (coded_list standing_code)
    (coded× coded_ℕ (coded× (coded_list (waiting_code code)) coded_ℕ))))
    (λ q. (q.clock, (q.entries, (q.base, (q.stored, q.spare)))))
    (λ p. record { clock = p.0; entries = p.1.0; base = p.1.1.0; stored = p.1.1.1.0; spare = p.1.1.1.1 })
    (λ _. refl)

abbrev pub standing_of : {T : Type 0} → Waiting T → Standing
standing_of w = record { key = w.key; settled = w.settled }

-- the stamp that comes next for a floor
abbrev pub stamp_after : ℕ → ℕ → ℕ
stamp_after clock floor = max clock floor + 1

-- a stamp is left for a floor
abbrev pub HasStamp : ℕ → ℕ → Type 0
HasStamp clock floor = max clock floor < MAX_STAMP

-- none is left
abbrev pub IsAtEnd : ℕ → ℕ → Type 0
IsAtEnd clock floor = max clock floor ≡ MAX_STAMP

-- an entry with its thing
abbrev pub entry_under : {T : Type 0} → ℕ → Id → Bool → T → Waiting T
entry_under stamp id settled thing = record {
  key = record { stamp = stamp; id = id };
  settled = settled;
  thing = thing;
}

-- an entry has this id
abbrev pub has_id : Id → List Standing → Bool
has_id id entries = list_any (λ e. same_id e.key.id id) entries

-- an entry is open under this id
abbrev pub has_open : Id → List Standing → Bool
has_open id entries = list_any (is_open_id id) entries

-- an outcome that settles
abbrev pub is_decided : Outcome → Bool
is_decided Open = false
is_decided (Gone why) = true
is_decided (Final f) = true

-- the entry made final under a number
abbrev pub final_entry : {T : Type 0} → ℕ → Waiting T → Waiting T
final_entry f w = record { key = record { stamp = f; id = w.key.id }; settled = true; thing = w.thing }

-- stored entries are in rising key as well
abbrev pub with_stored : {T : Type 0} → Waiting T → List (Waiting T) → List (Waiting T)
with_stored w [] = w ∷ []
with_stored w (v ∷ vs) = if key_below w.key v.key then w ∷ v ∷ vs else v ∷ with_stored w vs

abbrev pub stored_without : {T : Type 0} → Id → List (Waiting T) → List (Waiting T)
stored_without id stored = filter (λ w. not (same_id w.key.id id)) stored

-- one more entry, where there is one
abbrev pub with_found : {T : Type 0} → ℕ → Option (Waiting T) → List (Waiting T) → List (Waiting T)
with_found f None stored = stored
with_found f (Some w) stored = with_stored (final_entry f w) stored

-- a settled id keeps its thing under its final number, or is out with it
abbrev pub settled_stored : {T : Type 0} → Id → Outcome → List (Waiting T) → List (Waiting T)
settled_stored id Open stored = stored
settled_stored id (Gone why) stored = stored_without id stored
settled_stored id (Final f) stored =
    with_found f (find (λ w. is_open_id id (standing_of w)) stored) (stored_without id stored)

-- the queue after an id was settled
abbrev pub settled_queue : {T : Type 0} → Id → Outcome → Queued T → Queued T
settled_queue id outcome q = record q {
  clock = max q.clock (final_number outcome);
  entries = settled_entries id outcome q.entries;
  stored = settled_stored id outcome q.stored;
}

-- the queue after an entry came in under the next stamp
abbrev pub entered_queue : {T : Type 0} → Waiting T → Queued T → Queued T
entered_queue w q = record q {
  clock = w.key.stamp;
  entries = with_entry (standing_of w) q.entries;
  stored = q.stored ++ w ∷ [];
  spare = q.spare - 1;
}

-- the queue after the things of the line below a base were dropped; no base falls
abbrev pub dropped_queue : {T : Type 0} → ℕ → Queued T → Queued T
dropped_queue base q = record q { base = max base q.base; stored = drop (base - q.base) q.stored }

-- how many things of the line are stored
abbrev pub kept_count : {T : Type 0} → Queued T → ℕ
kept_count q = length (line_of q.entries) - q.base

-- the stored entries of the line
abbrev pub kept_entries : {T : Type 0} → Queued T → List (Waiting T)
kept_entries q = take (kept_count q) q.stored

-- the entries that are not in the line
abbrev pub waiting_entries : {T : Type 0} → Queued T → List (Waiting T)
waiting_entries q = drop (kept_count q) q.stored

-- later keys stand behind those that are there
abbrev pub IsContinued : List Key → List Key → Type 0
IsContinued old new = (more : List Key) × (new ≡ old ++ more)

-- an outcome with which an id may be settled: its final number is at least the one under which it is open
abbrev pub MaySettle : Id → Outcome → List Standing → ℕ → Type 0
MaySettle id Open entries last = Unit {0}
MaySettle id (Gone why) entries last = Unit {0}
MaySettle id (Final f) entries last = (e : Standing) → open_entry id entries ≡ Some e → (e.key.stamp ≤ f) × (f ≤ last)
