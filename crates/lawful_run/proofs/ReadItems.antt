-- No key up to a stamp comes into a line any more, once the clock is at the stamp and no open entry up to it is left.
use Rattle.std.proofs.Common.{◌≡◌, ℕ, zero, suc, ◌<◌, ◌≤◌, List, [], ◌∷◌, ◌++◌, length, reverse, true, false, Bool, slice_index_or, refl, ap, sym, subst, ◌∙◌, inl, inr, arith}
use Rattle.std.specs.Prelude.{not, ◌||◌, map}
use Rattle.std.specs.List.{All, Contains, filter, list_all}
use Rattle.std.proofs.lemmas.List.{reverse-append}
use Rattle.std.proofs.lemmas.Bool.{and_from, or_left, or_right, lt-ltb}
use Rattle.log_node.specs.declared.ids.Id.{Id}
use Rattle.log_node.specs.declared.ids.Key.{Key}
use Rattle.log_node.specs.Order.{same_id, key_below}
use Rattle.log_node.specs.declared.marks.Outcome.TheVariants.{Open, Gone, Final}
use Rattle.log_node.specs.Standings.{Standing, with_entry, without_id, is_delivered, line_of}
use Rattle.col_core.specs.declared.Event.TheVariants as events
use Rattle.col_core.specs.declared.Event.{Event}
use Rattle.col_core.specs.declared.Entry.{Entry}
use Rattle.col_core.specs.History as history
use Rattle.col_core.specs.History.{entry_key, with_event}
use Rattle.col_core.specs.Computed.{dated}
use Rattle.col_core.specs.Legal.{IsColumnHistory}
use Rattle.col_core.specs.RegionOrder.{IsClearUpTo}
use Rattle.col_core.proofs.CallerLemmas.{Waits, status, standing_of, clock, entries, IsLawfulPast, IsLawfulNext, In}
use Rattle.col_core.proofs.CallerLemmas.{in_with, in_filter, in_filter-back, in_line, stands, entries-of, clock-of}
use Rattle.col_core.proofs.CallerLemmas.{lawful_past, dated-is_dated}

-- every open entry is above the stamp
abbrev IsClear : ℕ → List Standing → Type 0
IsClear w es = (e : Standing) → In e es → e.settled ≡ false → w < e.key.stamp

-- entries up to the stamp are among these
abbrev Among : ℕ → List Standing → List Standing → Type 0
Among w es old = (e : Standing) → In e es → e.key.stamp ≤ w → In e old

-- what one event leaves so
record Keeps (w : ℕ) (before after : List Standing) : Type 0 where
  pub clear : IsClear w after
  pub among : Among w after before

-- an entry that comes in above the stamp
comes_in : (w : ℕ) (es : List Standing) (x : Standing) → w < x.key.stamp → IsClear w es → Keeps w es (with_entry x es)
comes_in w es x above c = record {
  clear = λ e i o. elim (in_with e x es i) [
    | inl t ↦ subst
        (λ (y : Standing). w < y.key.stamp) t above
    | inr t ↦ c e t o
  ];
  among = λ e i le. elim (in_with e x es i) [
    | inl t ↦ absurd (let a = subst (λ (y : Standing). w < y.key.stamp) t above in omega (arith, a, le))
    | inr t ↦ t
  ];
}

as_before : (w : ℕ) (es : List Standing) → IsClear w es → Keeps w es es
as_before w es c = record { clear = c; among = λ e i le. i }

-- an id goes out
goes : (w : ℕ) (id : Id) (es : List Standing) → IsClear w es → Keeps w es (without_id id es)
goes w id es c = record {
  clear = λ e i o. c e (in_filter (λ (f : Standing). not (same_id f.key.id id)) e es i).0 o;
  among = λ e i le. (in_filter (λ (f : Standing). not (same_id f.key.id id)) e es i).0;
}

-- an id becomes final above the stamp
becomes_final : (w : ℕ) (id : Id) (f : ℕ) (es : List Standing) → w < f → IsClear w es
    → Keeps w es (with_entry (record { key = entry_key f id; settled = true }) (without_id id es))
becomes_final w id f es above c =
    let g = goes w id es c in
    let k = comes_in w (without_id id es) (record { key = entry_key f id; settled = true }) above g.clear in
    record { clear = k.clear; among = λ e i le. g.among e (k.among e i le) le }

-- the open entry of an id that waits
open_above : (w : ℕ) (past : List Entry) → IsLawfulPast past → IsClear w (entries past) → (id : Id) (s : ℕ)
    → status id past ≡ Waits s → w < s
open_above w past l c id s is =
    c (record { key = entry_key s id; settled = false })
    (stands past l id (record { key = entry_key s id; settled = false }) (ap (standing_of id) is)) refl

event_keeps : (w : ℕ) (past : List Entry) → IsLawfulPast past → w ≤ clock past → IsClear w (entries past)
    → (ev : Event) (stamp : ℕ) → IsLawfulNext past ev stamp
    → Keeps w (entries past) (with_event (entries past) ev stamp)
event_keeps w past l le c (events.Single id floor wants) stamp n =
    comes_in w (entries past) (record { key = entry_key stamp id; settled = true })
    (let s = n.stamped in omega (arith, s, le)) c
event_keeps w past l le c (events.Propose id floor wants) stamp n =
    comes_in w (entries past) (record { key = entry_key stamp id; settled = false })
    (let s = n.stamped in omega (arith, s, le)) c
event_keeps w past l le c (events.Settle id Open) stamp n = absurd n.settling
event_keeps w past l le c (events.Settle id (Gone why)) stamp n = goes w id (entries past) c
event_keeps w past l le c (events.Settle id (Final f)) stamp n =
    becomes_final w id f (entries past) (let a = open_above w past l c id n.stamp n.waits in let b = n.settling.0 in
    omega (arith, a, b)) c
event_keeps w past l le c (events.Raise to) stamp n = as_before w (entries past) c
event_keeps w past l le c (events.Give region from) stamp n = as_before w (entries past) c
event_keeps w past l le c (events.Carry region start heads) stamp n = as_before w (entries past) c
event_keeps w past l le c (events.Trim counts) stamp n = as_before w (entries past) c

pub clock_later : (newer past : List Entry) (w : ℕ) → w ≤ clock past → w ≤ clock (newer ++ past)
clock_later [] past w le = le
clock_later (e ∷ newer) past w le = let a = clock_later newer past w le in omega (arith, a)

keeps_later : (w : ℕ) (newer past : List Entry) → IsLawfulPast (newer ++ past) → w ≤ clock past
    → IsClear w (entries past) → Keeps w (entries past) (entries (newer ++ past))
keeps_later w [] past l le c = as_before w (entries past) c
keeps_later w (e ∷ newer) past l le c =
    let k = keeps_later w newer past l.1 le c in
    let n = event_keeps w (newer ++ past) l.1 (clock_later newer past w le) k.clear e.event e.stamp l.0 in
    record { clear = n.clear; among = λ x i low. k.among x (n.among x i low) low }

-- a final entry up to the stamp is delivered
all_below : (w : ℕ) (k : Key) → k.stamp ≤ w → (es : List Standing) → IsClear w es
    → list_all (λ (f : Standing). f.settled || key_below k f.key) es ≡ true
all_below w k le [] c = refl
all_below w k le (f ∷ es) c = and_from (f.settled || key_below k f.key) _ (one f.settled refl)
    (all_below w k le es (λ e i o. c e (inr i) o)) where
      one : (b : Bool) → f.settled ≡ b → (f.settled || key_below k f.key) ≡ true
      one true is = or_left f.settled _ is
      one false is = or_right f.settled _ (or_left _ _
          (lt-ltb k.stamp f.key.stamp (let a = c f (inl refl) is in omega (arith, a, le))))

in_keys : (es : List Standing) (e : Standing) → In e es → In e.key (map (λ (x : Standing). x.key) es)
in_keys [] e i = absurd i
in_keys (x ∷ es) e (inl t) = inl (ap (λ (y : Standing). y.key) t)
in_keys (x ∷ es) e (inr t) = inr (in_keys es e t)

in_line_back : (w : ℕ) (es : List Standing) (e : Standing) → In e es → e.settled ≡ true → e.key.stamp ≤ w
    → IsClear w es → In e.key (line_of es)
in_line_back w es e i settled le c =
    in_keys (filter (is_delivered es) es) e (in_filter-back (is_delivered es) e es i
    (and_from e.settled _ settled (all_below w e.key le es c)))

pub line_stays : (w : ℕ) (newer past : List Entry) → IsLawfulPast (newer ++ past) → w ≤ clock past
    → IsClear w (entries past)
    → (k : Key) → k.stamp ≤ w → In k (line_of (entries (newer ++ past))) → In k (line_of (entries past))
line_stays w newer past l le c k low i =
    let e = in_line (entries (newer ++ past)) k i in
    let same : e.0.key.stamp ≡ k.stamp = ap (λ (x : Key). x.stamp) e.2 in
    let there = (keeps_later w newer past l le c).among e.0 e.1 (omega (arith, same, low)) in
    subst (λ (x : Key). In x (line_of (entries past))) e.2
    (in_line_back w (entries past) e.0 there e.3 (omega (arith, same, low)) c)

-- LISTS BY INDEX
in_contains : {A : Type 0} (x : A) (xs : List A) → In x xs → Contains xs x
in_contains x [] i = absurd i
in_contains x (y ∷ ys) (inl t) = (zero, omega arith, t)
in_contains x (y ∷ ys) (inr t) = let r = in_contains x ys t in (suc r.0, let l = r.1 in omega (arith, l), r.2)

contains_in : {A : Type 0} (x : A) (xs : List A) → (k : ℕ) → k < length xs → slice_index_or xs k x ≡ x → In x xs
contains_in x [] k lt e = absurd (omega (arith, lt))
contains_in x (y ∷ ys) zero lt e = inl e
contains_in x (y ∷ ys) (suc k) lt e = inr (contains_in x ys k (omega (arith, lt)) e)

all_in : {A : Type 0} (P : A → Type 0) (xs : List A) → All P xs → (x : A) → In x xs → P x
all_in P [] a x i = absurd i
all_in P (y ∷ ys) a x (inl t) = subst P t (a zero x (omega arith))
all_in P (y ∷ ys) a x (inr t) = all_in P ys (λ k d lt. a (suc k) d (omega (arith, lt))) x t

pub read_items_stay : (own regions : ℕ) (h more : List Entry) (stamp : ℕ)
    → IsColumnHistory own regions (dated own (h ++ more))
    → stamp ≤ history.clock h → IsClearUpTo stamp h
    → (key : Key) → key.stamp ≤ stamp → Contains (history.line (h ++ more)) key → Contains (history.line h) key
read_items_stay own regions h more stamp lawful at clear key low c =
    let same = (dated-is_dated own (h ++ more)).same in
    let l : IsLawfulPast (reverse (h ++ more)) = subst (λ (es : List Entry). IsLawfulPast (reverse es)) same
    (lawful_past own regions (dated own (h ++ more)) lawful) in
    let l' : IsLawfulPast (reverse more ++ reverse h) = subst IsLawfulPast (reverse-append h more) l in
    let whole : history.entries (h ++ more) ≡ entries (reverse more ++ reverse h) =
    entries-of (h ++ more) ∙ ap entries (reverse-append h more) in
    let inside : In key (line_of (entries (reverse more ++ reverse h))) =
    subst (λ (es : List Standing). In key (line_of es)) whole
    (contains_in key (history.line (h ++ more)) c.0 c.1 c.2) in
    let cleared : IsClear stamp (entries (reverse h)) =
    subst (IsClear stamp) (entries-of h) (λ e i o. all_in
    (λ (x : Standing). x.settled ≡ false → stamp < x.key.stamp) (history.entries h) clear e i o) in
    let le : stamp ≤ clock (reverse h) = subst (λ n. stamp ≤ n) (clock-of h) at in
    in_contains key (history.line h) (subst (λ (es : List Standing). In key (line_of es)) (sym (entries-of h))
    (line_stays stamp (reverse more) (reverse h) l' le cleared key low inside))
