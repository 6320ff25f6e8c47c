-- What a lawful history says of an id and of its clock.
use Rattle.std.proofs.Common.{◌≡◌, ℕ, zero, suc, ◌+◌, ◌≤◌, max, List, [], ◌∷◌, ◌++◌, take, Option, Some, Bool, true, false, refl, subst, ap, sym, inl, inr, ◌⊎◌, arith}
use Rattle.std.specs.Prelude.{◌==◌, ◌≢◌, not, reverse, slice_get, IsSomeAnd}
use Rattle.std.specs.List.{list_any, find}
use Rattle.std.proofs.lemmas.Bool.{eq-eqb, or_from, or_cases, or_left, or_right, true≢false}
use Rattle.log_node.specs.declared.ids.Id.{Id}
use Rattle.log_node.specs.Order.{same_id}
use Rattle.log_node.specs.declared.marks.Outcome.{Outcome}
use Rattle.log_node.specs.declared.marks.Outcome.TheVariants.{Open, Gone, Final}
use Rattle.log_node.specs.Standings.{Standing, open_entry, is_open_id}
use Rattle.skeen_core.specs.Queues.{has_open}
use Rattle.col_core.specs.declared.Event.{Event}
use Rattle.col_core.specs.declared.Event.TheVariants as events
use Rattle.col_core.specs.declared.Entry.{Entry}
use Rattle.col_core.specs.History.{clock, entries, last_stamp, next_stamp, event_number, enters, has_entered}
use Rattle.col_core.specs.Cuts.{Dated, entries_of}
use Rattle.col_core.specs.Computed.{cut, dated}
use Rattle.col_core.specs.Legal.{IsSettling, IsLawfulEvent, IsColumnHistory}
use Rattle.col_core.proofs.CallerLemmas.{dated-append, choice, both, apart, not_true, same_id-refl, same_id-true}
use Rattle.col_core.proofs.CallerLemmas.{dated-is_dated, In, shown, stands, Status, Absent, Alone, Waits, Settled}
use Rattle.col_core.proofs.CallerLemmas.{status, after_event, standing_of, IsLawfulPast, IsLawfulNext, reverse-push}
use Rattle.col_core.proofs.CallerLemmas.{entries-of, clock-of, open_waits, lawful_past}
pub use Rattle.col_core.proofs.CallerLemmas.{entries_dated, past_is_lawful}
use Rattle.col_core.proofs.CallerLemmas.{past_clock_within}
use Rattle.col_core.proofs.CallerLemmas as pasts
use Rattle.world_laws.specs.Worlds.{World, is_at_end}
use Rattle.world_laws.proofs.Basics.{in_reverse}
use Rattle.world_laws.proofs.Held.{status_in, Held}

-- Histories

pub lawful_past_in : (w : World) → Held w → (r c : ℕ) → IsLawfulPast (reverse (w.histories r c))
lawful_past_in w h r c = past_is_lawful r w.shape.regions (w.histories r c) (h.lawful r c)

pub status-last : (history : List Entry) (e : Entry) (id : Id)
    → status_in (history ++ e ∷ []) id ≡ after_event id e.event e.stamp (status_in history id)
status-last history e id = ap (status id) (reverse-push e history)

-- an element of a list with one more, and what stands before it
pub push_cases : {A : Type 0} (xs : List A) (d : A) (n : ℕ) (e : A) → slice_get (xs ++ d ∷ []) n ≡ Some e
    → ((slice_get xs n ≡ Some e) × (take n (xs ++ d ∷ []) ≡ take n xs)) ⊎ ((d ≡ e) × (take n (xs ++ d ∷ []) ≡ xs))
push_cases [] d zero e h = inr (let x : d ≡ e = cc in x, refl)
push_cases [] d (suc n) e h = absurd (let x : ⊥ = cc in x)
push_cases (x ∷ xs) d zero e h = inl (h, refl)
push_cases {A} (x ∷ xs) d (suc n) e h = turn (push_cases xs d n e h) where
  turn : ((slice_get xs n ≡ Some e) × (take n (xs ++ d ∷ []) ≡ take n xs)) ⊎ ((d ≡ e) × (take n (xs ++ d ∷ []) ≡ xs))
      → ((slice_get xs n ≡ Some e) × (x ∷ take n (xs ++ d ∷ []) ≡ x ∷ take n xs))
      ⊎ ((d ≡ e) × (x ∷ take n (xs ++ d ∷ []) ≡ x ∷ xs))
  turn (inl p) = inl (p.0, ap (λ (l : List A). x ∷ l) p.1)
  turn (inr p) = inr (p.0, ap (λ (l : List A). x ∷ l) p.1)

-- one lawful event more
dated_longer : (own regions : ℕ) (before : List Dated) (new : Dated) → IsColumnHistory own regions before
    → IsLawfulEvent own regions before new.entry.event new.entry.stamp
    → IsColumnHistory own regions (before ++ new ∷ [])
dated_longer own regions before new old next n d at = turn (push_cases before new n d at) where
  turn : ((slice_get before n ≡ Some d) × (take n (before ++ new ∷ []) ≡ take n before))
      ⊎ ((new ≡ d) × (take n (before ++ new ∷ []) ≡ before)) → IsLawfulEvent own regions
      (take n (before ++ new ∷ [])) d.entry.event d.entry.stamp
  turn (inl p) =
      subst (λ (x : List Dated). IsLawfulEvent own regions x d.entry.event d.entry.stamp) (sym p.1) (old n d p.0)
  turn (inr p) =
      subst (λ (x : List Dated). IsLawfulEvent own regions x d.entry.event d.entry.stamp) (sym p.1)
      (subst (λ (x : Dated). IsLawfulEvent own regions before x.entry.event x.entry.stamp) p.0 next)

pub history_longer : (own regions : ℕ) (history : List Entry) (e : Entry)
    → IsColumnHistory own regions (dated own history) → IsLawfulEvent own regions (dated own history) e.event e.stamp
    → IsColumnHistory own regions (dated own (history ++ e ∷ []))
history_longer own regions history e old next =
    subst (IsColumnHistory own regions) (sym (dated-append own history e))
    (dated_longer own regions (dated own history)
    (record { entry = e; cut_before = cut own (dated own history) }) old next)

-- an id whose status is absent has not entered
not_entering : (ev : Event) (stamp : ℕ) (id : Id) (st : Status) → after_event id ev stamp st ≡ Absent
    → (enters id ev ≡ false) × (st ≡ Absent)
not_entering (events.Single other floor wants) stamp id st =
    choice (λ (x : Status). x ≡ Absent → (same_id id other ≡ false) × (st ≡ Absent)) (same_id id other) (Alone stamp) st
    (λ t h. absurd (let x : ⊥ = cc in x)) (λ f h. (f, h))
not_entering (events.Propose other floor wants) stamp id st =
    choice (λ (x : Status). x ≡ Absent → (same_id id other ≡ false) × (st ≡ Absent)) (same_id id other) (Waits stamp) st
    (λ t h. absurd (let x : ⊥ = cc in x)) (λ f h. (f, h))
not_entering (events.Settle other o) stamp id st =
    choice (λ (x : Status). x ≡ Absent → (false ≡ false) × (st ≡ Absent)) (same_id id other) (Settled o) st
    (λ t h. absurd (let x : ⊥ = cc in x)) (λ f h. (refl, h))
not_entering (events.Raise _) stamp id st = λ h. (refl, h)
not_entering (events.Give _ _) stamp id st = λ h. (refl, h)
not_entering (events.Carry _ _ _) stamp id st = λ h. (refl, h)
not_entering (events.Trim _) stamp id st = λ h. (refl, h)

absent_in : (past : List Entry) (id : Id) → status id past ≡ Absent → (e : Entry) → In e past
    → enters id e.event ≡ false
absent_in [] id h e i = absurd i
absent_in (d ∷ past) id h e (inl is) =
    subst (λ (x : Entry). enters id x.event ≡ false) is (not_entering d.event d.stamp id (status id past) h).0
absent_in (d ∷ past) id h e (inr i) = absent_in past id (not_entering d.event d.stamp id (status id past) h).1 e i

none_of : {A : Type 0} (test : A → Bool) (xs : List A) → ((x : A) → In x xs → test x ≡ false) → list_any test xs ≡ false
none_of test [] h = refl
none_of test (x ∷ xs) h = or_from (test x) (list_any test xs) (h x (inl refl)) (none_of test xs (λ y i. h y (inr i)))

pub not_entered : (history : List Entry) (id : Id) → status_in history id ≡ Absent → has_entered id history ≡ false
not_entered history id absent =
    none_of (λ (e : Entry). enters id e.event) history
    (λ e i. absent_in (reverse history) id absent e (in_reverse e history i))

-- an id that is open waits, and the other way round
list_any_in : (test : Standing → Bool) (es : List Standing) → list_any test es ≡ true
    → (e : Standing) × In e es × (test e ≡ true)
list_any_in test [] h = absurd (true≢false (sym h))
list_any_in test (e ∷ es) h = turn (or_cases (test e) (list_any test es) h) (λ t. list_any_in test es t) where
  turn : (test e ≡ true) ⊎ (list_any test es ≡ true)
      → (list_any test es ≡ true → (f : Standing) × In f es × (test f ≡ true))
      → (f : Standing) × In f (e ∷ es) × (test f ≡ true)
  turn (inl t) rest = (e, inl refl, t)
  turn (inr t) rest = let r = rest t in (r.0, inr r.1, r.2)

in_list_any : (test : Standing → Bool) (es : List Standing) (e : Standing) → In e es → test e ≡ true
    → list_any test es ≡ true
in_list_any test [] e i t = absurd i
in_list_any test (f ∷ fs) e (inl is) t = or_left (test f) _ (subst (λ (x : Standing). test x ≡ true) (sym is) t)
in_list_any test (f ∷ fs) e (inr i) t = or_right (test f) _ (in_list_any test fs e i t)

-- an open entry of an id has the stamp under which the id waits
open_shown : (history : List Entry) (id : Id) (y : Standing) → IsLawfulPast (reverse history) → In y (entries history)
    → is_open_id id y ≡ true → status_in history id ≡ Waits y.key.stamp
open_shown history id y l i t =
    let p = both (not y.settled) (same_id y.key.id id) t in
    let e : y.key.id ≡ id = same_id-true y.key.id id p.1 in
    let shows = shown (reverse history) l y (subst (λ (es : List Standing). In y es) (entries-of history) i) in
    let w = open_waits y.key.id (status y.key.id (reverse history)) y shows (not_true y.settled p.0) in
    subst (λ (x : Id). status x (reverse history) ≡ Waits y.key.stamp) e w

pub open_is_waiting : (history : List Entry) (id : Id) → IsLawfulPast (reverse history)
    → has_open id (entries history) ≡ true → (s : ℕ) × (status_in history id ≡ Waits s)
open_is_waiting history id l t =
    let r = list_any_in (is_open_id id) (entries history) t in (r.0.key.stamp, open_shown history id r.0 l r.1 r.2)

abbrev open_under : ℕ → Id → Standing
open_under stamp id = record { key = record { stamp = stamp; id = id }; settled = false }

waiting_stands : (history : List Entry) (id : Id) (s : ℕ) → IsLawfulPast (reverse history)
    → status_in history id ≡ Waits s → In (open_under s id) (entries history)
waiting_stands history id s l waits =
    subst (λ (es : List Standing). In (open_under s id) es) (sym (entries-of history))
    (stands (reverse history) l id (open_under s id) (ap (standing_of id) waits))

pub waiting_is_open : (history : List Entry) (id : Id) (s : ℕ) → IsLawfulPast (reverse history)
    → status_in history id ≡ Waits s → has_open id (entries history) ≡ true
waiting_is_open history id s l waits =
    in_list_any (is_open_id id) (entries history) (open_under s id) (waiting_stands history id s l waits)
    (same_id-refl id)

-- a list's first element that passes
found : {A : Type 0} (test : A → Bool) (P : A → Type 0) (xs : List A) (x : A) → In x xs → test x ≡ true
    → ((y : A) → In y xs → test y ≡ true → P y) → IsSomeAnd (find test xs) P
found test P [] x i t h = absurd i
found {A} test P (y ∷ ys) x i t h =
    choice (λ (o : Option A). IsSomeAnd o P) (test y) (Some y) (find test ys) (λ s. h y (inl refl) s)
    (λ f. later f i (λ j. found test P ys x j t (λ z k u. h z (inr k) u))) where
      later : test y ≡ false → (y ≡ x) ⊎ In x ys → (In x ys → IsSomeAnd (find test ys) P) → IsSomeAnd (find test ys) P
      later f (inl is) rest = absurd (apart (test x) t (subst (λ (z : A). test z ≡ false) is f))
      later f (inr j) rest = rest j

-- an id that waits may be settled
pub may_settle_open : (history : List Entry) (id : Id) (o : Outcome) (s : ℕ) → IsLawfulPast (reverse history)
    → status_in history id ≡ Waits s → pasts.IsSettling o s → IsSomeAnd (open_entry id (entries history)) (IsSettling o)
may_settle_open history id o s l waits settling =
    found (is_open_id id) (IsSettling o) (entries history) (open_under s id) (waiting_stands history id s l waits)
    (same_id-refl id)
    (λ y i t. let w = open_shown history id y l i t in let same : s ≡ y.key.stamp = cc in settles o y same settling)
  where
    settles : (p : Outcome) (y : Standing) → s ≡ y.key.stamp → pasts.IsSettling p s → IsSettling p y
    settles Open y e h = absurd h
    settles (Gone why) y e h = tt
    settles (Final f) y e h = (subst (λ (n : ℕ). n ≤ f) e h.0, h.1)

pub clock_within : (history : List Entry) → IsLawfulPast (reverse history) → clock history ≤ last_stamp
clock_within history l =
    subst (λ (n : ℕ). n ≤ last_stamp) (sym (clock-of history)) (past_clock_within (reverse history) l)

-- a stamp that is not past the end
pub stamp_within : (history : List Entry) (floor : ℕ) → IsLawfulPast (reverse history) → floor ≤ last_stamp
    → is_at_end history floor ≡ false → next_stamp history floor ≤ last_stamp
stamp_within history floor l le e =
    let a = clock_within history l in
    let ne : max (clock history) floor ≢ last_stamp = λ is. apart (max (clock history) floor == last_stamp)
    (eq-eqb (max (clock history) floor) last_stamp is) e in
    below (max (clock history) floor) last_stamp (omega (arith, a, le)) ne where
      below : (m n : ℕ) → m ≤ n → m ≢ n → m + 1 ≤ n
      below m n le ne = omega (arith, le, ne)
