-- A line only grows at its end.
use Rattle.std.proofs.Common.{◌≡◌, ℕ, ◌+◌, ◌<◌, ◌≤◌, max, List, [], ◌∷◌, ◌++◌, Some, Bool, true, false, refl, subst, ap, sym, ◌∙◌, inl, inr, ◌⊎◌, arith, append_assoc}
use Rattle.std.specs.Prelude.{◌||◌, not, map}
use Rattle.std.specs.List.{filter, list_all}
use Rattle.std.proofs.lemmas.List.{append-nil}
use Rattle.std.proofs.lemmas.Bool.{true≢false, and_from, or_cases, or_left, or_right, cases_order}
use Rattle.log_node.specs.declared.ids.Id.{Id}
use Rattle.log_node.specs.declared.ids.Key.{Key}
use Rattle.log_node.specs.Order.{same_id, key_below}
use Rattle.log_node.specs.declared.marks.Outcome.TheVariants.{Open, Gone, Final}
use Rattle.log_node.specs.Standings.{Standing, with_entry, without_id, is_delivered, line_of}
use Rattle.col_core.specs.declared.Event.TheVariants as events
use Rattle.col_core.specs.declared.Event.{Event}
use Rattle.col_core.specs.declared.Entry.{Entry}
use Rattle.col_core.specs.History.{entry_key, event_number, with_event}
use Rattle.col_core.proofs.Pasts.{Status, Alone, Waits, Settled, status, after_event, standing_of, entries, clock, IsLawfulPast, IsLawfulNext, MayEnter}
use Rattle.col_core.proofs.Basics.{choice, by_test, both, apart, not_true, same_id-true}
use Rattle.col_core.proofs.KeyOrder.{IsBelow, is_below, below_is, key-trans, key-irrefl, key-total}
use Rattle.col_core.proofs.Members.{In, Rises, in_with, in_with-old, in_filter, in_filter-back, rises-filter, shown, stands, rises}

-- one list begins another
begins : (xs ys : List Standing) → Rises xs → Rises ys → ((x : Standing) → In x xs → In x ys) → ((y : Standing) → In y ys → In y xs ⊎ ((x : Standing) → In x xs → key_below x.key y.key ≡ true)) → (rest : List Standing) × (ys ≡ xs ++ rest)
unfolding Rises
begins [] ys rx ry sub new = (ys, refl)
begins (x ∷ xs) [] rx ry sub new = absurd (sub x (inl refl))
begins (x ∷ xs) (y ∷ ys) rx ry sub new =
    let same : y ≡ x = first (sub x (inl refl)) (new y (inl refl)) in
    let r = begins xs ys rx.1 ry.1 (λ z i. later z i same (sub z (inr i))) (λ z i. newer z i same (new z (inr i))) in
    (r.0, ap (λ (l : List Standing). y ∷ l) r.1 ∙ ap (λ (z : Standing). z ∷ (xs ++ r.0)) same) where
      first : (y ≡ x) ⊎ In x ys → ((x ≡ y) ⊎ In y xs) ⊎ ((z : Standing) → (x ≡ z) ⊎ In z xs → key_below z.key y.key ≡ true) → y ≡ x
      first (inl e) n = e
      first (inr i) (inl (inl e)) = sym e
      first (inr i) (inl (inr j)) = absurd (key-irrefl x.key (key-trans x.key y.key x.key (rx.0 y j) (ry.0 x i)))
      first (inr i) (inr above) = absurd (key-irrefl x.key (key-trans x.key y.key x.key (above x (inl refl)) (ry.0 x i)))

      later : (z : Standing) → In z xs → y ≡ x → (y ≡ z) ⊎ In z ys → In z ys
      later z i same (inl e) = absurd (key-irrefl x.key (subst (λ (k : Standing). key_below x.key k.key ≡ true) (sym e ∙ same) (rx.0 z i)))
      later z i same (inr j) = j

      newer : (z : Standing) → In z ys → y ≡ x → ((x ≡ z) ⊎ In z xs) ⊎ ((k : Standing) → (x ≡ k) ⊎ In k xs → key_below k.key z.key ≡ true) → In z xs ⊎ ((k : Standing) → In k xs → key_below k.key z.key ≡ true)
      newer z i same (inl (inl e)) = absurd (key-irrefl y.key (subst (λ (k : Standing). key_below y.key k.key ≡ true) (sym e ∙ sym same) (ry.0 z i)))
      newer z i same (inl (inr j)) = inl j
      newer z i same (inr above) = inr (λ k j. above k (inr j))

-- delivered entries
all_in : (test : Standing → Bool) (es : List Standing) → list_all test es ≡ true → (e : Standing) → In e es → test e ≡ true
all_in test [] h e i = absurd i
all_in test (f ∷ fs) h e (inl is) = subst (λ (x : Standing). test x ≡ true) is (both (test f) (list_all test fs) h).0
all_in test (f ∷ fs) h e (inr i) = all_in test fs (both (test f) (list_all test fs) h).1 e i

pub in_all : (test : Standing → Bool) (es : List Standing) → ((e : Standing) → In e es → test e ≡ true) → list_all test es ≡ true
in_all test [] h = refl
in_all test (f ∷ fs) h = and_from (test f) (list_all test fs) (h f (inl refl)) (in_all test fs (λ e i. h e (inr i)))

record Delivered (es : List Standing) (x : Standing) : Type 0 where
  stands : In x es
  settled : x.settled ≡ true
  below : (f : Standing) → In f es → f.settled ≡ false → key_below x.key f.key ≡ true

delivered : List Standing → List Standing
delivered es = filter (is_delivered es) es

delivered_is : (es : List Standing) (x : Standing) → In x (delivered es) → Delivered es x
unfolding delivered
delivered_is es x i =
    let p = in_filter (is_delivered es) x es i in
    let q = both x.settled _ p.1 in
    record { stands = p.0; settled = q.0; below = λ f j open'. under f (or_cases f.settled _ (all_in (λ (f : Standing). f.settled || key_below x.key f.key) es q.1 f j)) open' } where
      under : (f : Standing) → (f.settled ≡ true) ⊎ (key_below x.key f.key ≡ true) → f.settled ≡ false → key_below x.key f.key ≡ true
      under f (inl s) o = absurd (apart f.settled s o)
      under f (inr b) o = b

is_in_delivered : (es : List Standing) (x : Standing) → Delivered es x → In x (delivered es)
unfolding delivered
is_in_delivered es x d =
    in_filter-back (is_delivered es) x es d.stands (and_from x.settled _ d.settled (in_all (λ (f : Standing). f.settled || key_below x.key f.key) es
    (λ f i. by_test _ f.settled (λ s. or_left f.settled _ s) (λ o. or_right f.settled _ (d.below f i o)))))

-- the stamps of the entries are within the clock
stamp_next : (ev : Event) (stamp : ℕ) (c : ℕ) (id : Id) (st : Status) (e : Standing) → (standing_of id st ≡ Some e → e.key.stamp ≤ c) → standing_of id (after_event id ev stamp st) ≡ Some e → e.key.stamp ≤ max c (event_number ev stamp)
stamp_next (events.Single other floor wants) stamp c id st e old = choice (λ (s : Status). standing_of id s ≡ Some e → e.key.stamp ≤ max c stamp) (same_id id other) (Alone stamp) st
    (λ t h. let x : record { key = entry_key stamp id; settled = true } ≡ e = cc in let y : stamp ≡ e.key.stamp = ap (λ (f : Standing). f.key.stamp) x in omega (arith, y)) (λ f h. let o = old h in omega (arith, o))
stamp_next (events.Propose other floor wants) stamp c id st e old = choice (λ (s : Status). standing_of id s ≡ Some e → e.key.stamp ≤ max c stamp) (same_id id other) (Waits stamp) st
    (λ t h. let x : record { key = entry_key stamp id; settled = false } ≡ e = cc in let y : stamp ≡ e.key.stamp = ap (λ (f : Standing). f.key.stamp) x in omega (arith, y)) (λ f h. let o = old h in omega (arith, o))
stamp_next (events.Settle other Open) stamp c id st e old = choice (λ (s : Status). standing_of id s ≡ Some e → e.key.stamp ≤ max c 0) (same_id id other) (Settled Open) st (λ t h. absurd (let x : ⊥ = cc in x)) (λ f h. let o = old h in omega (arith, o))
stamp_next (events.Settle other (Gone why)) stamp c id st e old = choice (λ (s : Status). standing_of id s ≡ Some e → e.key.stamp ≤ max c 0) (same_id id other) (Settled (Gone why)) st (λ t h. absurd (let x : ⊥ = cc in x)) (λ f h. let o = old h in omega (arith, o))
stamp_next (events.Settle other (Final n)) stamp c id st e old = choice (λ (s : Status). standing_of id s ≡ Some e → e.key.stamp ≤ max c n) (same_id id other) (Settled (Final n)) st
    (λ t h. let x : record { key = entry_key n id; settled = true } ≡ e = cc in let y : n ≡ e.key.stamp = ap (λ (f : Standing). f.key.stamp) x in omega (arith, y)) (λ f h. let o = old h in omega (arith, o))
stamp_next (events.Raise to) stamp c id st e old = λ h. let o = old h in omega (arith, o)
stamp_next (events.Give _ _) stamp c id st e old = λ h. let o = old h in omega (arith, o)
stamp_next (events.Carry _ _ _) stamp c id st e old = λ h. let o = old h in omega (arith, o)
stamp_next (events.Trim _) stamp c id st e old = λ h. let o = old h in omega (arith, o)

stamp_within : (past : List Entry) (id : Id) (e : Standing) → standing_of id (status id past) ≡ Some e → e.key.stamp ≤ clock past
stamp_within [] id e h = absurd (let x : ⊥ = cc in x)
stamp_within (d ∷ past) id e h = stamp_next d.event d.stamp (clock past) id (status id past) e (stamp_within past id e) h

pub entry_within : (past : List Entry) → IsLawfulPast past → (e : Standing) → In e (entries past) → e.key.stamp ≤ clock past
entry_within past l e i = stamp_within past e.key.id e (shown past l e i)

-- a new entry is above all
above_all : (past : List Entry) → IsLawfulPast past → (id : Id) (floor stamp : ℕ) → MayEnter past id floor stamp → (x : Standing) → In x (entries past) → key_below x.key (entry_key stamp id) ≡ true
above_all past l id floor stamp m x i =
    let a = entry_within past l x i in
    let b = m.stamped in
    below_is x.key (entry_key stamp id) (inl (less (clock past) floor stamp x.key.stamp b a)) where
      less : (c floor stamp s : ℕ) → stamp ≡ max c floor + 1 → s ≤ c → s < stamp
      less c floor stamp s e le = omega (arith, e, le)

-- what an event does to the delivered entries
record Adds (es es' : List Standing) : Type 0 where
  old : (x : Standing) → In x (delivered es) → In x (delivered es')
  new : (y : Standing) → In y (delivered es') → In y (delivered es) ⊎ ((x : Standing) → In x (delivered es) → key_below x.key y.key ≡ true)

adds_none : (es : List Standing) → Adds es es
adds_none es = record { old = λ x i. i; new = λ y i. inl i }

enters_adds : (es : List Standing) (n : Standing) → ((x : Standing) → In x es → key_below x.key n.key ≡ true) → Adds es (with_entry n es)
enters_adds es n above = record {
  old = λ x i. let d = delivered_is es x i in is_in_delivered (with_entry n es) x (record {
    stands = in_with-old x n es d.stands;
    settled = d.settled;
    below = λ f j o. blocked x d f o (in_with f n es j);
  });
  new = λ y i. let d = delivered_is (with_entry n es) y i in fresh y d (in_with y n es d.stands);
} where
  blocked : (x : Standing) → Delivered es x → (f : Standing) → f.settled ≡ false → (n ≡ f) ⊎ In f es → key_below x.key f.key ≡ true
  blocked x d f o (inl e) = subst (λ (g : Standing). key_below x.key g.key ≡ true) e (above x d.stands)
  blocked x d f o (inr j) = d.below f j o

  fresh : (y : Standing) → Delivered (with_entry n es) y → (n ≡ y) ⊎ In y es → In y (delivered es) ⊎ ((x : Standing) → In x (delivered es) → key_below x.key y.key ≡ true)
  fresh y d (inl e) = inr (λ x i. subst (λ (g : Standing). key_below x.key g.key ≡ true) e (above x (delivered_is es x i).stands))
  fresh y d (inr j) = inl (is_in_delivered es y (record { stands = j; settled = d.settled; below = λ f k o. d.below f (in_with-old f n es k) o }))

-- the open entry o leaves, and maybe a final one of its id comes, no lower than it
module _ (past : List Entry) (l : IsLawfulPast past) (id : Id) (s : ℕ) (waits : status id past ≡ Waits s) where
  abbrev leaving : Standing
  leaving = record { key = entry_key s id; settled = false }

  abbrev left : List Standing
  left = without_id id (entries past)

  leaves_from : In leaving (entries past)
  leaves_from = stands past l id leaving (ap (standing_of id) waits)

  is_leaving : (x : Standing) → In x (entries past) → same_id x.key.id id ≡ true → leaving ≡ x
  is_leaving x i t =
      let e = same_id-true x.key.id id t in
      let h : standing_of id (status id past) ≡ Some x = subst (λ (j : Id). standing_of j (status j past) ≡ Some x) e (shown past l x i) in
      let k : standing_of id (Waits s) ≡ Some x = sym (ap (standing_of id) waits) ∙ h in cc

  in_left : (x : Standing) → In x (entries past) → x.settled ≡ true → In x left
  in_left x i t = in_filter-back (λ (e : Standing). not (same_id e.key.id id)) x (entries past) i
      (by_test _ (same_id x.key.id id) (λ y. absurd (true≢false (sym t ∙ sym (ap (λ (z : Standing). z.settled) (is_leaving x i y))))) (λ f. ap not f))

  from_left : (x : Standing) → In x left → In x (entries past) × (same_id x.key.id id ≡ false)
  from_left x i = let p = in_filter (λ (e : Standing). not (same_id e.key.id id)) x (entries past) i in (p.0, not_true _ p.1)

  -- an entry that is delivered once the open one has left
  freed : (y : Standing) → In y left → y.settled ≡ true → ((f : Standing) → In f left → f.settled ≡ false → key_below y.key f.key ≡ true) → In y (delivered (entries past)) ⊎ ((x : Standing) → In x (delivered (entries past)) → key_below x.key y.key ≡ true)
  freed y i t below = by_test _ (key_below y.key (entry_key s id))
      (λ lower. inl (is_in_delivered (entries past) y (record { stands = (from_left y i).0; settled = t; below = λ f j o. pick f j o lower })))
      (λ higher. inr (λ x k. let d = delivered_is (entries past) x k in
      key-trans x.key (entry_key s id) y.key (d.below leaving leaves_from refl) (key-total y.key (entry_key s id) (λ z. apart _ z (from_left y i).1) (λ z. apart _ z higher)))) where
        pick : (f : Standing) → In f (entries past) → f.settled ≡ false → key_below y.key (entry_key s id) ≡ true → key_below y.key f.key ≡ true
        pick f j o lower = by_test _ (same_id f.key.id id)
            (λ z. subst (λ (g : Standing). key_below y.key g.key ≡ true) (is_leaving f j z) lower)
            (λ z. below f (in_filter-back (λ (e : Standing). not (same_id e.key.id id)) f (entries past) j (ap not z)) o)

  gone_adds : Adds (entries past) left
  gone_adds = record {
    old = λ x i. let d = delivered_is (entries past) x i in is_in_delivered left x (record { stands = in_left x d.stands d.settled; settled = d.settled; below = λ f j o. d.below f (from_left f j).0 o });
    new = λ y i. let d = delivered_is left y i in freed y d.stands d.settled d.below;
  }

  abbrev coming : ℕ → Standing
  coming f = record { key = entry_key f id; settled = true }

  raised : (x : Key) (f : ℕ) → s ≤ f → key_below x (entry_key s id) ≡ true → key_below x (entry_key f id) ≡ true
  raised x f le b = below_is x (entry_key f id) (turn (is_below x (entry_key s id) b)) where
    strict : x.stamp ≡ s → ((x.id.client < id.client) ⊎ ((x.id.client ≡ id.client) × (x.id.count < id.count))) → (s ≡ f) ⊎ ((s < f) ⊎ (f < s)) → IsBelow x (entry_key f id)
    strict e q (inl same) = inr (e ∙ same, q)
    strict e q (inr (inl lt)) = inl (omega (arith, e, lt))
    strict e q (inr (inr gt)) = absurd (let z : ⊥ = omega (arith, le, gt) in z)

    turn : IsBelow x (entry_key s id) → IsBelow x (entry_key f id)
    turn (inl lt) = inl (omega (arith, le, lt))
    turn (inr p) = strict p.0 p.1 (cases_order s f)

  settled_blocked : (f : ℕ) (x : Standing) → Delivered (entries past) x → (g : Standing) → g.settled ≡ false → (coming f ≡ g) ⊎ In g left → key_below x.key g.key ≡ true
  settled_blocked f x d g o (inl e) = absurd (true≢false (ap (λ (z : Standing). z.settled) e ∙ o))
  settled_blocked f x d g o (inr j) = d.below g (from_left g j).0 o

  settled_new : (f : ℕ) → s ≤ f → (y : Standing) → Delivered (with_entry (coming f) left) y → (coming f ≡ y) ⊎ In y left → In y (delivered (entries past)) ⊎ ((x : Standing) → In x (delivered (entries past)) → key_below x.key y.key ≡ true)
  settled_new f le y d (inl e) = inr (λ x i. subst (λ (z : Standing). key_below x.key z.key ≡ true) e (raised x.key f le ((delivered_is (entries past) x i).below leaving leaves_from refl)))
  settled_new f le y d (inr j) = freed y j d.settled (λ g k o. d.below g (in_with-old g (coming f) left k) o)

  final_adds : (f : ℕ) → s ≤ f → Adds (entries past) (with_entry (coming f) left)
  final_adds f le = record {
    old = λ x i. let d = delivered_is (entries past) x i in is_in_delivered (with_entry (coming f) left) x (record {
      stands = in_with-old x (coming f) left (in_left x d.stands d.settled);
      settled = d.settled;
      below = λ g j o. settled_blocked f x d g o (in_with g (coming f) left j);
    });
    new = λ y i. let d = delivered_is (with_entry (coming f) left) y i in settled_new f le y d (in_with y (coming f) left d.stands);
  }

event_adds : (past : List Entry) → IsLawfulPast past → (ev : Event) (stamp : ℕ) → IsLawfulNext past ev stamp → Adds (entries past) (with_event (entries past) ev stamp)
event_adds past l (events.Single id floor wants) stamp n = enters_adds (entries past) (record { key = entry_key stamp id; settled = true }) (above_all past l id floor stamp n)
event_adds past l (events.Propose id floor wants) stamp n = enters_adds (entries past) (record { key = entry_key stamp id; settled = false }) (above_all past l id floor stamp n)
event_adds past l (events.Settle id Open) stamp n = adds_none (entries past)
event_adds past l (events.Settle id (Gone why)) stamp n = gone_adds past l id n.stamp n.waits
event_adds past l (events.Settle id (Final f)) stamp n = final_adds past l id n.stamp n.waits f n.settling.0
event_adds past l (events.Raise _) stamp n = adds_none (entries past)
event_adds past l (events.Give _ _) stamp n = adds_none (entries past)
event_adds past l (events.Carry _ _ _) stamp n = adds_none (entries past)
event_adds past l (events.Trim _) stamp n = adds_none (entries past)

adds_begins : (es es' : List Standing) → Rises es → Rises es' → Adds es es' → (rest : List Standing) × (delivered es' ≡ delivered es ++ rest)
unfolding delivered
adds_begins es es' r r' a = begins (filter (is_delivered es) es) (filter (is_delivered es') es') (rises-filter (is_delivered es) es r) (rises-filter (is_delivered es') es' r') a.old a.new

map_push : (xs ys : List Standing) → map (λ (e : Standing). e.key) (xs ++ ys) ≡ map (λ (e : Standing). e.key) xs ++ map (λ (e : Standing). e.key) ys
map_push [] ys = refl
map_push (x ∷ xs) ys = ap (λ (l : List Key). x.key ∷ l) (map_push xs ys)

pub line_next : (past : List Entry) (d : Entry) → IsLawfulPast (d ∷ past) → (more : List Key) × (line_of (entries (d ∷ past)) ≡ line_of (entries past) ++ more)
unfolding delivered
line_next past d l =
    let r = adds_begins (entries past) (entries (d ∷ past)) (rises past l.1) (rises (d ∷ past) l) (event_adds past l.1 d.event d.stamp l.0) in
    (map (λ (e : Standing). e.key) r.0, ap (λ (es : List Standing). map (λ (e : Standing). e.key) es) r.1 ∙ map_push (filter (is_delivered (entries past)) (entries past)) r.0)

pub line_later : (newer past : List Entry) → IsLawfulPast (newer ++ past) → (more : List Key) × (line_of (entries (newer ++ past)) ≡ line_of (entries past) ++ more)
line_later [] past l = ([], sym (append-nil (line_of (entries past))))
line_later (d ∷ newer) past l =
    let a = line_later newer past l.1 in
    let b = line_next (newer ++ past) d l in
    (a.0 ++ b.0, b.1 ∙ (ap (λ (x : List Key). x ++ b.0) a.1 ∙ append_assoc (line_of (entries past)) a.0 b.0))
