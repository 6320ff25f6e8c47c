-- Which entries stand in a column, and that they rise in key.
use Rattle.std.proofs.Common.{◌≡◌, ℕ, List, [], ◌∷◌, Some, None, Bool, true, false, cond, refl, subst, ap, sym, ◌∙◌, inl, inr, ◌⊎◌}
use Rattle.std.specs.Prelude.{not, map}
use Rattle.std.specs.List.{filter}
use Rattle.log_node.specs.declared.ids.Id.{Id}
use Rattle.log_node.specs.declared.ids.Key.{Key}
use Rattle.log_node.specs.Order.{same_id, key_below}
use Rattle.log_node.specs.declared.marks.Outcome.TheVariants.{Open, Gone, Final}
use Rattle.log_node.specs.Standings.{Standing, with_entry, without_id, is_delivered, line_of}
use Rattle.col_core.specs.declared.Event.TheVariants as events
use Rattle.col_core.specs.declared.Event.{Event}
use Rattle.col_core.specs.declared.Entry.{Entry}
use Rattle.col_core.specs.History.{entry_key, with_event}
use Rattle.col_core.proofs.Pasts.{Status, Absent, Alone, Waits, Settled, status, after_event, standing_of, entries, IsLawfulPast, IsLawfulNext}
use Rattle.col_core.proofs.Basics.{choice, by_test, if_true, if_false, both, apart, not_true, same_id-true, same_id-is}
use Rattle.col_core.proofs.KeyOrder.{key-trans, key-total}

-- the list has the element
abbrev pub In : {A : Type 0} → A → List A → Type 0
In x [] = ⊥
In x (y ∷ ys) = (y ≡ x) ⊎ In x ys

pub in_with : (x e : Standing) (es : List Standing) → In x (with_entry e es) → (e ≡ x) ⊎ In x es
in_with x e [] h = h
in_with x e (f ∷ fs) h =
    choice (λ (l : List Standing). In x l → (e ≡ x) ⊎ In x (f ∷ fs)) (key_below e.key f.key) (e ∷ f ∷ fs) (f ∷ with_entry e fs)
    (λ _ g. g) (λ _ g. turn g (in_with x e fs)) h where
      turned : (e ≡ x) ⊎ In x fs → (e ≡ x) ⊎ ((f ≡ x) ⊎ In x fs)
      turned (inl g) = inl g
      turned (inr g) = inr (inr g)

      turn : (f ≡ x) ⊎ In x (with_entry e fs) → (In x (with_entry e fs) → (e ≡ x) ⊎ In x fs) → (e ≡ x) ⊎ ((f ≡ x) ⊎ In x fs)
      turn (inl g) rest = inr (inl g)
      turn (inr g) rest = turned (rest g)

pub in_with-own : (e : Standing) (es : List Standing) → In e (with_entry e es)
in_with-own e [] = inl refl
in_with-own e (f ∷ fs) = choice (λ (l : List Standing). In e l) (key_below e.key f.key) (e ∷ f ∷ fs) (f ∷ with_entry e fs) (λ _. inl refl) (λ _. inr (in_with-own e fs))

pub in_with-old : (x e : Standing) (es : List Standing) → In x es → In x (with_entry e es)
in_with-old x e [] h = absurd h
in_with-old x e (f ∷ fs) h = choice (λ (l : List Standing). In x l) (key_below e.key f.key) (e ∷ f ∷ fs) (f ∷ with_entry e fs) (λ _. inr h) (λ _. old h (in_with-old x e fs)) where
  old : (f ≡ x) ⊎ In x fs → (In x fs → In x (with_entry e fs)) → (f ≡ x) ⊎ In x (with_entry e fs)
  old (inl g) rest = inl g
  old (inr g) rest = inr (rest g)

pub in_filter : {A : Type 0} (test : A → Bool) (x : A) (xs : List A) → In x (filter test xs) → In x xs × (test x ≡ true)
in_filter test x [] h = absurd h
in_filter {A} test x (y ∷ ys) h =
    choice (λ (l : List A). In x l → In x (y ∷ ys) × (test x ≡ true)) (test y) (y ∷ filter test ys) (filter test ys)
    (λ t g. turn t g (in_filter test x ys)) (λ f g. let r = in_filter test x ys g in (inr r.0, r.1)) h where
      turn : test y ≡ true → (y ≡ x) ⊎ In x (filter test ys) → (In x (filter test ys) → In x ys × (test x ≡ true)) → In x (y ∷ ys) × (test x ≡ true)
      turn t (inl e) rest = (inl e, subst (λ (z : A). test z ≡ true) e t)
      turn t (inr g) rest = let r = rest g in (inr r.0, r.1)

pub in_filter-back : {A : Type 0} (test : A → Bool) (x : A) (xs : List A) → In x xs → test x ≡ true → In x (filter test xs)
in_filter-back test x [] h t = absurd h
in_filter-back {A} test x (y ∷ ys) h t =
    choice (λ (l : List A). In x l) (test y) (y ∷ filter test ys) (filter test ys)
    (λ _. turn h (λ g. in_filter-back test x ys g t)) (λ f. none h f (λ g. in_filter-back test x ys g t)) where
      turn : (y ≡ x) ⊎ In x ys → (In x ys → In x (filter test ys)) → (y ≡ x) ⊎ In x (filter test ys)
      turn (inl e) rest = inl e
      turn (inr g) rest = inr (rest g)

      none : (y ≡ x) ⊎ In x ys → test y ≡ false → (In x ys → In x (filter test ys)) → In x (filter test ys)
      none (inl e) f rest = absurd (apart (test x) t (subst (λ (z : A). test z ≡ false) e f))
      none (inr g) f rest = rest g

-- Entries that rise in key

unfoldable pub Rises : List Standing → Type 0
Rises [] = Unit {0}
Rises (e ∷ es) = ((f : Standing) → In f es → key_below e.key f.key ≡ true) × Rises es

pub rises-with : (e : Standing) (es : List Standing) → Rises es → ((f : Standing) → In f es → same_id f.key.id e.key.id ≡ false) → Rises (with_entry e es)
unfolding Rises
rises-with e [] h apart' = (λ f g. absurd g, tt)
rises-with e (f ∷ fs) h others =
    choice Rises (key_below e.key f.key) (e ∷ f ∷ fs) (f ∷ with_entry e fs)
    (λ t. (λ g i. first t g i, h))
    (λ no. (λ g i. later no g (in_with g e fs i), rises-with e fs h.1 (λ g i. others g (inr i)))) where
      first : key_below e.key f.key ≡ true → (g : Standing) → (f ≡ g) ⊎ In g fs → key_below e.key g.key ≡ true
      first t g (inl is) = subst (λ (x : Standing). key_below e.key x.key ≡ true) is t
      first t g (inr i) = key-trans e.key f.key g.key t (h.0 g i)

      later : key_below e.key f.key ≡ false → (g : Standing) → (e ≡ g) ⊎ In g fs → key_below f.key g.key ≡ true
      later above g (inl is) = subst (λ (x : Standing). key_below f.key x.key ≡ true) is (key-total e.key f.key (λ t. apart (same_id f.key.id e.key.id) (same_id-is f.key.id e.key.id (sym (same_id-true e.key.id f.key.id t))) (others f (inl refl))) (λ t. apart (key_below e.key f.key) t above))
      later above g (inr i) = h.0 g i

pub rises-filter : (test : Standing → Bool) (es : List Standing) → Rises es → Rises (filter test es)
unfolding Rises
rises-filter test [] h = tt
rises-filter test (e ∷ es) h =
    choice Rises (test e) (e ∷ filter test es) (filter test es)
    (λ t. (λ f i. h.0 f (in_filter test f es i).0, rises-filter test es h.1))
    (λ _. rises-filter test es h.1)

-- Which entries stand: those that the statuses show

pub standing-id : (id : Id) (st : Status) (e : Standing) → standing_of id st ≡ Some e → e.key.id ≡ id
standing-id id Absent e h = absurd (let x : ⊥ = cc in x)
standing-id id (Alone s) e h = let x : record { key = entry_key s id; settled = true } ≡ e = cc in ap (λ (y : Standing). y.key.id) (sym x)
standing-id id (Waits s) e h = let x : record { key = entry_key s id; settled = false } ≡ e = cc in ap (λ (y : Standing). y.key.id) (sym x)
standing-id id (Settled Open) e h = absurd (let x : ⊥ = cc in x)
standing-id id (Settled (Gone why)) e h = absurd (let x : ⊥ = cc in x)
standing-id id (Settled (Final f)) e h = let x : record { key = entry_key f id; settled = true } ≡ e = cc in ap (λ (y : Standing). y.key.id) (sym x)

abbrev pub Shows : List Entry → Standing → Type 0
Shows past e = standing_of e.key.id (status e.key.id past) ≡ Some e

pub no_standing : (id : Id) (st : Status) (e : Standing) → st ≡ Absent → standing_of id st ≡ Some e → ⊥
no_standing id st e a h = let x : standing_of id st ≡ None = ap (standing_of id) a in cc

-- an id whose status an event leaves
still : (past : List Entry) (x : Standing) (id : Id) (new : Status) → same_id x.key.id id ≡ false → Shows past x → standing_of x.key.id (cond (same_id x.key.id id) new (status x.key.id past)) ≡ Some x
still past x id new f h = ap (standing_of x.key.id) (if_false (same_id x.key.id id) new (status x.key.id past) f) ∙ h

-- the id that an event names
named : (past : List Entry) (x : Standing) (id : Id) (new : Status) → x.key.id ≡ id → standing_of id new ≡ Some x → standing_of x.key.id (cond (same_id x.key.id id) new (status x.key.id past)) ≡ Some x
named past x id new e h = ap (standing_of x.key.id) (if_true (same_id x.key.id id) new (status x.key.id past) (same_id-is x.key.id id e)) ∙ (ap (λ (i : Id). standing_of i new) e ∙ h)

-- an entry that stood, where its id is not the one that enters
entered : (past : List Entry) (x : Standing) (id : Id) (new : Status) → status id past ≡ Absent → Shows past x → (same_id x.key.id id ≡ false) × (standing_of x.key.id (cond (same_id x.key.id id) new (status x.key.id past)) ≡ Some x)
entered past x id new absent h =
    by_test _ (same_id x.key.id id)
    (λ t. absurd (no_standing x.key.id (status x.key.id past) x (ap (λ (i : Id). status i past) (same_id-true x.key.id id t) ∙ absent) h))
    (λ f. (f, still past x id new f h))

shown_next : (past : List Entry) (ev : Event) (stamp : ℕ) → IsLawfulNext past ev stamp → ((x : Standing) → In x (entries past) → Shows past x) → (x : Standing) → In x (with_event (entries past) ev stamp) → standing_of x.key.id (after_event x.key.id ev stamp (status x.key.id past)) ≡ Some x
shown_next past (events.Single id floor wants) stamp l old x h = turn (in_with x (record { key = entry_key stamp id; settled = true }) (entries past) h) where
  turn : (record { key = entry_key stamp id; settled = true } ≡ x) ⊎ In x (entries past) → standing_of x.key.id (cond (same_id x.key.id id) (Alone stamp) (status x.key.id past)) ≡ Some x
  turn (inl e) = named past x id (Alone stamp) (ap (λ (y : Standing). y.key.id) (sym e)) (ap Some e)
  turn (inr i) = (entered past x id (Alone stamp) l.fresh (old x i)).1
shown_next past (events.Propose id floor wants) stamp l old x h = turn (in_with x (record { key = entry_key stamp id; settled = false }) (entries past) h) where
  turn : (record { key = entry_key stamp id; settled = false } ≡ x) ⊎ In x (entries past) → standing_of x.key.id (cond (same_id x.key.id id) (Waits stamp) (status x.key.id past)) ≡ Some x
  turn (inl e) = named past x id (Waits stamp) (ap (λ (y : Standing). y.key.id) (sym e)) (ap Some e)
  turn (inr i) = (entered past x id (Waits stamp) l.fresh (old x i)).1
shown_next past (events.Settle id Open) stamp l old x h = absurd l.settling
shown_next past (events.Settle id (Gone why)) stamp l old x h =
    let p = in_filter (λ (e : Standing). not (same_id e.key.id id)) x (entries past) h in
    still past x id (Settled (Gone why)) (not_true _ p.1) (old x p.0)
shown_next past (events.Settle id (Final f)) stamp l old x h = turn (in_with x (record { key = entry_key f id; settled = true }) (without_id id (entries past)) h) where
  turn : (record { key = entry_key f id; settled = true } ≡ x) ⊎ In x (without_id id (entries past)) → standing_of x.key.id (cond (same_id x.key.id id) (Settled (Final f)) (status x.key.id past)) ≡ Some x
  turn (inl e) = named past x id (Settled (Final f)) (ap (λ (y : Standing). y.key.id) (sym e)) (ap Some e)
  turn (inr i) = let p = in_filter (λ (e : Standing). not (same_id e.key.id id)) x (entries past) i in still past x id (Settled (Final f)) (not_true _ p.1) (old x p.0)
shown_next past (events.Raise _) stamp l old x h = old x h
shown_next past (events.Give _ _) stamp l old x h = old x h
shown_next past (events.Carry _ _ _) stamp l old x h = old x h
shown_next past (events.Trim _) stamp l old x h = old x h

-- each entry is what the status of its id shows
pub shown : (past : List Entry) → IsLawfulPast past → (x : Standing) → In x (entries past) → Shows past x
shown [] l x h = absurd h
shown (d ∷ past) l x h = shown_next past d.event d.stamp l.0 (shown past l.1) x h

-- and all that the statuses show stands
stands_next : (past : List Entry) (ev : Event) (stamp : ℕ) → IsLawfulNext past ev stamp → ((id : Id) (x : Standing) → standing_of id (status id past) ≡ Some x → In x (entries past)) → (id : Id) (x : Standing) → standing_of id (after_event id ev stamp (status id past)) ≡ Some x → In x (with_event (entries past) ev stamp)
stands_next past (events.Single other floor wants) stamp l old id x =
    choice (λ (st : Status). standing_of id st ≡ Some x → In x (with_entry (record { key = entry_key stamp other; settled = true }) (entries past))) (same_id id other) (Alone stamp) (status id past)
    (λ t h. let e : record { key = entry_key stamp id; settled = true } ≡ x = cc in
    subst (λ (y : Standing). In y (with_entry (record { key = entry_key stamp other; settled = true }) (entries past))) (ap (λ (i : Id). record_of i) (sym (same_id-true id other t)) ∙ e) (in_with-own (record { key = entry_key stamp other; settled = true }) (entries past)))
    (λ f h. in_with-old x (record { key = entry_key stamp other; settled = true }) (entries past) (old id x h)) where
      record_of : Id → Standing
      record_of i = record { key = entry_key stamp i; settled = true }
stands_next past (events.Propose other floor wants) stamp l old id x =
    choice (λ (st : Status). standing_of id st ≡ Some x → In x (with_entry (record { key = entry_key stamp other; settled = false }) (entries past))) (same_id id other) (Waits stamp) (status id past)
    (λ t h. let e : record { key = entry_key stamp id; settled = false } ≡ x = cc in
    subst (λ (y : Standing). In y (with_entry (record { key = entry_key stamp other; settled = false }) (entries past))) (ap (λ (i : Id). record_of i) (sym (same_id-true id other t)) ∙ e) (in_with-own (record { key = entry_key stamp other; settled = false }) (entries past)))
    (λ f h. in_with-old x (record { key = entry_key stamp other; settled = false }) (entries past) (old id x h)) where
      record_of : Id → Standing
      record_of i = record { key = entry_key stamp i; settled = false }
stands_next past (events.Settle other Open) stamp l old id x = absurd l.settling
stands_next past (events.Settle other (Gone why)) stamp l old id x =
    choice (λ (st : Status). standing_of id st ≡ Some x → In x (without_id other (entries past))) (same_id id other) (Settled (Gone why)) (status id past)
    (λ t h. absurd (let y : ⊥ = cc in y))
    (λ f h. in_filter-back (λ (e : Standing). not (same_id e.key.id other)) x (entries past) (old id x h) (ap not (ap (λ (i : Id). same_id i other) (standing-id id (status id past) x h) ∙ f)))
stands_next past (events.Settle other (Final f)) stamp l old id x =
    choice (λ (st : Status). standing_of id st ≡ Some x → In x (with_entry (record { key = entry_key f other; settled = true }) (without_id other (entries past)))) (same_id id other) (Settled (Final f)) (status id past)
    (λ t h. let e : record { key = entry_key f id; settled = true } ≡ x = cc in
    subst (λ (y : Standing). In y (with_entry (record { key = entry_key f other; settled = true }) (without_id other (entries past)))) (ap (λ (i : Id). record_of i) (sym (same_id-true id other t)) ∙ e) (in_with-own (record { key = entry_key f other; settled = true }) (without_id other (entries past))))
    (λ no h. in_with-old x (record { key = entry_key f other; settled = true }) (without_id other (entries past)) (in_filter-back (λ (e : Standing). not (same_id e.key.id other)) x (entries past) (old id x h) (ap not (ap (λ (i : Id). same_id i other) (standing-id id (status id past) x h) ∙ no)))) where
      record_of : Id → Standing
      record_of i = record { key = entry_key f i; settled = true }
stands_next past (events.Raise _) stamp l old id x = old id x
stands_next past (events.Give _ _) stamp l old id x = old id x
stands_next past (events.Carry _ _ _) stamp l old id x = old id x
stands_next past (events.Trim _) stamp l old id x = old id x

pub stands : (past : List Entry) → IsLawfulPast past → (id : Id) (x : Standing) → standing_of id (status id past) ≡ Some x → In x (entries past)
stands [] l id x h = absurd (let y : ⊥ = cc in y)
stands (d ∷ past) l id x h = stands_next past d.event d.stamp l.0 (stands past l.1) id x h

-- the entries rise in key
rises_next : (past : List Entry) (ev : Event) (stamp : ℕ) → IsLawfulNext past ev stamp → IsLawfulPast past → Rises (entries past) → Rises (with_event (entries past) ev stamp)
rises_next past (events.Single id floor wants) stamp l lp h = rises-with (record { key = entry_key stamp id; settled = true }) (entries past) h (λ f i. (entered past f id (Alone stamp) l.fresh (shown past lp f i)).0)
rises_next past (events.Propose id floor wants) stamp l lp h = rises-with (record { key = entry_key stamp id; settled = false }) (entries past) h (λ f i. (entered past f id (Waits stamp) l.fresh (shown past lp f i)).0)
rises_next past (events.Settle id Open) stamp l lp h = h
rises_next past (events.Settle id (Gone why)) stamp l lp h = rises-filter (λ (e : Standing). not (same_id e.key.id id)) (entries past) h
rises_next past (events.Settle id (Final f)) stamp l lp h =
    rises-with (record { key = entry_key f id; settled = true }) (without_id id (entries past)) (rises-filter (λ (e : Standing). not (same_id e.key.id id)) (entries past) h)
    (λ g i. not_true _ (in_filter (λ (e : Standing). not (same_id e.key.id id)) g (entries past) i).1)
rises_next past (events.Raise _) stamp l lp h = h
rises_next past (events.Give _ _) stamp l lp h = h
rises_next past (events.Carry _ _ _) stamp l lp h = h
rises_next past (events.Trim _) stamp l lp h = h

pub rises : (past : List Entry) → IsLawfulPast past → Rises (entries past)
unfolding Rises
rises [] l = tt
rises (d ∷ past) l = rises_next past d.event d.stamp l.0 l.1 (rises past l.1)

-- The keys of a line

pub in_map : (es : List Standing) (k : Key) → In k (map (λ (e : Standing). e.key) es) → (e : Standing) × In e es × (e.key ≡ k)
in_map [] k h = absurd h
in_map (f ∷ fs) k (inl e) = (f, inl refl, e)
in_map (f ∷ fs) k (inr i) = let r = in_map fs k i in (r.0, inr r.1, r.2)

-- a key of a line is that of a final entry
pub in_line : (es : List Standing) (k : Key) → In k (line_of es) → (e : Standing) × In e es × (e.key ≡ k) × (e.settled ≡ true)
in_line es k i =
    let r = in_map (filter (is_delivered es) es) k i in
    let f = in_filter (is_delivered es) r.0 es r.1 in
    (r.0, f.0, r.2, (both r.0.settled _ f.1).0)
