-- The places of a client's own steps, counted.
use Rattle.std.proofs.Common.{◌≡◌, ℕ, zero, suc, ◌+◌, ◌<◌, ◌≤◌, List, [], ◌∷◌, ◌++◌, length, drop, Some, slice_get, Bool, true, false, cond, refl, ap, sym, subst, ◌∙◌, inl, inr, ◌⊎◌, arith, length-append, append-nil, drop_at}
use Rattle.std.specs.Prelude.{◌==◌, ◌&&◌}
use Rattle.std.specs.List.{All, filter}
use Rattle.std.proofs.lemmas.Bool.{cases_lt, eq-eqb}
use Rattle.std.proofs.lemmas.List.Elements.{All-nil, All-cons, All-contains, filter-append}
use Rattle.col_core.specs.declared.Entry.{Entry}
use Rattle.col_core.specs.Log.{is_own, places_from, places_of}
use Rattle.col_core.proofs.CallerLemmas.{In, in_filter-back, contains_in, slice_in}
use Rattle.client_law.specs.Making.{made_of, is_own_step, own_steps, places_since, IsOwnStepAt, RiseFrom, PlacesGrow, PlacesStand, PlacesCounted, PlacesStay, StepsAmongMade, StepsCounted, MadeOnTop}
use Rattle.client_law.proofs.Lists.{nil_of, get_behind, get_onward}

places_append : (k client : ℕ) (xs ys : List Entry)
    → places_from k client (xs ++ ys) ≡ places_from k client xs ++ places_from (k + length xs) client ys
places_append k client [] ys = let e : k ≡ k + 0 = omega arith in ap (λ (n : ℕ). places_from n client ys) e
places_append k client (x ∷ xs) ys =
    let e : k + 1 + length xs ≡ k + length (x ∷ xs) = omega arith in
    let r : places_from (k + 1) client (xs ++ ys)
    ≡ places_from (k + 1) client xs ++ places_from (k + length (x ∷ xs)) client ys =
    places_append (k + 1) client xs ys
    ∙ ap (λ (n : ℕ). places_from (k + 1) client xs ++ places_from n client ys) e in
    by_bool (is_own_step client x) (places_from (k + 1) client (xs ++ ys))
    (places_from (k + 1) client xs) (places_from (k + length (x ∷ xs)) client ys) r where
      by_bool : (b : Bool) (all left right : List ℕ) → all ≡ left ++ right
          → cond b (k ∷ all) all ≡ cond b (k ∷ left) left ++ right
      by_bool true all left right e = ap (λ (l : List ℕ). k ∷ l) e
      by_bool false all left right e = e

since_is : (client : ℕ) (old more : List Entry)
    → places_since client old (old ++ more) ≡ places_from (length old) client more
since_is client old more = ap (places_from (length old) client) (drop_at old more (length old) refl)

pub places_grow : PlacesGrow
places_grow client old new p =
    subst (λ (h : List Entry). places_of client h ≡ places_of client old ++ places_since client old h) p.1
    (places_append 0 client old p.0
    ∙ ap (λ (l : List ℕ). places_of client old ++ l)
    (ap (λ (n : ℕ). places_from n client p.0) (let e : 0 + length old ≡ length old = omega arith in e)
    ∙ sym (since_is client old p.0)))

-- an own step stands at the place of what came, where the first entry has this place
abbrev OwnAt : ℕ → ℕ → List Entry → ℕ → Type 0
OwnAt k client more place =
    (i : ℕ) × (e : Entry) × (place ≡ k + i) × (slice_get more i ≡ Some e) × (is_own_step client e ≡ true)

own_next : (k client : ℕ) (x : Entry) (xs : List Entry) (place : ℕ) → OwnAt (k + 1) client xs place
    → OwnAt k client (x ∷ xs) place
own_next k client x xs place o = let e = o.2 in (suc o.0, o.1, omega (arith, e), o.3, o.4)

all_stand : (k client : ℕ) (more : List Entry) → All (OwnAt k client more) (places_from k client more)
all_stand k client [] = All-nil (OwnAt k client [])
all_stand k client (x ∷ xs) =
    by_bool (is_own_step client x) refl (places_from (k + 1) client xs)
    (λ n d lt. own_next k client x xs _ (all_stand (k + 1) client xs n d lt)) where
      here : is_own_step client x ≡ true → OwnAt k client (x ∷ xs) k
      here t = (0, x, omega arith, refl, t)

      by_bool : (b : Bool) → is_own_step client x ≡ b → (ps : List ℕ) → All (OwnAt k client (x ∷ xs)) ps
          → All (OwnAt k client (x ∷ xs)) (cond b (k ∷ ps) ps)
      by_bool true t ps all = All-cons (OwnAt k client (x ∷ xs)) k ps (here t) all
      by_bool false t ps all = all

stands_at : (client : ℕ) (old more : List Entry) (place : ℕ) → OwnAt (length old) client more place
    → IsOwnStepAt client old (old ++ more) place
stands_at client old more place o =
    let e = o.2 in (
      omega (arith, e),
      o.1,
      ap (λ (n : ℕ). slice_get (old ++ more) n) e ∙ get_onward old more o.0 o.1 o.3,
      o.4,
    )

pub places_stand : PlacesStand
places_stand client old new p =
    subst (λ (h : List Entry). All (IsOwnStepAt client old h) (places_since client old h)) p.1
    (subst (λ (l : List ℕ). All (IsOwnStepAt client old (old ++ p.0)) l) (sym (since_is client old p.0))
    (λ n d lt. stands_at client old p.0 _ (all_stand (length old) client p.0 n d lt)))

-- COUNTED

rise_least : (from : ℕ) (places : List ℕ) (place : ℕ) → RiseFrom from places → In place places → from ≤ place
rise_least from [] place r i = absurd i
rise_least from (p ∷ ps) place r (inl e) = let a = r.0 in omega (arith, a, e)
rise_least from (p ∷ ps) place r (inr i) = let a = rise_least (p + 1) ps place r.1 i in let b = r.0 in omega (arith, a, b)

-- an own step that stands behind the first
own_behind : (k client : ℕ) (x : Entry) (xs : List Entry) (place : ℕ) → k + 1 ≤ place → OwnAt k client (x ∷ xs) place
    → OwnAt (k + 1) client xs place
own_behind k client x xs place le o = turn o.0 o.2 o.3 where
  turn : (i : ℕ) → place ≡ k + i → slice_get (x ∷ xs) i ≡ Some o.1
      → (i : ℕ) × (e : Entry) × (place ≡ k + 1 + i) × (slice_get xs i ≡ Some e) × (is_own_step client e ≡ true)
  turn zero e at = absurd (let f : ⊥ = omega (arith, e, le) in f)
  turn (suc i) e at = (i, o.1, omega (arith, e), at, o.4)

-- one that stands at the first place is the first
own_first : (k client : ℕ) (x : Entry) (xs : List Entry) → OwnAt k client (x ∷ xs) k → is_own_step client x ≡ true
own_first k client x xs o = turn o.0 o.2 o.3 where
  turn : (i : ℕ) → k ≡ k + i → slice_get (x ∷ xs) i ≡ Some o.1 → is_own_step client x ≡ true
  turn zero e at = let same : x ≡ o.1 = cc in ap (is_own_step client) same ∙ o.4
  turn (suc i) e at = absurd (let f : ⊥ = omega (arith, e) in f)

none_there : (k client place : ℕ) → OwnAt k client [] place → ⊥
none_there k client place o = let e = o.3 in cc

-- each of the rising places from the next one on stands behind the first
all_behind : (k client : ℕ) (x : Entry) (xs : List Entry) (places : List ℕ) → RiseFrom (k + 1) places
    → ((p : ℕ) → In p places → OwnAt k client (x ∷ xs) p) → (p : ℕ) → In p places → OwnAt (k + 1) client xs p
all_behind k client x xs places r own p i = own_behind k client x xs p (rise_least (k + 1) places p r i) (own p i)

longer : (b : Bool) (x : Entry) (es : List Entry) → length es ≤ length (cond b (x ∷ es) es)
longer true x es = omega arith
longer false x es = omega arith

-- rising places with own steps are no more than these
at_most_next : (k client : ℕ) (x : Entry) (xs : List Entry)
    → ((ps : List ℕ) → RiseFrom (k + 1) ps → ((p : ℕ) → In p ps → OwnAt (k + 1) client xs p)
    → length ps ≤ length (own_steps client xs))
    → (ps : List ℕ) → RiseFrom k ps → ((p : ℕ) → In p ps → OwnAt k client (x ∷ xs) p)
    → length ps ≤ length (own_steps client (x ∷ xs))
at_most_next k client x xs rest [] r own = omega arith
at_most_next k client x xs rest (p ∷ ps) r own = turn (cases_lt k p) where
  first : k ≡ p → length (p ∷ ps) ≤ length (own_steps client (x ∷ xs))
  first e =
      let t = own_first k client x xs (subst (λ (n : ℕ). OwnAt k client (x ∷ xs) n) (sym e) (own p (inl refl))) in
      let rise : RiseFrom (k + 1) ps = subst (λ (n : ℕ). RiseFrom (n + 1) ps) (sym e) r.1 in
      let few = rest ps rise (all_behind k client x xs ps rise (λ q i. own q (inr i))) in
      let is = ap (λ (b : Bool). length (cond b (x ∷ own_steps client xs) (own_steps client xs))) t in
      omega (arith, few, is)

  turn : (k < p) ⊎ (p ≤ k) → length (p ∷ ps) ≤ length (own_steps client (x ∷ xs))
  turn (inl lt) =
      let rise : RiseFrom (k + 1) (p ∷ ps) = (omega (arith, lt), r.1) in
      let few = rest (p ∷ ps) rise (all_behind k client x xs (p ∷ ps) rise own) in
      let l = longer (is_own_step client x) x (own_steps client xs) in
      omega (arith, few, l)
  turn (inr le) = first (let a = r.0 in omega (arith, a, le))

at_most : (k client : ℕ) (more : List Entry) (places : List ℕ) → RiseFrom k places
    → ((p : ℕ) → In p places → OwnAt k client more p) → length places ≤ length (own_steps client more)
at_most k client [] [] r own = omega arith
at_most k client [] (p ∷ ps) r own = absurd (none_there k client p (own p (inl refl)))
at_most k client (x ∷ xs) places r own =
    at_most_next k client x xs (λ ps s o. at_most (k + 1) client xs ps s o) places r own

-- and are all places where they are as many
counted_next : (k client : ℕ) (x : Entry) (xs : List Entry)
    → ((ps : List ℕ) → RiseFrom (k + 1) ps → ((p : ℕ) → In p ps → OwnAt (k + 1) client xs p)
    → length (own_steps client xs) ≡ length ps → places_from (k + 1) client xs ≡ ps)
    → (b : Bool) → is_own_step client x ≡ b → (ps : List ℕ) → RiseFrom k ps
    → ((p : ℕ) → In p ps → OwnAt k client (x ∷ xs) p)
    → length (cond b (x ∷ own_steps client xs) (own_steps client xs)) ≡ length ps
    → cond b (k ∷ places_from (k + 1) client xs) (places_from (k + 1) client xs) ≡ ps
counted_next k client x xs rest true t [] r own e = absurd (let f : ⊥ = omega (arith, e) in f)
counted_next k client x xs rest true t (p ∷ ps) r own e = turn (cases_lt k p) where
  turn : (k < p) ⊎ (p ≤ k) → k ∷ places_from (k + 1) client xs ≡ p ∷ ps
  turn (inl lt) =
      let rise : RiseFrom (k + 1) (p ∷ ps) = (omega (arith, lt), r.1) in
      let few = at_most (k + 1) client xs (p ∷ ps) rise (all_behind k client x xs (p ∷ ps) rise own) in
      absurd (let f : ⊥ = omega (arith, few, e) in f)
  turn (inr le) =
      let is : k ≡ p = (let a = r.0 in omega (arith, a, le)) in
      let rise : RiseFrom (k + 1) ps = subst (λ (n : ℕ). RiseFrom (n + 1) ps) (sym is) r.1 in
      ap (λ (n : ℕ). n ∷ places_from (k + 1) client xs) is
      ∙ ap (λ (l : List ℕ). p ∷ l)
      (rest ps rise (all_behind k client x xs ps rise (λ q i. own q (inr i))) (omega (arith, e)))
counted_next k client x xs rest false t [] r own e = rest [] tt (λ q i. absurd i) e
counted_next k client x xs rest false t (p ∷ ps) r own e = turn (cases_lt k p) where
  turn : (k < p) ⊎ (p ≤ k) → places_from (k + 1) client xs ≡ p ∷ ps
  turn (inl lt) =
      let rise : RiseFrom (k + 1) (p ∷ ps) = (omega (arith, lt), r.1) in
      rest (p ∷ ps) rise (all_behind k client x xs (p ∷ ps) rise own) e
  turn (inr le) =
      let is : k ≡ p = (let a = r.0 in omega (arith, a, le)) in
      let s = own_first k client x xs
      (subst (λ (n : ℕ). OwnAt k client (x ∷ xs) n) (sym is) (own p (inl refl))) in
      absurd (let f : ⊥ = cc in f)

counted : (k client : ℕ) (more : List Entry) (places : List ℕ) → RiseFrom k places
    → ((p : ℕ) → In p places → OwnAt k client more p) → length (own_steps client more) ≡ length places
    → places_from k client more ≡ places
counted k client [] places r own e = sym (nil_of places (sym e))
counted k client (x ∷ xs) places r own e =
    counted_next k client x xs (λ ps s o f. counted (k + 1) client xs ps s o f) (is_own_step client x) refl places r own e

own_within : (client : ℕ) (old more : List Entry) (place : ℕ) → IsOwnStepAt client old (old ++ more) place
    → OwnAt (length old) client more place
own_within client old more place s =
    let r = get_behind old more place s.1 s.0 s.2 in
    (r.0, s.1, r.1, r.2, s.3)

own_since : (client : ℕ) (old more : List Entry) → own_steps client (old ++ more)
    ≡ own_steps client old ++ own_steps client more
own_since client old more = filter-append (is_own_step client) old more

pub places_counted : PlacesCounted
places_counted client old new places p =
    subst (λ (h : List Entry). length (own_steps client h) ≡ length (own_steps client old) + length places
    → RiseFrom (length old) places → All (IsOwnStepAt client old h) places → places_since client old h ≡ places) p.1
    (λ many rise all.
    let parts = ap length (own_since client old p.0)
    ∙ length-append (own_steps client old) (own_steps client p.0) in
    since_is client old p.0
    ∙ counted (length old) client p.0 places rise
    (λ q i. own_within client old p.0 q
    (All-contains (IsOwnStepAt client old (old ++ p.0)) places q all (contains_in places q i)))
    (omega (arith, many, parts)))

pub places_stay : PlacesStay
places_stay client old new p same =
    places_grow client old new p
    ∙ (ap (λ (l : List ℕ). places_of client old ++ l)
    (places_counted client old new [] p (let e = ap length same in omega (arith, e)) tt
    (All-nil (IsOwnStepAt client old new)))
    ∙ append-nil (places_of client old))

-- WHAT WAS MADE

own_among : (client : ℕ) (h : List Entry) → own_steps client h
    ≡ filter (λ (e : Entry). is_own client e.event) (made_of client h)
own_among client [] = refl
own_among client (x ∷ xs) =
    by_bool (x.by == client) (own_steps client xs) (made_of client xs) (own_among client xs) where
      by_bool : (b : Bool) (own made : List Entry) → own ≡ filter (λ (e : Entry). is_own client e.event) made
          → cond (b && is_own client x.event) (x ∷ own) own
          ≡ filter (λ (e : Entry). is_own client e.event) (cond b (x ∷ made) made)
      by_bool true own made e = ap (λ (l : List Entry). cond (is_own client x.event) (x ∷ l) l) e
      by_bool false own made e = e

pub steps_among_made : StepsAmongMade
steps_among_made client old new more e =
    own_among client new
    ∙ (ap (filter (λ (e : Entry). is_own client e.event)) e
    ∙ (filter-append (λ (e : Entry). is_own client e.event) (made_of client old) more
    ∙ ap (λ (l : List Entry). l ++ filter (λ (e : Entry). is_own client e.event) more) (sym (own_among client old))))

pub steps_counted : StepsCounted
steps_counted client old new more e =
    ap length (steps_among_made client old new more e)
    ∙ length-append (own_steps client old) (filter (λ (x : Entry). is_own client x.event) more)

-- what two lists end with after the same beginning is the same
same_end : (xs ys zs : List Entry) → xs ++ ys ≡ xs ++ zs → ys ≡ zs
same_end [] ys zs e = e
same_end (x ∷ xs) ys zs e = same_end xs ys zs (ap (drop 1) e)

pub made_on_top : MadeOnTop
made_on_top client old new more place e p made unseen at by =
    let there = get_behind old p.0 place e unseen (ap (λ (h : List Entry). slice_get h place) p.1 ∙ at) in
    let parts : made_of client old ++ made_of client p.0 ≡ made_of client old ++ more =
    sym (filter-append (λ (x : Entry). x.by == client) old p.0) ∙ (ap (made_of client) p.1 ∙ made) in
    contains_in more e (subst (λ (l : List Entry). In e l)
    (same_end (made_of client old) (made_of client p.0) more parts)
    (in_filter-back (λ (x : Entry). x.by == client) e p.0 (slice_in p.0 there.0 e there.2)
    (eq-eqb e.by client by)))
