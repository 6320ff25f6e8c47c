-- Where ids enter: what a map has of them, and one event more.
use Rattle.std.proofs.Common.{◌≡◌, ◌⊎◌, ℕ, ◌+◌, ◌<◌, Bool, true, false, ◌&&◌, eqb, cond, List, [], ◌∷◌, ◌++◌, length, take, Option, Some, None, Ordering, Less, Equal, Greater, inl, inr, refl, ap, sym, subst, ◌∙◌, arith, zero, suc, get_or}
use Rattle.std.specs.Prelude.{slice_get, IsTrue, is_none, is_some, not}
use Rattle.std.specs.Ordering.{is_eq, nat_cmp, ordering_then}
use Rattle.std.specs.List.{find}
use Rattle.std.specs.Option.{option_map}
use Rattle.std.specs.Map.{lookup}
use Rattle.std.proofs.lemmas.Bool.{cases_Bool, or_from, or_left, or_right, true≢false}
use Rattle.std.proofs.lemmas.Bool.Decides.{nat_tests}
use Rattle.std.proofs.lemmas.List.{take-append-le, take_at, take_more}
use Rattle.std.proofs.lemmas.List.Folds.{list_any-append}
use Rattle.std.proofs.lemmas.Option.{slice_get_within}
use Rattle.log_node.specs.declared.ids.Id.{Id}
use Rattle.log_node.specs.Order.{same_id}
use Rattle.log_node.specs.contracts.ids.IdOrd.TheImpl.{cmp-value}
use Rattle.log_node.proofs.CallerLemmas.{get_last, get_longer, get_push, same_id-is, same_id-refl, same_some}
use Rattle.col_core.specs.declared.Event.{Event}
use Rattle.col_core.specs.declared.Event.TheVariants.{Single, Propose, Settle, Raise, Give, Carry, Trim}
use Rattle.col_core.specs.declared.Entry.{Entry}
use Rattle.col_core.specs.History.{enters, has_entered}
use Rattle.column_track.specs.declared.places.Places.{Places}
use Rattle.column_track.specs.Tracks.{EntersAt}
use Rattle.column_track.specs.Doing.{ArePlaces, EntersOnce, entering, place_in}

same_number : (a b : ℕ) → is_eq (nat_cmp a b) ≡ eqb b a
same_number a b = grind (arith, nat_tests)

both_same : (p q : Ordering) → is_eq (ordering_then p q) ≡ (is_eq p && is_eq q)
both_same Less q = refl
both_same Equal q = refl
both_same Greater q = refl

-- ids stand as equal where they are one
equal_is_same : (a b : Id) → is_eq (cmp-value.it a b) ≡ same_id b a
equal_is_same a b =
    both_same (nat_cmp a.client b.client) (nat_cmp a.count b.count)
    ∙ rw (same_number a.client b.client, same_number a.count b.count) refl

-- what a map has at an id
pub found : (id : Id) (es : List (Id × ℕ))
    → lookup (λ k. is_eq (cmp-value.it id k)) es ≡ option_map (λ e. e.1) (find (λ e. same_id e.0 id) es)
found id [] = refl
found id (e ∷ es) = elim (cases_Bool (same_id e.0 id)) [
  | inl here ↦ rw (equal_is_same id e.0, here) refl
  | inr other ↦ rw (equal_is_same id e.0, other) (found id es)
]

-- what it has with one more
pub one_more : (old new : Places) (id : Id) (place : ℕ)
    → ((other : Id) → lookup (λ k. is_eq (cmp-value.it other k)) new.by_id.entries
    ≡ cond (is_eq (cmp-value.it id other)) (Some place) (lookup (λ k. is_eq (cmp-value.it other k)) old.by_id.entries))
    → (other : Id) → place_in new other ≡ cond (same_id other id) (Some place) (place_in old other)
one_more old new id place step other =
    sym (found other new.by_id.entries) ∙ step other
    ∙ rw (equal_is_same id other, found other old.by_id.entries) refl

-- ONE EVENT MORE

-- which id an event enters
enters_it : (event : Event) (id other : Id) → entering event ≡ Some id → enters other event ≡ same_id other id
enters_it (Single i floor wants) id other e = ap (same_id other) (same_some e)
enters_it (Propose i floor wants) id other e = ap (same_id other) (same_some e)
enters_it (Settle i outcome) id other e = absurd (let f : ⊥ = cc (e) in f)
enters_it (Raise to) id other e = absurd (let f : ⊥ = cc (e) in f)
enters_it (Give region from) id other e = absurd (let f : ⊥ = cc (e) in f)
enters_it (Carry region start heads) id other e = absurd (let f : ⊥ = cc (e) in f)
enters_it (Trim counts) id other e = absurd (let f : ⊥ = cc (e) in f)

enters_none : (event : Event) (other : Id) → entering event ≡ None → enters other event ≡ false
enters_none (Single i floor wants) other e = absurd (let f : ⊥ = cc (e) in f)
enters_none (Propose i floor wants) other e = absurd (let f : ⊥ = cc (e) in f)
enters_none (Settle i outcome) other e = refl
enters_none (Raise to) other e = refl
enters_none (Give region from) other e = refl
enters_none (Carry region start heads) other e = refl
enters_none (Trim counts) other e = refl

-- an event that enters another id changes nothing for this one
still : (before : List Entry) (e : Entry) (id : Id) (o : Option ℕ) → enters id e.event ≡ false → EntersAt before id o
    → EntersAt (before ++ e ∷ []) id o
still before e id None other fresh =
    list_any-append (λ (d : Entry). enters id d.event) before (e ∷ [])
    ∙ or_from (has_entered id before) _ fresh (or_from (enters id e.event) false other refl)
still before e id (Some place) other at = (at.0, get_longer before (e ∷ []) place at.0 at.1, at.2)

module _ (before : List Entry) (e : Entry) where
  -- ids enter once yet, where that of the event is new
  once_more : EntersOnce before → ((id : Id) → IsTrue (enters id e.event) → has_entered id before ≡ false)
      → EntersOnce (before ++ e ∷ [])
  once_more once new n d id at enters_here = by (get_push before e n d at) where
    by : (slice_get before n ≡ Some d) ⊎ ((n ≡ length before) × (e ≡ d)) → has_entered id (take n (before ++ e ∷ [])) ≡ false
    by (inl there) =
        let lt = slice_get_within before n d there in
        ap (has_entered id) (take-append-le n before (e ∷ []) (omega (arith, lt))) ∙ once n d id there enters_here
    by (inr last) =
        ap (has_entered id) (take_at before (e ∷ []) n (sym last.0))
        ∙ new id (subst (λ (x : Entry). IsTrue (enters id x.event)) (sym last.1) enters_here)

  pub none_more : (places : Places) → entering e.event ≡ None → ArePlaces before places → ArePlaces (before ++ e ∷ []) places
  none_more places none old = record {
    once = once_more old.once (λ id t. absurd (let f : false ≡ true = sym (enters_none e.event id none) ∙ t in let g : ⊥ = cc (f) in g));
    each = λ id. still before e id (place_in places id) (enters_none e.event id none) (old.each id);
  }

  pub id_more : (places new : Places) (id : Id) (place : ℕ) → place ≡ length before → entering e.event ≡ Some id
      → is_none (place_in places id) ≡ true
      → ((other : Id) → place_in new other ≡ cond (same_id other id) (Some place) (place_in places other))
      → ArePlaces before places → ArePlaces (before ++ e ∷ []) new
  id_more places new id place last is none added old = record {
    once = once_more old.once (λ other t.
        subst (λ (i : Id). has_entered i before ≡ false)
        (sym (same_id-is other id (sym (enters_it e.event id other is) ∙ t))) fresh);
    each = λ other. at other (cases_Bool (same_id other id));
  } where
    fresh : has_entered id before ≡ false
    fresh = by (place_in places id) none (old.each id) where
      by : (o : Option ℕ) → is_none o ≡ true → EntersAt before id o → has_entered id before ≡ false
      by None n is_fresh = is_fresh
      by (Some k) n is_fresh = absurd (true≢false (sym n))

    at : (other : Id) → (same_id other id ≡ true) ⊎ (same_id other id ≡ false) → EntersAt (before ++ e ∷ []) other (place_in new other)
    at other (inl t) =
        subst (EntersAt (before ++ e ∷ []) other) (sym (added other ∙ ap (λ b. cond b (Some place) (place_in places other)) t))
        (e, ap (slice_get (before ++ e ∷ [])) last ∙ get_last before e, enters_it e.event id other is ∙ t)
    at other (inr f) =
        subst (EntersAt (before ++ e ∷ []) other) (sym (added other ∙ ap (λ b. cond b (Some place) (place_in places other)) f))
        (still before e other (place_in places other) (enters_it e.event id other is ∙ f) (old.each other))

-- an id that an event enters has entered
pub was_entered : (history : List Entry) (id : Id) (place : ℕ) (e : Entry) → slice_get history place ≡ Some e
    → enters id e.event ≡ true → has_entered id history ≡ true
was_entered [] id place e at t = absurd (let f : ⊥ = cc (at) in f)
was_entered (x ∷ xs) id zero e at t =
    or_left (enters id x.event) (has_entered id xs) (ap (λ (d : Entry). enters id d.event) (same_some at) ∙ t)
was_entered (x ∷ xs) id (suc place) e at t =
    or_right (enters id x.event) (has_entered id xs) (was_entered xs id place e at t)

-- where an event enters an id that has a place already, an id enters twice
pub enters_twice : (journal : List Entry) (at : ℕ) (e : Entry) (id : Id) (places : Places) → slice_get journal at ≡ Some e
    → entering e.event ≡ Some id → is_none (place_in places id) ≡ false → ArePlaces (take at journal) places
    → EntersOnce journal → ⊥
enters_twice journal at e id places there is some old once = by (place_in places id) some (old.each id) where
  fresh : has_entered id (take at journal) ≡ false
  fresh = once at e id there (enters_it e.event id id is ∙ same_id-refl id)

  by : (o : Option ℕ) → is_none o ≡ false → EntersAt (take at journal) id o → ⊥
  by None f enters_at = true≢false f
  by (Some place) f enters_at =
      true≢false (sym (was_entered (take at journal) id place enters_at.0 enters_at.1 enters_at.2) ∙ fresh)

pub none_is : (o : Option ℕ) (b : Bool) → is_some o ≡ not b → b ≡ is_none o
none_is None true e = refl
none_is None false e = e
none_is (Some x) true e = absurd (true≢false e)
none_is (Some x) false e = refl

-- the events up to a place, and that at it
pub next_is : (journal : List Entry) (at : ℕ) (e : Entry) → at < length journal → e ≡ get_or journal at e
    → take (at + 1) journal ≡ take at journal ++ e ∷ []
next_is journal at e lt is = take_more journal at e lt ∙ ap (λ (d : Entry). take at journal ++ d ∷ []) (sym is)
