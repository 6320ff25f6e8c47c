-- What holds while nodes are played, one free node after another.
use Rattle.std.proofs.Common.{◌≡◌, ℕ, zero, suc, ◌+◌, ◌<◌, ◌≤◌, List, [], ◌∷◌, ◌++◌, length, Some, true}
use Rattle.std.proofs.Common.{false, cond, refl, subst, ap, sym, ◌∙◌, inl, inr, ◌⊎◌, arith, lit<}
use Rattle.std.specs.Prelude.{slice_get, IsTrue, if◌then◌else◌}
use Rattle.std.specs.List.{count_by}
use Rattle.std.proofs.lemmas.Bool.{cases_lt, cases_eq, true≢false, cond-true, cond-false}
use Rattle.std.proofs.lemmas.Bool.{false_from_ne_true}
use Rattle.std.proofs.lemmas.List.Sums.{sum_by-append, sum_by-cons}
use Rattle.std.proofs.lemmas.Option.{slice_get_within}
use Rattle.log_node.specs.declared.ids.Counts.{Counts}
use Rattle.log_node.specs.declared.node.Head.{Head}
use Rattle.log_node.specs.Vectors.{at, IsWithin, one_more}
use Rattle.log_node.specs.Reach.{Chains}
use Rattle.col_core.specs.PlayOrder.{Place, same_place, Stands, is_between, WaitsFor, goes_first}
use Rattle.log_node.proofs.CallerLemmas.{within, within-at}
use Rattle.col_core.proofs.CallerLemmas.{by_test, Between, between_is, is_in_between, same_place-is}
use Rattle.col_core.proofs.CallerLemmas.{same_place-itself}
use Rattle.playback.specs.Orders.{next_place}
use Rattle.playback.proofs.NextRegions.{IsFree}
use Rattle.playback.proofs.Counting.{more_here, more_there, no_less, more_at, longer, last_at, shorter, iff}
use Rattle.playback.proofs.Counting.{same_places}

-- a node that the one at i waits for, or that was played between, is there
pub record Waited (order : List Place) (i : ℕ) (q : Place) (b : Head) : Type 0 where
  k : ℕ
  between : Place
  since : i ≤ k
  stands : slice_get order k ≡ Some between
  waits : WaitsFor b q between

-- the node at a place is not free
pub record Lacks (v : Counts) (b : Head) : Type 0 where
  region : ℕ
  in_range : region < 4
  lacks : at v region < at b.needs region

abbrev pub NotFree : Counts → Place → Head → Type 0
NotFree v q b = (at v q.region < q.position) ⊎ Lacks v b

pub record IsPlayedTo (chains : Chains) (from played to : Counts) (order : List Place) : Type 0 where
  pub each_once : (place : Place) → count_by (same_place place) order ≡ (if is_between from played place then 1 else 0)
  pub after_needed : (i j : ℕ) (p q : Place) (b : Head) → slice_get order i ≡ Some p → slice_get order j ≡ Some q
      → Stands chains q b → WaitsFor b q p → i < j
  pub least_first : (i j : ℕ) (p q : Place) (a b : Head) → i < j → slice_get order i ≡ Some p → slice_get order j
      ≡ Some q → Stands chains p a → Stands chains q b
      → IsTrue (goes_first b q a p) → (k : ℕ) × (between : Place) × (i ≤ k) × (k < j) × (slice_get order k
      ≡ Some between) × WaitsFor b q between
  -- what was played is counted, and so are its needs
  counted : (j : ℕ) (q : Place) → slice_get order j ≡ Some q → (q.region < 4) × (q.position < at played q.region)
  needs_met : (j : ℕ) (q : Place) (b : Head) → slice_get order j ≡ Some q → Stands chains q b → IsWithin b.needs played
  -- a node yet to be played that would go before one that was played has waited, or still waits
  blocked : (i : ℕ) (p q : Place) (a b : Head) → slice_get order i ≡ Some p → Stands chains p a → Stands chains q b
      → q.region < 4 → at played q.region ≤ q.position → q.position < at to q.region → IsTrue (goes_first b q a p)
      → Waited order i q b ⊎ NotFree played q b
  past : (r : ℕ) → r < 4 → at from r ≤ at played r
  pub short : IsWithin from to → (r : ℕ) → r < 4 → at played r ≤ at to r

-- nothing is played at first
pub nothing_played : (chains : Chains) (from to : Counts) → IsPlayedTo chains from from to []
nothing_played chains from to = record {
  each_once = λ place. let e : is_between from from place ≡ false = false_from_ne_true _
      (λ t. let b = between_is from from place t in let x = b.past in let y = b.short in
      let f : ⊥ = omega (arith, x, y) in f) in sym (cond-false (is_between from from place) 1 0 e);
  after_needed = λ i j p q b h. absurd (let f : ⊥ = cc in f);
  least_first = λ i j p q a b lt h. absurd (let f : ⊥ = cc in f);
  counted = λ j q h. absurd (let f : ⊥ = cc in f);
  needs_met = λ j q b h. absurd (let f : ⊥ = cc in f);
  blocked = λ i p q a b h. absurd (let f : ⊥ = cc in f);
  past = λ r lt. omega arith;
  short = λ w r lt. within-at from to w r lt;
}

-- needs are met, or a region lacks some
cases_within : (needs v : Counts) (b : Head) → b.needs ≡ needs → IsWithin needs v ⊎ Lacks v b
cases_within needs v b e = go (cases_lt (at v 0) (at needs 0)) (cases_lt (at v 1) (at needs 1))
    (cases_lt (at v 2) (at needs 2)) (cases_lt (at v 3) (at needs 3)) where
      lack : (r : ℕ) → r < 4 → at v r < at needs r → IsWithin needs v ⊎ Lacks v b
      lack r lt x = inr (record {
        region = r;
        in_range = lt;
        lacks = subst (λ (n : Counts). at v r < at n r) (sym e) x;
      })

      go : (at v 0 < at needs 0) ⊎ (at needs 0 ≤ at v 0) → (at v 1 < at needs 1) ⊎ (at needs 1 ≤ at v 1)
          → (at v 2 < at needs 2) ⊎ (at needs 2 ≤ at v 2) → (at v 3 < at needs 3) ⊎ (at needs 3 ≤ at v 3)
          → IsWithin needs v ⊎ Lacks v b
      go (inl x) b2 c d = lack 0 (lit< tt) x
      go (inr a) (inl x) c d = lack 1 (lit< tt) x
      go (inr a) (inr b2) (inl x) d = lack 2 (lit< tt) x
      go (inr a) (inr b2) (inr c) (inl x) = lack 3 (lit< tt) x
      go (inr a) (inr b2) (inr c) (inr d) = inl (within needs v (four a b2 c d)) where
        four : at needs 0 ≤ at v 0 → at needs 1 ≤ at v 1 → at needs 2 ≤ at v 2 → at needs 3 ≤ at v 3 → (r : ℕ) → r < 4
            → at needs r ≤ at v r
        four a b c d zero h = a
        four a b c d (suc zero) h = b
        four a b c d (suc (suc zero)) h = c
        four a b c d (suc (suc (suc zero))) h = d
        four a b c d (suc (suc (suc (suc r)))) h = absurd (let f : ⊥ = omega (arith, h) in f)

-- the place is that of a free node, and no free one goes before it
pub record GoesNext (chains : Chains) (played to : Counts) (place : Place) : Type 0 where
  pub head : Head
  pub in_range : place.region < 4
  pub free : IsFree chains played to place.region head
  pub next : place.position ≡ at played place.region
  pub first : (region : ℕ) (other : Head) → region < 4 → IsFree chains played to region other
      → goes_first other (next_place played region) head place ≡ false

-- no node is free
abbrev pub NoneFree : Chains → Counts → Counts → Type 0
NoneFree chains played to = (region : ℕ) (head : Head) → region < 4 → IsFree chains played to region head → ⊥

module _ (chains : Chains) (from played to : Counts) (order : List Place) (h : IsPlayedTo chains from played to order)
    (place : Place) (g : GoesNext chains played to place) where
  abbrev new : Counts
  new = one_more played place.region

  abbrev order' : List Place
  order' = order ++ place ∷ []

  here_now : (p : Place) → p.region ≡ place.region → at new p.region ≡ at played p.region + 1
  here_now p e = subst (λ r. at new r ≡ at played r + 1) (sym e) (more_here played place.region g.in_range)

  -- a place is counted now where it was before, or where it is this one
  counts_now : (p : Place) → count_by (same_place p) (place ∷ []) ≡ cond (same_place p place) 1 0
  counts_now p = let e = sum_by-cons (λ x. cond (same_place p x) 1 0) place [] in
      let z : count_by (same_place p) [] ≡ 0 = refl in omega (arith, e, z)

  this_place : Between from new place
  this_place = record {
    in_range = g.in_range;
    past = let x = h.past place.region g.in_range in let e = g.next in omega (arith, x, e);
    short = let m = more_here played place.region g.in_range in let e = g.next in omega (arith, m, e);
  }

  not_before : is_between from played place ≡ false
  not_before = false_from_ne_true _ (λ t. let b = between_is from played place t in let x = b.short in let e = g.next in
      let f : ⊥ = omega (arith, x, e) in f)

  still_between : (p : Place) → Between from played p → Between from new p
  still_between p b = record {
    in_range = b.in_range;
    past = b.past;
    short = let x = b.short in let y = no_less played
        place.region p.region b.in_range in omega (arith, x, y);
  }

  was_between : (p : Place) → (p ≡ place → ⊥) → Between from new p → Between from played p
  was_between p ne b = record { in_range = b.in_range; past = b.past; short = pick (cases_eq p.region place.region) }
    where
      pick : (p.region ≡ place.region) ⊎ (p.region ≡ place.region → ⊥) → p.position < at played p.region
      pick (inl e) = smaller (cases_eq p.position (at played p.region)) where
        smaller : (p.position ≡ at played p.region) ⊎ (p.position ≡ at played p.region → ⊥) → p.position < at played
            p.region
        smaller (inl f) = absurd (ne (same_places p place e (f ∙ (ap (at played) e ∙ sym g.next))))
        smaller (inr f) = let x = b.short in let m = here_now p e in omega (arith, x, m, f)
      pick (inr d) = let x = b.short in let m = more_there played place.region p.region b.in_range d in
          omega (arith, x, m)

  each_once_now : (p : Place) → count_by (same_place p) order' ≡ cond (is_between from new p) 1 0
  each_once_now p =
      let a = sum_by-append (λ x. cond (same_place p x) 1 0) order (place ∷ []) in
      let b = counts_now p in
      let o = h.each_once p in
      by_test _ (same_place p place)
      (λ t.
      let is = same_place-is p place t in
      let n : is_between from played p ≡ false = ap (is_between from played) is ∙ not_before in
      let y : is_between from new p ≡ true = ap (is_between from new) is ∙ is_in_between from new place this_place in
      let u = cond-true {A = ℕ} (same_place p place) 1 0 t in
      let v = cond-false {A = ℕ} (is_between from played p) 1 0 n in
      let w = cond-true {A = ℕ} (is_between from new p) 1 0 y in
      omega (arith, a, b, o, u, v, w))
      (λ f.
      let ne : p ≡ place → ⊥ = λ e. true≢false
      (sym (subst (λ (x : Place). same_place p x ≡ true) e (same_place-itself p)) ∙ f) in
      let same : is_between from new p ≡ is_between from played p = iff (is_between from new p)
      (is_between from played p)
      (λ t. is_in_between from played p (was_between p ne (between_is from new p t)))
      (λ t. is_in_between from new p (still_between p (between_is from played p t))) in
      let u = cond-false {A = ℕ} (same_place p place) 1 0 f in
      let w = ap {B = ℕ} (λ x. cond x 1 0) same in
      omega (arith, a, b, o, u, w))

  counted_now : (j : ℕ) (q : Place) → slice_get order' j ≡ Some q → (q.region < 4) × (q.position < at new q.region)
  counted_now j q there = more_at _ order place q j there
      (λ o. let c = h.counted j q o in let y = no_less played place.region q.region c.0 in let x = c.1 in
      (c.0, omega (arith, x, y)))
      (λ e is. subst (λ (p : Place). (p.region < 4) × (p.position < at new p.region)) is (g.in_range, this_place.short))

  -- the node at this place is the free one
  free_head : (b : Head) → Stands chains place b → g.head ≡ b
  free_head b s =
      let t : Some g.head ≡ Some b = sym g.free.stands ∙ (ap (slice_get (chains place.region)) (sym g.next) ∙ s) in cc

  needs_now : (j : ℕ) (q : Place) (b : Head) → slice_get order' j ≡ Some q → Stands chains q b → IsWithin b.needs new
  needs_now j q b there s =
      let old : IsWithin b.needs played = more_at _ order place q j there (λ o. h.needs_met j q b o s)
      (λ e is. subst (λ (x : Head). IsWithin x.needs played)
      (free_head b (subst (λ (p : Place). Stands chains p b) (sym is) s)) g.free.covered) in
      within b.needs new (λ r lt. let x = within-at b.needs played old r lt in
      let y = no_less played place.region r lt in omega (arith, x, y))

  -- nothing that was played, nor this node itself, waits for this one
  waits_not : (j : ℕ) (q : Place) (b : Head) → slice_get order' j ≡ Some q → Stands chains q b → WaitsFor b q place → ⊥
  waits_not j q b there s (inl e) =
      let c : q.position < at played q.region + 1 = more_at _ order place q j there
      (λ o. let x = (h.counted j q o).1 in omega (arith, x))
      (λ f is. let x : q.position ≡ at played q.region = subst (λ (p : Place). p.position ≡ at played p.region) is
      g.next in omega (arith, x)) in
      let m = ap (at played) e.0 in let n = g.next in let y = e.1 in omega (arith, c, m, n, y)
  waits_not j q b there s (inr lt) =
      let old : IsWithin b.needs played = more_at _ order place q j there (λ o. h.needs_met j q b o s)
      (λ e is. subst (λ (x : Head). IsWithin x.needs played)
      (free_head b (subst (λ (p : Place). Stands chains p b) (sym is) s)) g.free.covered) in
      let x = within-at b.needs played old place.region g.in_range in let n = g.next in omega (arith, x, n, lt)

  after_now : (i j : ℕ) (p q : Place) (b : Head) → slice_get order' i ≡ Some p → slice_get order' j ≡ Some q
      → Stands chains q b → WaitsFor b q p → i < j
  after_now i j p q b a c s w = more_at _ order place p i a
      (λ o. more_at _ order place q j c (λ u. h.after_needed i j p q b o u s w) (λ e is. let x = slice_get_within order
      i p o in omega (arith, x, e)))
      (λ e is. absurd (waits_not j q b c s (subst (λ (x : Place). WaitsFor b q x) (sym is) w)))

  -- one that waits goes on waiting, or has waited for this one
  goes_on : (i : ℕ) → i ≤ length order → (q : Place) (b : Head) → q.region < 4 → NotFree played q b
      → Waited order' i q b ⊎ NotFree new q b
  goes_on i le q b lt (inl later) = pick (cases_lt (at new q.region) q.position) where
    pick : (at new q.region < q.position) ⊎ (q.position ≤ at new q.region) → Waited order' i q b ⊎ NotFree new q b
    pick (inl x) = inr (inl x)
    pick (inr x) = here (cases_eq q.region place.region) where
      here : (q.region ≡ place.region) ⊎ (q.region ≡ place.region → ⊥) → Waited order' i q b ⊎ NotFree new q b
      here (inl e) = inl (record {
        k = length order;
        between = place;
        since = le;
        stands = last_at order place;
        waits = inl (
          e,
          let m = here_now q e in let n = g.next in let u = ap (at played) e in
              omega (arith, m, n, u, x, later),
        );
      })
      here (inr d) = absurd (let m = more_there played place.region q.region lt d in
          let f : ⊥ = omega (arith, m, x, later) in f)
  goes_on i le q b lt (inr l) = pick (cases_lt (at new l.region) (at b.needs l.region)) where
    pick : (at new l.region < at b.needs l.region) ⊎ (at b.needs l.region ≤ at new l.region) → Waited order' i q b ⊎
        NotFree new q b
    pick (inl x) = inr (inr (record { region = l.region; in_range = l.in_range; lacks = x }))
    pick (inr x) = here (cases_eq l.region place.region) where
      here : (l.region ≡ place.region) ⊎ (l.region ≡ place.region → ⊥) → Waited order' i q b ⊎ NotFree new q b
      here (inl e) = inl (record {
        k = length order;
        between = place;
        since = le;
        stands = last_at order place;
        waits = inr (let n = g.next in let u = ap (at played) e in let v = ap (at b.needs) e in let y = l.lacks in
            omega (arith, n, u, v, y));
      })
      here (inr d) = absurd (let m = more_there played place.region l.region l.in_range d in let y = l.lacks in
          let f : ⊥ = omega (arith, m, x, y) in f)

  -- a node that would go before this one is not free
  not_free : (q : Place) (b : Head) → Stands chains q b → q.region < 4 → at played q.region ≤ q.position
      → q.position < at to q.region → IsTrue (goes_first b q g.head place) → NotFree played q b
  not_free q b s lt past short first = pick (cases_eq q.position (at played q.region)) (cases_within b.needs played b
      refl) where
        pick : (q.position ≡ at played q.region) ⊎ (q.position ≡ at played q.region → ⊥) → IsWithin b.needs played ⊎
            Lacks
            played b → NotFree played q b
        pick (inr d) c = inl (omega (arith, past, d))
        pick (inl e) (inr l) = inr l
        pick (inl e) (inl c) =
            let stands : slice_get (chains q.region) (at played q.region) ≡ Some b = ap (slice_get (chains q.region))
            (sym e) ∙ s in
            let f : IsFree chains played to q.region b = record
            { wanted = subst (λ n. n < at to q.region) e short; stands = stands; covered = c } in
            let x = g.first q.region b lt f in
            let y : goes_first b (next_place played q.region) g.head place
            ≡ true = subst (λ (p : Place). goes_first b p g.head place ≡ true)
            (same_places q (next_place played q.region) refl e) first in
            absurd (true≢false (sym y ∙ x))

  blocked_now : (i : ℕ) (p q : Place) (a b : Head) → slice_get order' i ≡ Some p → Stands chains p a → Stands chains q b
      → q.region < 4 → at new q.region ≤ q.position → q.position < at to q.region
      → IsTrue (goes_first b q a p) → Waited order' i q b ⊎ NotFree new q b
  blocked_now i p q a b there sp sq lt past short first = more_at _ order place p i there
      (λ o. let le : at played q.region ≤ q.position = let y = no_less played place.region q.region lt in
      omega (arith, y, past) in
      let x = slice_get_within order i p o in
      old (omega (arith, x)) (h.blocked i p q a b o sp sq lt le short first))
      (λ e is. let le : at played q.region ≤ q.position = let y = no_less played place.region q.region lt in
      omega (arith, y, past) in
      let sa = subst (λ (x : Place). Stands chains x a) (sym is) sp in
      let f1 : goes_first b q a place ≡ true = subst (λ (x : Place). goes_first b q a x ≡ true) (sym is) first in
      let f2 : goes_first b q g.head place
      ≡ true = subst (λ (x : Head). goes_first b q x place ≡ true) (sym (free_head a sa)) f1 in
      goes_on i (omega (arith, e)) q b lt (not_free q b sq lt le short f2)) where
        old : i ≤ length order → Waited order i q b ⊎ NotFree played q b → Waited order' i q b ⊎ NotFree new q b
        old le (inl w) = inl (record {
          k = w.k;
          between = w.between;
          since = w.since;
          stands = longer order place
              w.between w.k w.stands;
          waits = w.waits;
        })
        old le (inr n) = goes_on i le q b lt n

  -- a free node lacks nothing
  free_now : (b : Head) → Stands chains place b → NotFree played place b → ⊥
  free_now b s (inl later) = let n = g.next in omega (arith, later, n)
  free_now b s (inr l) = let x = within-at b.needs played
      (subst (λ (y : Head). IsWithin y.needs played) (free_head b s) g.free.covered) l.region l.in_range in
      let y = l.lacks in omega (arith, x, y)

  least_now : (i j : ℕ) (p q : Place) (a b : Head) → i < j → slice_get order' i ≡ Some p → slice_get order' j ≡ Some q
      → Stands chains p a → Stands chains q b
      → IsTrue (goes_first b q a p) → (k : ℕ) × (between : Place) × (i ≤ k) × (k < j) × (slice_get order' k
      ≡ Some between) × WaitsFor b q between
  least_now i j p q a b less there theirs sp sq first = more_at _ order place q j theirs
      (λ o. let lt = slice_get_within order j q o in
      let w = h.least_first i j p q a b less (shorter order place p i there (omega (arith, less, lt))) o sp sq first in
      (w.0, w.1, w.2, w.3, longer order place w.1 w.0 w.4, w.5))
      (λ e is.
      let sb = subst (λ (x : Place). Stands chains x b) (sym is) sq in
      let f : goes_first b place a p ≡ true = subst (λ (x : Place). goes_first b x a p ≡ true) (sym is) first in
      let n = g.next in let u = g.free.wanted in
      let w = found b sb (h.blocked i p place a b (shorter order place p i there (omega (arith, less, e))) sp sb
      g.in_range (omega (arith, n)) (omega (arith, n, u)) f) in
      let lt = slice_get_within order w.k w.between w.stands in (
        w.k,
        w.between,
        w.since,
        omega (arith, lt, e),
        longer order place w.between w.k w.stands,
        subst
            (λ (x : Place). WaitsFor b x w.between) is w.waits,
      )) where
        found : (c : Head) → Stands chains place c → Waited order i place c ⊎ NotFree played place c
            → Waited order i place c
        found c s (inl w) = w
        found c s (inr n) = absurd (free_now c s n)

  pub plays_on : IsPlayedTo chains from new to order'
  plays_on = record {
    each_once = each_once_now;
    after_needed = after_now;
    least_first = least_now;
    counted = counted_now;
    needs_met = needs_now;
    blocked = blocked_now;
    past = λ r lt. let x = h.past r lt in let y = no_less played place.region r lt in omega (arith, x, y);
    short = λ w r lt. pick w r lt (cases_eq r place.region);
  } where
    pick : IsWithin from to → (r : ℕ) → r < 4 → (r ≡ place.region) ⊎ (r ≡ place.region → ⊥) → at new r ≤ at to r
    pick w r lt (inl e) = subst (λ s. at new s ≤ at to s) (sym e) (let m = more_here played place.region g.in_range in
        let u = g.free.wanted in omega (arith, m, u))
    pick w r lt (inr d) = let m = more_there played place.region r lt d in let x = h.short w r lt in omega (arith, m, x)
