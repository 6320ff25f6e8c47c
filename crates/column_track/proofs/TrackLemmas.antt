-- What is looked up in a track.
use Rattle.std.proofs.Common.{◌≡◌, ◌≢◌, ℕ, zero, suc, ◌+◌, ◌<◌, ◌≤◌, max, Bool, true, false, List, [], ◌∷◌, length, take, drop, get_or, Some, ap, sym, subst, ◌∙◌, arith, inl, inr, ◌⊎◌}
use Rattle.std.specs.Prelude.{slice_get, nat_eq}
use Rattle.std.specs.List.{range_with_len}
use Rattle.std.proofs.lemmas.Bool.{eqb-true, eqb-false, true≢false, cases_lt}
use Rattle.std.proofs.lemmas.List.{take-append-drop}
use Rattle.std.proofs.lemmas.List.FromFn.{length-range_with_len, length-map-range_with_len}
use Rattle.std.proofs.lemmas.Option.{slice_get-get_or, get_or_from_slice_get, slice_get_within}
use Rattle.log_node.specs.declared.ids.Id.{Id}
use Rattle.log_node.proofs.CallerLemmas.{get_map, get_range, get_within, same_id-is, same_some}
use Rattle.col_core.specs.declared.Event.{Event}
use Rattle.col_core.specs.declared.Event.TheVariants.{Single, Propose, Settle, Raise, Give, Carry, Trim}
use Rattle.col_core.specs.declared.Entry.{Entry}
use Rattle.col_core.specs.History.{clock, enters, has_entered}
use Rattle.col_core.specs.Computed.{dated}
use Rattle.col_core.specs.Legal.{IsColumnHistory, IsLawfulEvent}
use Rattle.col_core.proofs.CallerLemmas.{entries_dated, lawful_beginning}
use Rattle.column_track.specs.declared.marks.Mark.{Mark}
use Rattle.column_track.specs.Tracks.{Tells, Tracked, WasClock, mark_after}
use Rattle.column_track.specs.declared.places.Places.{Places}
use Rattle.column.specs.Columns.{ColumnState}
use Rattle.column_track.specs.Doing.{ClocksDoNotFall, EntersOnce, HasClock, IsTrack, marks_of, tracked}
use Rattle.column_track.proofs.NextLemmas.{last_lawful}
use Rattle.column_track.proofs.PlaceLemmas.{next_is}

-- ids of a lawful history enter once

enters_fresh : (own regions : ℕ) (before : List Entry) (event : Event) (stamp : ℕ) (id : Id)
    → IsLawfulEvent own regions (dated own before) event stamp → enters id event ≡ true → has_entered id before ≡ false
enters_fresh own regions before (Single i floor wants) stamp id may t =
    ap (λ (j : Id). has_entered j before) (same_id-is id i t) ∙ (ap (has_entered i) (sym (entries_dated own before)) ∙ may.fresh)
enters_fresh own regions before (Propose i floor wants) stamp id may t =
    ap (λ (j : Id). has_entered j before) (same_id-is id i t) ∙ (ap (has_entered i) (sym (entries_dated own before)) ∙ may.fresh)
enters_fresh own regions before (Settle i outcome) stamp id may t = absurd (true≢false (sym t))
enters_fresh own regions before (Raise to) stamp id may t = absurd (true≢false (sym t))
enters_fresh own regions before (Give region from) stamp id may t = absurd (true≢false (sym t))
enters_fresh own regions before (Carry region start heads) stamp id may t = absurd (true≢false (sym t))
enters_fresh own regions before (Trim counts) stamp id may t = absurd (true≢false (sym t))

pub lawful_once : (own regions : ℕ) (journal : List Entry) → IsColumnHistory own regions (dated own journal) → EntersOnce journal
lawful_once own regions journal lawful n e id at t =
    enters_fresh own regions (take n journal) e.event e.stamp id
    (last_lawful own regions (take n journal) e
    (subst (λ (h : List Entry). IsColumnHistory own regions (dated own h))
    (next_is journal n e (slice_get_within journal n e at) (sym (get_or_from_slice_get journal n e e at)))
    (lawful_beginning own regions (take (n + 1) journal) (drop (n + 1) journal)
    (subst (λ (h : List Entry). IsColumnHistory own regions (dated own h)) (sym (take-append-drop (n + 1) journal)) lawful)))) t

-- marks

module _ (own regions : ℕ) (journal : List Entry) (count : ℕ) where
  pub marks_count : length (marks_of own regions journal count) ≡ count
  marks_count = length-map-range_with_len (λ n. mark_after own regions (take n journal)) 0 count

  pub mark_at : (n : ℕ) → n < count → slice_get (marks_of own regions journal count) n ≡ Some (mark_after own regions (take n journal))
  mark_at n lt =
      let long = length-range_with_len 0 count in
      let there = get_within (range_with_len 0 count) n (omega (arith, lt, long)) in
      get_map (λ i. mark_after own regions (take i journal)) (range_with_len 0 count) n n
      (there.1 ∙ ap (λ (k : ℕ). Some k) (let is = get_range 0 count n there.0 there.1 in omega (arith, is)))

  pub marks_rise : ClocksDoNotFall (marks_of own regions journal count)
  marks_rise i j d le lt =
      let many = marks_count in
      let a = ap (λ (m : Mark). m.clock) (get_or_from_slice_get (marks_of own regions journal count) i _ d (mark_at i (omega (arith, le, lt, many)))) in
      let b = ap (λ (m : Mark). m.clock) (get_or_from_slice_get (marks_of own regions journal count) j _ d (mark_at j (omega (arith, lt, many)))) in
      let c = clock_front journal i j le in
      omega (arith, a, b, c) where
        clock_front : (h : List Entry) (i j : ℕ) → i ≤ j → clock (take i h) ≤ clock (take j h)
        clock_front h zero j le = omega arith
        clock_front [] (suc i) j le = omega arith
        clock_front (x ∷ xs) (suc i) zero le = absurd (let f : ⊥ = omega (arith, le) in f)
        clock_front (x ∷ xs) (suc i) (suc j) le = let h = clock_front xs i j (omega (arith, le)) in omega (arith, h)

-- the search for a clock

module _ (ms : List Mark) (from to stamp p : ℕ) (d : Mark) (rises : ClocksDoNotFall ms) (within : to < length ms)
    (less : (k : ℕ) → k < p → (get_or ms k d).clock < stamp)
    (more : (k : ℕ) → p ≤ k → k < length ms → stamp ≤ (get_or ms k d).clock) where
  pub past : (place : ℕ) → place ≡ max from p → to < place → HasClock ms from to stamp → ⊥
  past place is over found =
      let n = found.0 in
      let a : from ≤ n = found.1 in
      let b : n ≤ to = found.2 in
      let low = less n (omega (arith, a, b, is, over)) in
      let value : (get_or ms n d).clock ≡ stamp = ap (λ (m : Mark). m.clock) (get_or_from_slice_get ms n found.3 d found.4) ∙ found.5 in
      omega (arith, low, value)

  other_clock : (place : ℕ) → place ≡ max from p → place ≤ to → (get_or ms place d).clock ≢ stamp → HasClock ms from to stamp → ⊥
  other_clock place is in_range other found = by (cases_lt found.0 place) where
    value : (get_or ms found.0 d).clock ≡ stamp
    value = ap (λ (m : Mark). m.clock) (get_or_from_slice_get ms found.0 found.3 d found.4) ∙ found.5

    by : (found.0 < place) ⊎ (place ≤ found.0) → ⊥
    by (inl lt) =
        let a : from ≤ found.0 = found.1 in
        let low = less found.0 (omega (arith, a, is, lt)) in
        let v = value in
        omega (arith, low, v)
    by (inr le) =
        let top : found.0 ≤ to = found.2 in
        let rise = rises place found.0 d le (omega (arith, top, within)) in
        let high = more place (omega (arith, is)) (omega (arith, in_range, within)) in
        let v = value in
        other (omega (arith, rise, high, v))

  pub at_place : (place : ℕ) → place ≡ max from p → place ≤ to → (b : Bool) → nat_eq (get_or ms place d).clock stamp ≡ b
      → Tells b (HasClock ms from to stamp)
  at_place place is in_range true same =
      (place, omega (arith, is), in_range, get_or ms place d, slice_get-get_or ms place d (omega (arith, in_range, within)), eqb-true _ stamp same)
  at_place place is in_range false other = other_clock place is in_range (eqb-false _ stamp other)

-- what is told of one thing is told of another that holds where it does
pub told_as : (b : Bool) (P Q : Type 0) → (P → Q) → (Q → P) → Tells b P → Tells b Q
told_as true P Q to back p = to p
told_as false P Q to back p = λ q. p (back q)

module _ (own regions : ℕ) (journal : List Entry) (from to stamp : ℕ) (within : to ≤ length journal) where
  pub was : HasClock (marks_of own regions journal (length journal + 1)) from to stamp → WasClock journal from to stamp
  was found =
      let n = found.0 in
      let top : n ≤ to = found.2 in
      let here = mark_at own regions journal (length journal + 1) n (omega (arith, top, within)) in
      (n, found.1, found.2, ap (λ (m : Mark). m.clock) (same_some (sym here ∙ found.4)) ∙ found.5)

  pub has : WasClock journal from to stamp → HasClock (marks_of own regions journal (length journal + 1)) from to stamp
  has found =
      let n = found.0 in
      let top : n ≤ to = found.2 in (
        n,
        found.1,
        found.2,
        mark_after own regions (take n journal),
        mark_at own regions journal (length journal + 1) n (omega (arith, top, within)),
        found.3,
      )

-- the marks of a track, as contracts see it
pub marks_seen : (column : ColumnState) (marks : List Mark) (places : Places) (t : Tracked) → tracked column ≡ t
    → IsTrack column marks places → marks ≡ marks_of t.region t.regions t.journal (length t.journal + 1)
marks_seen column marks places t seen is =
    subst (λ (u : Tracked). marks ≡ marks_of u.region u.regions u.journal (length u.journal + 1)) seen is.marks_are
