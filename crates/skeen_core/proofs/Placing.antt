-- Where an entry stands among stored entries in rising key.
use Rattle.std.proofs.Common.{◌≡◌, ℕ, zero, suc, ◌<◌, ◌≤◌, true, false, List, [], ◌∷◌}
use Rattle.std.proofs.Common.{length, get_or, refl, sym, ap, ◌∙◌, arith, inl, inr}
use Rattle.std.specs.Prelude.{map, not}
use Rattle.std.specs.List.{AllByRecursion, AllWithin, insert, remove}
use Rattle.std.specs.List.Sorted.{IsPartitionedBy}
use Rattle.std.proofs.lemmas.Bool.{cond-true, cond-false, not-true, not_from_false, cases_lt}
use Rattle.std.proofs.lemmas.Bool.{false_from_ne_true, false≢true}
use Rattle.log_node.specs.declared.ids.Key.{Key}
use Rattle.log_node.specs.Order.{key_below}
use Rattle.skeen_core.specs.declared.waiting.Waiting.{Waiting}
use Rattle.log_node.specs.Standings.{Standing}
use Rattle.skeen_core.specs.Queues.{standing_of, with_stored}
use Rattle.skeen_core.specs.Inside.{IsRisingStored}
use Rattle.skeen_core.proofs.Lists.{each-at, each-map}
use Rattle.log_node.proofs.CallerLemmas.{key-trans}

module _ {T : Type 0} where
  -- an entry is put before the first whose key is above its own
  pub insert-is : (w : Waiting T) (ws : List (Waiting T)) (n : ℕ) → n ≤ length ws →
      AllWithin (λ v. key_below w.key v.key ≡ false) ws 0 n →
      AllWithin (λ v. key_below w.key v.key ≡ true) ws n (length ws) → insert ws n w ≡ with_stored w ws
  insert-is w [] zero le before behind = refl
  insert-is w [] (suc n) le before behind = absurd (omega arith)
  insert-is w (v ∷ vs) zero le before behind = sym (cond-true (key_below w.key v.key) (w ∷ v ∷ vs)
      (v ∷ with_stored w vs) (behind 0 v (omega arith) (omega arith)))
  insert-is w (v ∷ vs) (suc n) le before behind =
      ap (λ us. v ∷ us) (insert-is w vs n (omega arith) (λ k d l m. before (suc k) d (omega arith) (omega arith))
      (λ k d l m. behind (suc k) d (omega arith) (omega arith)))
      ∙ sym (cond-false (key_below w.key v.key) (w ∷ v ∷ vs) (v ∷ with_stored w vs)
      (before 0 v (omega arith) (omega arith)))

  rising-at : (ws : List (Waiting T)) (i j : ℕ) (d : Waiting T) → IsRisingStored ws → i < j → j < length ws →
      key_below (get_or ws i d).key (get_or ws j d).key ≡ true
  rising-at [] i j d h lt le = absurd (omega arith)
  rising-at (w ∷ ws) i zero d h lt le = absurd (omega arith)
  rising-at (w ∷ ws) zero (suc j) d h lt le = each-at (λ v. key_below w.key v.key ≡ true) ws j d
      (each-map standing_of (λ f. key_below w.key f.key ≡ true) ws h.0) (omega arith)
  rising-at (w ∷ ws) (suc i) (suc j) d h lt le = rising-at ws i j d h.1 (omega arith) (omega arith)

  -- those that are not above a key stand in front
  pub not-above-first : (key : Key) (ws : List (Waiting T)) → IsRisingStored ws →
      IsPartitionedBy (λ w. not (key_below key w.key)) ws
  not-above-first key ws rising i j d le lt h = elim (cases_lt i j) [
    | inl under ↦ not_from_false _ (false_from_ne_true _
        (λ t. false≢true (sym (not-true _ h) ∙ key-trans key _ _ t (rising-at ws i j d rising under lt))))
    | inr over ↦ let same : i ≡ j = omega arith in rw same h
  ]

  fewer : (P : Standing → Type 0) (ws : List (Waiting T)) (n : ℕ) → AllByRecursion P (map standing_of ws) →
      AllByRecursion P (map standing_of (remove ws n))
  fewer P [] zero h = tt
  fewer P [] (suc n) h = tt
  fewer P (w ∷ ws) zero h = h.1
  fewer P (w ∷ ws) (suc n) h = (h.0, fewer P ws n h.1)

  -- without one entry the keys still rise
  pub rising-remove : (ws : List (Waiting T)) (n : ℕ) → IsRisingStored ws → IsRisingStored (remove ws n)
  rising-remove [] zero h = tt
  rising-remove [] (suc n) h = tt
  rising-remove (w ∷ ws) zero h = h.1
  rising-remove (w ∷ ws) (suc n) h = (fewer (λ f. key_below w.key f.key ≡ true) ws n h.0, rising-remove ws n h.1)
