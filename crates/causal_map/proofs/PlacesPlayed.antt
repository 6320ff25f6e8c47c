-- All places of a vector in the order of play are those that it counts.
use Rattle.std.proofs.Common.{◌≡◌, ℕ, zero, suc, ◌+◌, ◌<◌, ◌≤◌, List, [], ◌∷◌, ◌++◌, length, take, Some, Bool, cond, refl, ap, sym, subst, ◌∙◌, arith, eq-eqb, ne_eqb}
use Rattle.std.specs.Prelude.{◌==◌, slice_get}
use Rattle.std.specs.List.{count_by}
use Rattle.std.proofs.lemmas.Bool.{eqb-true}
use Rattle.std.proofs.lemmas.List.{take_all}
use Rattle.std.specs.List.Sorted.{IsPermutation}
use Rattle.std.proofs.lemmas.List.Sorted.{IsPermutation-refl, IsPermutation-trans, IsPermutation-cons, IsPermutation-to_front}
use Rattle.log_node.specs.declared.ids.Counts.{Counts}
use Rattle.log_node.specs.Vectors.{at, one_more, vector}
use Rattle.log_node.proofs.CallerLemmas.{at-one_more, at-vector}
use Rattle.col_core.specs.PlayOrder.{Place}
use Rattle.col_core.proofs.CallerLemmas.{apart, by_test, if_true, if_false}
use Rattle.lawful_run.specs.Objects.{places_within}
use Rattle.lawful_run.proofs.CallerLemmas.{more_places, same_places}
use Rattle.log_client.proofs.CallerLemmas.{of_region, counted_more}

abbrev place_at : ℕ → ℕ → Place
place_at region position = record { region = region; position = position }

-- how many of the first places are of each region
abbrev pub counts_to : List Place → ℕ → Counts
counts_to order j = vector (λ r. count_by (of_region r) (take j order))

module _ (order : List Place)
    (placed : (j : ℕ) (p : Place) → slice_get order j ≡ Some p
    → (p.region < 4) × (p.position ≡ count_by (of_region p.region) (take j order))) where
  at_counts : (j r : ℕ) → r < 4 → at (counts_to order j) r ≡ count_by (of_region r) (take j order)
  at_counts j r few = at-vector (λ q. count_by (of_region q) (take j order)) r few

  item_at : (xs : List Place) (j : ℕ) → j < length xs → (p : Place) × (slice_get xs j ≡ Some p)
  item_at [] j lt = absurd (let f : ⊥ = omega (arith, lt) in f)
  item_at (x ∷ xs) zero lt = (x, refl)
  item_at (x ∷ xs) (suc j) lt = item_at xs j (omega (arith, lt))

  one_taken : (xs : List Place) (j : ℕ) (p : Place) → slice_get xs j ≡ Some p → take (suc j) xs ≡ take j xs ++ p ∷ []
  one_taken [] j p e = absurd (let f : ⊥ = cc (e) in f)
  one_taken (x ∷ xs) zero p e = let same : x ≡ p = cc (e) in ap (λ (q : Place). q ∷ []) same
  one_taken (x ∷ xs) (suc j) p e = ap (λ (l : List Place). x ∷ l) (one_taken xs j p e)

  next_counts : (j : ℕ) (p : Place) → slice_get order j ≡ Some p → (r : ℕ) → r < 4
      → at (one_more (counts_to order j) p.region) r ≡ at (counts_to order (suc j)) r
  next_counts j p e r few =
      let a = at-one_more (counts_to order j) p.region r few in
      let b = at_counts j r few in
      let c = at_counts (suc j) r few in
      let m = counted_more (of_region r) order j p e in
      by_test _ (r == p.region)
      (λ t.
      let x = if_true (r == p.region) (at (counts_to order j) r + 1) (at (counts_to order j) r) t in
      let d : cond {A = ℕ} (p.region == r) 1 0 ≡ 1 =
      ap (λ (v : Bool). cond {A = ℕ} v 1 0) (eq-eqb p.region r (sym (eqb-true r p.region t))) in
      omega (arith, a, b, c, m, x, d))
      (λ f.
      let x = if_false (r == p.region) (at (counts_to order j) r + 1) (at (counts_to order j) r) f in
      let d : cond {A = ℕ} (p.region == r) 1 0 ≡ 0 =
      ap (λ (v : Bool). cond {A = ℕ} v 1 0) (ne_eqb p.region r (λ e. apart (r == p.region) (eq-eqb r p.region (sym e)) f)) in
      omega (arith, a, b, c, m, x, d))

  first_places : (j : ℕ) → j ≤ length order → IsPermutation (take j order) (places_within (counts_to order j))
  first_places zero le = IsPermutation-refl []
  first_places (suc j) le =
      let it = item_at order j (omega (arith, le)) in
      let p = it.0 in
      let at_p = placed j p it.1 in
      let v = counts_to order j in
      let here_is : place_at p.region (at v p.region) ≡ p =
      ap (place_at p.region) (at_counts j p.region at_p.0 ∙ sym at_p.1) in
      let more : IsPermutation (p ∷ places_within v) (places_within (one_more v p.region)) =
      subst (λ (q : Place). IsPermutation (q ∷ places_within v) (places_within (one_more v p.region))) here_is
      (more_places v p.region at_p.0) in
      subst (λ (l : List Place). IsPermutation l (places_within (counts_to order (suc j)))) (sym (one_taken order j p it.1))
      (subst (IsPermutation (take j order ++ p ∷ []))
      (same_places (one_more v p.region) (counts_to order (suc j)) (next_counts j p it.1))
      (IsPermutation-trans (take j order ++ p ∷ []) (p ∷ take j order) (places_within (one_more v p.region))
      (IsPermutation-to_front (take j order) p)
      (IsPermutation-trans (p ∷ take j order) (p ∷ places_within v) (places_within (one_more v p.region))
      (IsPermutation-cons p (take j order) (places_within v) (first_places j (omega (arith, le)))) more)))

  -- Where the order has of each region as many as a vector counts, it has all places that the vector counts.
  pub all_places : (v : Counts) → ((r : ℕ) → r < 4 → count_by (of_region r) order ≡ at v r)
      → IsPermutation order (places_within v)
  all_places v whole =
      let n = length order in
      let all : take n order ≡ order = take_all n order (omega arith) in
      subst (λ (l : List Place). IsPermutation l (places_within v)) all
      (subst (IsPermutation (take n order))
      (same_places (counts_to order n) v
      (λ r few. at_counts n r few ∙ (ap (count_by (of_region r)) all ∙ whole r few)))
      (first_places n (omega arith)))
