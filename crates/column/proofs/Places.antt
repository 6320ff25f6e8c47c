-- Where a key stands among keys that rise.
use Rattle.std.proofs.Common.{◌≡◌, ℕ, ◌<◌, ◌≤◌, Bool, true, false, List, length, get_or, Some, None, ap, subst, ◌∙◌}
use Rattle.std.proofs.Common.{arith, inl, inr}
use Rattle.std.specs.Prelude.{nat_lt, ◌==◌}
use Rattle.std.specs.List.{position, position_or_len}
use Rattle.std.specs.List.Sorted.{IsPartitionedBy}
use Rattle.std.proofs.lemmas.Bool.{cases_lt, lt-ltb, le-ltb, cond-true, cond-false, and_parts, eqb-true}
use Rattle.std.proofs.lemmas.List.Sums.{position_or_len_is}
use Rattle.std.proofs.lemmas.Option.{slice_get-get_or}
use Rattle.log_node.specs.declared.ids.Id.{Id}
use Rattle.log_node.specs.declared.ids.Key.{Key}
use Rattle.log_node.specs.Order.{same_key, key_below, same_id}
use Rattle.col_core.proofs.CallerLemmas.{by_test, apart, same_id-true}
use Rattle.log_node.proofs.CallerLemmas.{key-trans, key-irrefl, same_key-is}
use Rattle.column.specs.Columns.{AreRising}

below_differs : (a b : Key) → key_below a b ≡ true → same_key a b ≡ false
below_differs a b below =
    by_test (same_key a b ≡ false) (same_key a b)
    (λ t. absurd (key-irrefl b (subst (λ (k : Key). key_below k b ≡ true) (same_key-is a b t) below)))
    (λ f. f)

module _ (keys : List Key) (key : Key) (rising : AreRising keys) where
  abbrev is_it : Key → Bool
  is_it k = same_key k key

  at_rising : (i j : ℕ) (d : Key) → i < j → j < length keys → key_below (get_or keys i d) (get_or keys j d) ≡ true
  at_rising i j d lt in_range =
      rising i j (get_or keys i d) (get_or keys j d) lt (slice_get-get_or keys i d (omega (arith, lt, in_range)))
      (slice_get-get_or keys j d in_range)

  -- no key that is below stands behind one that is not
  pub parted : IsPartitionedBy (λ k. key_below k key) keys
  parted i j d le lt h = elim (cases_lt i j) [
    | inl under ↦ key-trans (get_or keys i d) (get_or keys j d) key (at_rising i j d under lt) h
    | inr over ↦ let same : i ≡ j = omega (arith, le, over) in rw same h
  ]

  pub place-found : (p : ℕ) (d : Key) → p < length keys → ((k : ℕ) → k < p → key_below (get_or keys k d) key ≡ true)
      → same_key (get_or keys p d) key ≡ true → position is_it keys ≡ Some p
  place-found p d in_range before here =
      let e = position_or_len_is is_it keys p d (omega (arith, in_range))
      (λ k lt. below_differs (get_or keys k d) key (before k lt)) (λ _. here) in
      cond-true (nat_lt (position_or_len is_it keys) (length keys)) (Some (position_or_len is_it keys)) None
      (ap (λ (n : ℕ). nat_lt n (length keys)) e ∙ lt-ltb p (length keys) in_range)
      ∙ ap (λ (n : ℕ). Some n) e

  pub place-none : (p : ℕ) (d : Key) → p ≤ length keys → ((k : ℕ) → k < p → key_below (get_or keys k d) key ≡ true)
      → (p < length keys → (key_below (get_or keys p d) key ≡ false) × (same_key (get_or keys p d) key ≡ false))
      → position is_it keys ≡ None
  place-none p d in_range before here =
      let e = position_or_len_is is_it keys (length keys) d (omega arith) each
      (λ lt. absurd (let f : ⊥ = omega (arith, lt) in f)) in
      cond-false (nat_lt (position_or_len is_it keys) (length keys)) (Some (position_or_len is_it keys)) None
      (ap (λ (n : ℕ). nat_lt n (length keys)) e ∙ le-ltb (length keys) (length keys) (omega arith)) where
        behind : (k : ℕ) → k < length keys → p < k → same_key (get_or keys k d) key ≡ false
        behind k lt over =
            by_test (same_key (get_or keys k d) key ≡ false) (same_key (get_or keys k d) key)
            (λ t. absurd (apart (key_below (get_or keys p d) key)
            (subst (λ (l : Key). key_below (get_or keys p d) l ≡ true) (same_key-is (get_or keys k d) key t)
            (at_rising p k d over lt))
            (here (omega (arith, lt, over))).0))
            (λ f. f)

        each : (k : ℕ) → k < length keys → same_key (get_or keys k d) key ≡ false
        each k lt = elim (cases_lt k p) [
          | inl under ↦ below_differs (get_or keys k d) key (before k under)
          | inr over ↦ elim (cases_lt p k) [
            | inl past ↦ behind k lt past
            | inr same ↦ let e : p ≡ k = omega (arith, over, same) in
                subst (λ (n : ℕ). same_key (get_or keys n d) key ≡ false) e (here (omega (arith, lt, e))).1
          ]
        ]

  -- a key that is there stands where it is
  pub place-there : (p : ℕ) (d : Key) → p < length keys → same_key (get_or keys p d) key ≡ true → position is_it keys ≡ Some p
  place-there p d lt same =
      place-found p d lt (λ k under. subst (λ (l : Key). key_below (get_or keys k d) l ≡ true)
      (same_key-is (get_or keys p d) key same) (at_rising k p d under lt)) same
