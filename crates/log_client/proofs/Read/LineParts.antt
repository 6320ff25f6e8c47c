-- The part of a line that comes behind a key and goes up to a stamp, found by bisection.
use Rattle.std.proofs.Common.{◌≡◌, ℕ, zero, suc, ◌<◌, ◌≤◌, List, [], ◌∷◌, length, take, drop, Bool, true, false, None, get_or, refl, ap, sym, subst, ◌∙◌, inl, inr, arith}
use Rattle.std.specs.Prelude.{nat_le, not}
use Rattle.std.specs.List.{filter}
use Rattle.std.specs.List.Sorted.{IsPartitionedBy}
use Rattle.std.proofs.lemmas.Bool.{cases_lt, le-leb, leb-true, true≢false}
use Rattle.log_node.specs.declared.ids.Key.{Key}
use Rattle.log_node.specs.Order.{key_below}
use Rattle.log_node.specs.Seen.{PlacedNode}
use Rattle.log_node.proofs.CallerLemmas.{key-trans}
use Rattle.object_fold.specs.Folds.{is_behind}
use Rattle.col_core.proofs.CallerLemmas.{by_test, if_false, if_true, key-stamps}
use Rattle.playback.specs.Merging.{AreRising}
use Rattle.log_client.specs.Reading.{keys_of}

-- the key of a node at a place
key_at : (xs : List PlacedNode) (i : ℕ) (d : PlacedNode) → i < length xs
    → get_or (keys_of xs) i d.head.key ≡ (get_or xs i d).head.key
key_at [] i d lt = absurd (let f : ⊥ = omega (arith, lt) in f)
key_at (x ∷ xs) zero d lt = refl
key_at (x ∷ xs) (suc i) d lt = key_at xs i d (omega (arith, lt))

keys_long : (xs : List PlacedNode) → length (keys_of xs) ≡ length xs
keys_long [] = refl
keys_long (x ∷ xs) = ap suc (keys_long xs)

-- of two places the later has the greater key
rise : (xs : List PlacedNode) → AreRising (keys_of xs) → (i j : ℕ) (d : PlacedNode) → i < j → j < length xs
    → key_below (get_or xs i d).head.key (get_or xs j d).head.key ≡ true
rise xs r i j d lt there =
    subst (λ (k : Key). key_below k (get_or xs j d).head.key ≡ true) (key_at xs i d (omega (arith, lt, there)))
    (subst (λ (k : Key). key_below (get_or (keys_of xs) i d.head.key) k ≡ true) (key_at xs j d there)
    (r i j d.head.key lt (let l = keys_long xs in omega (arith, there, l))))

-- those up to a stamp stand in front
pub parted : (xs : List PlacedNode) (stamp : ℕ) → AreRising (keys_of xs)
    → IsPartitionedBy (λ (i : PlacedNode). nat_le i.head.key.stamp stamp) xs
parted xs stamp r i j d le lt h = elim (cases_lt i j) [
  | inl under ↦
      (let a = key-stamps (get_or xs i d).head.key (get_or xs j d).head.key (rise xs r i j d under lt) in
      let b = leb-true (get_or xs j d).head.key.stamp stamp h in
      le-leb (get_or xs i d).head.key.stamp stamp (omega (arith, a, b)))
  | inr over ↦
      (let same : j ≡ i = omega (arith, le, over) in
      subst (λ (n : ℕ). nat_le (get_or xs n d).head.key.stamp stamp ≡ true) same h)
]

-- and so do those that do not come behind a key
pub parted_behind : (xs : List PlacedNode) (last : Key) → AreRising (keys_of xs)
    → IsPartitionedBy (λ (i : PlacedNode). not (key_below last i.head.key)) xs
parted_behind xs last r i j d le lt h = elim (cases_lt i j) [
  | inl under ↦
      by_test (not (key_below last (get_or xs i d).head.key) ≡ true) (key_below last (get_or xs i d).head.key)
      (λ t. absurd (true≢false (sym h ∙ ap not (key-trans last (get_or xs i d).head.key (get_or xs j d).head.key t
      (rise xs r i j d under lt)))))
      (λ f. ap not f)
  | inr over ↦
      (let same : j ≡ i = omega (arith, le, over) in
      subst (λ (n : ℕ). not (key_below last (get_or xs n d).head.key) ≡ true) same h)
]

-- what passes a test at the front, and nowhere behind, is the front
pub front_is : (test : PlacedNode → Bool) (xs : List PlacedNode) (n : ℕ)
    → ((k : ℕ) (d : PlacedNode) → k < n → test (get_or xs k d) ≡ true)
    → ((k : ℕ) (d : PlacedNode) → n ≤ k → k < length xs → test (get_or xs k d) ≡ false)
    → n ≤ length xs → take n xs ≡ filter test xs
front_is test [] zero front back le = refl
front_is test [] (suc n) front back le = absurd (let f : ⊥ = omega (arith, le) in f)
front_is test (x ∷ xs) zero front back le =
    front_is test xs zero (λ k d lt. absurd (let f : ⊥ = omega (arith, lt) in f))
    (λ k d low lt. back (suc k) d (omega arith) (omega (arith, lt))) (omega arith)
    ∙ sym (if_false (test x) (x ∷ filter test xs) (filter test xs) (back zero x (omega arith) (omega arith)))
front_is test (x ∷ xs) (suc n) front back le =
    ap (λ (l : List PlacedNode). x ∷ l) (front_is test xs n (λ k d lt. front (suc k) d (omega (arith, lt)))
    (λ k d low lt. back (suc k) d (omega (arith, low)) (omega (arith, lt))) (omega (arith, le)))
    ∙ sym (if_true (test x) (x ∷ filter test xs) (filter test xs) (front zero x (omega arith)))

-- and what fails it there is what is behind
pub back_is : (test : PlacedNode → Bool) (xs : List PlacedNode) (n : ℕ)
    → ((k : ℕ) (d : PlacedNode) → k < n → not (test (get_or xs k d)) ≡ true)
    → ((k : ℕ) (d : PlacedNode) → n ≤ k → k < length xs → not (test (get_or xs k d)) ≡ false)
    → n ≤ length xs → drop n xs ≡ filter test xs
back_is test [] zero front back le = refl
back_is test [] (suc n) front back le = absurd (let f : ⊥ = omega (arith, le) in f)
back_is test (x ∷ xs) zero front back le =
    ap (λ (l : List PlacedNode). x ∷ l)
    (back_is test xs zero (λ k d lt. absurd (let f : ⊥ = omega (arith, lt) in f))
    (λ k d low lt. back (suc k) d (omega arith) (omega (arith, lt))) (omega arith))
    ∙ sym (if_true (test x) (x ∷ filter test xs) (filter test xs) (holds (test x) (back zero x (omega arith) (omega arith))))
  where
    holds : (b : Bool) → not b ≡ false → b ≡ true
    holds true e = refl
    holds false e = absurd (true≢false e)
back_is test (x ∷ xs) (suc n) front back le =
    back_is test xs n (λ k d lt. front (suc k) d (omega (arith, lt)))
    (λ k d low lt. back (suc k) d (omega (arith, low)) (omega (arith, lt))) (omega (arith, le))
    ∙ sym (if_false (test x) (x ∷ filter test xs) (filter test xs) (fails (test x) (front zero x (omega arith)))) where
      fails : (b : Bool) → not b ≡ true → b ≡ false
      fails true e = absurd (true≢false (sym e))
      fails false e = refl

-- all pass where there is no last key
pub all_items : (xs : List PlacedNode) → xs ≡ filter (λ (i : PlacedNode). is_behind None i.head.key) xs
all_items [] = refl
all_items (x ∷ xs) = ap (λ (l : List PlacedNode). x ∷ l) (all_items xs)

-- what is filtered rises
pub rising_dropped : (n : ℕ) (xs : List PlacedNode) → AreRising (keys_of xs) → AreRising (keys_of (drop n xs))
rising_dropped zero xs r = r
rising_dropped (suc n) [] r = r
rising_dropped (suc n) (x ∷ xs) r =
    rising_dropped n xs (λ i j d lt there. r (suc i) (suc j) d (omega (arith, lt)) (omega (arith, there)))
