-- Two lists are merged key by key.
use Rattle.std.proofs.Common.{◌≡◌, ℕ, zero, suc, ◌+◌, ◌<◌, ◌≤◌, List, [], ◌∷◌, ◌++◌, length, take, drop, cond, Bool, true, false, get_or, refl, ap, sym, subst, ◌∙◌, inl, inr, arith}
use Rattle.std.specs.Prelude.{nat_le, slice_get}
use Rattle.std.specs.Option.{option_map_or}
use Rattle.std.specs.List.{filter, prefix_len}
use Rattle.std.specs.List.Sorted.{IsPartitionedBy}
use Rattle.std.proofs.lemmas.Bool.{cases_lt, le-leb, leb-true}
use Rattle.log_node.specs.declared.ids.Key.{Key}
use Rattle.log_node.specs.Order.{same_key, key_below}
use Rattle.col_core.proofs.CallerLemmas.{by_test, if_true, if_false, key-stamps}
use Rattle.playback.specs.Merging.{merged_behind, AreRising}

-- The keys up to a stamp

-- they stand at the front of a line
pub parted : (line : List Key) (stamp : ℕ) → AreRising line → IsPartitionedBy (λ key. nat_le key.stamp stamp) line
parted line stamp rises i j d le lt h = elim (cases_lt i j) [
  | inl under ↦
      let a = key-stamps (get_or line i d) (get_or line j d) (rises i j d under lt) in
      let b = leb-true (get_or line j d).stamp stamp h in
      le-leb (get_or line i d).stamp stamp (omega (arith, a, b))
  | inr over ↦
      let same : j ≡ i = omega (arith, le, over) in
      subst (λ (n : ℕ). nat_le (get_or line n d).stamp stamp ≡ true) same h
]

-- what passes a test at the front, and nowhere behind, is the front
pub front_is : (test : Key → Bool) (xs : List Key) (n : ℕ)
    → ((k : ℕ) (d : Key) → k < n → test (get_or xs k d) ≡ true)
    → ((k : ℕ) (d : Key) → n ≤ k → k < length xs → test (get_or xs k d) ≡ false)
    → n ≤ length xs → take n xs ≡ filter test xs
front_is test [] zero front back le = refl
front_is test [] (suc n) front back le = absurd (let f : ⊥ = omega (arith, le) in f)
front_is test (x ∷ xs) zero front back le =
    front_is test xs zero (λ k d lt. absurd (let f : ⊥ = omega (arith, lt) in f))
    (λ k d low lt. back (suc k) d (omega arith) (omega (arith, lt))) (omega arith)
    ∙ sym (if_false (test x) (x ∷ filter test xs) (filter test xs) (back zero x (omega arith) (omega arith)))
front_is test (x ∷ xs) (suc n) front back le =
    ap (λ (l : List Key). x ∷ l) (front_is test xs n (λ k d lt. front (suc k) d (omega (arith, lt)))
    (λ k d low lt. back (suc k) d (omega (arith, low)) (omega (arith, lt))) (omega (arith, le)))
    ∙ sym (if_true (test x) (x ∷ filter test xs) (filter test xs) (front zero x (omega arith)))

-- One key and those before it

-- what is left of others behind a key
abbrev pub left_of : Key → List Key → List Key
left_of key [] = []
left_of key (other ∷ others) = cond (same_key other key) others (other ∷ others)

-- how many come before it
abbrev pub count_below : Key → List Key → ℕ
count_below key others = prefix_len (λ other. key_below other key) others

pub behind_is : (key : Key) (rest : List Key → List Key) (others : List Key)
    → merged_behind key rest others
    ≡ take (count_below key others) others ++ key ∷ rest (left_of key (drop (count_below key others) others))
behind_is key rest [] = refl
behind_is key rest (other ∷ others) =
    by_test _ (key_below other key)
    (λ t. if_true (key_below other key) (other ∷ merged_behind key rest others)
    (key ∷ rest (left_of key (other ∷ others))) t
    ∙ (ap (λ (l : List Key). other ∷ l) (behind_is key rest others)
    ∙ ap (λ (n : ℕ). take n (other ∷ others) ++ key ∷ rest (left_of key (drop n (other ∷ others))))
    (sym (more t))))
    (λ f. if_false (key_below other key) (other ∷ merged_behind key rest others)
    (key ∷ rest (left_of key (other ∷ others))) f
    ∙ ap (λ (n : ℕ). take n (other ∷ others) ++ key ∷ rest (left_of key (drop n (other ∷ others))))
    (sym (if_false (key_below other key) (1 + count_below key others) 0 f))) where
      more : key_below other key ≡ true → count_below key (other ∷ others) ≡ suc (count_below key others)
      more t = if_true (key_below other key) (1 + count_below key others) 0 t ∙ omega arith

-- whether the key stands at a position
abbrev pub stands : Key → List Key → ℕ → Bool
stands key others at = option_map_or (λ other. same_key other key) (slice_get others at) false

pub left_behind : (key : Key) (others : List Key) (at : ℕ) → stands key others at ≡ true
    → drop (at + 1) others ≡ left_of key (drop at others)
left_behind key [] at t = absurd (none at t) where
  none : (n : ℕ) → option_map_or (λ other. same_key other key) (slice_get [] n) false ≡ true → ⊥
  none zero e = let f : ⊥ = cc in f
  none (suc n) e = let f : ⊥ = cc in f
left_behind key (other ∷ others) zero t = sym (if_true (same_key other key) others (other ∷ others) t)
left_behind key (other ∷ others) (suc at) t =
    let e : suc at + 1 ≡ suc (at + 1) = omega arith in
    ap (λ (n : ℕ). drop n (other ∷ others)) e ∙ left_behind key others at t

pub left_there : (key : Key) (others : List Key) (at : ℕ) → stands key others at ≡ false
    → drop at others ≡ left_of key (drop at others)
left_there key [] zero f = refl
left_there key [] (suc at) f = refl
left_there key (other ∷ others) zero f = sym (if_false (same_key other key) others (other ∷ others) f)
left_there key (other ∷ others) (suc at) f = left_there key others at f

dropped : (a b : ℕ) (xs : List Key) → drop b (drop a xs) ≡ drop (a + b) xs
dropped zero b xs = let e : b ≡ zero + b = omega arith in ap (λ (n : ℕ). drop n xs) e
dropped (suc a) b [] = none b ∙ sym (none (suc a + b)) where
  none : (n : ℕ) → ◌≡◌ {A = List Key} (drop n []) []
  none zero = refl
  none (suc n) = refl
dropped (suc a) b (x ∷ xs) =
    let e : suc (a + b) ≡ suc a + b = omega arith in dropped a b xs ∙ ap (λ (n : ℕ). drop n (x ∷ xs)) e

-- what was taken, and then the key, with what is left
pub took : (key : Key) (others old new : List Key) (from next at : ℕ)
    → next ≡ from + count_below key (drop from others)
    → new ≡ (old ++ take (count_below key (drop from others)) (drop from others)) ++ key ∷ []
    → drop at others ≡ left_of key (drop next others)
    → (rest : List Key → List Key)
    → new ++ rest (drop at others) ≡ old ++ merged_behind key rest (drop from others)
took key others old new from next at is made left rest =
    let xs = drop from others in
    let n = count_below key xs in
    ap (λ (l : List Key). l ++ rest (drop at others)) made
    ∙ (joined old (take n xs) key (rest (drop at others))
    ∙ (ap (λ (l : List Key). old ++ (take n xs ++ key ∷ rest l))
    (left ∙ ap (left_of key) (ap (λ (m : ℕ). drop m others) is ∙ sym (dropped from n others)))
    ∙ ap (λ (l : List Key). old ++ l) (sym (behind_is key rest xs)))) where
      joined : (a b : List Key) (k : Key) (c : List Key) → ((a ++ b) ++ k ∷ []) ++ c ≡ a ++ (b ++ k ∷ c)
      joined [] [] k c = refl
      joined [] (x ∷ b) k c = ap (λ (l : List Key). x ∷ l) (joined [] b k c)
      joined (x ∷ a) b k c = ap (λ (l : List Key). x ∷ l) (joined a b k c)
