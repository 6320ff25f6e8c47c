-- All keys of lines up to a point, put in order one by one.
use Rattle.std.proofs.Common.{◌≡◌, ◌⊎◌, inl, inr, Bool, true, false, ◌||◌, cond, List, [], ◌∷◌, refl, sym, subst, arith}
use Rattle.std.specs.Prelude.{IsTrue}
use Rattle.std.specs.List.{AllPairs, Contains, filter, flat_map, list_any}
use Rattle.std.proofs.lemmas.Bool.{and_from, cases_order, eq-eqb, or_cases, or_left, or_right}
use Rattle.std.proofs.lemmas.List.Kept.{AllPairs-cons}
use Rattle.log_node.specs.declared.ids.Key.{Key}
use Rattle.log_node.specs.Order.{key_below, same_id, same_key}
use Rattle.log_node.proofs.CallerLemmas.{key-total, key-trans, same_id-refl, same_key-is, stamp-key}
use Rattle.col_core.proofs.CallerLemmas.{all_in, any_in, apart, choice, contains_in, In, in_contains, in_filter, in_filter-back, in_flat_map, in_flat_map-back}
use Rattle.part_law.specs.Laws.{UpToIsThere}
use Rattle.part_law.specs.UpTo.{IsUpTo}
use Rattle.part_law.proofs.Lists.{in_any}

-- of two keys one is below the other
other_way : (a b : Key) → same_key a b ≡ false → key_below a b ≡ false → key_below b a ≡ true
other_way a b differ above = elim (cases_order a.stamp b.stamp) [
  | inl e ↦ key-total a b
      (λ t. apart (same_key a b) (and_from _ (same_id a.id b.id) (eq-eqb a.stamp b.stamp e) t) differ)
      (λ t. apart (key_below a b) t above)
  | inr (inl less) ↦ absurd (apart (key_below a b) (stamp-key a b less) above)
  | inr (inr more) ↦ stamp-key b a more
]

-- each key is below all later ones
abbrev Rise : List Key → Type 0
Rise [] = Unit {0}
Rise (k ∷ ks) = ((l : Key) → In l ks → key_below k l ≡ true) × Rise ks

rise_pairs : (ks : List Key) → Rise ks → AllPairs (λ (a b : Key). IsTrue (key_below a b)) ks
rise_pairs [] r = λ i j d lt within. absurd (let f : ⊥ = omega (arith, within) in f)
rise_pairs (k ∷ ks) r =
    AllPairs-cons (λ (a b : Key). IsTrue (key_below a b)) k ks (all_in (λ (l : Key). IsTrue (key_below k l)) ks r.0)
    (rise_pairs ks r.1)

-- the keys with one more, where it belongs
put : Key → List Key → List Key
put k [] = k ∷ []
put k (l ∷ ls) = cond (same_key k l) (l ∷ ls) (cond (key_below k l) (k ∷ l ∷ ls) (l ∷ put k ls))

put_has : (k : Key) (ls : List Key) (m : Key) → In m (put k ls) → (k ≡ m) ⊎ In m ls
unfolding put
put_has k [] m (inl e) = inl e
put_has k [] m (inr none) = absurd none
put_has k (l ∷ ls) m i =
    choice (λ (x : List Key). In m x → (k ≡ m) ⊎ In m (l ∷ ls)) (same_key k l) (l ∷ ls)
    (cond (key_below k l) (k ∷ l ∷ ls) (l ∷ put k ls)) (λ _ j. inr j)
    (λ _. choice (λ (x : List Key). In m x → (k ≡ m) ⊎ In m (l ∷ ls)) (key_below k l) (k ∷ l ∷ ls) (l ∷ put k ls)
    (λ _ j. j) (λ _ j. later (put_has k ls m) j)) i where
      behind : (k ≡ m) ⊎ In m ls → (k ≡ m) ⊎ In m (l ∷ ls)
      behind (inl e) = inl e
      behind (inr n) = inr (inr n)

      later : (In m (put k ls) → (k ≡ m) ⊎ In m ls) → (l ≡ m) ⊎ In m (put k ls) → (k ≡ m) ⊎ In m (l ∷ ls)
      later has (inl e) = inr (inl e)
      later has (inr j) = behind (has j)

put_new : (k : Key) (ls : List Key) → In k (put k ls)
unfolding put
put_new k [] = inl refl
put_new k (l ∷ ls) =
    choice (λ (x : List Key). In k x) (same_key k l) (l ∷ ls) (cond (key_below k l) (k ∷ l ∷ ls) (l ∷ put k ls))
    (λ t. inl (sym (same_key-is k l t)))
    (λ _. choice (λ (x : List Key). In k x) (key_below k l) (k ∷ l ∷ ls) (l ∷ put k ls) (λ _. inl refl)
    (λ _. inr (put_new k ls)))

put_old : (k : Key) (ls : List Key) (m : Key) → In m ls → In m (put k ls)
unfolding put
put_old k [] m i = absurd i
put_old k (l ∷ ls) m i =
    choice (λ (x : List Key). In m x) (same_key k l) (l ∷ ls) (cond (key_below k l) (k ∷ l ∷ ls) (l ∷ put k ls)) (λ _. i)
    (λ _. choice (λ (x : List Key). In m x) (key_below k l) (k ∷ l ∷ ls) (l ∷ put k ls) (λ _. inr i) (λ _. later (put_old k ls m) i)) where
      later : (In m ls → In m (put k ls)) → (l ≡ m) ⊎ In m ls → (l ≡ m) ⊎ In m (put k ls)
      later old (inl e) = inl e
      later old (inr j) = inr (old j)

put_rises : (k : Key) (ls : List Key) → Rise ls → Rise (put k ls)
unfolding put
put_rises k [] r = (λ l i. absurd i, tt)
put_rises k (l ∷ ls) r =
    choice Rise (same_key k l) (l ∷ ls) (cond (key_below k l) (k ∷ l ∷ ls) (l ∷ put k ls)) (λ _. r)
    (λ differ. choice Rise (key_below k l) (k ∷ l ∷ ls) (l ∷ put k ls) (λ t. (λ m i. above t m i, r))
    (λ f. (λ m i. later differ f m (put_has k ls m i), put_rises k ls r.1))) where
      above : key_below k l ≡ true → (m : Key) → (l ≡ m) ⊎ In m ls → key_below k m ≡ true
      above t m (inl e) = subst (λ (x : Key). key_below k x ≡ true) e t
      above t m (inr i) = key-trans k l m t (r.0 m i)

      later : same_key k l ≡ false → key_below k l ≡ false → (m : Key) → (k ≡ m) ⊎ In m ls → key_below l m ≡ true
      later differ f m (inl e) = subst (λ (x : Key). key_below l x ≡ true) e (other_way k l differ f)
      later differ f m (inr i) = r.0 m i

-- the keys in order, each once
sorted : List Key → List Key
sorted [] = []
sorted (k ∷ ks) = put k (sorted ks)

sorted_rises : (ks : List Key) → Rise (sorted ks)
unfolding sorted
sorted_rises [] = tt
sorted_rises (k ∷ ks) = put_rises k (sorted ks) (sorted_rises ks)

sorted_has : (ks : List Key) (m : Key) → In m (sorted ks) → In m ks
unfolding sorted
sorted_has [] m i = absurd i
sorted_has (k ∷ ks) m i = elim (put_has k (sorted ks) m i) [ inl e ↦ inl e | inr j ↦ inr (sorted_has ks m j) ]

in_sorted : (ks : List Key) (m : Key) → In m ks → In m (sorted ks)
unfolding sorted
in_sorted [] m i = absurd i
in_sorted (k ∷ ks) m (inl e) = subst (λ (x : Key). In x (put k (sorted ks))) e (put_new k (sorted ks))
in_sorted (k ∷ ks) m (inr i) = put_old k (sorted ks) m (in_sorted ks m i)

pub up_to_is_there : UpToIsThere
up_to_is_there lines played = (keys, record { rising = rise_pairs keys (sorted_rises some); all = all; no_other = no_other }) where
  is_up_to : Key → Bool
  is_up_to key = list_any (λ last. same_key key last || key_below key last) played

  some : List Key
  some = filter is_up_to (flat_map (λ (l : List Key). l) lines)

  keys : List Key
  keys = sorted some

  told : (key : Key) → IsUpTo played key → is_up_to key ≡ true
  told key u = any_in (λ last. same_key key last || key_below key last) played u.0 (in_contains played u.0 u.1) (by u.2) where
    by : (key ≡ u.0) ⊎ IsTrue (key_below key u.0) → (same_key key u.0 || key_below key u.0) ≡ true
    by (inl e) = or_left (same_key key u.0) _ (subst (λ (x : Key). same_key key x ≡ true) e
        (and_from _ _ (eq-eqb key.stamp key.stamp refl) (same_id-refl key.id)))
    by (inr b) = or_right (same_key key u.0) _ b

  is_told : (key : Key) → is_up_to key ≡ true → IsUpTo played key
  is_told key e =
      let a = in_any (λ last. same_key key last || key_below key last) played e in
      (a.0, contains_in played a.0 a.1, by a.0 (or_cases (same_key key a.0) (key_below key a.0) a.2)) where
        by : (last : Key) → (same_key key last ≡ true) ⊎ (key_below key last ≡ true)
            → (key ≡ last) ⊎ IsTrue (key_below key last)
        by last (inl t) = inl (same_key-is key last t)
        by last (inr t) = inr t

  all : (line : List Key) (key : Key) → Contains lines line → Contains line key → IsUpTo played key → Contains keys key
  all line key i j u = contains_in keys key (in_sorted some key
      (in_filter-back is_up_to key (flat_map (λ (l : List Key). l) lines)
      (in_flat_map-back (λ (l : List Key). l) lines line key (in_contains lines line i) (in_contains line key j)) (told key u)))

  no_other : (key : Key) → Contains keys key
      → IsUpTo played key × (line : List Key) × Contains lines line × Contains line key
  no_other key i =
      let f = in_filter is_up_to key (flat_map (λ (l : List Key). l) lines) (sorted_has some key (in_contains keys key i)) in
      let m = in_flat_map (λ (l : List Key). l) lines key f.0 in
      (is_told key f.1, m.0, contains_in lines m.0 m.1, contains_in m.0 key m.2)
