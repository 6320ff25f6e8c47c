-- Lines that are merged: what is in them, and that they rise.
use Rattle.std.proofs.Common.{◌≡◌, ℕ, zero, suc, ◌<◌, ◌≤◌, List, [], ◌∷◌, length, cond, Bool, true, false, refl, sym, subst, ◌∙◌, inl, inr, ◌⊎◌, arith}
use Rattle.std.specs.Prelude.{◌==◌, nat_le, slice_index_or}
use Rattle.std.specs.List.{Contains, filter, fold}
use Rattle.std.proofs.lemmas.Bool.{and_from, cases_order, eq-eqb, le-leb, leb-true}
use Rattle.log_node.specs.declared.ids.Key.{Key}
use Rattle.log_node.specs.Order.{same_id, same_key, key_below}
use Rattle.log_node.proofs.CallerLemmas.{same_key-is, stamp-key}
use Rattle.col_core.proofs.CallerLemmas.{apart, by_test, choice, contains_in, in_contains, In, in_filter, in_filter-back, key-total, key-trans}
use Rattle.playback.specs.Merging.{merged, merged_behind, up_to, region_order, AreRising}
use Rattle.playback.specs.Laws.{RegionOrderIsLawful}

-- What is merged

-- what is left of others behind a key that may stand at their front
abbrev left : Key → Key → List Key → List Key
left key other others = cond (same_key other key) others (other ∷ others)

in_left : (k key other : Key) (others : List Key) → In k (left key other others) → In k (other ∷ others)
in_left k key other others =
    choice (λ (l : List Key). In k l → In k (other ∷ others)) (same_key other key) others (other ∷ others)
    (λ _ i. inr i) (λ _ i. i)

-- a key of two lists that are merged is in one of them
behind_in : (k key : Key) (rest : List Key → List Key) (keys others : List Key)
    → ((xs : List Key) → In k (rest xs) → In k keys ⊎ In k xs)
    → In k (merged_behind key rest others) → In k (key ∷ keys) ⊎ In k others
behind_in k key rest keys [] r (inl e) = inl (inl e)
behind_in k key rest keys [] r (inr i) = turn (r [] i) where
  turn : In k keys ⊎ ⊥ → In k (key ∷ keys) ⊎ ⊥
  turn (inl j) = inl (inr j)
  turn (inr j) = inr j
behind_in k key rest keys (other ∷ others) r i =
    choice (λ (l : List Key). In k l → In k (key ∷ keys) ⊎ In k (other ∷ others)) (key_below other key)
    (other ∷ merged_behind key rest others) (key ∷ rest (left key other others))
    (λ _ j. below j (behind_in k key rest keys others r)) (λ _ j. above j) i where
      below : (other ≡ k) ⊎ In k (merged_behind key rest others)
          → (In k (merged_behind key rest others) → In k (key ∷ keys) ⊎ In k others)
          → In k (key ∷ keys) ⊎ In k (other ∷ others)
      below (inl e) on = inr (inl e)
      below (inr j) on = turn (on j) where
        turn : In k (key ∷ keys) ⊎ In k others → In k (key ∷ keys) ⊎ In k (other ∷ others)
        turn (inl x) = inl x
        turn (inr x) = inr (inr x)

      above : (key ≡ k) ⊎ In k (rest (left key other others)) → In k (key ∷ keys) ⊎ In k (other ∷ others)
      above (inl e) = inl (inl e)
      above (inr j) = turn (r (left key other others) j) where
        turn : In k keys ⊎ In k (left key other others) → In k (key ∷ keys) ⊎ In k (other ∷ others)
        turn (inl x) = inl (inr x)
        turn (inr x) = inr (in_left k key other others x)

merged_in : (k : Key) (keys others : List Key) → In k (merged keys others) → In k keys ⊎ In k others
merged_in k [] others i = inr i
merged_in k (key ∷ keys) others i = behind_in k key (merged keys) keys others (merged_in k keys) i

-- each key of the one list is in what is merged
behind_first : (k key : Key) (rest : List Key → List Key) (keys others : List Key)
    → ((xs : List Key) → In k keys → In k (rest xs)) → In k (key ∷ keys) → In k (merged_behind key rest others)
behind_first k key rest keys [] r (inl e) = inl e
behind_first k key rest keys [] r (inr i) = inr (r [] i)
behind_first k key rest keys (other ∷ others) r i =
    choice (In k) (key_below other key) (other ∷ merged_behind key rest others) (key ∷ rest (left key other others))
    (λ _. inr (behind_first k key rest keys others r i)) (λ _. turn i) where
      turn : (key ≡ k) ⊎ In k keys → (key ≡ k) ⊎ In k (rest (left key other others))
      turn (inl e) = inl e
      turn (inr j) = inr (r (left key other others) j)

merged_first : (k : Key) (keys others : List Key) → In k keys → In k (merged keys others)
merged_first k [] others i = absurd i
merged_first k (key ∷ keys) others i =
    behind_first k key (merged keys) keys others (λ xs. merged_first k keys xs) i

-- and each key of the other one
behind_second : (k key : Key) (rest : List Key → List Key) (others : List Key)
    → ((xs : List Key) → In k xs → In k (rest xs)) → In k others → In k (merged_behind key rest others)
behind_second k key rest [] r i = absurd i
behind_second k key rest (other ∷ others) r i =
    choice (In k) (key_below other key) (other ∷ merged_behind key rest others) (key ∷ rest (left key other others))
    (λ _. below i (behind_second k key rest others r)) (λ _. same i) where
      below : (other ≡ k) ⊎ In k others → (In k others → In k (merged_behind key rest others))
          → (other ≡ k) ⊎ In k (merged_behind key rest others)
      below (inl e) on = inl e
      below (inr j) on = inr (on j)

      kept : In k (other ∷ others) → (key ≡ k) ⊎ In k (left key other others)
      kept j = choice (λ (l : List Key). (key ≡ k) ⊎ In k l) (same_key other key) others (other ∷ others)
          (λ t. gone t j) (λ _. inr j) where
            gone : same_key other key ≡ true → (other ≡ k) ⊎ In k others → (key ≡ k) ⊎ In k others
            gone t (inl e) = inl (sym (same_key-is other key t) ∙ e)
            gone t (inr x) = inr x

      same : In k (other ∷ others) → (key ≡ k) ⊎ In k (rest (left key other others))
      same j = turn (kept j) where
        turn : (key ≡ k) ⊎ In k (left key other others) → (key ≡ k) ⊎ In k (rest (left key other others))
        turn (inl e) = inl e
        turn (inr x) = inr (r (left key other others) x)

merged_second : (k : Key) (keys others : List Key) → In k others → In k (merged keys others)
merged_second k [] others i = i
merged_second k (key ∷ keys) others i =
    behind_second k key (merged keys) others (λ xs. merged_second k keys xs) i

-- What rises

-- a key comes before all of these
abbrev Below : Key → List Key → Type 0
Below key keys = (k : Key) → In k keys → key_below key k ≡ true

-- each key comes before all behind it
abbrev pub Rising : List Key → Type 0
Rising [] = Unit {0}
Rising (key ∷ keys) = Below key keys × Rising keys

-- of two keys that are not the same, one comes before the other
goes_on : (key other : Key) → key_below other key ≡ false → same_key other key ≡ false → key_below key other ≡ true
goes_on key other not_below differs =
    by_test _ (same_id other.id key.id)
    (λ t. stamps t (cases_order other.stamp key.stamp))
    (λ f. key-total other key (λ t. apart _ t f) (λ t. apart _ t not_below)) where
      stamps : same_id other.id key.id ≡ true
          → (other.stamp ≡ key.stamp) ⊎ ((other.stamp < key.stamp) ⊎ (key.stamp < other.stamp))
          → key_below key other ≡ true
      stamps t (inl e) = absurd (apart (same_key other key) (both_same e t) differs) where
        both_same : other.stamp ≡ key.stamp → same_id other.id key.id ≡ true → same_key other key ≡ true
        both_same e t = and_from (other.stamp == key.stamp) _ (eq-eqb other.stamp key.stamp e) t
      stamps t (inr (inl lt)) = absurd (apart _ (stamp-key other key lt) not_below)
      stamps t (inr (inr lt)) = stamp-key key other lt

-- what is left of others is above the key
left_above : (key other : Key) (others : List Key) → key_below other key ≡ false → Rising (other ∷ others)
    → Below key (left key other others) × Rising (left key other others)
left_above key other others not_below rises =
    choice (λ (l : List Key). Below key l × Rising l) (same_key other key) others (other ∷ others)
    (λ t. (λ k i. subst (λ (x : Key). key_below x k ≡ true) (same_key-is other key t) (rises.0 k i), rises.1))
    (λ f. let over = goes_on key other not_below f in (λ k i. up over k i, rises)) where
      up : key_below key other ≡ true → (k : Key) → (other ≡ k) ⊎ In k others → key_below key k ≡ true
      up over k (inl e) = subst (λ (x : Key). key_below key x ≡ true) e over
      up over k (inr i) = key-trans key other k over (rises.0 k i)

behind_rises : (key : Key) (rest : List Key → List Key) (keys others : List Key)
    → ((k : Key) (xs : List Key) → In k (rest xs) → In k keys ⊎ In k xs)
    → ((xs : List Key) → Rising xs → Rising (rest xs)) → Below key keys → Rising others
    → Rising (merged_behind key rest others)
behind_rises key rest keys [] r on low rises = (λ k i. turn k (r k [] i), on [] tt) where
  turn : (k : Key) → In k keys ⊎ ⊥ → key_below key k ≡ true
  turn k (inl j) = low k j
  turn k (inr none) = absurd none
behind_rises key rest keys (other ∷ others) r on low rises =
    choice Rising (key_below other key) (other ∷ merged_behind key rest others) (key ∷ rest (left key other others))
    (λ t. (
      λ k i. before t k (behind_in k key rest keys others (r k) i),
      behind_rises key rest keys others r on low rises.1,
    ))
    (λ f. let above = left_above key other others f rises in
    (λ k i. behind k (r k (left key other others) i) (above.0 k), on (left key other others) above.1)) where
      before : key_below other key ≡ true → (k : Key) → ((key ≡ k) ⊎ In k keys) ⊎ In k others
          → key_below other k ≡ true
      before t k (inl (inl e)) = subst (λ (x : Key). key_below other x ≡ true) e t
      before t k (inl (inr j)) = key-trans other key k t (low k j)
      before t k (inr j) = rises.0 k j

      behind : (k : Key) → In k keys ⊎ In k (left key other others)
          → (In k (left key other others) → key_below key k ≡ true) → key_below key k ≡ true
      behind k (inl j) above = low k j
      behind k (inr j) above = above j

merged_rises : (keys others : List Key) → Rising keys → Rising others → Rising (merged keys others)
merged_rises [] others a b = b
merged_rises (key ∷ keys) others a b =
    behind_rises key (merged keys) keys others (λ k xs. merged_in k keys xs)
    (λ xs rises. merged_rises keys xs a.1 rises) a.0 b

-- The order of a region

rising_of : (keys : List Key) → AreRising keys → Rising keys
rising_of [] r = tt
rising_of (key ∷ keys) r = (
  λ k i. let c = contains_in keys k i in
      subst (λ (x : Key). key_below key x ≡ true) c.2 (r zero (suc c.0) k (omega arith) (let l = c.1 in omega (arith, l))),
  rising_of keys (λ i j d lt there. r (suc i) (suc j) d (omega (arith, lt)) (omega (arith, there))),
)

are_rising : (keys : List Key) → Rising keys → AreRising keys
are_rising [] r i j d lt there = absurd (let f : ⊥ = omega (arith, there) in f)
are_rising (key ∷ keys) r i zero d lt there = absurd (let f : ⊥ = omega (arith, lt) in f)
are_rising (key ∷ keys) r zero (suc j) d lt there =
    r.0 (slice_index_or keys j d) (at_in keys j d (omega (arith, there))) where
      at_in : (ks : List Key) (n : ℕ) (e : Key) → n < length ks → In (slice_index_or ks n e) ks
      at_in [] n e low = absurd (let f : ⊥ = omega (arith, low) in f)
      at_in (x ∷ ks) zero e low = inl refl
      at_in (x ∷ ks) (suc n) e low = inr (at_in ks n e (omega (arith, low)))
are_rising (key ∷ keys) r (suc i) (suc j) d lt there =
    are_rising keys r.1 i j d (omega (arith, lt)) (omega (arith, there))

filter_rises : (test : Key → Bool) (keys : List Key) → Rising keys → Rising (filter test keys)
filter_rises test [] r = tt
filter_rises test (key ∷ keys) r =
    choice Rising (test key) (key ∷ filter test keys) (filter test keys)
    (λ _. (λ k i. r.0 k (in_filter test k keys i).0, filter_rises test keys r.1)) (λ _. filter_rises test keys r.1)

-- what came of merging some lines with these keys
record IsMerged (stamp : ℕ) (keys : List Key) (lines : List (List Key)) (all : List Key) : Type 0 where
  pub rises : Rising all
  pub first : (k : Key) → In k keys → In k all
  pub each : (line : List Key) (k : Key) → In line lines → In k line → k.stamp ≤ stamp → In k all
  pub no_other : (k : Key) → In k all
      → In k keys ⊎ ((k.stamp ≤ stamp) × (line : List Key) × In line lines × In k line)

merge_all : (stamp : ℕ) (lines : List (List Key)) (keys : List Key) → Rising keys
    → ((line : List Key) → In line lines → Rising line)
    → IsMerged stamp keys lines (fold (λ ks line. merged ks (up_to stamp line)) keys lines)
merge_all stamp [] keys r each = record {
  rises = r;
  first = λ k i. i;
  each = λ line k i. absurd i;
  no_other = λ k i. inl i;
}
merge_all stamp (one ∷ lines) keys r each =
    let low = up_to stamp one in
    let next = merged keys low in
    let low_rises : Rising low = filter_rises (λ key. nat_le key.stamp stamp) one (each one (inl refl)) in
    let m = merge_all stamp lines next (merged_rises keys low r low_rises) (λ line i. each line (inr i)) in
    record {
      rises = m.rises;
      first = λ k i. m.first k (merged_first k keys low i);
      each = λ line k i j le. of_line line k i j le m.each (λ here. m.first k (merged_second k keys low here));
      no_other = λ k i. of_key k (m.no_other k i) (merged_in k keys low);
    } where
      of_line : (line : List Key) (k : Key) → (one ≡ line) ⊎ In line lines → In k line → k.stamp ≤ stamp
          → ((line : List Key) (k : Key) → In line lines → In k line → k.stamp ≤ stamp
          → In k (fold (λ ks line. merged ks (up_to stamp line)) (merged keys (up_to stamp one)) lines))
          → (In k (up_to stamp one)
          → In k (fold (λ ks line. merged ks (up_to stamp line)) (merged keys (up_to stamp one)) lines))
          → In k (fold (λ ks line. merged ks (up_to stamp line)) (merged keys (up_to stamp one)) lines)
      of_line line k (inl e) j le rest here =
          here (in_filter-back (λ key. nat_le key.stamp stamp) k one (subst (λ (l : List Key). In k l) (sym e) j)
          (le-leb k.stamp stamp le))
      of_line line k (inr i) j le rest here = rest line k i j le

      of_key : (k : Key)
          → In k (merged keys (up_to stamp one)) ⊎ ((k.stamp ≤ stamp) × (line : List Key) × In line lines × In k line)
          → (In k (merged keys (up_to stamp one)) → In k keys ⊎ In k (up_to stamp one))
          → In k keys ⊎ ((k.stamp ≤ stamp) × (line : List Key) × In line (one ∷ lines) × In k line)
      of_key k (inr (le, line, i, j)) split = inr (le, line, inr i, j)
      of_key k (inl i) split = turn (split i) where
        turn : In k keys ⊎ In k (up_to stamp one)
            → In k keys ⊎ ((k.stamp ≤ stamp) × (line : List Key) × In line (one ∷ lines) × In k line)
        turn (inl j) = inl j
        turn (inr j) =
            let f = in_filter (λ key. nat_le key.stamp stamp) k one j in
            inr (leb-true k.stamp stamp f.1, one, inl refl, f.0)

pub order_is_merged : RegionOrderIsLawful
order_is_merged stamp lines rises =
    let m = merge_all stamp lines [] tt (λ line i. rising_of line (rises line (contains_in lines line i))) in
    record {
      rising = are_rising (region_order stamp lines) m.rises;
      all = λ line key c d le.
          contains_in (region_order stamp lines) key
          (m.each line key (in_contains lines line c) (in_contains line key d) le);
      no_other = λ key c. turn key (m.no_other key (in_contains (region_order stamp lines) key c));
    } where
      turn : (key : Key) → ⊥ ⊎ ((key.stamp ≤ stamp) × (line : List Key) × In line lines × In key line)
          → (key.stamp ≤ stamp) × (line : List Key) × Contains lines line × Contains line key
      turn key (inl none) = absurd none
      turn key (inr (le, line, i, j)) = (le, line, contains_in lines line i, contains_in line key j)
