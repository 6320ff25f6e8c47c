-- A stamped read that goes on from an earlier one: what it reads is what was read, and then what is new.
use Rattle.std.proofs.Common.{◌≡◌, ℕ, ◌<◌, ◌≤◌, false, List, [], ◌∷◌, ◌++◌, map, length, take, drop, length-append, refl, ap, sym, subst, ◌∙◌, inl, inr, arith}
use Rattle.std.specs.Prelude.{nat_le}
use Rattle.std.specs.List.{fold}
use Rattle.std.proofs.lemmas.Bool.{le-leb, leb-false, leb-true}
use Rattle.std.proofs.lemmas.List.{take-append-drop}
use Rattle.log_node.specs.declared.ids.Key.{Key}
use Rattle.log_node.proofs.CallerLemmas.{stamp-key}
use Rattle.col_core.proofs.CallerLemmas.{In, in_filter, by_test, if_true, if_false}
use Rattle.playback.specs.Merging.{merged, up_to, region_order}
use Rattle.script_in_order.proofs.KeysSplit.{merged_on, parts_merged}

both_up_to : (stamp : ℕ) (xs ys : List Key) → up_to stamp (xs ++ ys) ≡ up_to stamp xs ++ up_to stamp ys
both_up_to stamp [] ys = refl
both_up_to stamp (x ∷ xs) ys =
    by_test _ (nat_le x.stamp stamp)
    (λ t. if_true (nat_le x.stamp stamp) (x ∷ up_to stamp (xs ++ ys)) (up_to stamp (xs ++ ys)) t
    ∙ (ap (λ (l : List Key). x ∷ l) (both_up_to stamp xs ys)
    ∙ ap (λ (l : List Key). l ++ up_to stamp ys)
    (sym (if_true (nat_le x.stamp stamp) (x ∷ up_to stamp xs) (up_to stamp xs) t))))
    (λ f. if_false (nat_le x.stamp stamp) (x ∷ up_to stamp (xs ++ ys)) (up_to stamp (xs ++ ys)) f
    ∙ (both_up_to stamp xs ys
    ∙ ap (λ (l : List Key). l ++ up_to stamp ys)
    (sym (if_false (nat_le x.stamp stamp) (x ∷ up_to stamp xs) (up_to stamp xs) f))))

all_up_to : (stamp : ℕ) (xs : List Key) → ((k : Key) → In k xs → k.stamp ≤ stamp) → up_to stamp xs ≡ xs
all_up_to stamp [] low = refl
all_up_to stamp (x ∷ xs) low =
    if_true (nat_le x.stamp stamp) (x ∷ up_to stamp xs) (up_to stamp xs) (le-leb x.stamp stamp (low x (inl refl)))
    ∙ ap (λ (l : List Key). x ∷ l) (all_up_to stamp xs (λ k i. low k (inr i)))

-- what is left where nothing is added
nothing_more : (xs ys : List Key) → xs ++ ys ≡ xs → ys ≡ []
nothing_more xs [] e = refl
nothing_more xs (y ∷ ys) e =
    let n = sym (length-append xs (y ∷ ys)) ∙ ap length e in absurd (let f : ⊥ = omega (arith, n) in f)

none_up_to : (stamp : ℕ) (ys : List Key) → up_to stamp ys ≡ [] → (k : Key) → In k ys → stamp < k.stamp
none_up_to stamp [] e k i = absurd i
none_up_to stamp (y ∷ ys) e k i =
    by_test (stamp < k.stamp) (nat_le y.stamp stamp)
    (λ t. absurd (let n = ap length (sym (if_true (nat_le y.stamp stamp) (y ∷ up_to stamp ys) (up_to stamp ys) t) ∙ e) in
    let f : ⊥ = omega (arith, n) in f))
    (λ f. turn (λ rest j. none_up_to stamp ys rest k j) f i) where
      turn : (up_to stamp ys ≡ [] → In k ys → stamp < k.stamp) → nat_le y.stamp stamp ≡ false → In k (y ∷ ys)
          → stamp < k.stamp
      turn goes f (inl t) = subst (λ (x : Key). stamp < x.stamp) t (leb-false y.stamp stamp f)
      turn goes f (inr j) =
          goes (sym (if_false (nat_le y.stamp stamp) (y ∷ up_to stamp ys) (up_to stamp ys) f) ∙ e) j

-- one line, of which so many first keys are those up to a stamp
module _ (line : List Key) (n s t : ℕ) (grows : s ≤ t) (cut : take n line ≡ up_to s line) where
  parts : take n line ++ drop n line ≡ line
  parts = take-append-drop n line

  low : (k : Key) → In k (take n line) → k.stamp ≤ s
  low k i = leb-true k.stamp s (in_filter (λ key. nat_le key.stamp s) k line (subst (λ (l : List Key). In k l) cut i)).1

  rest_none : up_to s (drop n line) ≡ []
  rest_none =
      nothing_more (take n line) (up_to s (drop n line))
      (ap (λ (l : List Key). l ++ up_to s (drop n line)) (sym (all_up_to s (take n line) low))
      ∙ (sym (both_up_to s (take n line) (drop n line)) ∙ (ap (up_to s) parts ∙ sym cut)))

  pub above : (k : Key) → In k (up_to t (drop n line)) → s < k.stamp
  above k i = none_up_to s (drop n line) rest_none k (in_filter (λ key. nat_le key.stamp t) k (drop n line) i).0

  pub low_stamp : (k : Key) → In k (take n line) → k.stamp ≤ s
  low_stamp = low

  pub in_parts : up_to t line ≡ take n line ++ up_to t (drop n line)
  in_parts =
      ap (up_to t) (sym parts)
      ∙ (both_up_to t (take n line) (drop n line)
      ∙ ap (λ (l : List Key). l ++ up_to t (drop n line))
      (all_up_to t (take n line) (λ k i. let a = low k i in omega (arith, a, grows))))

-- the same of all lines
module _ {A : Type 0} (lines : A → List Key) (counts : A → ℕ) (s t : ℕ) (grows : s ≤ t) where
  abbrev pub first_of : A → List Key
  first_of c = take (counts c) (lines c)

  abbrev pub new_of : A → List Key
  new_of c = up_to t (drop (counts c) (lines c))

  by_lines : (colours : List A) (keys : List Key) → ((c : A) → In c colours → first_of c ≡ up_to s (lines c))
      → fold (λ ks l. merged ks (up_to t l)) keys (map lines colours)
      ≡ merged_on (λ c. first_of c ++ new_of c) keys colours
  by_lines [] keys cut = refl
  by_lines (c ∷ cs) keys cut =
      by_lines cs (merged keys (up_to t (lines c))) (λ d i. cut d (inr i))
      ∙ ap (λ (l : List Key). merged_on (λ d. first_of d ++ new_of d) (merged keys l) cs)
      (in_parts (lines c) (counts c) s t grows (cut c (inl refl)))

  -- What is read up to the later stamp is what was read up to the earlier one, and then what is new.
  pub read_goes_on : (colours : List A) → ((c : A) → In c colours → first_of c ≡ up_to s (lines c))
      → region_order t (map lines colours) ≡ merged_on first_of [] colours ++ merged_on new_of [] colours
  read_goes_on colours cut =
      by_lines colours [] cut
      ∙ parts_merged first_of new_of colours [] [] (λ a b i j. absurd i) (λ c i a b j k. absurd j)
      (λ c i a b j k. absurd k)
      (λ c d i j a b x y.
      let l = low_stamp (lines c) (counts c) s t grows (cut c i) a x in
      let h = above (lines d) (counts d) s t grows (cut d j) b y in
      stamp-key a b (omega (arith, l, h)))
