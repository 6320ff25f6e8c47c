-- Lists.
use Rattle.std.proofs.Common.{◌≡◌, ◌⊎◌, ℕ, zero, suc, ◌+◌, ◌*◌, ◌<◌, ◌≤◌, Bool, true, false, List, [], ◌∷◌, ◌++◌, length, map, take, get_or, Option, Some, None, inl, inr, refl, ap, sym, subst, ◌∙◌, arith, flat_map}
use Rattle.std.specs.Prelude.{slice_get}
use Rattle.std.specs.List.{All, find, range_with_len}
use Rattle.std.proofs.lemmas.List.{take_all, length-append, length-map}
use Rattle.std.proofs.lemmas.List.Elements.{All-more}
use Rattle.std.proofs.lemmas.List.FromFn.{length-range_with_len}
use Rattle.col_core.proofs.CallerLemmas.{In, if_true, if_false}
use Rattle.column_track.specs.Tracks.{Tells}
use Rattle.log_node.proofs.CallerLemmas.{get_map, get_longer, get_range, get_within}

-- ITEM BY ITEM

module _ {X : Type 0} (P : X → Type 0) (xs : List X) (i : ℕ) where
  -- it holds of one more
  pub all_next : (x : X) → i < length xs → x ≡ get_or xs i x → All P (take i xs) → P x → All P (take (i + 1) xs)
  all_next x lt is all p = All-more P xs i x lt all (subst P is p)

  -- it does not hold of one
  pub all_but : (x : X) → i < length xs → x ≡ get_or xs i x → (P x → ⊥) → All P xs → ⊥
  all_but x lt is fails all = fails (subst P (sym is) (all i x lt))

  -- it holds of all
  pub all_end : length xs ≤ i → All P (take i xs) → All P xs
  all_end ge all = subst (All P) (take_all i xs ge) all

-- a search finds the first item that passes, or none does
abbrev pub Finds : {X : Type 0} → (X → Bool) → List X → Type 0
Finds {X} test xs =
    ((find test xs ≡ None) × ((x : X) → In x xs → test x ≡ false))
    ⊎ ((x : X) × In x xs × (test x ≡ true) × (find test xs ≡ Some x))

pub find_cases : {X : Type 0} (test : X → Bool) (xs : List X) → Finds test xs
find_cases test [] = inl (refl, λ x i. absurd i)
find_cases {X} test (y ∷ ys) = by (test y) refl (find_cases test ys) where
  by : (b : Bool) → test y ≡ b → Finds test ys → Finds test (y ∷ ys)
  by true t rest = inr (y, inl refl, t, if_true (test y) (Some y) (find test ys) t)
  by false f (inl none) =
      inl (if_false (test y) (Some y) (find test ys) f ∙ none.0, λ x i. each x i none.1) where
        each : (x : X) → (y ≡ x) ⊎ In x ys → ((x : X) → In x ys → test x ≡ false) → test x ≡ false
        each x (inl e) all = subst (λ (z : X). test z ≡ false) e f
        each x (inr i) all = all x i
  by false f (inr some) =
      inr (some.0, inr some.1, some.2, if_false (test y) (Some y) (find test ys) f ∙ some.3)

-- an item of the second list
pub get_right : {X : Type 0} (xs ys : List X) (k : ℕ) → slice_get (xs ++ ys) (length xs + k) ≡ slice_get ys k
get_right [] ys k = ap (slice_get ys) (omega arith)
get_right (x ∷ xs) ys k =
    let e : length (x ∷ xs) + k ≡ suc (length xs + k) = omega arith in
    ap (slice_get (x ∷ (xs ++ ys))) e ∙ get_right xs ys k

-- THE COLUMNS' NUMBERS

module _ (colours : ℕ) where
  block : ℕ → List (ℕ × ℕ)
  block region = map (λ colour. (region, colour)) (range_with_len 0 colours)

  block_long : (region : ℕ) → length (block region) ≡ colours
  unfolding block
  block_long region =
      length-map (range_with_len 0 colours) (λ colour. (region, colour)) ∙ length-range_with_len 0 colours

  block_at : (region colour : ℕ) → colour < colours → slice_get {X = ℕ × ℕ} (block region) colour ≡ Some (region, colour)
  unfolding block
  block_at region colour lt =
      let long = length-range_with_len 0 colours in
      let there = get_within (range_with_len 0 colours) colour (omega (arith, lt, long)) in
      let is = get_range 0 colours colour there.0 there.1 in
      get_map (λ c. (region, c)) (range_with_len 0 colours) colour colour
      (there.1 ∙ ap (λ (k : ℕ). Some k) (let e : there.0 ≡ colour = omega (arith, is) in e))

  -- the numbers of a column stand at its place
  pub number_at : (from regions region colour : ℕ) → region < regions → colour < colours
      → slice_get {X = ℕ × ℕ} (flat_map (λ r. map (λ c. (r, c)) (range_with_len 0 colours)) (range_with_len from regions))
      (region * colours + colour) ≡ Some (from + region, colour)
  unfolding block
  number_at from zero region colour lt low = absurd (let f : ⊥ = omega (arith, lt) in f)
  number_at from (suc regions) zero colour lt low =
      let e : zero * colours + colour ≡ colour = omega arith in
      let h : from + zero ≡ from = omega arith in
      ap (slice_get {X = ℕ × ℕ} (flat_map block (range_with_len from (suc regions)))) e
      ∙ (get_longer (block from) (flat_map block (range_with_len (from + 1) regions)) colour (from, colour) (block_at from colour low)
      ∙ ap (λ (k : ℕ). let p : Option (ℕ × ℕ) = Some (k, colour) in p) (sym h))
  number_at from (suc regions) (suc region) colour lt low =
      let long = block_long from in
      let e : suc region * colours + colour ≡ length (block from) + (region * colours + colour) = omega (arith, long) in
      let h : from + 1 + region ≡ from + suc region = omega arith in
      ap (slice_get {X = ℕ × ℕ} (flat_map block (range_with_len from (suc regions)))) e
      ∙ (get_right (block from) (flat_map block (range_with_len (from + 1) regions)) (region * colours + colour)
      ∙ (number_at (from + 1) regions region colour (omega (arith, lt)) low
      ∙ ap (λ (k : ℕ). let p : Option (ℕ × ℕ) = Some (k, colour) in p) h))

  pub number_count : (from regions : ℕ)
      → length {A = ℕ × ℕ} (flat_map (λ r. map (λ c. (r, c)) (range_with_len 0 colours)) (range_with_len from regions)) ≡ regions * colours
  unfolding block
  number_count from zero = omega arith
  number_count from (suc regions) =
      let long = block_long from in
      let more = number_count (from + 1) regions in
      let both = length-append (block from) (flat_map block (range_with_len (from + 1) regions)) in
      omega (arith, long, more, both)

-- WHAT IS TOLD OF ITEMS

-- what is told, by its answer
pub told_so : {P : Type 0} (b : Bool) → Tells b P → b ≡ true → P
told_so {P} b told is = subst (λ (t : Bool). Tells t P) is told

pub told_not : {P : Type 0} (b : Bool) → Tells b P → b ≡ false → P → ⊥
told_not {P} b told is = subst (λ (t : Bool). Tells t P) is told

-- in a loop over numbers and plain data
pub all_step : {X : Type 0} (P : X → Type 0) (xs : List X) (i : ℕ) (d : X) (b : Bool) → i < length xs → All P (take i xs)
    → Tells b (P (get_or xs i d)) → b ≡ true → All P (take (i + 1) xs)
all_step P xs i d b lt all told is = All-more P xs i d lt all (told_so b told is)

pub all_stop : {X : Type 0} (P : X → Type 0) (xs : List X) (i : ℕ) (d : X) (b : Bool) → i < length xs
    → Tells b (P (get_or xs i d)) → b ≡ false → All P xs → ⊥
all_stop P xs i d b lt told is all = told_not b told is (all i d lt)

-- in one over all others
pub item_step : {X : Type 0} (P : X → Type 0) (xs : List X) (i : ℕ) (x : X) (b : Bool) → i < length xs → x ≡ get_or xs i x
    → All P (take i xs) → Tells b (P x) → b ≡ true → All P (take (i + 1) xs)
item_step P xs i x b lt is all told t = all_next P xs i x lt is all (told_so b told t)

pub item_stop : {X : Type 0} (P : X → Type 0) (xs : List X) (i : ℕ) (x : X) (b : Bool) → i < length xs → x ≡ get_or xs i x
    → Tells b (P x) → b ≡ false → All P xs → ⊥
item_stop P xs i x b lt is told f = all_but P xs i x lt is (told_not b told f)
