-- Sets of colours, and the marks of a row one colour after another.
use Rattle.std.proofs.Common.{◌≡◌, ◌≢◌, ℕ, suc, zero, ◌+◌, ◌-◌, ◌<◌, ◌≤◌, Bool, true, false, List, [], ◌∷◌}
use Rattle.std.proofs.Common.{◌++◌, map, length, get_or, sym, refl, ap, ◌∙◌, arith, add-one}
use Rattle.std.specs.Prelude.{if◌then◌else◌, ◌==◌}
use Rattle.std.specs.List.{filter, range_with_len, All}
use Rattle.std.specs.Int.{bit_at}
use Rattle.std.proofs.lemmas.Nat.Bits.{bit_at-zero}
use Rattle.std.proofs.lemmas.List.{append-nil, map-append}
use Rattle.std.proofs.lemmas.List.Elements.{filter-append, filter_passes}
use Rattle.log_node.specs.declared.limits.TheConstants.{MAX_COLOURS}
use Rattle.log_node.specs.declared.ids.Colours.{Colours}
use Rattle.log_node.specs.Sets.{has, members}
use Rattle.log_node.specs.declared.marks.Mark.{Mark}
use Rattle.stamp_board.specs.declared.view.Size.{Size}
use Rattle.stamp_board.specs.Words.{word_at, mark_from}
use Rattle.stamp_board.specs.Rows.{marks_at}

-- whether the bits have a colour
abbrev pub has_bit : ℕ → ℕ → Bool
has_bit bits c = has record { 0 = bits } c

-- each colour is below n
abbrev pub Within : Colours → ℕ → Type 0
Within set n = (c : ℕ) → has set c ≡ true → c < n

range_more : (a n : ℕ) → range_with_len a (suc n) ≡ range_with_len a n ++ (a + n) ∷ []
range_more a zero = let e : a ≡ a + 0 = omega arith in ap (λ (z : ℕ). z ∷ []) e
range_more a (suc n) = ap (λ (l : List ℕ). a ∷ l) (range_more (a + 1) n
    ∙ (let e : a + 1 + n ≡ a + suc n = omega arith in ap (λ (z : ℕ). range_with_len (a + 1) n ++ z ∷ []) e))

range_split : (a n m : ℕ) → range_with_len a (n + m) ≡ range_with_len a n ++ range_with_len (a + n) m
range_split a zero m = let e : a ≡ a + 0 = omega arith in let f : 0 + m ≡ m = omega arith in
    λ i. range_with_len (e i) (f i)
range_split a (suc n) m =
    let e : suc n + m ≡ suc (n + m) = omega arith in let f : a + 1 + n ≡ a + suc n = omega arith in
    ap (range_with_len a) e
    ∙ ap (λ (l : List ℕ). a ∷ l) (range_split (a + 1) n m
    ∙ ap (λ (z : ℕ). range_with_len (a + 1) n ++ range_with_len z m) f)

none_from : (set : Colours) (bound a n : ℕ) → Within set bound → bound ≤ a → filter (has set) (range_with_len a n) ≡ []
none_from set bound a zero within le = refl
none_from set bound a (suc n) within le =
    let out : has set a ≡ false = elim (has set a) as (λ (b : Bool). (b ≡ true → a < bound)
    → b ≡ false) [
      | true ↦ λ f. absurd (let lt : a < bound = f refl in
          omega arith)
      | false ↦ λ _. refl
    ] (within a) in
    ap (λ (b : Bool). if b then a ∷ filter (has set) (range_with_len (a + 1) n) else filter (has set)
    (range_with_len (a + 1) n)) out
    ∙ none_from set bound (a + 1) n within (omega arith)

-- no colour from the bound on is a member
pub members_below : (set : Colours) (n : ℕ) → n ≤ MAX_COLOURS → Within set n
    → members set ≡ filter (has set) (range_with_len 0 n)
members_below set n few within =
    let e : n + (MAX_COLOURS - n) ≡ MAX_COLOURS = omega (arith, few) in
    ap (λ (z : ℕ). filter (has set) (range_with_len 0 z)) (sym e) ∙ ap (filter (has set)) (range_split 0 n (MAX_COLOURS - n))
    ∙ filter-append (has set) (range_with_len 0 n) (range_with_len (0 + n) (MAX_COLOURS - n))
    ∙ ap (λ (l : List ℕ). filter (has set) (range_with_len 0 n) ++ l)
    (none_from set n (0 + n) (MAX_COLOURS - n) within (omega arith))
    ∙ append-nil (filter (has set) (range_with_len 0 n))

module _ {A : Type 0} where
  -- what f gives of the colours below n
  abbrev pub below : (ℕ → A) → ℕ → ℕ → List A
  below f bits zero = []
  below f bits (suc n) = below f bits n ++ (if has_bit bits n then f n ∷ [] else [])

  pub below_skip : (f : ℕ → A) (bits c : ℕ) → has_bit bits c ≡ false → below f bits (c + 1) ≡ below f bits c
  below_skip f bits c out = ap (below f bits) (add-one c)
      ∙ ap (λ (b : Bool). below f bits c ++ (if b then f c ∷ [] else [])) out ∙ append-nil (below f bits c)

  pub below_one : (f : ℕ → A) (bits c : ℕ) → has_bit bits c ≡ true → below f bits (c + 1) ≡ below f bits c ++ f c ∷ []
  below_one f bits c bit = ap (below f bits) (add-one c)
      ∙ ap (λ (b : Bool). below f bits c ++ (if b then f c ∷ [] else [])) bit

  below_filter : (f : ℕ → A) (bits n : ℕ) → map f (filter (has_bit bits) (range_with_len 0 n)) ≡ below f bits n
  below_filter f bits zero = refl
  below_filter f bits (suc n) =
      let p : ℕ → Bool = has_bit bits in
      let last : (b : Bool) → map f (if b then (0 + n) ∷ [] else []) ≡ (if b then f n ∷ [] else [])
      = λ b. elim b as (λ (z : Bool). map f (if z then (0 + n) ∷ [] else []) ≡ (if z then f n ∷ [] else []))
      [ true ↦ (let e : 0 + n ≡ n = omega arith in ap (λ (z : ℕ). f z ∷ []) e) | false ↦ refl ] in
      let same : p (0 + n) ≡ p n = (let e : 0 + n ≡ n = omega arith in ap p e) in
      ap (λ (l : List ℕ). map f (filter p l)) (range_more 0 n)
      ∙ ap (map f) (filter-append p (range_with_len 0 n) ((0 + n) ∷ []))
      ∙ map-append f (filter p (range_with_len 0 n)) (if p (0 + n) then (0 + n) ∷ [] else [])
      ∙ (λ i. below_filter f bits n i ++ last (p (0 + n)) i)
      ∙ ap (λ (b : Bool). below f bits n ++ (if b then f n ∷ [] else [])) same

  pub below_members : (f : ℕ → A) (set : Colours) (n : ℕ) → n ≤ MAX_COLOURS → Within set n
      → map f (members set) ≡ below f set.0 n
  below_members f set n few within = ap (map f) (members_below set n few within) ∙ below_filter f set.0 n

  -- what two functions give of the members is the same where they agree there
  pub same_members : (f g : ℕ → A) (p : ℕ → Bool) (xs : List ℕ) → ((c : ℕ) → p c ≡ true → f c ≡ g c)
      → map f (filter p xs) ≡ map g (filter p xs)
  same_members f g p [] same = refl
  same_members f g p (x ∷ xs) same =
      let rest = same_members f g p xs same in
      elim (p x) as (λ (b : Bool). (b ≡ true → f x ≡ g x)
      → map f (if b then x ∷ filter p xs else filter p xs) ≡ map g (if b then x ∷ filter p xs else filter p xs)) [
        | true ↦ λ here. λ i. here refl i ∷ rest i
        | false ↦ λ _. rest
      ] (same x)

-- the marks of the row r, of the colours below n
abbrev pub marks_below : Size → List ℕ → ℕ → ℕ → ℕ → List Mark
marks_below k ws r bits n = below (λ c. mark_from (get_or ws (word_at k r (1 + c)) 0)) bits n

pub marks_are_below : (k : Size) (ws : List ℕ) (r : ℕ) (set : Colours) → k.colours ≤ MAX_COLOURS → Within set k.colours
    → marks_at k ws r set ≡ marks_below k ws r set.0 k.colours
marks_are_below k ws r set few within = below_members (λ c. mark_from (get_or ws (word_at k r (1 + c)) 0)) set
    k.colours few within

first_of : (p : ℕ → Bool) (xs : List ℕ) → 0 < length xs → All (λ x. p x ≡ true) xs → (c : ℕ) × (p c ≡ true)
first_of p [] some all = absurd (omega arith)
first_of p (x ∷ xs) some all = (x, all 0 x (omega arith))

-- a set with a member has a colour
pub some_colour : (set : Colours) → 0 < length (members set) → (c : ℕ) × (has set c ≡ true)
some_colour set some = first_of (has set) (members set) some (filter_passes (has set) (range_with_len 0 MAX_COLOURS))

-- the empty set has none
pub not_empty : (set : Colours) → 0 < length (members set) → set.0 ≢ 0
not_empty set some none =
    let c = some_colour set some in
    let no : has set c.0 ≡ false = ap (λ (z : ℕ). z == 1) (ap (λ (z : ℕ). bit_at z c.0) none ∙ bit_at-zero c.0) in
    let two : true ≡ false = sym c.1 ∙ no in cc (two)
