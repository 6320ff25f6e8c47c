-- Members of sets of colours.
use Rattle.std.proofs.Common.{◌≡◌, ℕ, zero, suc, ◌+◌, ◌<◌, ◌≤◌, Bool, true, false, List, [], ◌∷◌, ◌++◌, refl, ap, sym, ◌∙◌}
use Rattle.std.proofs.Common.{inl, inr, arith}
use Rattle.std.specs.Prelude.{◌&&◌, ◌||◌, ◌==◌}
use Rattle.std.specs.List.{list_any, list_all, filter, range_with_len}
use Rattle.std.proofs.lemmas.Bool.{and_parts, eq-eqb, eqb-true, or_left, or_right, or_cases, cases_eq, cases_lt, true≢false}
use Rattle.std.proofs.lemmas.Bool.{false_from_ne_true}
use Rattle.log_node.specs.declared.ids.Colours.{Colours}
use Rattle.log_node.specs.declared.limits.TheConstants.{MAX_COLOURS}
use Rattle.log_node.specs.Sets.{has, members}
use Rattle.col_core.proofs.CallerLemmas.{choice}
use Rattle.world_laws.specs.Worlds.{is_member}

-- a number is among those that pass exactly where it passes and is there
any_filter : (p : ℕ → Bool) (c : ℕ) (xs : List ℕ)
    → list_any (λ d. d == c) (filter p xs) ≡ (p c && list_any (λ d. d == c) xs)
any_filter p c [] = none (p c) where
  none : (b : Bool) → false ≡ (b && false)
  none true = refl
  none false = refl
any_filter p c (x ∷ xs) =
    choice (λ (l : List ℕ). list_any (λ d. d == c) l ≡ (p c && ((x == c) || list_any (λ d. d == c) xs))) (p x)
    (x ∷ filter p xs) (filter p xs)
    (λ passes. ap (λ (b : Bool). (x == c) || b) (any_filter p c xs)
    ∙ first (x == c) (p c) (list_any (λ d. d == c) xs) (λ e. ap p (sym (eqb-true x c e)) ∙ passes))
    (λ fails. any_filter p c xs
    ∙ other (x == c) (p c) (list_any (λ d. d == c) xs) (λ e. ap p (sym (eqb-true x c e)) ∙ fails)) where
      first : (here pass there : Bool) → (here ≡ true → pass ≡ true) → (here || (pass && there))
          ≡ (pass && (here || there))
      first true true there h = refl
      first true false there h = sym (h refl)
      first false true there h = refl
      first false false there h = refl

      other : (here pass there : Bool) → (here ≡ true → pass ≡ false) → (pass && there) ≡ (pass && (here || there))
      other true true there h = absurd (let f = h refl in let x : ⊥ = cc in x)
      other true false there h = refl
      other false true there h = refl
      other false false there h = refl

any_range : (c from n : ℕ) → from ≤ c → c < from + n → list_any (λ d. d == c) (range_with_len from n) ≡ true
any_range c from zero le lt = absurd (let f : ⊥ = omega (arith, le, lt) in f)
any_range c from (suc n) le lt = elim (cases_eq from c) [
  | inl e ↦ or_left (from == c) _ (eq-eqb from c e)
  | inr ne ↦ or_right (from == c) _
      (any_range c (from + 1) n (let f : from + 1 ≤ c = more from c le ne in f) (omega (arith, lt)))
] where
  more : (a b : ℕ) → a ≤ b → (a ≡ b → ⊥) → a + 1 ≤ b
  more a b le ne = elim (cases_lt a b) [
    | inl less ↦ omega (arith, less)
    | inr over ↦ absurd (ne (omega (arith, le, over)))
  ]

pub member_is : (set : Colours) (c : ℕ) → c < MAX_COLOURS → is_member set c ≡ has set c
member_is set c lt =
    any_filter (has set) c (range_with_len 0 MAX_COLOURS)
    ∙ (ap (λ (b : Bool). has set c && b) (any_range c 0 MAX_COLOURS (omega arith) (omega (arith, lt))) ∙ same (has set c))
  where
    same : (b : Bool) → (b && true) ≡ b
    same true = refl
    same false = refl

-- what stands between others is there
pub is_there : (xs ys : List ℕ) (c : ℕ) → list_any (λ d. d == c) (xs ++ c ∷ ys) ≡ true
is_there [] ys c = or_left (c == c) _ (eq-eqb c c refl)
is_there (x ∷ xs) ys c = or_right (x == c) _ (is_there xs ys c)

-- a number of a range is not below its first
range_above : (c from n : ℕ) → list_any (λ d. d == c) (range_with_len from n) ≡ true → from ≤ c
range_above c from zero t = absurd (true≢false (sym t))
range_above c from (suc n) t = elim (or_cases (from == c) _ t) [
  | inl e ↦ let same = eqb-true from c e in omega (arith, same)
  | inr i ↦ let le = range_above c (from + 1) n i in omega (arith, le)
]

none_before : (p : ℕ → Bool) (from n : ℕ) (xs ys : List ℕ) (c : ℕ) → filter p (range_with_len from n) ≡ xs ++ c ∷ ys
    → list_any (λ d. d == c) xs ≡ false
none_before p from n [] ys c is = refl
none_before p from zero (x ∷ xs) ys c is = absurd (let f : ⊥ = cc in f)
none_before p from (suc n) (x ∷ xs) ys c is =
    choice (λ (l : List ℕ). l ≡ x ∷ (xs ++ c ∷ ys) → list_any (λ d. d == c) (x ∷ xs) ≡ false) (p from) (from ∷ others) others
    (λ _ e. let first : from ≡ x = cc in let rest : others ≡ xs ++ c ∷ ys = cc in
    neither (x == c) (list_any (λ d. d == c) xs)
    (false_from_ne_true (x == c) (λ t. let same = eqb-true x c t in let le = above rest in
    let f : ⊥ = omega (arith, first, same, le) in f))
    (none_before p (from + 1) n xs ys c rest))
    (λ _ e. none_before p (from + 1) n (x ∷ xs) ys c e) is where
      others : List ℕ
      others = filter p (range_with_len (from + 1) n)

      above : others ≡ xs ++ c ∷ ys → from + 1 ≤ c
      above e = range_above c (from + 1) n
          (and_parts (p c) _ (sym (any_filter p c (range_with_len (from + 1) n))
          ∙ (ap (list_any (λ d. d == c)) e ∙ is_there xs ys c))).1

      neither : (a b : Bool) → a ≡ false → b ≡ false → (a || b) ≡ false
      neither a b s t = rw (s, t) refl

-- the members of a set are each there once: none is among those before it
pub not_before : (set : Colours) (xs ys : List ℕ) (c : ℕ) → xs ++ c ∷ ys ≡ members set → list_any (λ d. d == c) xs ≡ false
not_before set xs ys c is = none_before (has set) 0 MAX_COLOURS xs ys c (sym is)

-- a member of a list that passes
pub all_pass : (p : ℕ → Bool) (xs : List ℕ) (c : ℕ) → list_all p xs ≡ true → list_any (λ d. d == c) xs ≡ true
    → p c ≡ true
all_pass p [] c a m = absurd (let x : ⊥ = cc in x)
all_pass p (x ∷ xs) c a m =
    let both = and_parts (p x) (list_all p xs) a in
    elim (or_cases (x == c) (list_any (λ d. d == c) xs) m) [
      | inl e ↦ ap p (sym (eqb-true x c e)) ∙ both.0
      | inr i ↦ all_pass p xs c both.1 i
    ]
