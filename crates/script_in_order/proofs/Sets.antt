-- Sets of colours, gone through member by member.
use Rattle.std.proofs.Common.{◌≡◌, ℕ, ◌<◌, true, List, [], ◌∷◌, ◌++◌, length, map, inl, inr}
use Rattle.std.proofs.Common.{Some, None, slice_get, refl, ap, sym, ◌∙◌, arith, append_assoc, append-nil, eq-eqb}
use Rattle.std.specs.Prelude.{◌==◌}
use Rattle.std.specs.List.{All, list_any}
use Rattle.std.proofs.lemmas.Bool.{or_cases, or_left, or_right, true≢false}
use Rattle.std.proofs.lemmas.List.Elements.{All-nil, All-cons, All-head, All-rest, All-same}
use Rattle.log_node.specs.declared.ids.Colours.{Colours}
use Rattle.log_node.specs.Sets.{members}
use Rattle.script_text.specs.Fitting.{AreBelow}

-- where a set has one colour
pub some_item : {A : Type 0} (xs : List A) → length xs ≡ 1 → slice_get xs 0 ≡ None → ⊥
some_item [] e n = omega (arith, e)
some_item (x ∷ xs) e n = let f : ⊥ = cc in f

pub only_item : {A : Type 0} (xs : List A) (x : A) → length xs ≡ 1 → slice_get xs 0 ≡ Some x → xs ≡ x ∷ []
only_item [] x e s = absurd (let f : ⊥ = omega (arith, e) in f)
only_item (y ∷ []) x e s = let f : y ≡ x = cc in ap (λ z. z ∷ []) f
only_item (y ∷ z ∷ zs) x e s = absurd (let f : ⊥ = omega (arith, e) in f)

-- The colours that are left of a set whose colours are all below a number

-- all of them
pub low_first : (n : ℕ) (set : Colours) (left : List ℕ) → left ≡ members set → AreBelow n set → All (λ c. c < n) left
low_first n set left all low = All-same (λ c. c < n) left (members set) all low

-- the next one
pub low_next : (n c : ℕ) (left rest : List ℕ) → left ≡ c ∷ rest → All (λ d. d < n) left → c < n
low_next n c left rest e low = All-head (λ d. d < n) c rest (All-same (λ d. d < n) (c ∷ rest) left (sym e) low)

-- those behind it
pub low_rest : (n c : ℕ) (left rest : List ℕ) → left ≡ c ∷ rest → All (λ d. d < n) left → All (λ d. d < n) rest
low_rest n c left rest e low = All-rest (λ d. d < n) c rest left e low

-- what holds of each number that is there
pub each_there : (P : ℕ → Type 0) (xs : List ℕ) → ((c : ℕ) → list_any (λ d. d == c) xs ≡ true → P c) → All P xs
each_there P [] h = All-nil P
each_there P (x ∷ xs) h =
    All-cons P x xs (h x (or_left (x == x) _ (eq-eqb x x refl))) (each_there P xs (λ c i. h c (or_right (x == c) _ i)))

-- what is there is there before others
pub any_left : (xs ys : List ℕ) (c : ℕ) → list_any (λ d. d == c) xs ≡ true → list_any (λ d. d == c) (xs ++ ys) ≡ true
any_left [] ys c i = absurd (true≢false (sym i))
any_left (x ∷ xs) ys c i = elim (or_cases (x == c) (list_any (λ d. d == c) xs) i) [
  | inl here ↦ or_left (x == c) _ here
  | inr there ↦ or_right (x == c) _ (any_left xs ys c there)
]

-- Lists that are made colour by colour: what is there, and what is made of the colours that are left, is the whole

module _ {A : Type 0} (f : ℕ → A) (all : List A) where
  pub made_first : (made : List A) (left colours : List ℕ) → made ≡ [] → left ≡ colours → map f colours ≡ all
      → made ++ map f left ≡ all
  made_first made left colours none is whole = ap (λ (l : List A). l ++ map f left) none ∙ (ap (map f) is ∙ whole)

  pub made_next : (old new : List A) (x : A) (c : ℕ) (left rest : List ℕ) → left ≡ c ∷ rest → new ≡ old ++ x ∷ []
      → x ≡ f c → old ++ map f left ≡ all → new ++ map f rest ≡ all
  made_next old new x c left rest e is same was =
      ap (λ (l : List A). l ++ map f rest) is
      ∙ (append_assoc old (x ∷ []) (map f rest)
      ∙ (ap (λ (y : A). old ++ y ∷ map f rest) same ∙ (ap (λ (l : List ℕ). old ++ map f l) (sym e) ∙ was)))

  pub made_all : (made : List A) (left : List ℕ) → left ≡ [] → made ++ map f left ≡ all → made ≡ all
  made_all made left none was = sym (append-nil made) ∙ (ap (λ (l : List ℕ). made ++ map f l) (sym none) ∙ was)
