-- What holds of each element of a list, by recursion.
use Rattle.std.proofs.Common.{◌≡◌, ℕ, zero, suc, ◌<◌, Bool, true, false, cond, List, [], ◌∷◌, ◌++◌, length}
use Rattle.std.proofs.Common.{get_or, drop, refl, sym, ap, ◌∙◌, arith, inl, inr}
use Rattle.std.specs.Prelude.{map, Some, ◌||◌, unwrap_or}
use Rattle.std.specs.List.{AllByRecursion, filter, find, list_all, list_any}
use Rattle.std.proofs.lemmas.Bool.{cond_both, cond-true, cond-false, or_parts, or_cases, cases_Bool, false≢true}
use Rattle.log_node.proofs.CallerLemmas.{same_some as some_inj}

module _ {X : Type 0} where
  pub each-weaker : (P Q : X → Type 0) → ((x : X) → P x → Q x) → (xs : List X) → AllByRecursion P xs →
      AllByRecursion Q xs
  each-weaker P Q f [] h = tt
  each-weaker P Q f (x ∷ xs) h = (f x h.0, each-weaker P Q f xs h.1)

  pub each-append : (P : X → Type 0) (xs ys : List X) → AllByRecursion P xs → AllByRecursion P ys →
      AllByRecursion P (xs ++ ys)
  each-append P [] ys a b = b
  each-append P (x ∷ xs) ys a b = (a.0, each-append P xs ys a.1 b)

  pub each-right : (P : X → Type 0) (xs ys : List X) → AllByRecursion P (xs ++ ys) → AllByRecursion P ys
  each-right P [] ys h = h
  each-right P (x ∷ xs) ys h = each-right P xs ys h.1

  pub each-at : (P : X → Type 0) (xs : List X) (n : ℕ) (d : X) → AllByRecursion P xs → n < length xs → P (get_or xs n d)
  each-at P [] n d h lt = absurd (omega arith)
  each-at P (x ∷ xs) zero d h lt = h.0
  each-at P (x ∷ xs) (suc n) d h lt = each-at P xs n d h.1 (omega arith)

  pub each-drop : (P : X → Type 0) (n : ℕ) (xs : List X) → AllByRecursion P xs → AllByRecursion P (drop n xs)
  each-drop P zero xs h = h
  each-drop P (suc n) [] h = tt
  each-drop P (suc n) (x ∷ xs) h = each-drop P n xs h.1

  pub each-map : {Y : Type 0} (f : Y → X) (P : X → Type 0) (ys : List Y) → AllByRecursion P (map f ys) →
      AllByRecursion (λ y. P (f y)) ys
  each-map f P [] h = tt
  each-map f P (y ∷ ys) h = (h.0, each-map f P ys h.1)

  pub each-of_map : {Y : Type 0} (f : Y → X) (P : X → Type 0) (ys : List Y) → AllByRecursion (λ y. P (f y)) ys →
      AllByRecursion P (map f ys)
  each-of_map f P [] h = tt
  each-of_map f P (y ∷ ys) h = (h.0, each-of_map f P ys h.1)

  pub each-filter : (P : X → Type 0) (p : X → Bool) (xs : List X) → AllByRecursion P xs → AllByRecursion P (filter p xs)
  each-filter P p [] h = tt
  each-filter P p (x ∷ xs) h = cond_both (p x) (x ∷ filter p xs) (filter p xs) (λ ys. AllByRecursion P ys)
      (λ _. (h.0, each-filter P p xs h.1)) (λ _. each-filter P p xs h.1)

  pub each-filtered : (p : X → Bool) (xs : List X) → AllByRecursion (λ x. p x ≡ true) (filter p xs)
  each-filtered p [] = tt
  each-filtered p (x ∷ xs) = cond_both (p x) (x ∷ filter p xs) (filter p xs)
      (λ ys. AllByRecursion (λ y. p y ≡ true) ys) (λ t. (t, each-filtered p xs)) (λ _. each-filtered p xs)

  pub filter-all : (p : X → Bool) (xs : List X) → AllByRecursion (λ x. p x ≡ true) xs → filter p xs ≡ xs
  filter-all p [] h = refl
  filter-all p (x ∷ xs) h = cond-true (p x) (x ∷ filter p xs) (filter p xs) h.0
      ∙ ap (λ ys. x ∷ ys) (filter-all p xs h.1)

  pub filter-none : (p : X → Bool) (xs : List X) → AllByRecursion (λ x. p x ≡ false) xs → filter p xs ≡ []
  filter-none p [] h = refl
  filter-none p (x ∷ xs) h = cond-false (p x) (x ∷ filter p xs) (filter p xs) h.0 ∙ filter-none p xs h.1

  pub list_all-each : (p : X → Bool) (xs : List X) → AllByRecursion (λ x. p x ≡ true) xs → list_all p xs ≡ true
  list_all-each p [] h = refl
  list_all-each p (x ∷ xs) h = let a = h.0 in let b = list_all-each p xs h.1 in rw (a, b) refl

  pub list_any-none : (p : X → Bool) (xs : List X) → AllByRecursion (λ x. p x ≡ false) xs → list_any p xs ≡ false
  list_any-none p [] h = refl
  list_any-none p (x ∷ xs) h = let a = h.0 in let b = list_any-none p xs h.1 in rw (a, b) refl

  pub each-list_any : (p : X → Bool) (xs : List X) → list_any p xs ≡ false → AllByRecursion (λ x. p x ≡ false) xs
  each-list_any p [] h = tt
  each-list_any p (x ∷ xs) h = let a = or_parts (p x) (list_any p xs) h in (a.0, each-list_any p xs a.1)

  pub find-skip : (p : X → Bool) (xs ys : List X) → AllByRecursion (λ x. p x ≡ false) xs → find p (xs ++ ys) ≡ find p ys
  find-skip p [] ys h = refl
  find-skip p (x ∷ xs) ys h = cond-false (p x) (Some x) (find p (xs ++ ys)) h.0 ∙ find-skip p xs ys h.1

  pub find-at : (p : X → Bool) (xs : List X) (n : ℕ) (d : X) → n < length xs → p (get_or xs n d) ≡ true →
      ((k : ℕ) → k < n → p (get_or xs k d) ≡ false) → find p xs ≡ Some (get_or xs n d)
  find-at p [] n d lt here before = absurd (omega arith)
  find-at p (x ∷ xs) zero d lt here before = cond-true (p x) (Some x) (find p xs) here
  find-at p (x ∷ xs) (suc n) d lt here before = cond-false (p x) (Some x) (find p xs) (before 0 (omega arith))
      ∙ find-at p xs n d (omega arith) here (λ k h. before (suc k) (omega arith))

  pub each-both : (P Q : X → Type 0) (xs : List X) → AllByRecursion P xs → AllByRecursion Q xs →
      AllByRecursion (λ x. P x × Q x) xs
  each-both P Q [] p q = tt
  each-both P Q (x ∷ xs) p q = ((p.0, q.0), each-both P Q xs p.1 q.1)

  -- the first element that passes, where one does
  pub find-some : (p : X → Bool) (P : X → Type 0) (xs : List X) → AllByRecursion P xs → list_any p xs ≡ true →
      (x : X) × (find p xs ≡ Some x) × (p x ≡ true) × P x
  find-some p P [] h e = absurd (false≢true e)
  find-some p P (x ∷ xs) h e = elim (cases_Bool (p x)) [
    | inl t ↦ (x, cond-true (p x) (Some x) (find p xs) t, t, h.0)
    | inr f ↦ let later : list_any p xs ≡ true = elim (or_cases (p x) (list_any p xs) e)
        [ inl t ↦ absurd (false≢true (sym f ∙ t)) | inr r ↦ r ] in
        let r = find-some p P xs h.1 later in (r.0, cond-false (p x) (Some x) (find p xs) f ∙ r.1, r.2, r.3)
  ]

pub cond-map : {X Y : Type 0} (f : X → Y) (b : Bool) (x y : X) → f (cond b x y) ≡ cond b (f x) (f y)
cond-map f true x y = refl
cond-map f false x y = refl

pub filter-map : {X Y : Type 0} (p : Y → Bool) (f : X → Y) (xs : List X) →
    filter p (map f xs) ≡ map f (filter (λ x. p (f x)) xs)
filter-map p f [] = refl
filter-map p f (x ∷ xs) =
    ap (λ ys. cond (p (f x)) (f x ∷ ys) ys) (filter-map p f xs)
    ∙ sym (cond-map (λ zs. map f zs) (p (f x)) (x ∷ filter (λ y. p (f y)) xs) (filter (λ y. p (f y)) xs))

pub list_any-map : {X Y : Type 0} (p : Y → Bool) (f : X → Y) (xs : List X) →
    list_any p (map f xs) ≡ list_any (λ x. p (f x)) xs
list_any-map p f [] = refl
list_any-map p f (x ∷ xs) = ap (λ b. p (f x) || b) (list_any-map p f xs)

pub find-map : {X Y : Type 0} (p : Y → Bool) (f : X → Y) (xs : List X) (x : X) → find (λ y. p (f y)) xs ≡ Some x →
    find p (map f xs) ≡ Some (f x)
find-map p f [] x e = absurd (let h : ⊥ = cc in h)
find-map p f (y ∷ ys) x e = elim (cases_Bool (p (f y))) [
  | inl t ↦ let same : y ≡ x = some_inj (sym (cond-true (p (f y)) (Some y) (find (λ z. p (f z)) ys) t) ∙ e) in
      cond-true (p (f y)) (Some (f y)) (find p (map f ys)) t ∙ ap (λ z. Some (f z)) same
  | inr n ↦ cond-false (p (f y)) (Some (f y)) (find p (map f ys)) n
      ∙ find-map p f ys x (sym (cond-false (p (f y)) (Some y) (find (λ z. p (f z)) ys) n) ∙ e)
]
