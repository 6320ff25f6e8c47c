-- A client's own steps stand at places each of which is there once; beginnings of lists of such places.
use Rattle.std.proofs.Common.{◌≡◌, ℕ, ◌+◌, ◌<◌, ◌≤◌, List, [], ◌∷◌, ◌++◌, refl, ap, sym, subst, ◌∙◌, ◌⊎◌, inl, inr, arith}
use Rattle.std.specs.Prelude.{◌==◌, ◌&&◌, max}
use Rattle.col_core.specs.declared.Entry.{Entry}
use Rattle.col_core.specs.Log.{is_own, places_from}
use Rattle.col_core.specs.Keeping.{seen_past}
use Rattle.col_core.proofs.CallerLemmas.{In, choice, in_right}

-- each is there once
abbrev pub Once : List ℕ → Type 0
Once [] = Unit {0}
Once (x ∷ xs) = (In x xs → ⊥) × Once xs

-- what is in the one of two lists behind one another is not in the other
pub once_apart : (xs ys : List ℕ) (p : ℕ) → Once (xs ++ ys) → In p xs → In p ys → ⊥
once_apart [] ys p o i j = absurd i
once_apart (x ∷ xs) ys p o (inl e) j =
    o.0 (subst (λ (n : ℕ). In n (xs ++ ys)) (sym e) (in_right p xs ys j))
once_apart (x ∷ xs) ys p o (inr i) j = once_apart xs ys p o.1 i j

pub once_behind : (xs ys : List ℕ) → Once (xs ++ ys) → Once ys
once_behind [] ys o = o
once_behind (x ∷ xs) ys o = once_behind xs ys o.1

places_least : (from client : ℕ) (h : List Entry) (p : ℕ) → In p (places_from from client h) → from ≤ p
places_least from client [] p i = absurd i
places_least from client (e ∷ es) p i =
    turn (places_least (from + 1) client es p)
    (choice (λ (l : List ℕ). In p l → (from ≡ p) ⊎ In p (places_from (from + 1) client es))
    ((e.by == client) && is_own client e.event) (from ∷ places_from (from + 1) client es)
    (places_from (from + 1) client es) (λ t k. k) (λ f k. inr k) i) where
      turn : (In p (places_from (from + 1) client es) → from + 1 ≤ p) → (from ≡ p) ⊎ In p (places_from (from + 1) client es)
          → from ≤ p
      turn more (inl s) = omega (arith, s)
      turn more (inr j) = let r = more j in omega (arith, r)

pub places_once : (from client : ℕ) (h : List Entry) → Once (places_from from client h)
places_once from client [] = tt
places_once from client (e ∷ es) =
    choice Once ((e.by == client) && is_own client e.event) (from ∷ places_from (from + 1) client es)
    (places_from (from + 1) client es)
    (λ t. (
      λ i. let r = places_least (from + 1) client es from i in let f : ⊥ = omega (arith, r) in f,
      places_once (from + 1) client es,
    ))
    (λ f. places_once (from + 1) client es)

-- each is below all that stand behind it
abbrev pub Climbs : List ℕ → Type 0
Climbs [] = Unit {0}
Climbs (x ∷ xs) = ((p : ℕ) → In p xs → x < p) × Climbs xs

pub places_climb : (from client : ℕ) (h : List Entry) → Climbs (places_from from client h)
places_climb from client [] = tt
places_climb from client (e ∷ es) =
    choice Climbs ((e.by == client) && is_own client e.event) (from ∷ places_from (from + 1) client es)
    (places_from (from + 1) client es)
    (λ t. (λ p i. let r = places_least (from + 1) client es p i in omega (arith, r), places_climb (from + 1) client es))
    (λ f. places_climb (from + 1) client es)

pub climbs_apart : (xs ys : List ℕ) (p q : ℕ) → Climbs (xs ++ ys) → In p xs → In q ys → p < q
climbs_apart [] ys p q o i j = absurd i
climbs_apart (x ∷ xs) ys p q o (inl e) j = subst (λ (n : ℕ). n < q) e (o.0 q (in_right q xs ys j))
climbs_apart (x ∷ xs) ys p q o (inr i) j = climbs_apart xs ys p q o.1 i j

pub climbs_behind : (xs ys : List ℕ) → Climbs (xs ++ ys) → Climbs ys
climbs_behind [] ys o = o
climbs_behind (x ∷ xs) ys o = climbs_behind xs ys o.1

-- who sees so many events and makes these sees none from a place on that is behind them all
pub seen_below : (places : List ℕ) (seen q : ℕ) → seen ≤ q → ((p : ℕ) → In p places → p < q)
    → seen_past seen places ≤ q
seen_below [] seen q le f = le
seen_below (x ∷ xs) seen q le f =
    seen_below xs (max seen (x + 1)) q (let l = f x (inl refl) in omega (arith, le, l)) (λ p i. f p (inr i))

seen_least : (places : List ℕ) (seen : ℕ) → seen ≤ seen_past seen places
seen_least [] seen = omega arith
seen_least (x ∷ xs) seen = let l = seen_least xs (max seen (x + 1)) in omega (arith, l)

-- and has seen each that it made
pub seen_made : (places : List ℕ) (seen p : ℕ) → In p places → p < seen_past seen places
seen_made [] seen p i = absurd i
seen_made (x ∷ xs) seen p (inl e) = let l = seen_least xs (max seen (x + 1)) in omega (arith, e, l)
seen_made (x ∷ xs) seen p (inr i) = seen_made xs (max seen (x + 1)) p i

-- what stands behind one beginning
pub behind_same : {A : Type 0} (xs us vs : List A) → xs ++ us ≡ xs ++ vs → us ≡ vs
behind_same [] us vs e = e
behind_same (x ∷ xs) us vs e = behind_same xs us vs (let f : xs ++ us ≡ xs ++ vs = cc (e) in f)

-- beginnings of which nothing stands behind the other are one
pub one_beginning : {A : Type 0} (xs ys us vs : List A) → xs ++ us ≡ ys ++ vs → ((p : A) → In p xs → In p vs → ⊥)
    → ((p : A) → In p ys → In p us → ⊥) → xs ≡ ys
one_beginning [] [] us vs e f g = refl
one_beginning {A} [] (y ∷ ys) us vs e f g =
    absurd (g y (inl refl) (subst (λ (l : List A). In y l) (sym e) (inl refl)))
one_beginning {A} (x ∷ xs) [] us vs e f g = absurd (f x (inl refl) (subst (λ (l : List A). In x l) e (inl refl)))
one_beginning {A} (x ∷ xs) (y ∷ ys) us vs e f g =
    let h : x ≡ y = cc (e) in
    let t : xs ++ us ≡ ys ++ vs = cc (e) in
    ap (λ (n : A). n ∷ xs) h
    ∙ ap (λ (l : List A). y ∷ l) (one_beginning xs ys us vs t (λ p i. f p (inr i)) (λ p i. g p (inr i)))

-- and those before one place that is there once
pub one_before : (g : ℕ) (xs ys us vs : List ℕ) → xs ++ g ∷ us ≡ ys ++ g ∷ vs → Once (xs ++ g ∷ us)
    → Once (ys ++ g ∷ vs) → xs ≡ ys
one_before g [] [] us vs e o q = refl
one_before g [] (y ∷ ys) us vs e o q =
    let h : g ≡ y = cc (e) in absurd (q.0 (in_right y ys (g ∷ vs) (inl h)))
one_before g (x ∷ xs) [] us vs e o q =
    let h : x ≡ g = cc (e) in absurd (o.0 (in_right x xs (g ∷ us) (inl (sym h))))
one_before g (x ∷ xs) (y ∷ ys) us vs e o q =
    let h : x ≡ y = cc (e) in
    let t : xs ++ g ∷ us ≡ ys ++ g ∷ vs = cc (e) in
    ap (λ (n : ℕ). n ∷ xs) h ∙ ap (λ (l : List ℕ). y ∷ l) (one_before g xs ys us vs t o.1 q.1)
