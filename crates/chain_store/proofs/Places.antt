-- Places in lists, and in the list of a set's members.
use Rattle.std.proofs.Common.{◌≡◌, ℕ, zero, suc, ◌+◌, ◌<◌, ◌≤◌, Bool, true, false, cond, List, [], ◌∷◌, ◌++◌, length}
use Rattle.std.proofs.Common.{map, get_or, Some, slice_get, refl, ap, sym, subst, ◌∙◌, arith, inl, inr, ◌⊎◌, ⊎_elim}
use Rattle.std.specs.List.{All, Contains, filter, range_with_len}
use Rattle.std.proofs.lemmas.Bool.{cases_eq, cases_order}
use Rattle.std.proofs.lemmas.Option.{slice_get_within, slice_get-get_or, get_or_from_slice_get}
use Rattle.log_node.specs.declared.limits.TheConstants.{MAX_COLOURS}
use Rattle.log_node.specs.declared.ids.Colours.{Colours}
use Rattle.log_node.specs.Sets.{has, members}
use Rattle.col_core.proofs.CallerLemmas.{if_true}
pub use Rattle.log_node.proofs.CallerLemmas.{get_within as got}
pub use Rattle.log_node.proofs.CallerLemmas.{get_map_back as image_at}
pub use Rattle.log_node.proofs.CallerLemmas.{get_map as at_image}

pub all_by : {A : Type 0} (P : A → Type 0) (xs : List A) → ((i : ℕ) (x : A) → slice_get xs i ≡ Some x → P x) → All P xs
all_by P xs h = λ i d lt. h i (get_or xs i d) (slice_get-get_or xs i d lt)

-- an element at a place is one of the list
pub contained : {A : Type 0} (xs : List A) (i : ℕ) (x : A) → slice_get xs i ≡ Some x → Contains xs x
contained xs i x at = (i, slice_get_within xs i x at, get_or_from_slice_get xs i x x at)

-- lists one behind another

pub got_split : {A : Type 0} (xs ys : List A) (i : ℕ) (x : A) → slice_get (xs ++ ys) i ≡ Some x
    → (slice_get xs i ≡ Some x) ⊎ ((j : ℕ) × (i ≡ length xs + j) × (slice_get ys j ≡ Some x))
got_split [] ys i x e = inr (i, omega arith, e)
got_split (y ∷ xs) ys zero x e = inl e
got_split (y ∷ xs) ys (suc i) x e = ⊎_elim (λ l. inl l)
    (λ r. let q = r.1 in inr (r.0, omega (arith, q), r.2)) (got_split xs ys i x e)

pub got_second : {A : Type 0} (xs ys : List A) (i : ℕ) (x : A) → slice_get ys i ≡ Some x
    → slice_get (xs ++ ys) (length xs + i) ≡ Some x
got_second {A} [] ys i x e = let z : i ≡ 0 + i = omega arith in subst (λ (k : ℕ). slice_get ys k ≡ Some x) z e
got_second {A} (y ∷ xs) ys i x e =
    let z : suc (length xs + i) ≡ suc (length xs) + i = omega arith in
    subst (λ (k : ℕ). slice_get ((y ∷ xs) ++ ys) k ≡ Some x) z (got_second xs ys i x e)

-- a place of the images of n numbers
pub range_place : {A : Type 0} (f : ℕ → A) (a n i : ℕ) (y : A) → slice_get (map f (range_with_len a n)) i ≡ Some y
    → (i < n) × (f (a + i) ≡ y)
range_place f a zero i y e = absurd cc
range_place f a (suc n) zero y e = (omega arith, let s : a + 0 ≡ a = omega arith in ap f s ∙ cc e)
range_place f a (suc n) (suc i) y e =
    let r = range_place f (a + 1) n i y e in
    let l = r.0 in
    let s : a + suc i ≡ a + 1 + i = omega arith in
    (omega (arith, l), ap f s ∙ r.1)

pub range_at : {A : Type 0} (f : ℕ → A) (a n i : ℕ) → i < n
    → slice_get (map f (range_with_len a n)) i ≡ Some (f (a + i))
range_at f a zero i lt = absurd (omega (arith, lt))
range_at f a (suc n) zero lt = let s : a ≡ a + 0 = omega arith in ap (λ j. Some (f j)) s
range_at f a (suc n) (suc i) lt =
    let s : a + 1 + i ≡ a + suc i = omega arith in
    range_at f (a + 1) n i (omega (arith, lt)) ∙ ap (λ j. Some (f j)) s

-- the first n numbers
pub first_place : {A : Type 0} (f : ℕ → A) (n i : ℕ) (y : A) → slice_get (map f (range_with_len 0 n)) i ≡ Some y
    → (i < n) × (f i ≡ y)
first_place f n i y e =
    let r = range_place f 0 n i y e in
    let s : i ≡ 0 + i = omega arith in
    (r.0, ap f s ∙ r.1)

pub first_at : {A : Type 0} (f : ℕ → A) (n i : ℕ) → i < n → slice_get (map f (range_with_len 0 n)) i ≡ Some (f i)
first_at f n i lt = let s : 0 + i ≡ i = omega arith in range_at f 0 n i lt ∙ ap (λ j. Some (f j)) s

-- a choice for each number below a bound
pub choose : {A : Type 0} (P : ℕ → A → Type 0) (n : ℕ) → 0 < n → ((c : ℕ) → c < n → (x : A) × P c x)
    → (f : ℕ → A) × ((c : ℕ) → c < n → P c (f c))
choose {A} P n some h = (λ c. (total c).0, λ c lt. (total c).1 lt) where
  total : (c : ℕ) → (x : A) × (c < n → P c x)
  total c = elim (cases_order c n) [
    | inl e ↦ ((h 0 some).0, λ lt. absurd (omega (arith, e, lt)))
    | inr (inl below) ↦ ((h c below).0, λ lt. (h c below).1)
    | inr (inr above) ↦ ((h 0 some).0, λ lt. absurd (omega (arith, above, lt)))
  ]

-- the members of a set are the colours that it has

passes : (test : ℕ → Bool) (xs : List ℕ) (i x : ℕ) → slice_get (filter test xs) i ≡ Some x → test x ≡ true
passes test [] i x at = absurd cc
passes test (y ∷ ys) i x at = by_case (test y) refl i at (λ j. passes test ys j x) where
  by_case : (b : Bool) → test y ≡ b → (i : ℕ)
      → slice_get (cond b (y ∷ filter test ys) (filter test ys)) i ≡ Some x
      → ((j : ℕ) → slice_get (filter test ys) j ≡ Some x → test x ≡ true) → test x ≡ true
  by_case true e zero at rest = let same : y ≡ x = cc at in sym (ap test same) ∙ e
  by_case true e (suc i) at rest = rest i at
  by_case false e i at rest = rest i at

passed : (test : ℕ → Bool) (c a n : ℕ) → a ≤ c → c < a + n → test c ≡ true
    → (i : ℕ) × (slice_get (filter test (range_with_len a n)) i ≡ Some c)
passed test c a zero le lt holds = absurd (omega (arith, le, lt))
passed test c a (suc n) le lt holds = elim (cases_eq c a) [
  | inl same ↦ (
    0,
    ap (λ l. slice_get l 0) (if_true (test a) (a ∷ filter test (range_with_len (a + 1) n))
        (filter test (range_with_len (a + 1) n)) (sym (ap test same) ∙ holds)) ∙ ap Some (sym same),
  )
  | inr other ↦ next (test a) (passed test c (a + 1) n (omega (arith, le, other)) (omega (arith, lt)) holds)
] where
  next : (b : Bool) → (i : ℕ) × (slice_get (filter test (range_with_len (a + 1) n)) i ≡ Some c)
      → (i : ℕ)
      × (slice_get (cond b (a ∷ filter test (range_with_len (a + 1) n)) (filter test (range_with_len (a + 1) n))) i
      ≡ Some c)
  next true r = (suc r.0, r.1)
  next false r = r

pub member_has : (set : Colours) (i c : ℕ) → slice_get (members set) i ≡ Some c → has set c ≡ true
member_has set i c at = passes (has set) (range_with_len 0 MAX_COLOURS) i c at

pub member_at : (set : Colours) (c : ℕ) → c < MAX_COLOURS → has set c ≡ true
    → (i : ℕ) × (slice_get (members set) i ≡ Some c)
member_at set c lt holds = passed (has set) c 0 MAX_COLOURS (omega arith) (omega (arith, lt)) holds
