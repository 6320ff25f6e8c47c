-- The begun rows of a region as a list: in order, and with different ids.
use Rattle.std.proofs.Common.{◌≡◌, ℕ, zero, suc, ◌+◌, ◌<◌, ◌≤◌, List, [], ◌∷◌, ◌++◌, length, map, Bool, true, false, cond, refl, subst, ap, sym, ◌∙◌, inl, inr, ◌⊎◌, arith, append-nil}
use Rattle.std.specs.Prelude.{◌==◌, ◌≢◌, if◌then◌else◌}
use Rattle.std.specs.List.{All, AllPairs, filter, flat_map, range_with_len}
use Rattle.std.proofs.lemmas.Bool.{eqb-true, eq-eqb, ne_eqb, cases_lt}
use Rattle.std.proofs.lemmas.List.Elements.{All-cons, All-nil, filter-append}
use Rattle.std.proofs.lemmas.List.Kept.{AllPairs-cons}
use Rattle.std.proofs.lemmas.List.FromFn.{length-map-range_with_len}
use Rattle.log_node.specs.declared.ids.Id.{Id}
use Rattle.log_node.specs.declared.ids.Row.{Row}
use Rattle.col_core.specs.Rows.{BegunRow, is_of}
use Rattle.col_core.proofs.CallerLemmas.{choice, by_test, if_true, if_false, apart, In}
use Rattle.world_laws.specs.Worlds.{World, home_of}
use Rattle.world_laws.specs.Laws.{begun_row, rows_of_client, rows_of_region}
use Rattle.world_laws.proofs.Basics.{in_append, in_left, in_right}
use Rattle.world_laws.proofs.Held.{OfRow, Held}
use Rattle.world_laws.proofs.Clients.{in_flat_map}
use Rattle.world_laws.proofs.Told.{Told}
use Rattle.col_core.proofs.CallerLemmas.{range_has as range_in}
use Rattle.col_core.proofs.CallerLemmas.{in_range}
use Rattle.col_core.proofs.CallerLemmas.{in_map-back as map_in}
use Rattle.col_core.proofs.CallerLemmas.{in_flat_map-back as flat_map_in}
pub use Rattle.col_core.proofs.CallerLemmas.{in_map}
pub use Rattle.col_core.proofs.CallerLemmas.{all_in}

-- Lists

-- the relation holds of each element and each later one
pub Pairs : {A : Type 0} → (A → A → Type 0) → List A → Type 0
Pairs R [] = Unit {0}
Pairs {A} R (x ∷ xs) = ((y : A) → In y xs → R x y) × Pairs R xs

pairs_append : {A : Type 0} (R : A → A → Type 0) (xs ys : List A) → Pairs R xs → Pairs R ys
    → ((x y : A) → In x xs → In y ys → R x y) → Pairs R (xs ++ ys)
unfolding Pairs
pairs_append R [] ys a b h = b
pairs_append {A} R (x ∷ xs) ys a b h =
    (λ y i. turn y (in_append y xs ys i), pairs_append R xs ys a.1 b (λ y z i j. h y z (inr i) j)) where
      turn : (y : A) → In y xs ⊎ In y ys → R x y
      turn y (inl i) = a.0 y i
      turn y (inr i) = h x y (inl refl) i

pub pairs_all : {A : Type 0} (R : A → A → Type 0) (xs : List A) → Pairs R xs → AllPairs R xs
unfolding Pairs
pairs_all R [] h = λ i j d lt within. absurd (let f : ⊥ = omega (arith, within) in f)
pairs_all R (x ∷ xs) h = AllPairs-cons R x xs (all_in (R x) xs h.0) (pairs_all R xs h.1)

cond_same : {A : Type 0} (b : Bool) (x : A) → cond b x x ≡ x
cond_same true x = refl
cond_same false x = refl

-- The list of a region's rows

abbrev pub row_at : ℕ → ℕ → Row
row_at a n = record { client = a; number = n }

abbrev pub row_in : World → ℕ → ℕ → BegunRow
row_in w a n = begun_row w (row_at a n)

-- a client's rows, if it is of the region
abbrev pub home_rows : World → ℕ → ℕ → List BegunRow
home_rows w region a = if home_of w a == region then rows_of_client w a else []

-- what stands in the list is a begun row of a client of the region
pub record OfRegion (w : World) (region a : ℕ) (x : BegunRow) : Type 0 where
  pub number : ℕ
  pub begun : number < (w.clients a).used
  pub home : home_of w a ≡ region
  pub is : row_in w a number ≡ x

pub of_home : (w : World) (region a : ℕ) (x : BegunRow) → In x (home_rows w region a) → OfRegion w region a x
of_home w region a x =
    choice (λ (l : List BegunRow). In x l → OfRegion w region a x) (home_of w a == region) (rows_of_client w a) []
    (λ t i.
    let r = in_map (row_in w a) (range_with_len 0 (w.clients a).used) x i in
    let k = in_range 0 (w.clients a).used r.0 r.1 in
    let lt = k.1 in
    record { number = r.0; begun = omega (arith, lt); home = eqb-true (home_of w a) region t; is = r.2 })
    (λ _ i. absurd i)

pub of_region : (w : World) (region : ℕ) (x : BegunRow) → In x (rows_of_region w region)
    → (a : ℕ) × OfRegion w region a x
of_region w region x i =
    let r = in_flat_map (home_rows w region) (range_with_len 0 (length w.shape.homes)) x i in
    (r.0, of_home w region r.0 x r.2)

pub row_stands : (w : World) → Told w → (region a n : ℕ) → n < (w.clients a).used → home_of w a ≡ region
    → In (row_in w a n) (rows_of_region w region)
row_stands w t region a n lt home =
    let client = t.clients a n lt in
    flat_map_in (home_rows w region) (range_with_len 0 (length w.shape.homes)) a (row_in w a n)
    (range_in 0 (length w.shape.homes) a (omega arith) (omega (arith, client)))
    (choice (λ (l : List BegunRow). In (row_in w a n) l) (home_of w a == region) (rows_of_client w a) []
    (λ _. map_in (row_in w a) (range_with_len 0 (w.clients a).used) n
    (range_in 0 (w.clients a).used n (omega arith) (omega (arith, lt))))
    (λ f. absurd (apart (home_of w a == region) (eq-eqb (home_of w a) region home) f)))

-- Rows are begun in order

abbrev pub IsCounted : List BegunRow → Type 0
IsCounted xs = map (λ (r : BegunRow). r.row.number) xs ≡ range_with_len 0 (length xs)

numbers_are : (w : World) (a : ℕ) (ns : List ℕ) → map (λ (r : BegunRow). r.row.number) (map (row_in w a) ns) ≡ ns
numbers_are w a [] = refl
numbers_are w a (n ∷ ns) = ap (λ (l : List ℕ). n ∷ l) (numbers_are w a ns)

client_counted : (w : World) (region a : ℕ) → IsCounted (home_rows w region a)
client_counted w region a =
    choice IsCounted (home_of w a == region) (rows_of_client w a) []
    (λ _. numbers_are w a (range_with_len 0 (w.clients a).used) ∙ ap (range_with_len 0)
    (sym (length-map-range_with_len (row_in w a) 0 (w.clients a).used)))
    (λ _. refl)

filter_rows : (w : World) (c a : ℕ) (ns : List ℕ)
    → filter (is_of c) (map (row_in w a) ns) ≡ cond (a == c) (map (row_in w a) ns) []
filter_rows w c a [] = sym (cond_same (a == c) [])
filter_rows w c a (n ∷ ns) =
    by_test _ (a == c)
    (λ t. if_true (a == c) _ _ t
    ∙ (ap (λ (l : List BegunRow). row_in w a n ∷ l) (filter_rows w c a ns ∙ if_true (a == c) _ _ t) ∙ sym
    (if_true (a == c) _ _ t)))
    (λ f. if_false (a == c) _ _ f ∙ (filter_rows w c a ns ∙ (if_false (a == c) _ _ f ∙ sym (if_false (a == c) _ _ f))))

filter_home : (w : World) (region c a : ℕ)
    → filter (is_of c) (home_rows w region a) ≡ cond (a == c) (home_rows w region a) []
filter_home w region c a =
    choice (λ (l : List BegunRow). filter (is_of c) l ≡ cond (a == c) l []) (home_of w a == region)
    (rows_of_client w a) []
    (λ _. filter_rows w c a (range_with_len 0 (w.clients a).used)) (λ _. sym (cond_same (a == c) []))

pub filter_step : (w : World) (region c b k : ℕ)
    → filter (is_of c) (flat_map (home_rows w region) (range_with_len b (suc k))) ≡ cond (b == c)
    (home_rows w region b) [] ++ filter (is_of c) (flat_map (home_rows w region) (range_with_len (b + 1) k))
filter_step w region c b k =
    filter-append (is_of c) (home_rows w region b) (flat_map (home_rows w region) (range_with_len (b + 1) k))
    ∙ ap (λ (l : List BegunRow). l ++ filter (is_of c) (flat_map (home_rows w region) (range_with_len (b + 1) k)))
    (filter_home w region c b)

pub none_later : (w : World) (region c b k : ℕ) → c < b
    → filter (is_of c) (flat_map (home_rows w region) (range_with_len b k)) ≡ []
none_later w region c b zero lt = refl
none_later w region c b (suc k) lt =
    filter_step w region c b k
    ∙ (ap (λ (l : List BegunRow). l ++ filter (is_of c) (flat_map (home_rows w region) (range_with_len (b + 1) k)))
    (if_false (b == c) _ _ (ne_eqb b c (λ e. let f : ⊥ = omega (arith, e, lt) in f)))
    ∙ none_later w region c (b + 1) k (omega (arith, lt)))

pub counted : (w : World) (region c b k : ℕ)
    → IsCounted (filter (is_of c) (flat_map (home_rows w region) (range_with_len b k)))
counted w region c b zero = refl
counted w region c b (suc k) =
    let rest = filter (is_of c) (flat_map (home_rows w region) (range_with_len (b + 1) k)) in
    subst IsCounted (sym (filter_step w region c b k))
    (choice (λ (l : List BegunRow). IsCounted (l ++ rest)) (b == c) (home_rows w region b) []
    (λ t. subst (λ (l : List BegunRow). IsCounted (home_rows w region b ++ l))
    (sym (none_later w region c (b + 1) k (let e = eqb-true b c t in omega (arith, e))))
    (subst IsCounted (sym (append-nil (home_rows w region b))) (client_counted w region b)))
    (λ _. counted w region c (b + 1) k))

-- Rows have different ids

-- two rows with one id are one
pub same_number : (w : World) (h : Held w) (a n b m : ℕ) → n < (w.clients a).used → m < (w.clients b).used
    → (w.rows a n).node.id ≡ (w.rows b m).node.id → (a ≡ b) × (n ≡ m)
same_number w h a n b m ln lm e =
    let x = h.rows a n ln in
    let y = h.rows b m lm in
    let k : OfRow n ≡ OfRow m = sym x.of_id ∙ (ap h.kind e ∙ y.of_id) in
    (sym x.of_client ∙ (ap (λ (i : Id). i.client) e ∙ y.of_client), cc)

abbrev pub Differ : BegunRow → BegunRow → Type 0
Differ r s = r.node.id ≢ s.node.id

client_pairs : (w : World) (h : Held w) (a b k : ℕ) → b + k ≤ (w.clients a).used
    → Pairs Differ (map (row_in w a) (range_with_len b k))
unfolding Pairs
client_pairs w h a b zero le = tt
client_pairs w h a b (suc k) le = (
  λ y i e.
      let r = in_map (row_in w a) (range_with_len (b + 1) k) y i in
      let x = in_range (b + 1) k r.0 r.1 in
      let low = x.0 in
      let high = x.1 in
      let same = same_number w h a b a r.0 (omega (arith, le)) (omega (arith, le, high))
      (e ∙ ap (λ (s : BegunRow). s.node.id) (sym r.2)) in
      let number = same.1 in
      let f : ⊥ = omega (arith, low, number) in f,
  client_pairs w h a (b + 1) k (omega (arith, le)),
)

pub region_pairs : (w : World) (h : Held w) (region b k : ℕ)
    → Pairs Differ (flat_map (home_rows w region) (range_with_len b k))
unfolding Pairs
region_pairs w h region b zero = tt
region_pairs w h region b (suc k) =
    pairs_append Differ (home_rows w region b) (flat_map (home_rows w region) (range_with_len (b + 1) k))
    (choice (Pairs Differ) (home_of w b == region) (rows_of_client w b) []
    (λ _. client_pairs w h b 0 (w.clients b).used (omega arith)) (λ _. tt))
    (region_pairs w h region (b + 1) k)
    (λ x y i j e.
    let p = of_home w region b x i in
    let r = in_flat_map (home_rows w region) (range_with_len (b + 1) k) y j in
    let q = of_home w region r.0 y r.2 in
    let low = (in_range (b + 1) k r.0 r.1).0 in
    let same = same_number w h b p.number r.0 q.number p.begun q.begun
    (ap (λ (s : BegunRow). s.node.id) p.is ∙ (e ∙ ap (λ (s : BegunRow). s.node.id) (sym q.is))) in
    let client = same.0 in
    let f : ⊥ = omega (arith, low, client) in f)
