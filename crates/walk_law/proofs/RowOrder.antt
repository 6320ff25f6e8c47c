-- Rows that rise by region and client are listed by these.
use Rattle.std.proofs.Common.{◌≡◌, ◌∙◌, ◌⊎◌, inl, inr, ℕ, zero, suc, ◌+◌, ◌<◌, ◌≤◌, Bool, true, false, List, [], ◌∷◌, ◌++◌, length, map, refl, ap, sym, subst, arith, cond, eq-eqb}
use Rattle.std.specs.Prelude.{◌==◌, slice_index_or}
use Rattle.std.specs.List.{filter, flat_map, range_with_len}
use Rattle.std.specs.List.Sorted.{IsNonDecreasing}
use Rattle.std.proofs.lemmas.Bool.{cases_lt, eqb-true, false_from_ne_true}
use Rattle.col_core.specs.Rows.{BegunRow}
use Rattle.col_core.proofs.CallerLemmas.{In, if_false, if_true, in_filter}
use Rattle.report_text.specs.declared.report.RowReport.{RowReport}
use Rattle.run_rules.specs.Telling.{is_in}
use Rattle.walk_law.specs.Listed.{ClientsRise, RisesFrom, RisesIf}

-- BY REGION

abbrev flat : List RowReport → ℕ → ℕ → List RowReport
flat rows from k = flat_map (λ region. filter (is_in region) rows) (range_with_len from k)

-- no row is of a region below the first
rises_low : (last regions : ℕ) (rows : List RowReport) → RisesFrom last regions rows → (r : ℕ) → r < last
    → filter (is_in r) rows ≡ []
rises_low last regions [] h r lt = refl
rises_low last regions (x ∷ xs) h r lt =
    let le = h.0 in
    if_false (x.region == r) (x ∷ filter (is_in r) xs) (filter (is_in r) xs)
    (false_from_ne_true (x.region == r) (λ t. let e = eqb-true x.region r t in let f : ⊥ = omega (arith, le, lt, e) in f))
    ∙ rises_low x.region regions xs h.2 r (omega (arith, le, lt))

same_flat : (f g : ℕ → List RowReport) (from k : ℕ) → ((r : ℕ) → from ≤ r → r < from + k → f r ≡ g r)
    → flat_map f (range_with_len from k) ≡ flat_map g (range_with_len from k)
same_flat f g from zero same = refl
same_flat f g from (suc k) same =
    ap (λ (l : List RowReport). l ++ flat_map f (range_with_len (from + 1) k)) (same from (omega arith) (omega arith))
    ∙ ap (λ (l : List RowReport). g from ++ l)
    (same_flat f g (from + 1) k (λ r le lt. same r (omega (arith, le)) (omega (arith, lt))))

-- a row stands before those behind it
with_first : (x : RowReport) (xs : List RowReport) (regions : ℕ) → RisesFrom x.region regions xs → (from k : ℕ)
    → from ≤ x.region → x.region < from + k → flat (x ∷ xs) from k ≡ x ∷ flat xs from k
with_first x xs regions h from zero le lt = absurd (let f : ⊥ = omega (arith, le, lt) in f)
with_first x xs regions h from (suc k) le lt =
    turn (cases_lt from x.region) (λ less. with_first x xs regions h (from + 1) k (omega (arith, less)) (omega (arith, lt))) where
      other : (r : ℕ) → (x.region ≡ r → ⊥) → filter (is_in r) (x ∷ xs) ≡ filter (is_in r) xs
      other r differs =
          if_false (x.region == r) (x ∷ filter (is_in r) xs) (filter (is_in r) xs)
          (false_from_ne_true (x.region == r) (λ t. differs (eqb-true x.region r t)))

      turn : (from < x.region) ⊎ (x.region ≤ from)
          → (from < x.region → flat (x ∷ xs) (from + 1) k ≡ x ∷ flat xs (from + 1) k)
          → filter (is_in from) (x ∷ xs) ++ flat (x ∷ xs) (from + 1) k ≡ x ∷ (filter (is_in from) xs ++ flat xs (from + 1) k)
      turn (inl less) more =
          ap (λ (l : List RowReport). l ++ flat (x ∷ xs) (from + 1) k)
          (other from (λ e. let f : ⊥ = omega (arith, less, e) in f) ∙ rises_low x.region regions xs h from less)
          ∙ (more less
          ∙ ap (λ (l : List RowReport). x ∷ (l ++ flat xs (from + 1) k)) (sym (rises_low x.region regions xs h from less)))
      turn (inr most) more =
          let same : x.region ≡ from = omega (arith, le, most) in
          ap (λ (l : List RowReport). l ++ flat (x ∷ xs) (from + 1) k)
          (if_true (x.region == from) (x ∷ filter (is_in from) xs) (filter (is_in from) xs) (eq-eqb x.region from same))
          ∙ ap (λ (l : List RowReport). x ∷ (filter (is_in from) xs ++ l))
          (same_flat (λ r. filter (is_in r) (x ∷ xs)) (λ r. filter (is_in r) xs) (from + 1) k
          (λ r low high. other r (λ e. let f : ⊥ = omega (arith, low, e, same) in f)))

none_flat : (from k : ℕ) → flat [] from k ≡ []
none_flat from zero = refl
none_flat from (suc k) = none_flat (from + 1) k

pub listed_by_region : (regions : ℕ) (rows : List RowReport) (last : ℕ) → RisesFrom last regions rows
    → flat rows 0 regions ≡ rows
listed_by_region regions [] last h = none_flat 0 regions
listed_by_region regions (x ∷ xs) last h =
    let lt = h.1 in
    with_first x xs regions h.2 0 regions (omega arith) (omega (arith, lt))
    ∙ ap (λ (l : List RowReport). x ∷ l) (listed_by_region regions xs x.region h.2)

-- and the other way

rises_behind : (xs ys : List RowReport) (r last regions : ℕ) → ((p : RowReport) → In p xs → p.region ≡ r) → last ≤ r
    → r < regions → ((l : ℕ) → l ≤ r → RisesFrom l regions ys) → RisesFrom last regions (xs ++ ys)
rises_behind [] ys r last regions of le lt rest = rest last le
rises_behind (x ∷ xs) ys r last regions of le lt rest =
    let e = of x (inl refl) in (
      omega (arith, le, e),
      omega (arith, lt, e),
      rises_behind xs ys r x.region regions (λ p i. of p (inr i)) (omega (arith, e)) lt rest,
    )

rises_flat : (g : ℕ → List RowReport) (regions k from last : ℕ) → ((r : ℕ) (p : RowReport) → In p (g r) → p.region ≡ r)
    → last ≤ from → from + k ≤ regions → RisesFrom last regions (flat_map g (range_with_len from k))
rises_flat g regions zero from last of le most = tt
rises_flat g regions (suc k) from last of le most =
    rises_behind (g from) (flat_map g (range_with_len (from + 1) k)) from last regions (of from) le (omega (arith, most))
    (λ l low. rises_flat g regions k (from + 1) l of (omega (arith, low)) (omega (arith, most)))

pub rises_listed : (regions : ℕ) (rows : List RowReport) → rows ≡ flat rows 0 regions → RisesFrom 0 regions rows
rises_listed regions rows is =
    subst (λ (l : List RowReport). RisesFrom 0 regions l) (sym is)
    (rises_flat (λ r. filter (is_in r) rows) regions regions 0 0
    (λ r p i. eqb-true p.region r (in_filter (is_in r) p rows i).1) (omega arith) (omega arith))

-- BY CLIENT

abbrev Rising : ℕ → List ℕ → Type 0
Rising last [] = Unit {0}
Rising last (c ∷ cs) = (last ≤ c) × Rising c cs

abbrev clients : ℕ → List RowReport → List ℕ
clients region rows = map (λ (r : RowReport). r.row.client) (filter (is_in region) rows)

clients_to : (region last : ℕ) (rows : List RowReport) → ClientsRise region last rows → Rising last (clients region rows)
clients_to region last [] h = tt
clients_to region last (x ∷ xs) h = at (x.region == region) h (λ l. clients_to region l xs) where
  at : (b : Bool) → RisesIf b last x.row.client (λ l. ClientsRise region l xs)
      → ((l : ℕ) → ClientsRise region l xs → Rising l (clients region xs))
      → Rising last (map (λ (r : RowReport). r.row.client) (cond b (x ∷ filter (is_in region) xs) (filter (is_in region) xs)))
  at true r more = (r.0, more x.row.client r.1)
  at false r more = more last r

clients_from : (region last : ℕ) (rows : List RowReport) → Rising last (clients region rows) → ClientsRise region last rows
clients_from region last [] h = tt
clients_from region last (x ∷ xs) h = at (x.region == region) h (λ l. clients_from region l xs) where
  at : (b : Bool)
      → Rising last (map (λ (r : RowReport). r.row.client) (cond b (x ∷ filter (is_in region) xs) (filter (is_in region) xs)))
      → ((l : ℕ) → Rising l (clients region xs) → ClientsRise region l xs)
      → RisesIf b last x.row.client (λ l. ClientsRise region l xs)
  at true r more = (r.0, more x.row.client r.1)
  at false r more = more last r

above : (last : ℕ) (cs : List ℕ) → Rising last cs → (j d : ℕ) → j < length cs → last ≤ slice_index_or cs j d
above last [] r j d lt = absurd (let f : ⊥ = omega (arith, lt) in f)
above last (c ∷ cs) r zero d lt = r.0
above last (c ∷ cs) r (suc j) d lt =
    let le = r.0 in let more = above c cs r.1 j d (omega (arith, lt)) in omega (arith, le, more)

rising_to : (last : ℕ) (cs : List ℕ) → Rising last cs → IsNonDecreasing cs
rising_to last [] r = λ i j d le lt. absurd (let f : ⊥ = omega (arith, lt) in f)
rising_to last (c ∷ cs) r = at (rising_to c cs r.1) where
  at : IsNonDecreasing cs → IsNonDecreasing (c ∷ cs)
  at rest zero zero d le lt = omega arith
  at rest zero (suc j) d le lt = above c cs r.1 j d (omega (arith, lt))
  at rest (suc i) zero d le lt = absurd (let f : ⊥ = omega (arith, le) in f)
  at rest (suc i) (suc j) d le lt = rest i j d (omega (arith, le)) (omega (arith, lt))

rising_from : (last : ℕ) (cs : List ℕ) → ((j d : ℕ) → j < length cs → last ≤ slice_index_or cs j d) → IsNonDecreasing cs
    → Rising last cs
rising_from last [] low r = tt
rising_from last (c ∷ cs) low r = (
  low 0 0 (omega arith),
  rising_from c cs (λ j d lt. r 0 (suc j) d (omega arith) (omega (arith, lt)))
      (λ i j d le lt. r (suc i) (suc j) d (omega (arith, le)) (omega (arith, lt))),
)

map_map : {A B : Type 0} (g : B → ℕ) (f : A → B) (xs : List A) → map g (map f xs) ≡ map (λ x. g (f x)) xs
map_map g f [] = refl
map_map g f (x ∷ xs) = ap (λ (l : List ℕ). g (f x) ∷ l) (map_map g f xs)

-- of rows that keep whose they are
pub clients_listed : (region : ℕ) (rows : List RowReport) (f : RowReport → BegunRow)
    → ((r : RowReport) → (f r).row.client ≡ r.row.client) → ClientsRise region 0 rows
    → IsNonDecreasing (map (λ (r : BegunRow). r.row.client) (map f (filter (is_in region) rows)))
clients_listed region rows f same h =
    subst IsNonDecreasing
    (sym (map_map (λ (r : BegunRow). r.row.client) f (filter (is_in region) rows) ∙ each (filter (is_in region) rows)))
    (rising_to 0 (clients region rows) (clients_to region 0 rows h)) where
      each : (xs : List RowReport) → map (λ x. (f x).row.client) xs ≡ map (λ (r : RowReport). r.row.client) xs
      each [] = refl
      each (x ∷ xs) =
          ap (λ (c : ℕ). c ∷ map (λ y. (f y).row.client) xs) (same x) ∙ ap (λ (l : List ℕ). x.row.client ∷ l) (each xs)

pub clients_rise : (region : ℕ) (rows : List RowReport) (f : RowReport → BegunRow)
    → ((r : RowReport) → (f r).row.client ≡ r.row.client)
    → IsNonDecreasing (map (λ (r : BegunRow). r.row.client) (map f (filter (is_in region) rows)))
    → ClientsRise region 0 rows
clients_rise region rows f same h =
    clients_from region 0 rows
    (rising_from 0 (clients region rows) (λ j d lt. omega arith)
    (subst IsNonDecreasing
    (map_map (λ (r : BegunRow). r.row.client) f (filter (is_in region) rows) ∙ each (filter (is_in region) rows)) h)) where
      each : (xs : List RowReport) → map (λ x. (f x).row.client) xs ≡ map (λ (r : RowReport). r.row.client) xs
      each [] = refl
      each (x ∷ xs) =
          ap (λ (c : ℕ). c ∷ map (λ y. (f y).row.client) xs) (same x) ∙ ap (λ (l : List ℕ). x.row.client ∷ l) (each xs)
