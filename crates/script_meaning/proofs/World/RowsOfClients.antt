-- The begun rows of a region as its clients see them: by rising client, and as many as each has begun.
use Rattle.std.proofs.Common.{◌≡◌, ◌≢◌, ◌⊎◌, inl, inr, ℕ, zero, suc, ◌+◌, ◌<◌, ◌≤◌, List, [], ◌∷◌, ◌++◌, length, map, refl, ap, sym, subst, ◌∙◌, arith, eq-eqb, append-nil}
use Rattle.std.specs.Prelude.{◌==◌, slice_index_or}
use Rattle.std.specs.List.{filter, flat_map, range_with_len}
use Rattle.std.specs.List.Sorted.{IsNonDecreasing}
use Rattle.std.proofs.lemmas.Bool.{eqb-true}
use Rattle.std.proofs.lemmas.List.{map-append}
use Rattle.std.proofs.lemmas.List.FromFn.{length-map-range_with_len}
use Rattle.col_core.specs.Rows.{BegunRow, is_of}
use Rattle.col_core.proofs.CallerLemmas.{choice, apart, if_true, In}
use Rattle.world_laws.specs.Worlds.{World, home_of}
use Rattle.world_laws.specs.Laws.{rows_of_client, rows_of_region}
use Rattle.world_laws.proofs.CallerLemmas.{in_append, in_flat_map, in_map, row_in, home_rows, of_home, filter_step}
use Rattle.world_laws.proofs.CallerLemmas.{none_later}
use Rattle.script_meaning.proofs.Lists.{in_range}

-- a list that never falls
NeverFalls : List ℕ → Type 0
NeverFalls [] = Unit {0}
NeverFalls (x ∷ xs) = ((y : ℕ) → In y xs → x ≤ y) × NeverFalls xs

at_in : (xs : List ℕ) (j d : ℕ) → j < length xs → In (slice_index_or xs j d) xs
at_in [] j d lt = absurd (let f : ⊥ = omega (arith, lt) in f)
at_in (x ∷ xs) zero d lt = inl refl
at_in (x ∷ xs) (suc j) d lt = inr (at_in xs j d (omega (arith, lt)))

never_falls : (xs : List ℕ) → NeverFalls xs → IsNonDecreasing xs
unfolding NeverFalls
never_falls [] n i j d le lt = absurd (let f : ⊥ = omega (arith, lt) in f)
never_falls (x ∷ xs) n zero zero d le lt = omega arith
never_falls (x ∷ xs) n zero (suc j) d le lt = n.0 (slice_index_or xs j d) (at_in xs j d (omega (arith, lt)))
never_falls (x ∷ xs) n (suc i) zero d le lt = absurd (let f : ⊥ = omega (arith, le) in f)
never_falls (x ∷ xs) n (suc i) (suc j) d le lt = never_falls xs n.1 i j d (omega (arith, le)) (omega (arith, lt))

joined : (xs ys : List ℕ) → NeverFalls xs → NeverFalls ys → ((x y : ℕ) → In x xs → In y ys → x ≤ y)
    → NeverFalls (xs ++ ys)
unfolding NeverFalls
joined [] ys a b h = b
joined (x ∷ xs) ys a b h =
    (λ y i. turn y (in_append y xs ys i), joined xs ys a.1 b (λ z y i j. h z y (inr i) j)) where
      turn : (y : ℕ) → In y xs ⊎ In y ys → x ≤ y
      turn y (inl i) = a.0 y i
      turn y (inr j) = h x y (inl refl) j

all_same : (xs : List ℕ) (b : ℕ) → ((x : ℕ) → In x xs → x ≡ b) → NeverFalls xs
unfolding NeverFalls
all_same [] b h = tt
all_same (x ∷ xs) b h =
    (λ y i. let e = h x (inl refl) in let f = h y (inr i) in omega (arith, e, f), all_same xs b (λ y i. h y (inr i)))

abbrev client_of : BegunRow → ℕ
client_of r = r.row.client

clients_of : (w : World) (region b : ℕ) (x : ℕ) → In x (map client_of (home_rows w region b)) → x ≡ b
clients_of w region b x i =
    let r = in_map client_of (home_rows w region b) x i in
    let o = of_home w region b r.0 r.1 in
    sym r.2 ∙ ap client_of (sym o.is)

clients_from : (w : World) (region b k : ℕ) (x : ℕ)
    → In x (map client_of (flat_map (home_rows w region) (range_with_len b k))) → b ≤ x
clients_from w region b k x i =
    let r = in_map client_of (flat_map (home_rows w region) (range_with_len b k)) x i in
    let a = in_flat_map (home_rows w region) (range_with_len b k) r.0 r.1 in
    let o = of_home w region a.0 r.0 a.2 in
    let le = (in_range b k a.0 a.1).0 in
    let e : x ≡ a.0 = sym r.2 ∙ ap client_of (sym o.is) in
    omega (arith, le, e)

clients_rise : (w : World) (region b k : ℕ)
    → NeverFalls (map client_of (flat_map (home_rows w region) (range_with_len b k)))
unfolding NeverFalls
clients_rise w region b zero = tt
clients_rise w region b (suc k) =
    subst NeverFalls (sym (map-append client_of (home_rows w region b)
    (flat_map (home_rows w region) (range_with_len (b + 1) k))))
    (joined (map client_of (home_rows w region b)) (map client_of
    (flat_map (home_rows w region) (range_with_len (b + 1) k)))
    (all_same (map client_of (home_rows w region b)) b (clients_of w region b)) (clients_rise w region (b + 1) k)
    (λ x y i j. let e = clients_of w region b x i in let le = clients_from w region (b + 1) k y j in omega
    (arith, e, le)))

pub by_client : (w : World) (region : ℕ) → IsNonDecreasing (map (λ (r : BegunRow). r.row.client)
    (rows_of_region w region))
by_client w region = never_falls _ (clients_rise w region 0 (length w.shape.homes))

-- as many rows of a client as it has begun
row_count : (w : World) (region c b k : ℕ) → home_of w c ≡ region → b ≤ c → c < b + k
    → length (filter (is_of c) (flat_map (home_rows w region) (range_with_len b k))) ≡ (w.clients c).used
row_count w region c b zero at le lt = absurd (let f : ⊥ = omega (arith, le, lt) in f)
row_count w region c b (suc k) at le lt =
    let rest = filter (is_of c) (flat_map (home_rows w region) (range_with_len (b + 1) k)) in
    ap length (filter_step w region c b k)
    ∙ choice (λ (l : List BegunRow). length (l ++ rest) ≡ (w.clients c).used) (b == c) (home_rows w region b) []
    (λ t. let e = eqb-true b c t in
    ap (λ (l : List BegunRow). length (home_rows w region b ++ l)) (none_later w region c (b + 1) k (omega (arith, e)))
    ∙ (ap length (append-nil (home_rows w region b)) ∙ own_rows e))
    (λ f. let ne : b ≢ c = λ e. apart (b == c) (eq-eqb b c e) f in
    row_count w region c (b + 1) k at (above ne) (omega (arith, lt))) where
      above : b ≢ c → b + 1 ≤ c
      above ne = omega (arith, le, ne)

      own_rows : b ≡ c → length (home_rows w region b) ≡ (w.clients c).used
      own_rows e =
          ap (λ (n : ℕ). length (home_rows w region n)) e
          ∙ (ap length (if_true (home_of w c == region) (rows_of_client w c) [] (eq-eqb (home_of w c) region at))
          ∙ length-map-range_with_len (row_in w c) 0 (w.clients c).used)

pub rows_begun : (w : World) (c : ℕ) → c < length w.shape.homes
    → length (filter (is_of c) (rows_of_region w (home_of w c))) ≡ (w.clients c).used
rows_begun w c lt = row_count w (home_of w c) c 0 (length w.shape.homes) refl (omega arith) (omega (arith, lt))
