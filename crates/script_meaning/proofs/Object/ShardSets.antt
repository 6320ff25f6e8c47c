-- The sets of the colours of shards.
use Rattle.std.proofs.Common.{◌≡◌, ◌⊎◌, inl, inr, ℕ, zero, suc, ◌<◌, ◌≤◌, ◌^◌, Bool, true, false, cond, List, [], ◌∷◌, length, map, Some, refl, ap, sym, subst, ◌∙◌, arith, eq-eqb}
use Rattle.std.specs.Prelude.{◌==◌, ◌||◌, ◌%◌, nat_lt, sum, slice_get, slice_index_or}
use Rattle.std.specs.List.{All, filter, list_any, range_with_len}
use Rattle.std.proofs.Math.Nat.{mod-lt}
use Rattle.std.proofs.lemmas.Bool.{or_cases, eqb-true, lt-ltb}
use Rattle.std.proofs.lemmas.Nat.Bits.{same_from_bits_below, bit_at-lt}
use Rattle.std.specs.Int.{bit_at}
use Rattle.log_node.specs.declared.ids.Colours.{Colours}
use Rattle.log_node.specs.declared.limits.TheConstants.{MAX_COLOURS}
use Rattle.log_node.specs.Sets.{has, members, set_of}
use Rattle.log_node.proofs.CallerLemmas.{has-set_of}
use Rattle.object_fold.specs.Nodes.{shard_of}
use Rattle.part_fold.specs.Parts.{place_of}
use Rattle.col_core.proofs.CallerLemmas.{by_test, apart, contains_in, In, in_filter, in_filter-back}
use Rattle.script_text.specs.Fitting.{AreObjectColours, HasColours}
use Rattle.script_text.proofs.CallerLemmas.{bits_few}
use Rattle.lawful_run.specs.Asks.{colours_where, shards, rising}
use Rattle.script_meaning.specs.Objects.{shard_set}
use Rattle.script_meaning.proofs.Lists.{each_true, in_range, range_in}
use Rattle.col_core.proofs.CallerLemmas.{any_in as any_back}

-- Lists

same_filter : (p q : ℕ → Bool) (xs : List ℕ) → ((x : ℕ) → In x xs → p x ≡ q x) → filter p xs ≡ filter q xs
same_filter p q [] h = refl
same_filter p q (x ∷ xs) h =
    ap (λ (b : Bool). cond b (x ∷ filter p xs) (filter p xs)) (h x (inl refl))
    ∙ ap (λ (l : List ℕ). cond (q x) (x ∷ l) l) (same_filter p q xs (λ y i. h y (inr i)))

any_in : (c : ℕ) (xs : List ℕ) → In c xs → list_any (λ d. d == c) xs ≡ true
any_in c [] i = absurd i
any_in c (x ∷ xs) (inl e) = ap (λ (b : Bool). b || list_any (λ d. d == c) xs) (eq-eqb x c e)
any_in c (x ∷ xs) (inr i) = ap (λ (b : Bool). (x == c) || b) (any_in c xs i) ∙ or_true (x == c) where
  or_true : (b : Bool) → (b || true) ≡ true
  or_true true = refl
  or_true false = refl

in_any : {A : Type 0} (test : A → Bool) (xs : List A) → list_any test xs ≡ true → (x : A) × In x xs × (test x ≡ true)
in_any test [] e = absurd (let f : ⊥ = cc in f)
in_any test (x ∷ xs) e = turn (or_cases (test x) (list_any test xs) e) (λ r. in_any test xs r) where
  turn : (test x ≡ true) ⊎ (list_any test xs ≡ true)
      → (list_any test xs ≡ true → (y : _) × In y xs × (test y ≡ true)) → (y : _) × In y (x ∷ xs) × (test y ≡ true)
  turn (inl t) rest = (x, inl refl, t)
  turn (inr t) rest = let r = rest t in (r.0, inr r.1, r.2)

-- Sets of listed colours

-- a colour is in the set of those for which a test holds where it passes
pub has_where : (test : ℕ → Bool) (x : ℕ) → In x (range_with_len 0 MAX_COLOURS) → has (set_of (colours_where test)) x ≡ test x
has_where test x i =
    has-set_of (colours_where test) x
    ∙ by_test _ (test x)
    (λ t. any_in x (colours_where test) (in_filter-back test x (range_with_len 0 MAX_COLOURS) i t) ∙ sym t)
    (λ f. none f (list_any (λ d. d == x) (colours_where test)) refl) where
      none : test x ≡ false → (b : Bool) → list_any (λ d. d == x) (colours_where test) ≡ b
          → list_any (λ d. d == x) (colours_where test) ≡ test x
      none f false e = e ∙ sym f
      none f true e =
          let r = in_any (λ d. d == x) (colours_where test) e in
          let same = eqb-true r.0 x r.2 in
          absurd (apart (test x)
          (subst (λ (y : ℕ). test y ≡ true) same (in_filter test r.0 (range_with_len 0 MAX_COLOURS) r.1).1) f)

-- the colours for which a test holds are the members of their set
pub set_where : (test : ℕ → Bool) → members (set_of (colours_where test)) ≡ colours_where test
set_where test = same_filter (has (set_of (colours_where test))) test (range_with_len 0 MAX_COLOURS) (has_where test)

-- the bits of small colours are few
pub set_few : (order : List ℕ) → ((c : ℕ) → In c order → c < MAX_COLOURS) → (set_of order).0 < 2 ^ MAX_COLOURS
set_few order low =
    bits_few order MAX_COLOURS (omega arith)
    (each_true (λ c. nat_lt c MAX_COLOURS) order (λ c i. lt-ltb c MAX_COLOURS (low c i)))

-- such a set has a colour
pub set_has : (order : List ℕ) → ((c : ℕ) → In c order → c < MAX_COLOURS) → 1 ≤ length (members (set_of order))
    → HasColours 1 (set_of order)
set_has order low some = record { many = some; bits = set_few order low }

-- Shards

-- a key's shard is one of the colours
pub shard_below : (count : ℕ) (colours : List ℕ) → 1 ≤ length colours → All (λ c. c < count) colours
    → (key : List ℕ) → shard_of colours key < count
shard_below count colours some all key =
    all (sum key % length colours) 0 (mod-lt (sum key) (omega (arith, some)))

in_index : (xs : List ℕ) (k : ℕ) → k < length xs → In (slice_index_or xs k 0) xs
in_index [] k lt = absurd (let f : ⊥ = omega (arith, lt) in f)
in_index (x ∷ xs) zero lt = inl refl
in_index (x ∷ xs) (suc k) lt = inr (in_index xs k (omega (arith, lt)))

pub shard_in : (colours : List ℕ) → 1 ≤ length colours → (key : List ℕ) → In (shard_of colours key) colours
shard_in colours some key =
    in_index colours (sum key % length colours) (mod-lt (sum key) (omega (arith, some)))

-- and stands at the key's place among them
pub shard_there : (colours : List ℕ) → 1 ≤ length colours → (key : List ℕ)
    → slice_get colours (place_of (length colours) key) ≡ Some (shard_of colours key)
shard_there colours some key = found colours (place_of (length colours) key) (mod-lt (sum key) (omega (arith, some))) where
  found : (xs : List ℕ) (k : ℕ) → k < length xs → slice_get xs k ≡ Some (slice_index_or xs k 0)
  found [] k lt = absurd (let f : ⊥ = omega (arith, lt) in f)
  found (x ∷ xs) zero lt = refl
  found (x ∷ xs) (suc k) lt = found xs k (omega (arith, lt))

-- each colour of the shards is a key's
pub of_key : (colours : List ℕ) (keys : List (List ℕ)) (c : ℕ) → In c (shards colours keys)
    → (key : List ℕ) × In key keys × (shard_of colours key ≡ c)
of_key colours keys c i =
    let t = (in_filter (λ d. list_any (λ key. shard_of colours key == d) keys) c (range_with_len 0 MAX_COLOURS) i).1 in
    let r = in_any (λ key. shard_of colours key == c) keys t in
    (r.0, r.1, eqb-true (shard_of colours r.0) c r.2)

-- and each key's is one
pub key_in : (colours : List ℕ) (keys : List (List ℕ)) (key : List ℕ) → In key keys → shard_of colours key < MAX_COLOURS
    → In (shard_of colours key) (shards colours keys)
key_in colours keys key i low =
    in_filter-back (λ d. list_any (λ k. shard_of colours k == d) keys) (shard_of colours key) (range_with_len 0 MAX_COLOURS)
    (range_in 0 MAX_COLOURS (shard_of colours key) (omega arith) (omega (arith, low)))
    (any_back (λ k. shard_of colours k == shard_of colours key) keys key i
    (eq-eqb (shard_of colours key) (shard_of colours key) refl))

in_some : (xs : List ℕ) (x : ℕ) → In x xs → 1 ≤ length xs
in_some [] x i = absurd i
in_some (y ∷ xs) x i = omega arith

pub shard_members : (colours : List ℕ) (keys : List (List ℕ)) → members (shard_set colours keys) ≡ shards colours keys
unfolding shard_set
shard_members colours keys = set_where (λ c. list_any (λ key. shard_of colours key == c) keys)

-- The set of the shards of keys, of an object with some colours, all of them below a number: it has a colour, and its
-- colours are below that number.
module _ (count : ℕ) (few : count ≤ MAX_COLOURS) (colours : List ℕ) (some : 1 ≤ length colours)
    (below : All (λ c. c < count) colours) (keys : List (List ℕ)) where
  pub shards_below : (c : ℕ) → In c (shards colours keys) → c < count
  shards_below c i =
      let r = of_key colours keys c i in
      subst (λ (x : ℕ). x < count) r.2 (shard_below count colours some below r.0)

  pub shards_has : (key : List ℕ) → In key keys → HasColours 1 (shard_set colours keys)
  unfolding shard_set
  shards_has key i =
      let low = shard_below count colours some below key in
      set_has (shards colours keys) (λ c j. let lt = shards_below c j in omega (arith, lt, few))
      (subst (λ (l : List ℕ). 1 ≤ length l)
      (sym (set_where (λ c. list_any (λ key. shard_of colours key == c) keys)))
      (in_some (shards colours keys) (shard_of colours key) (key_in colours keys key i (omega (arith, low, few)))))

-- All colours of an object

pub rising_in : (colours : List ℕ) (c : ℕ) → In c colours → c < MAX_COLOURS → In c (rising colours)
rising_in colours c i low =
    in_filter-back (λ x. list_any (λ d. d == x) colours) c (range_with_len 0 MAX_COLOURS)
    (range_in 0 MAX_COLOURS c (omega arith) (omega (arith, low))) (any_in c colours i)

pub in_rising : (colours : List ℕ) (c : ℕ) → In c (rising colours) → In c colours
in_rising colours c i =
    let t = (in_filter (λ x. list_any (λ d. d == x) colours) c (range_with_len 0 MAX_COLOURS) i).1 in
    let r = in_any (λ d. d == c) colours t in
    subst (λ (x : ℕ). In x colours) (eqb-true r.0 c r.2) r.1

module _ (count : ℕ) (few : count ≤ MAX_COLOURS) (colours : List ℕ) (own : AreObjectColours count colours) where
  pub own_below : (c : ℕ) → In c colours → c < count
  own_below c i = let k = contains_in colours c i in subst (λ (x : ℕ). x < count) k.2 (own.below k.0 c k.1)

  pub rising_below : (c : ℕ) → In c (rising colours) → c < count
  rising_below c i = own_below c (in_rising colours c i)

  pub rising_some : (c : ℕ) × In c (rising colours)
  rising_some = some colours own.some (λ c i. rising_in colours c i (let lt = own_below c i in omega (arith, lt, few)))
    where
      some : (cs : List ℕ) → 1 ≤ length cs → ((c : ℕ) → In c cs → In c (rising colours)) → (c : ℕ) × In c (rising colours)
      some [] le all = absurd (let f : ⊥ = omega (arith, le) in f)
      some (c ∷ cs) le all = (c, all c (inl refl))

-- a bit is as its test says
same_bit : (a b : ℕ) → a < 2 → b < 2 → (a == 1) ≡ (b == 1) → a ≡ b
same_bit a b lt less e =
    by_test _ (a == 1)
    (λ t. let x = eqb-true a 1 t in let y = eqb-true b 1 (sym e ∙ t) in x ∙ sym y)
    (λ f. let x = zero_bit a lt f in let y = zero_bit b less (sym e ∙ f) in x ∙ sym y) where
      zero_bit : (c : ℕ) → c < 2 → (c == 1) ≡ false → c ≡ 0
      zero_bit zero lt f = refl
      zero_bit (suc zero) lt f = absurd (let g : ⊥ = cc in g)
      zero_bit (suc (suc c)) lt f = absurd (let g : ⊥ = omega (arith, lt) in g)

any_map : (f : List ℕ → ℕ) (x : ℕ) (keys : List (List ℕ))
    → list_any (λ m. m == x) (map f keys) ≡ list_any (λ k. f k == x) keys
any_map f x [] = refl
any_map f x (k ∷ keys) = ap (λ (b : Bool). (f k == x) || b) (any_map f x keys)

in_mapped : (f : List ℕ → ℕ) (keys : List (List ℕ)) (c : ℕ) → In c (map f keys) → (k : List ℕ) × (f k ≡ c)
in_mapped f [] c i = absurd i
in_mapped f (k ∷ keys) c (inl e) = (k, e)
in_mapped f (k ∷ keys) c (inr i) = in_mapped f keys c i

-- sets that have the same colours are one
same_sets : (a b : Colours) → a.0 < 2 ^ MAX_COLOURS → b.0 < 2 ^ MAX_COLOURS
    → ((c : ℕ) → c < MAX_COLOURS → has a c ≡ has b c) → a ≡ b
same_sets a b few fewer same =
    ap (λ (n : ℕ). let set : Colours = record { 0 = n } in set)
    (same_from_bits_below MAX_COLOURS a.0 b.0 few fewer
    (λ c less. same_bit (bit_at a.0 c) (bit_at b.0 c) (bit_at-lt a.0 c) (bit_at-lt b.0 c) (same c less)))

-- a set with one member is that of the member
pub one_is_set : (set : Colours) (c : ℕ) → members set ≡ c ∷ [] → set.0 < 2 ^ MAX_COLOURS → set ≡ set_of (c ∷ [])
one_is_set set c one few =
    same_sets set (set_of (c ∷ [])) few
    (subst (λ (l : List ℕ). (set_of l).0 < 2 ^ MAX_COLOURS) one
    (set_few (members set) (λ d i. let lt = (in_range 0 MAX_COLOURS d (in_filter (has set) d (range_with_len 0 MAX_COLOURS) i).0).1 in
    omega (arith, lt))))
    (λ d less. sym (has_where (has set) d (range_in 0 MAX_COLOURS d (omega arith) (omega (arith, less))))
    ∙ ap (λ (l : List ℕ). has (set_of l) d) one)

-- the set of the keys' shards, as often as they come, is that of the shards
pub keys_set : (colours : List ℕ) → AreObjectColours MAX_COLOURS colours → (keys : List (List ℕ))
    → set_of (map (shard_of colours) keys) ≡ shard_set colours keys
unfolding shard_set
keys_set colours are keys =
    same_sets (set_of (map (shard_of colours) keys)) (set_of (shards colours keys))
    (set_few (map (shard_of colours) keys) low)
    (set_few (shards colours keys) (shards_below MAX_COLOURS (omega arith) colours are.some are.below keys))
    (λ c less. has-set_of (map (shard_of colours) keys) c
    ∙ (any_map (shard_of colours) c keys
    ∙ sym (has_where (λ d. list_any (λ key. shard_of colours key == d) keys) c
    (range_in 0 MAX_COLOURS c (omega arith) (omega (arith, less))))))
  where
    low : (c : ℕ) → In c (map (shard_of colours) keys) → c < MAX_COLOURS
    low c i =
        let r = in_mapped (shard_of colours) keys c i in
        subst (λ (x : ℕ). x < MAX_COLOURS) r.1 (shard_below MAX_COLOURS colours are.some are.below r.0)
