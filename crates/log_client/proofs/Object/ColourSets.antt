-- Sets of colours that are a store's: of listed colours, and of the shards of keys.
use Rattle.std.proofs.Common.{◌≡◌, ◌≢◌, ◌⊎◌, inl, inr, ℕ, zero, suc, ◌+◌, ◌<◌, ◌≤◌, ◌^◌, Bool, true, false, List, [], ◌∷◌, length, refl, ap, sym, subst, ◌∙◌, arith, eq-eqb}
use Rattle.std.specs.Prelude.{◌==◌, ◌||◌}
use Rattle.std.specs.List.{All, list_any, range_with_len}
use Rattle.std.proofs.lemmas.Bool.{or_cases, eqb-true, cases_lt, cases_eq}
use Rattle.std.proofs.lemmas.List.Elements.{All-cons, All-contains, All-nil}
use Rattle.log_node.specs.declared.ids.Colours.{Colours}
use Rattle.log_node.specs.declared.limits.TheConstants.{MAX_COLOURS}
use Rattle.log_node.specs.Sets.{has, members, set_of}
use Rattle.log_node.proofs.CallerLemmas.{has-low, has-set_of, members-set_of}
use Rattle.object_fold.specs.Nodes.{shard_of}
use Rattle.col_core.proofs.CallerLemmas.{In, contains_in, in_contains, in_filter, in_filter-back}
use Rattle.lawful_run.specs.Asks.{colours_where, shards, rising}
use Rattle.log_client.specs.declared.store.Store.{Store}
use Rattle.log_client.specs.declared.client.Client.{Client}
use Rattle.log_client.specs.Appends.{AreColoursOf}
use Rattle.log_client.specs.Clients.{IsClient, tracks_of}
use Rattle.log_client.specs.Objects.{HasColoursOf}
use Rattle.log_client.proofs.Object.ObjectShards.{shard_in}
use Rattle.col_core.proofs.CallerLemmas.{range_has as in_range}
use Rattle.col_core.proofs.CallerLemmas.{any_in as passed}

-- TESTS OF LISTS

or_true : (b : Bool) → (b || true) ≡ true
or_true true = refl
or_true false = refl

passes : {A : Type 0} (test : A → Bool) (xs : List A) → list_any test xs ≡ true → (x : A) × In x xs × (test x ≡ true)
passes test [] e = absurd (let f : ⊥ = cc in f)
passes test (x ∷ xs) e = turn (or_cases (test x) (list_any test xs) e) (λ r. passes test xs r) where
  turn : (test x ≡ true) ⊎ (list_any test xs ≡ true)
      → (list_any test xs ≡ true → (y : _) × In y xs × (test y ≡ true)) → (y : _) × In y (x ∷ xs) × (test y ≡ true)
  turn (inl t) rest = (x, inl refl, t)
  turn (inr t) rest = let r = rest t in (r.0, inr r.1, r.2)

in_some : (xs : List ℕ) (x : ℕ) → In x xs → 0 < length xs
in_some [] x i = absurd i
in_some (y ∷ xs) x i = omega arith

-- SETS

-- a colour of a set is among its members
has_in : (set : Colours) → set.0 < 2 ^ MAX_COLOURS → (c : ℕ) → has set c ≡ true → In c (members set)
has_in set few c of =
    let low = has-low set c few of in
    in_filter-back (has set) c (range_with_len 0 MAX_COLOURS) (in_range 0 MAX_COLOURS c (omega arith) (omega (arith, low))) of

-- there is a colour for which a test holds, where it holds for this one
where_some : (test : ℕ → Bool) (k : ℕ) → k < MAX_COLOURS → test k ≡ true → 0 < length (colours_where test)
where_some test k low passes_k =
    in_some (colours_where test) k
    (in_filter-back test k (range_with_len 0 MAX_COLOURS) (in_range 0 MAX_COLOURS k (omega arith) (omega (arith, low))) passes_k)

-- the set of the colours for which a test holds has no other
where_within : (test : ℕ → Bool) (set : Colours) → set.0 < 2 ^ MAX_COLOURS → members set ≡ colours_where test
    → (c : ℕ) → has set c ≡ true → test c ≡ true
where_within test set few are c of =
    (in_filter test c (range_with_len 0 MAX_COLOURS) (subst (In c) are (has_in set few c of))).1

-- OF A STORE

-- the set of listed colours is of the store, if each of them is
pub listed_of_store : (s : Store) (colours : List ℕ) → 0 < length colours → All (λ c. c < s.size.colours) colours
    → All (λ c. c < MAX_COLOURS) colours → AreColoursOf s (set_of colours)
listed_of_store s [] none all few = absurd (let f : ⊥ = omega (arith, none) in f)
listed_of_store s (colour ∷ colours) some all few =
    let listed = colour ∷ colours in record {
      some = subst (λ (l : List ℕ). 0 < length l) (sym (members-set_of listed))
          (where_some (λ c. list_any (λ d. d == c) listed) colour
          (All-contains (λ d. d < MAX_COLOURS) listed colour few (contains_in listed colour (inl refl)))
          (passed (λ d. d == colour) listed colour (inl refl) (eq-eqb colour colour refl)));
      within = λ c of.
          let r = passes (λ d. d == c) listed (sym (has-set_of listed c) ∙ of) in
          subst (λ (n : ℕ). n < s.size.colours) (eqb-true r.0 c r.2)
          (All-contains (λ d. d < s.size.colours) listed r.0 all (contains_in listed r.0 r.1));
    }

-- the set of one colour
pub one_of_store : (s : Store) (colour : ℕ) → colour < s.size.colours → colour < MAX_COLOURS
    → AreColoursOf s (set_of (colour ∷ []))
one_of_store s colour lt few =
    listed_of_store s (colour ∷ []) (omega arith)
    (All-cons (λ (c : ℕ). c < s.size.colours) colour [] lt (All-nil (λ (c : ℕ). c < s.size.colours)))
    (All-cons (λ (c : ℕ). c < MAX_COLOURS) colour [] few (All-nil (λ (c : ℕ). c < MAX_COLOURS)))

-- SHARDS

shard_below : (bound : ℕ) (colours : List ℕ) → 0 < length colours → All (λ c. c < bound) colours → (key : List ℕ)
    → shard_of colours key < bound
shard_below bound colours some all key =
    All-contains (λ c. c < bound) colours (shard_of colours key) all (shard_in colours key some)

-- the set of the shards of keys, of which there are some, is of the store
pub shards_of_store : (s : Store) (c : Client) (colours : List ℕ) → IsClient s c → HasColoursOf c colours
    → (keys : List (List ℕ)) → 0 < length keys → (set : Colours) → set.0 < 2 ^ MAX_COLOURS
    → members set ≡ shards colours keys → AreColoursOf s set
shards_of_store s c colours is are [] none set bits same = absurd (let f : ⊥ = omega (arith, none) in f)
shards_of_store s c colours is are (key ∷ keys) some set bits same = record {
  some = subst (λ (l : List ℕ). 0 < length l) (sym same)
      (where_some (λ x. list_any (λ k. shard_of colours k == x) (key ∷ keys)) (shard_of colours key)
      (shard_below MAX_COLOURS colours are.some are.few key)
      (passed (λ k. shard_of colours k == shard_of colours key) (key ∷ keys) key (inl refl)
      (eq-eqb (shard_of colours key) (shard_of colours key) refl)));
  within = λ x of.
      let r = passes (λ k. shard_of colours k == x) (key ∷ keys)
      (where_within (λ y. list_any (λ k. shard_of colours k == y) (key ∷ keys)) set bits same x of) in
      let lt = shard_below (length (tracks_of c)) colours are.some are.within r.0 in
      subst (λ (n : ℕ). n < s.size.colours) (eqb-true (shard_of colours r.0) x r.2)
      (let long = is.colours in omega (arith, lt, long));
}

-- a colour of the shards is one of the object
pub shard_rising : (colours : List ℕ) → 0 < length colours → (keys : List (List ℕ)) (c : ℕ)
    → In c (shards colours keys) → In c (rising colours)
shard_rising colours some keys c i =
    let f = in_filter (λ d. list_any (λ k. shard_of colours k == d) keys) c (range_with_len 0 MAX_COLOURS) i in
    let r = passes (λ k. shard_of colours k == c) keys f.1 in
    in_filter-back (λ x. list_any (λ d. d == x) colours) c (range_with_len 0 MAX_COLOURS) f.0
    (passed (λ d. d == c) colours (shard_of colours r.0)
    (in_contains colours (shard_of colours r.0) (shard_in colours r.0 some)) r.2)
