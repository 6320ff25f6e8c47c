-- The shards of keys, and the sets of their colours.
use mathlib.Core.Path.{fun_ext}
use Rattle.std.proofs.Common.{◌≡◌, ℕ, zero, suc, ◌+◌, ◌<◌, ◌≤◌, Bool, List, [], ◌∷◌, ◌++◌, length, map, take, Some, get_or, refl, ap, sym, ◌∙◌, append_assoc, arith}
use Rattle.std.specs.Prelude.{◌%◌, ◌==◌, ◌||◌, slice_get, slice_index, sum}
use Rattle.std.specs.List.{All, Contains, list_any}
use Rattle.std.proofs.Math.Nat.{mod-lt}
use Rattle.std.proofs.lemmas.List.{map-append, take_more, take_all}
use Rattle.std.proofs.lemmas.List.Elements.{All-contains}
use Rattle.log_node.specs.declared.ids.Colours.{Colours}
use Rattle.log_node.specs.declared.limits.TheConstants.{MAX_COLOURS}
use Rattle.log_node.specs.Sets.{members, set_of, with_colour}
use Rattle.log_node.proofs.CallerLemmas.{members-set_of, set_of-more}
use Rattle.object_fold.specs.Nodes.{shard_of}
use Rattle.col_core.proofs.CallerLemmas.{contains_in, slice_in}
use Rattle.lawful_run.specs.Asks.{colours_where, shards}

-- THE SHARD OF A KEY

index_in : (xs : List ℕ) (n : ℕ) → n < length xs → slice_get xs n ≡ Some (slice_index xs n)
index_in [] n lt = absurd (let f : ⊥ = omega (arith, lt) in f)
index_in (x ∷ xs) zero lt = refl
index_in (x ∷ xs) (suc n) lt = index_in xs n (omega (arith, lt))

-- it is one of the colours
pub shard_in : (colours key : List ℕ) → 0 < length colours → Contains colours (shard_of colours key)
shard_in colours key some =
    contains_in colours (shard_of colours key)
    (slice_in colours (sum key % length colours) (shard_of colours key)
    (index_in colours (sum key % length colours) (mod-lt (sum key) (omega (arith, some)))))

-- it is low where all are; of no colours it is 0
pub shard_low : (colours key : List ℕ) → All (λ c. c < MAX_COLOURS) colours → shard_of colours key < MAX_COLOURS
shard_low [] key few = omega arith
shard_low (c ∷ cs) key few =
    All-contains (λ d. d < MAX_COLOURS) (c ∷ cs) (shard_of (c ∷ cs) key) few (shard_in (c ∷ cs) key (omega arith))

-- SETS MADE KEY BY KEY

any_shard : (colours : List ℕ) (keys : List (List ℕ)) (c : ℕ)
    → list_any (λ m. m == c) (map (λ (k : List ℕ). shard_of colours k) keys) ≡ list_any (λ key. shard_of colours key == c) keys
any_shard colours [] c = refl
any_shard colours (key ∷ keys) c = ap (λ (b : Bool). (shard_of colours key == c) || b) (any_shard colours keys c)

-- the set of the shards of keys has these members
pub shards_of_keys : (colours : List ℕ) (keys : List (List ℕ))
    → members (set_of (map (λ (k : List ℕ). shard_of colours k) keys)) ≡ shards colours keys
shards_of_keys colours keys =
    members-set_of (map (λ (k : List ℕ). shard_of colours k) keys)
    ∙ ap colours_where (fun_ext (any_shard colours keys))

-- a shard more
one_more : (before : List ℕ) (set : Colours) (c : ℕ) → set ≡ set_of before → with_colour set c ≡ set_of (before ++ c ∷ [])
one_more before set c e = ap (λ (s : Colours). with_colour s c) e ∙ set_of-more before c

-- the shards of the keys of what is listed
module _ {A : Type 0} (key_of : A → List ℕ) (colours : List ℕ) (items : List A) where
  abbrev its_shard : A → ℕ
  its_shard x = shard_of colours (key_of x)

  pub more_shards : (i : ℕ) (d : A) (set : Colours) (c : ℕ) → i < length items → c ≡ shard_of colours (key_of (get_or items i d))
      → set ≡ set_of (map its_shard (take i items)) → with_colour set c ≡ set_of (map its_shard (take (i + 1) items))
  more_shards i d set c lt is e =
      one_more (map its_shard (take i items)) set c e
      ∙ ap set_of (ap (λ (x : ℕ). map its_shard (take i items) ++ x ∷ []) is
      ∙ (sym (map-append its_shard (take i items) (get_or items i d ∷ []))
      ∙ ap (map its_shard) (sym (take_more items i d lt))))

  -- behind others
  pub more_behind : (before : List ℕ) (i : ℕ) (d : A) (set : Colours) (c : ℕ) → i < length items
      → c ≡ shard_of colours (key_of (get_or items i d)) → set ≡ set_of (before ++ map its_shard (take i items))
      → with_colour set c ≡ set_of (before ++ map its_shard (take (i + 1) items))
  more_behind before i d set c lt is e =
      one_more (before ++ map its_shard (take i items)) set c e
      ∙ ap set_of (append_assoc before (map its_shard (take i items)) (c ∷ [])
      ∙ ap (λ (l : List ℕ). before ++ l) (ap (λ (x : ℕ). map its_shard (take i items) ++ x ∷ []) is
      ∙ (sym (map-append its_shard (take i items) (get_or items i d ∷ []))
      ∙ ap (map its_shard) (sym (take_more items i d lt)))))

  -- all of them are the shards of their keys
  pub shards_all : (i : ℕ) → length items ≤ i
      → map its_shard (take i items) ≡ map (λ (k : List ℕ). shard_of colours k) (map key_of items)
  shards_all i whole = ap (map its_shard) (take_all i items whole) ∙ each items where
    each : (xs : List A) → map its_shard xs ≡ map (λ (k : List ℕ). shard_of colours k) (map key_of xs)
    each [] = refl
    each (x ∷ xs) = ap (λ (l : List ℕ). its_shard x ∷ l) (each xs)

  pub all_shards : (set : Colours) (i : ℕ) → length items ≤ i → set ≡ set_of (map its_shard (take i items))
      → members set ≡ shards colours (map key_of items)
  all_shards set i whole e = ap members (e ∙ ap set_of (shards_all i whole)) ∙ shards_of_keys colours (map key_of items)

pub all_keys : (colours : List ℕ) (keys : List (List ℕ)) (set : Colours) (i : ℕ) → length keys ≤ i
    → set ≡ set_of (map (λ (k : List ℕ). shard_of colours k) (take i keys)) → members set ≡ shards colours keys
all_keys colours keys set i whole e =
    ap members (e ∙ ap (λ (l : List (List ℕ)). set_of (map (λ (k : List ℕ). shard_of colours k) l)) (take_all i keys whole))
    ∙ shards_of_keys colours keys

-- first of one list, then of the other
pub both_keys : (colours : List ℕ) (keys more : List (List ℕ)) (first last : List ℕ) (set : Colours)
    → first ≡ map (λ (k : List ℕ). shard_of colours k) keys → last ≡ map (λ (k : List ℕ). shard_of colours k) more
    → set ≡ set_of (first ++ last) → members set ≡ shards colours (keys ++ more)
both_keys colours keys more first last set of_keys of_more e =
    let shard : List ℕ → ℕ = λ (k : List ℕ). shard_of colours k in
    ap members (e ∙ ap set_of (ap (λ (l : List ℕ). l ++ last) of_keys ∙ (ap (λ (l : List ℕ). map shard keys ++ l) of_more
    ∙ sym (map-append shard keys more))))
    ∙ shards_of_keys colours (keys ++ more)
