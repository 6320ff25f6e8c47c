-- The colours of objects and of their nodes.
use Rattle.std.proofs.Common.{◌≡◌, inl, inr, ℕ, zero, suc, ◌<◌, ◌≤◌, ◌%◌, Bool, true, false, ◌||◌, List, [], ◌∷◌, ◌++◌, length, map, Option, Some, None, slice_get, refl, ap, sym, subst, ◌∙◌, arith, mod-lt}
use Rattle.std.specs.Prelude.{◌==◌, sum, slice_index_or}
use Rattle.std.specs.List.{list_any, range_with_len}
use Rattle.std.specs.Option.{option_map}
use Rattle.std.proofs.lemmas.Bool.{cases_order, eqb-true, eq-eqb, or_left, or_right}
use Rattle.std.proofs.lemmas.List.Folds.{list_any-append}
use Rattle.std.proofs.lemmas.Option.{get_or_from_slice_get, slice_get_within}
use Rattle.log_node.specs.declared.ids.Colours.{Colours}
use Rattle.log_node.specs.declared.forms.Pair.{Pair}
use Rattle.log_node.specs.declared.forms.Version.{Version}
use Rattle.log_node.specs.declared.limits.TheConstants.{MAX_COLOURS}
use Rattle.log_node.specs.Sets.{has, members}
use Rattle.object_fold.specs.Nodes.{shard_of}
use Rattle.part_fold.specs.Agreement.{touches}
use Rattle.col_core.proofs.CallerLemmas.{any_in, In, in_filter, in_filter-back, range_has}
use Rattle.script_text.specs.declared.script.Kind.{Kind}
use Rattle.script_text.specs.declared.script.Kind.TheVariants as kinds
use Rattle.script_text.specs.declared.script.Object.{Object}
use Rattle.script_text.specs.Apart.{colours_of, has_colour, is_parts}
use Rattle.script_text.specs.Fitting.{IsKindWithin}
use Rattle.lawful_run.specs.Asks.{keys_of_pairs, rising, shards}
use Rattle.part_law.specs.Premises.{AreApart, ShareNone}
use Rattle.part_law.proofs.Lists.{any_map, in_any}

-- SETS

pub in_set : (set : Colours) (c : ℕ) → c < MAX_COLOURS → has set c ≡ true → In c (members set)
in_set set c low t =
    in_filter-back (has set) c (range_with_len 0 MAX_COLOURS) (range_has 0 MAX_COLOURS c (omega arith) (omega (arith, low))) t

pub set_has : (set : Colours) (c : ℕ) → In c (members set) → has set c ≡ true
set_has set c i = (in_filter (has set) c (range_with_len 0 MAX_COLOURS) i).1

-- SHARDS

in_index : (xs : List ℕ) (k : ℕ) → k < length xs → In (slice_index_or xs k 0) xs
in_index [] k lt = absurd (let f : ⊥ = omega (arith, lt) in f)
in_index (x ∷ xs) zero lt = inl refl
in_index (x ∷ xs) (suc k) lt = inr (in_index xs k (omega (arith, lt)))

shard_in : (colours : List ℕ) → 1 ≤ length colours → (key : List ℕ) → In (shard_of colours key) colours
shard_in colours some key = in_index colours (sum key % length colours) (mod-lt (sum key) (omega (arith, some)))

-- a colour of shards is one of the object's
pub shards_in : (colours : List ℕ) (keys : List (List ℕ)) → 1 ≤ length colours → (c : ℕ) → In c (shards colours keys)
    → In c colours
shards_in colours keys some c i =
    let t = (in_filter (λ d. list_any (λ key. shard_of colours key == d) keys) c (range_with_len 0 MAX_COLOURS) i).1 in
    let r = in_any (λ key. shard_of colours key == c) keys t in
    subst (λ (d : ℕ). In d colours) (eqb-true (shard_of colours r.0) c r.2) (shard_in colours some r.0)

-- of one key alone
pub shard_is : (colours : List ℕ) (key : List ℕ) (c : ℕ) → shards colours (key ∷ []) ≡ c ∷ [] → c ≡ shard_of colours key
shard_is colours key c e =
    let i : In c (shards colours (key ∷ [])) = subst (λ (l : List ℕ). In c l) (sym e) (inl refl) in
    let t = (in_filter (λ d. list_any (λ k. shard_of colours k == d) (key ∷ [])) c (range_with_len 0 MAX_COLOURS) i).1 in
    let r = in_any (λ k. shard_of colours k == c) (key ∷ []) t in
    elim r.1 [
      | inl same ↦ sym (eqb-true (shard_of colours key) c (subst (λ (k : List ℕ). (shard_of colours k == c) ≡ true) (sym same) r.2))
      | inr none ↦ absurd none
    ]

pub in_rising : (colours : List ℕ) (c : ℕ) → In c (rising colours) → In c colours
in_rising colours c i =
    let t = (in_filter (λ x. list_any (λ d. d == x) colours) c (range_with_len 0 MAX_COLOURS) i).1 in
    let r = in_any (λ d. d == c) colours t in
    subst (λ (d : ℕ). In d colours) (eqb-true r.0 c r.2) r.1

pub rising_in : (colours : List ℕ) (c : ℕ) → In c colours → c < MAX_COLOURS → In c (rising colours)
rising_in colours c i low =
    in_filter-back (λ x. list_any (λ d. d == x) colours) c (range_with_len 0 MAX_COLOURS)
    (range_has 0 MAX_COLOURS c (omega arith) (omega (arith, low)))
    (any_in (λ d. d == c) colours c i (eq-eqb c c refl))

same_bool : (a b : Bool) → (a ≡ true → b ≡ true) → (b ≡ true → a ≡ true) → a ≡ b
same_bool true b f g = sym (f refl)
same_bool false true f g = g refl
same_bool false false f g = refl

-- a node on the shards of what a transaction reads and writes is on just the colours that this touches
pub shards_touch : (colours : List ℕ) (reads : List Version) (pairs : List Pair) (set : Colours)
    → members set ≡ shards colours (map (λ (v : Version). v.key) reads ++ keys_of_pairs pairs) → (c : ℕ) → c < MAX_COLOURS
    → has set c ≡ touches colours c reads pairs
shards_touch colours reads pairs set on c low =
    same_bool (has set c) (test c)
    (λ t. (in_filter test c (range_with_len 0 MAX_COLOURS) (subst (λ (l : List ℕ). In c l) on (in_set set c low t))).1)
    (λ t. set_has set c (subst (λ (l : List ℕ). In c l) (sym on)
    (in_filter-back test c (range_with_len 0 MAX_COLOURS) (range_has 0 MAX_COLOURS c (omega arith) (omega (arith, low))) t)))
    ∙ apart where
      keys : List (List ℕ)
      keys = map (λ (v : Version). v.key) reads ++ keys_of_pairs pairs

      test : ℕ → Bool
      test d = list_any (λ key. shard_of colours key == d) keys

      apart : test c ≡ touches colours c reads pairs
      apart =
          list_any-append (λ key. shard_of colours key == c) (map (λ (v : Version). v.key) reads) (keys_of_pairs pairs)
          ∙ (ap (λ (b : Bool). b || list_any (λ key. shard_of colours key == c) (keys_of_pairs pairs))
          (any_map (λ key. shard_of colours key == c) (λ (v : Version). v.key) reads)
          ∙ ap (λ (b : Bool). list_any (λ (v : Version). shard_of colours v.key == c) reads || b)
          (any_map (λ key. shard_of colours key == c) (λ (p : Pair). p.key) pairs))

-- OBJECTS

pub has_in : (kind : Kind) (c : ℕ) → In c (colours_of kind) → has_colour kind c ≡ true
has_in kind c i = any_in (λ x. x == c) (colours_of kind) c i (eq-eqb c c refl)

pub kind_some : (regions count : ℕ) (kind : Kind) → IsKindWithin regions count kind → 1 ≤ length (colours_of kind)
kind_some regions count (kinds.Map home colours) w = w.1.some
kind_some regions count (kinds.Tx home colours) w = w.1.some
kind_some regions count (kinds.Causal colour) w = omega arith
kind_some regions count (kinds.Queue home colour) w = omega arith
kind_some regions count (kinds.Tree home colours) w = w.1.some
kind_some regions count (kinds.Parts home colours) w = w.1.some

-- objects that share a colour which one of them keeps to itself are one
pub same_object : (objects : List Object) → AreApart objects → (i j : ℕ) (a b : Object) → slice_get objects i ≡ Some a
    → slice_get objects j ≡ Some b → is_parts a.kind ≡ true → (c : ℕ) → has_colour a.kind c ≡ true
    → has_colour b.kind c ≡ true → j ≡ i
same_object objects apart i j a b at there parts c mine yours = elim (cases_order j i) [
  | inl same ↦ same
  | inr (inl less) ↦ absurd (share (turned (is_parts b.kind) (is_parts a.kind) parts) less)
  | inr (inr more) ↦ absurd (shared (or_left (is_parts a.kind) (is_parts b.kind) parts) more)
] where
  turned : (x y : Bool) → y ≡ true → (x || y) ≡ true
  turned x y e = or_right x y e

  share : (is_parts b.kind || is_parts a.kind) ≡ true → j < i → ⊥
  share kept lt =
      let none : ShareNone b a = subst (λ (o : Object). ShareNone b o) (get_or_from_slice_get objects i a a at)
      (subst (λ (o : Object). ShareNone o (slice_index_or objects i a)) (get_or_from_slice_get objects j b a there)
      (apart j i a lt (slice_get_within objects i a at))) in
      none kept c yours mine

  shared : (is_parts a.kind || is_parts b.kind) ≡ true → i < j → ⊥
  shared kept lt =
      let none : ShareNone a b = subst (λ (o : Object). ShareNone a o) (get_or_from_slice_get objects j b a there)
      (subst (λ (o : Object). ShareNone o (slice_index_or objects j a)) (get_or_from_slice_get objects i a a at)
      (apart i j a lt (slice_get_within objects j b there))) in
      none kept c mine yours

-- the object of a kind
pub object_of : (objects : List Object) (object : ℕ) (kind : Kind)
    → option_map (λ (o : Object). o.kind) (slice_get objects object) ≡ Some kind
    → (o : Object) × (slice_get objects object ≡ Some o) × (o.kind ≡ kind)
object_of objects object kind e = by (slice_get objects object) refl e where
  by : (o : Option Object) → slice_get objects object ≡ o → option_map (λ (o : Object). o.kind) o ≡ Some kind
      → (o : Object) × (slice_get objects object ≡ Some o) × (o.kind ≡ kind)
  by None is f = absurd (let g : ⊥ = cc (f) in g)
  by (Some o) is f = (o, is, let g : o.kind ≡ kind = cc (f) in g)
