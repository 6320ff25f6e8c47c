-- What a node is told among nodes that are read.
use Rattle.std.proofs.Common.{◌≡◌, ℕ, zero, suc, ◌+◌, ◌<◌, Bool, true, false, List, [], ◌∷◌, ◌++◌, length, map, take, get_or, Option, Some, None, refl, ap, sym, subst, ◌∙◌, arith}
use Rattle.std.specs.Prelude.{not}
use Rattle.std.specs.List.{Contains, find, prefix_len}
use Rattle.std.proofs.lemmas.List.{map-append, take_more}
use Rattle.log_node.specs.declared.ids.Key.{Key}
use Rattle.log_node.specs.Order.{same_key}
use Rattle.log_node.proofs.CallerLemmas.{same_key-is}
use Rattle.object_fold.specs.Nodes.{ObjectNode, nodes_before}
use Rattle.object_fold.specs.Folds.{told_among, told_of}
use Rattle.col_core.specs.History.{line}
use Rattle.col_core.proofs.CallerLemmas.{if_true, if_false}
use Rattle.world_laws.specs.Worlds.{World, home_of, home_history}
use Rattle.world_laws.specs.Laws.{IsReached}
use Rattle.world_laws.proofs.CallerLemmas.{in_contains, contains_in}
use Rattle.script_meaning.specs.Dequeues.{object_node_at}
use Rattle.script_meaning.specs.Stamped.{keys_read}
use Rattle.script_meaning.proofs.CallerLemmas.{keys_stand}
use Rattle.script_in_order.specs.Transacting.{AreOfLines, AreOthers}
use Rattle.script_in_order.proofs.RunReplies.{any_default}

-- the keys that a read has stand in lines
pub read_stand : (w : World) → IsReached w → (client stamp : ℕ) (colours : List ℕ)
    → AreOfLines w (keys_read w client stamp colours)
read_stand w reached client stamp colours key i =
    let s = keys_stand w reached client stamp colours key (in_contains (keys_read w client stamp colours) key i) in
    (home_of w client, s.0, contains_in (line (home_history w client s.0)) key s.2)

-- the key at a place
abbrev pub key_at : List Key → ℕ → Key
key_at keys i = get_or keys i (record { stamp = 0; id = record { client = 0; count = 0 } })

pub is_there : (keys : List Key) (i : ℕ) → i < length keys → key_at keys i ≡ get_or keys i (key_at keys i)
is_there keys i low = any_default keys i (record { stamp = 0; id = record { client = 0; count = 0 } }) (key_at keys i) low

-- one node more
pub one_more : (w : World) (keys : List Key) (i : ℕ) (key : Key) → i < length keys → key ≡ get_or keys i key
    → map (object_node_at w) (take i keys) ++ object_node_at w key ∷ [] ≡ map (object_node_at w) (take (i + 1) keys)
one_more w keys i key low is =
    ap (λ (k : Key). map (object_node_at w) (take i keys) ++ object_node_at w k ∷ []) is
    ∙ (sym (map-append (object_node_at w) (take i keys) (get_or keys i key ∷ []))
    ∙ ap (map (object_node_at w)) (sym (take_more keys i key low)))

pub no_others : (own : Key) → AreOthers own []
no_others own k d low = absurd (let f : ⊥ = omega (arith, low) in f)

rest_others : (own key : Key) (keys : List Key) → AreOthers own (key ∷ keys) → AreOthers own keys
rest_others own key keys all k d low = all (suc k) d (omega (arith, low))

pub one_other : (own : Key) (keys : List Key) (i : ℕ) (key : Key) → i < length keys → key ≡ get_or keys i key
    → same_key key own ≡ false → AreOthers own (take i keys) → AreOthers own (take (i + 1) keys)
one_other own keys i key low is other all =
    subst (AreOthers own) (sym (take_more keys i key low)) (added (take i keys) all) where
      added : (ks : List Key) → AreOthers own ks → AreOthers own (ks ++ get_or keys i key ∷ [])
      added [] a zero d lt = subst (λ (k : Key). same_key k own ≡ false) is other
      added [] a (suc k) d lt = absurd (let f : ⊥ = omega (arith, lt) in f)
      added (x ∷ xs) a zero d lt = a zero d (omega arith)
      added (x ∷ xs) a (suc k) d lt = added xs (rest_others own x xs a) k d (omega (arith, lt))

module _ (w : World) (own : Key) where
  abbrev is_own : ObjectNode → Bool
  is_own node = same_key node.key own

  none_found : (keys : List Key) → AreOthers own keys → find is_own (map (object_node_at w) keys) ≡ None
  none_found [] all = refl
  none_found (key ∷ keys) all =
      if_false (same_key key own) (Some (object_node_at w key)) (find is_own (map (object_node_at w) keys))
      (all zero key (omega arith))
      ∙ none_found keys (rest_others own key keys all)

  first_found : (keys : List Key) (i : ℕ) (key : Key) → i < length keys → AreOthers own (take i keys)
      → same_key (get_or keys i key) own ≡ true → find is_own (map (object_node_at w) keys) ≡ Some (object_node_at w (get_or keys i key))
  first_found [] i key low all same = absurd (let f : ⊥ = omega (arith, low) in f)
  first_found (x ∷ xs) zero key low all same =
      if_true (same_key x own) (Some (object_node_at w x)) (find is_own (map (object_node_at w) xs)) same
  first_found (x ∷ xs) (suc i) key low all same =
      if_false (same_key x own) (Some (object_node_at w x)) (find is_own (map (object_node_at w) xs)) (all zero x (omega arith))
      ∙ first_found xs i key (omega (arith, low)) (rest_others own x (take i xs) all) same

  -- how many first nodes have other keys
  abbrev others_first : List ObjectNode → ℕ
  others_first nodes = prefix_len (λ node. not (same_key node.key own)) nodes

  before_first : (keys : List Key) (i : ℕ) (key : Key) → i < length keys → AreOthers own (take i keys)
      → same_key (get_or keys i key) own ≡ true
      → nodes_before own (map (object_node_at w) keys) ≡ map (object_node_at w) (take i keys)
  before_first [] i key low all same = absurd (let f : ⊥ = omega (arith, low) in f)
  before_first (x ∷ xs) zero key low all same =
      ap (λ (n : ℕ). take n (map (object_node_at w) (x ∷ xs)))
      (if_false (not (same_key x own)) (1 + others_first (map (object_node_at w) xs)) 0 (ap not same))
  before_first (x ∷ xs) (suc i) key low all same =
      let n = others_first (map (object_node_at w) xs) in
      let one : 1 + n ≡ suc n = omega arith in
      ap (λ (m : ℕ). take m (map (object_node_at w) (x ∷ xs)))
      (if_true (not (same_key x own)) (1 + n) 0 (ap not (all zero x (omega arith))) ∙ one)
      ∙ ap (λ (l : List ObjectNode). object_node_at w x ∷ l)
      (before_first xs i key (omega (arith, low)) (rest_others own x (take i xs) all) same)

  module _ {T : Type 0} (told : List ObjectNode → ObjectNode → Option T) where
    -- the node with the key is not among these
    pub none_told : (keys : List Key) → AreOthers own keys → told_of told (map (object_node_at w) keys) own ≡ None
    none_told keys all = ap (told_among told (map (object_node_at w) keys)) (none_found keys all)

    -- it is told what it is told behind the nodes before it
    pub its_told : (keys : List Key) (i : ℕ) (key : Key) (given : Option T) → i < length keys
        → key ≡ get_or keys i key → AreOthers own (take i keys) → same_key key own ≡ true
        → given ≡ told (map (object_node_at w) (take i keys)) (object_node_at w key)
        → given ≡ told_of told (map (object_node_at w) keys) own
    its_told keys i key given low is all same e =
        let there = subst (λ (k : Key). same_key k own ≡ true) is same in
        let nodes = map (object_node_at w) keys in
        let its = object_node_at w (get_or keys i key) in
        e
        ∙ (ap (λ (k : Key). told (map (object_node_at w) (take i keys)) (object_node_at w k)) is
        ∙ (ap (λ (l : List ObjectNode). told l its) (sym (before_first keys i key low all there))
        ∙ (ap (λ (k : Key). told (nodes_before k nodes) its) (sym (same_key-is (get_or keys i key) own there))
        ∙ ap (told_among told nodes) (sym (first_found keys i key low all there)))))

-- a key of a list stands in a line
pub stands_at : (w : World) (keys : List Key) (i : ℕ) (key : Key) → i < length keys → key ≡ get_or keys i key
    → AreOfLines w keys → (region : ℕ) × (colour : ℕ) × Contains (line (w.histories region colour)) key
stands_at w keys i key low is all = all key (i, low, sym is)
