-- Nodes that are fed behind others.
use Rattle.std.proofs.Common.{◌≡◌, ℕ, zero, suc, ◌+◌, ◌<◌, List, [], ◌∷◌, ◌++◌, length, map, take, get_or, Option, Some, None, refl, ap, sym, subst, ◌∙◌, arith}
use Rattle.std.specs.Prelude.{unwrap_or}
use Rattle.std.specs.List.{Contains}
use Rattle.std.proofs.lemmas.List.{map-append}
use Rattle.log_node.specs.declared.ids.Key.{Key}
use Rattle.log_node.specs.declared.node.Node.{Node}
use Rattle.log_node.specs.Order.{same_key}
use Rattle.object_fold.specs.Nodes.{ObjectNode, keyed_node}
use Rattle.object_fold.specs.Folds.{told_of}
use Rattle.col_core.proofs.CallerLemmas.{by_test, if_true, if_false}
use Rattle.world_laws.specs.Worlds.{World}
use Rattle.world_laws.proofs.CallerLemmas.{in_contains, contains_in}
use Rattle.col_core.proofs.CallerLemmas.{in_right}
use Rattle.script_meaning.specs.Dequeues.{object_node_at}
use Rattle.script_in_order.specs.Transacting.{AreOfLines, AreOthers, found_with}
use Rattle.script_in_order.proofs.ReadTold.{one_more, one_other, its_told, none_told}

-- what stands in lines, and what is behind it
pub behind_stand : (w : World) (before keys all : List Key) → all ≡ before ++ keys → AreOfLines w all → AreOfLines w keys
behind_stand w before keys all is stand key i =
    stand key (subst (λ (l : List Key). Contains l key) (sym is)
    (contains_in (before ++ keys) key (in_right key before keys (in_contains keys key i))))

append_more : {A : Type 0} (xs ys zs : List A) → (xs ++ ys) ++ zs ≡ xs ++ (ys ++ zs)
append_more [] ys zs = refl
append_more {A} (x ∷ xs) ys zs = ap (λ (l : List A). x ∷ l) (append_more xs ys zs)

pub none_behind : {A : Type 0} (xs : List A) → xs ++ [] ≡ xs
none_behind [] = refl
none_behind {A} (x ∷ xs) = ap (λ (l : List A). x ∷ l) (none_behind xs)

-- the text of the node with a key
pub its_text : (w : World) (key : Key) (node : Node) → keyed_node key node ≡ object_node_at w key
    → (object_node_at w key).text ≡ node.text
its_text w key node e = sym (ap (λ (n : ObjectNode). n.text) e)

-- one node more behind others
pub more_behind : (w : World) (before keys : List Key) (i : ℕ) (key : Key) → i < length keys → key ≡ get_or keys i key
    → map (object_node_at w) (before ++ take i keys) ++ object_node_at w key ∷ []
    ≡ map (object_node_at w) (before ++ take (i + 1) keys)
more_behind w before keys i key low is =
    ap (λ (l : List ObjectNode). l ++ object_node_at w key ∷ []) (map-append (object_node_at w) before (take i keys))
    ∙ (append_more (map (object_node_at w) before) (map (object_node_at w) (take i keys)) (object_node_at w key ∷ [])
    ∙ (ap (λ (l : List ObjectNode). map (object_node_at w) before ++ l) (one_more w keys i key low is)
    ∙ sym (map-append (object_node_at w) before (take (i + 1) keys))))

-- a place behind others
abbrev behind : List Key → ℕ → ℕ
behind [] i = i
behind (key ∷ keys) i = suc (behind keys i)

module _ (keys : List Key) (i : ℕ) where
  behind_low : (before : List Key) → i < length keys → behind before i < length (before ++ keys)
  behind_low [] low = low
  behind_low (b ∷ before) low = let l = behind_low before low in omega (arith, l)

  behind_take : (before : List Key) → take (behind before i) (before ++ keys) ≡ before ++ take i keys
  behind_take [] = refl
  behind_take (b ∷ before) = ap (λ (l : List Key). b ∷ l) (behind_take before)

  behind_get : (before : List Key) (d : Key) → get_or (before ++ keys) (behind before i) d ≡ get_or keys i d
  behind_get [] d = refl
  behind_get (b ∷ before) d = behind_get before d

rest_of : (own b : Key) (before : List Key) → AreOthers own (b ∷ before) → AreOthers own before
rest_of own b before all k d low = all (suc k) d (omega (arith, low))

others_both : (own : Key) (before keys : List Key) → AreOthers own before → AreOthers own keys
    → AreOthers own (before ++ keys)
others_both own [] keys all more k d low = more k d low
others_both own (b ∷ before) keys all more zero d low = all zero d (omega arith)
others_both own (b ∷ before) keys all more (suc k) d low =
    others_both own before keys (rest_of own b before all) more k d (omega (arith, low))

-- What was found of the node with a key, after the first so many keys behind those before: it is not among them, or this is
-- what it is told among all.
abbrev pub IsFound : {T : Type 0} → (List ObjectNode → ObjectNode → Option T) → World → Key → List Key → List Key → ℕ
    → Option (Option T) → Type 0
IsFound told w own before keys i None = AreOthers own (take i keys)
IsFound told w own before keys i (Some found) = found ≡ told_of told (map (object_node_at w) (before ++ keys)) own

module _ {T : Type 0} (told : List ObjectNode → ObjectNode → Option T) (w : World) (own : Key) (before keys : List Key)
    (others : AreOthers own before) where
  found_more : (i : ℕ) (key : Key) (given : Option T) (found : Option (Option T)) → i < length keys
      → key ≡ get_or keys i key → given ≡ told (map (object_node_at w) (before ++ take i keys)) (object_node_at w key)
      → IsFound told w own before keys i found → IsFound told w own before keys (i + 1) (found_with found given key own)
  found_more i key given (Some found) low is e so = so
  found_more i key given None low is e so =
      by_test _ (same_key key own)
      (λ t. subst (IsFound told w own before keys (i + 1))
      (sym (if_true (same_key key own) (Some given) None t))
      (its_told w own told (before ++ keys) (behind before i) key given (behind_low keys i before low)
      (is ∙ sym (behind_get keys i before key))
      (subst (AreOthers own) (sym (behind_take keys i before)) (others_both own before (take i keys) others so)) t
      (subst (λ (l : List Key). given ≡ told (map (object_node_at w) l) (object_node_at w key)) (sym (behind_take keys i before)) e)))
      (λ f. subst (IsFound told w own before keys (i + 1)) (sym (if_false (same_key key own) (Some given) None f))
      (one_other own keys i key low is f so))

  pub found_next : (i : ℕ) (key : Key) (given : Option T) (found next : Option (Option T)) → i < length keys
      → key ≡ get_or keys i key → given ≡ told (map (object_node_at w) (before ++ take i keys)) (object_node_at w key)
      → next ≡ found_with found given key own → IsFound told w own before keys i found
      → IsFound told w own before keys (i + 1) next
  found_next i key given found next low is e made so =
      subst (IsFound told w own before keys (i + 1)) (sym made) (found_more i key given found low is e so)

  pub found_all : (i : ℕ) (found : Option (Option T)) → take i keys ≡ keys → IsFound told w own before keys i found
      → unwrap_or found None ≡ told_of told (map (object_node_at w) (before ++ keys)) own
  found_all i None all so =
      sym (none_told w own told (before ++ keys) (others_both own before keys others (subst (AreOthers own) all so)))
  found_all i (Some found) all so = so
