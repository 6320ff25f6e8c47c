-- One more node of a map of several keys at once.
use Rattle.std.proofs.Common.{◌≡◌, ◌∙◌, ap, sym, cond, ℕ, ◌<◌, Bool, true, false, List, [], ◌∷◌, ◌++◌, None, Result, Ok, Err, refl, subst}
use Rattle.std.specs.Prelude.{◌&&◌, OnOk}
use Rattle.std.proofs.lemmas.Bool.{lt-ltb}
use Rattle.std.proofs.lemmas.List.{append-nil}
use Rattle.std.proofs.lemmas.List.Sums.{fold_push}
use Rattle.log_node.specs.declared.limits.TheConstants.{MAX_COLOURS}
use Rattle.log_node.specs.Sets.{has}
use Rattle.object_form.specs.Readings.{form_of}
use Rattle.object_fold.specs.Maps.{Value, value_after, value_with}
use Rattle.object_fold.specs.Nodes.{ObjectNode, nodes_of, shard_of}
use Rattle.object_fold.specs.Tables.{value_at}
use Rattle.object_law.specs.AmongMaps.{IsAmongMap, counted_with}
use Rattle.object_law.specs.declared.among_map.AmongMap.{AmongMap}

-- of one node more those with a colour are those of before, and it, where it has the colour
pub nodes_more : (colour : ℕ) (nodes : List ObjectNode) (node : ObjectNode)
    → nodes_of colour (nodes ++ node ∷ []) ≡ nodes_of colour nodes ++ cond (has node.colours colour) (node ∷ []) []
nodes_more colour [] node = refl
nodes_more colour (n ∷ nodes) node = by (has n.colours colour) (nodes_more colour nodes node) where
  by : (b : Bool) → nodes_of colour (nodes ++ node ∷ []) ≡ nodes_of colour nodes ++ cond (has node.colours colour) (node ∷ []) []
      → cond b (n ∷ nodes_of colour (nodes ++ node ∷ [])) (nodes_of colour (nodes ++ node ∷ []))
      ≡ cond b (n ∷ nodes_of colour nodes) (nodes_of colour nodes) ++ cond (has node.colours colour) (node ∷ []) []
  by true e = ap (λ (l : List ObjectNode). n ∷ l) e
  by false e = e

-- a map that has what nodes leave, after one more
pub one_more : (old new : AmongMap) (nodes : List ObjectNode) (node : ObjectNode) → new.colours ≡ old.colours
    → ((key : List ℕ) → value_at new.values.entries key ≡ counted_with old node.colours key (form_of node.text))
    → IsAmongMap old nodes → IsAmongMap new (nodes ++ node ∷ [])
one_more old new nodes node same step stands key low =
    let c : ℕ = shard_of old.colours key in
    let small : c < MAX_COLOURS = subst (λ (cs : List ℕ). shard_of cs key < MAX_COLOURS) same low in
    let here : value_at old.values.entries key ≡ value_after key (nodes_of c nodes) = stands key small in
    step key
    ∙ (ap (λ (b : Bool). cond (b && has node.colours c) (value_with key (value_at old.values.entries key) (form_of node.text))
    (value_at old.values.entries key)) (lt-ltb c MAX_COLOURS small)
    ∙ (by c here (has node.colours c)
    ∙ (ap (value_after key) (sym (nodes_more c nodes node))
    ∙ ap (λ (cs : List ℕ). value_after key (nodes_of (shard_of cs key) (nodes ++ node ∷ []))) (sym same)))) where
      by : (c : ℕ) → value_at old.values.entries key ≡ value_after key (nodes_of c nodes) → (b : Bool)
          → cond b (value_with key (value_at old.values.entries key) (form_of node.text)) (value_at old.values.entries key)
          ≡ value_after key (nodes_of c nodes ++ cond b (node ∷ []) [])
      by c here true =
          let f = λ (value : Value) (n : ObjectNode). value_with key value (form_of n.text) in
          ap (λ (v : Value). value_with key v (form_of node.text)) here ∙ sym (fold_push f None (nodes_of c nodes) node)
      by c here false = here ∙ ap (value_after key) (sym (append-nil (nodes_of c nodes)))

-- what holds of all values at Ok
pub ok_for_all : {A E B : Type 0} (r : Result A E) (P : B → Type 0) (Q : Type 0) → ((b : B) → OnOk r (P b)) → (((b : B) → P b) → Q)
    → OnOk r Q
ok_for_all (Ok a) P Q each f = f each
ok_for_all (Err e) P Q each f = tt
