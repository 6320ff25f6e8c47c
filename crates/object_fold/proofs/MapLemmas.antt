-- One more form, for the keys of a shard.
use Rattle.std.proofs.Common.{◌≡◌, ℕ, List, [], ◌∷◌, ◌++◌, None, Result, Ok, Err, inl, inr, refl, ◌∙◌}
use Rattle.std.proofs.lemmas.Bool.{cases_Bool}
use Rattle.std.proofs.lemmas.List.Sums.{fold_push}
use Rattle.std.specs.Prelude.{OnOk}
use Rattle.object_form.specs.Readings.{form_of}
use Rattle.object_fold.specs.declared.shard_map.ShardMap.{ShardMap}
use Rattle.object_fold.specs.Nodes.{ObjectNode}
use Rattle.object_fold.specs.Tables.{value_at}
use Rattle.object_fold.specs.Maps.{Value, value_with, value_after}
use Rattle.object_fold.specs.States.{IsShardMap, HasShardOf, is_mine, mine_with}

-- a map that stands for nodes, after one more
pub one_more : (old new : ShardMap) (nodes : List ObjectNode) (node : ObjectNode) → HasShardOf old new
    → ((key : List ℕ) → value_at new.values.entries key ≡ mine_with old key (form_of node.text)) → IsShardMap old nodes → IsShardMap new (nodes ++ node ∷ [])
one_more old new nodes node same step stands = λ key.
    let f = λ (value : Value) (n : ObjectNode). value_with key value (form_of n.text) in
    let more : value_after key (nodes ++ node ∷ []) ≡ value_with key (value_after key nodes) (form_of node.text) = fold_push f None nodes node in
    step key ∙ elim (cases_Bool (is_mine old key)) [
      | inl own ↦ rw (stands key, same.colours, same.shard, own, more) refl
      | inr foreign ↦ rw (stands key, same.colours, same.shard, foreign) refl
    ]

-- what holds of all values at Ok
pub ok_for_all : {A E B : Type 0} (r : Result A E) (P : B → Type 0) (Q : Type 0) → ((b : B) → OnOk r (P b)) → (((b : B) → P b) → Q) → OnOk r Q
ok_for_all (Ok a) P Q each f = f each
ok_for_all (Err e) P Q each f = tt
