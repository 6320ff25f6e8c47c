-- Facts on lists, and on what objects make of no nodes.
use Rattle.std.proofs.Common.{◌≡◌, ℕ, zero, suc, ◌<◌, List, [], ◌∷◌, length, Some, None, slice_get, refl, subst, arith}
use Rattle.std.specs.Prelude.{Bool, true, false, ◌==◌, if◌then◌else◌}
use Rattle.std.specs.List.{All}
use Rattle.object_fold.specs.Nodes.{ObjectNode, shard_of}
use Rattle.object_fold.specs.Maps.{Value, shard_value}
use Rattle.col_core.specs.Log.{Log}
use Rattle.lawful_run.specs.Objects.{AreObjectNodes}

-- two that are there are the same
pub some_same : {A : Type 0} (x y : A) → Some x ≡ Some y → x ≡ y
some_same x y e = cc (e)

-- what holds of each item holds of one at a place
pub all_at : {A : Type 0} (P : A → Type 0) (xs : List A) (k : ℕ) (x : A) → slice_get xs k ≡ Some x → All P xs → P x
all_at P [] k x e a = absurd (let f : ⊥ = cc (e) in f)
all_at P (z ∷ zs) zero x e a =
    let h : z ≡ x = cc (e) in subst P h (a 0 z (let l : 0 < length (z ∷ zs) = omega arith in l))
all_at P (z ∷ zs) (suc k) x e a =
    all_at P zs k x e (λ n d lt. a (suc n) d (let l : suc n < suc (length zs) = omega (arith, lt) in l))

-- no keys have no nodes
pub no_nodes : (log : Log) (nodes : List ObjectNode) → AreObjectNodes log [] nodes → nodes ≡ []
no_nodes log [] z = refl
no_nodes log (n ∷ ns) z = absurd z

-- a shard without nodes has no value
pub no_value : (colours : List ℕ) (colour : ℕ) (key : List ℕ) → shard_value colours colour [] key ≡ None
no_value colours colour key = by (shard_of colours key == colour) where
  by : (b : Bool) → ◌≡◌ {A = Value} (if b then None else None) None
  by true = refl
  by false = refl
