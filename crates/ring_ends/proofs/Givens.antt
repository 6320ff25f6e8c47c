-- Nodes of their heads, one after the other.
use Rattle.std.proofs.Common.{◌≡◌, ℕ, zero, suc, List, [], ◌∷◌, ◌++◌, subst}
use Rattle.log_node.specs.Seen.{PlacedNode}
use Rattle.ring_ends.specs.Givens.{IsOfItsHead, OfTheirHeads}

pub heads_more : (region : ℕ) (items : List PlacedNode) (item : PlacedNode) → OfTheirHeads region items
    → IsOfItsHead region item → OfTheirHeads region (items ++ item ∷ [])
heads_more region [] item old new zero i is = let e : item ≡ i = cc in subst (IsOfItsHead region) e new
heads_more region [] item old new (suc n) i is = absurd (let f : ⊥ = cc in f)
heads_more region (x ∷ xs) item old new zero i is = old zero i is
heads_more region (x ∷ xs) item old new (suc n) i is =
    heads_more region xs item (λ m j e. old (suc m) j e) new n i is
