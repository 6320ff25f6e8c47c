-- Each kind of step keeps the rule of a column's copies.
use Rattle.std.proofs.Common.{◌≡◌, ◌≢◌, ℕ, List, [], ◌∷◌, ◌++◌, set, refl, subst, sym, ⊎_elim, Option, Some, None}
use mathlib.Core.Option.{some}
use lib.ListN.{get_elem?}
use Rattle.atomic_table.proofs.Lists.{at_set, at_snoc}
use Rattle.crossbeam_utils.specs.Register.{Admits, TurnsAt, Forks, Merges}
use Rattle.chain_store.specs.declared.read_view.name.ColumnName.{ColumnName}
use Rattle.chain_store.specs.declared.read_view.copied.Copied.{Copied}
use Rattle.chain_store.specs.Copies.{shape_of, IsGood}
use Rattle.chain_store.specs.CopyRule.{Fits, AllFit, IsTold, Finds}

set_fits : (c : ColumnName) (views : List (Option ColumnName)) (id : ℕ) (w : Option ColumnName)
    → AllFit c views → Fits c w → AllFit c (set views id w)
set_fits c views id w all fit j u e =
    ⊎_elim (λ (p : (j ≡ id) × (w ≡ u)). subst (Fits c) p.1 fit)
    (λ (p : (j ≢ id) × (get_elem? views j ≡ some u)). all j u p.1) (at_set views id j w u e)

snoc_fits : (c : ColumnName) (views : List (Option ColumnName)) (w : Option ColumnName)
    → AllFit c views → Fits c w → AllFit c (views ++ w ∷ [])
snoc_fits c views w all fit j u e = ⊎_elim (all j u) (λ (same : w ≡ u). subst (Fits c) same fit) (at_snoc views w u j e)

-- a reader comes that knows nothing
pub admits : Admits IsTold None
admits x views h = (h.0, snoc_fits _ views None h.1 tt)

-- a good copy of the same column is found
pub finds : (seat : ℕ) (v : Option ColumnName) (x y : Copied)
    → IsGood (shape_of y) → (shape_of y).column ≡ (shape_of x).column → TurnsAt IsTold seat v x y Finds
finds seat v x y good same views h at =
    let fits : AllFit (shape_of y).column views = subst (λ (c : ColumnName). AllFit c views) (sym same) h.1 in (
      Some (shape_of y).column,
      (good, set_fits _ views seat _ fits refl),
      (good, fits seat v at, refl),
    )

-- what is known is told
pub forks : (seat : ℕ) (v : Option ColumnName) → Forks IsTold seat v v v
forks seat v x views h at =
    (h.0, snoc_fits _ (set views seat v) v (set_fits _ views seat v h.1 (h.1 seat v at)) (h.1 seat v at))

-- and learnt
pub merges : (seat : ℕ) (v : Option ColumnName) (other : ℕ) (w : Option ColumnName) → Merges IsTold seat v other w w None
merges seat v other w x views h at apart there =
    let b : Fits (shape_of x).column w =
    ⊎_elim (λ (t : (other ≡ seat) × (w ≡ w)). absurd (apart t.0))
    (λ (t : (other ≢ seat) × (get_elem? views other ≡ some w)). h.1 other w t.1) (at_set views seat other w w there) in
    (h.0, set_fits _ (set views seat w) other None (set_fits _ views seat w h.1 b) tt)
