-- A node that an entry carried, among all that a history carried.
use Rattle.std.proofs.Common.{◌≡◌, ℕ, zero, suc, ◌+◌, List, [], ◌∷◌, ◌++◌, length, Some, slice_get, refl, ap, subst, sym, ◌∙◌, eq-eqb}
use Rattle.std.specs.Prelude.{◌==◌}
use Rattle.log_node.specs.declared.node.Head.{Head}
use Rattle.log_node.specs.declared.node.Node.{Node}
use Rattle.log_node.specs.Seen.{PlacedNode}
use Rattle.col_core.specs.declared.Event as event_types
use Rattle.col_core.specs.declared.Event.TheVariants as events
use Rattle.col_core.specs.Cuts.{carried}
use Rattle.col_core.proofs.CallerLemmas.{if_true, slice_longer}
use Rattle.chain_store.specs.declared.told.Told.{Told}
use Rattle.chain_store.specs.Rings.{under, carried_from}

-- the item behind others
behind : {A : Type 0} (xs ys : List A) (n : ℕ) (y : A) → slice_get ys n ≡ Some y
    → (m : ℕ) × (slice_get (xs ++ ys) m ≡ Some y)
behind [] ys n y at = (n, at)
behind (x ∷ xs) ys n y at = let r = behind xs ys n y at in (suc r.0, r.1)

-- each of as many nodes is under a head
under_head : (heads : List Head) (nodes : List Node) (j : ℕ) (y : Node) → length nodes ≡ length heads
    → slice_get nodes j ≡ Some y → (i : PlacedNode) × (slice_get (under heads nodes) j ≡ Some i) × (i.node ≡ y)
under_head heads [] j y long at = absurd (let f : ⊥ = cc (at) in f)
under_head [] (z ∷ nodes) j y long at = absurd (let f : ⊥ = cc (long) in f)
under_head (h ∷ heads) (z ∷ nodes) zero y long at =
    let same : z ≡ y = cc (at) in (record { head = h; node = z }, refl, same)
under_head (h ∷ heads) (z ∷ nodes) (suc j) y long at =
    under_head heads nodes j y (let e : length nodes ≡ length heads = cc (long) in e) at

-- what an entry carried is among all that was
in_log : (region : ℕ) (log : List Told) (place : ℕ) (t : Told) (j : ℕ) (i : PlacedNode) → slice_get log place ≡ Some t
    → slice_get (under (carried region t.entry.event) t.nodes) j ≡ Some i
    → (m : ℕ) × (slice_get (carried_from region log) m ≡ Some i)
in_log region [] place t j i there at = absurd (let f : ⊥ = cc (there) in f)
in_log region (u ∷ log) zero t j i there at =
    let same : u ≡ t = cc (there) in (
      j,
      slice_longer (under (carried region u.entry.event) u.nodes) (carried_from region log) j i
          (ap (λ (v : Told). slice_get (under (carried region v.entry.event) v.nodes) j) same ∙ at),
    )
in_log region (u ∷ log) (suc place) t j i there at =
    let r = in_log region log place t j i there at in
    behind (under (carried region u.entry.event) u.nodes) (carried_from region log) r.0 i r.1

pub carried_node : (region : ℕ) (log : List Told) (place : ℕ) (t : Told) (start : ℕ) (heads : List Head) (y : Node)
    → slice_get log place ≡ Some t → t.entry.event ≡ events.Carry region start heads → length t.nodes ≡ length heads
    → (j : ℕ) × (slice_get t.nodes j ≡ Some y)
    → (m : ℕ) × (i : PlacedNode) × (slice_get (carried_from region log) m ≡ Some i) × (i.node ≡ y)
carried_node region log place t start heads y there is long at =
    let u = under_head heads t.nodes at.0 y long at.1 in
    let brought : carried region t.entry.event ≡ heads =
    ap (carried region) is ∙ if_true (region == region) heads [] (eq-eqb region region refl) in
    let m = in_log region log place t at.0 u.0 there
    (ap (λ (hs : List Head). slice_get (under hs t.nodes) at.0) brought ∙ u.1) in
    (m.0, u.0, m.1, u.2)
