-- Who proposed a row that a column's seat has marked with a number.
use Rattle.std.proofs.Common.{◌≡◌, ℕ, suc, Bool, true, false, List, [], ◌∷◌, ◌++◌, Option, Some, refl, sym, subst, ◌∙◌}
use Rattle.std.specs.Prelude.{slice_get, if◌then◌else◌}
use Rattle.log_node.specs.declared.ids.Row.{Row}
use Rattle.log_node.specs.declared.node.Node.{Node}
use Rattle.col_core.specs.declared.Event.{Event}
use Rattle.col_core.specs.declared.Event.TheVariants.{Single, Propose, Settle, Raise, Give, Carry, Trim}
use Rattle.stamp_board.specs.declared.view.View.{View}
use Rattle.stamp_board.specs.Views.{KnowsBegun}
use Rattle.chain_store.specs.declared.told.Told.{Told}
use Rattle.chain_store.specs.Histories.{Brings}
use Rattle.chain_store.specs.Marks.{is_row, is_first_of, proposes, stamps_of, Backs}
use Rattle.chain_store.specs.Columns.{told_propose}
use Rattle.chain_store.proofs.Backing.{same_row-is}

-- where the row is proposed under one number alone, an entry proposes it under that
pub proposer : (row : Row) (log : List Told) (n : ℕ) → stamps_of row log ≡ n ∷ []
    → (i : ℕ) × (t : Told) × (slice_get log i ≡ Some t) × (proposes row t.entry.event t.nodes ≡ true)
    × (t.entry.stamp ≡ n)
proposer row [] n e = absurd cc
proposer row (u ∷ log) n e =
    by_case (proposes row u.entry.event u.nodes) refl e (λ f. proposer row log n f) where
      by_case : (b : Bool) → proposes row u.entry.event u.nodes ≡ b
          → (if b then u.entry.stamp ∷ [] else []) ++ stamps_of row log ≡ n ∷ []
          → (stamps_of row log ≡ n ∷ [] → (i : ℕ) × (t : Told) × (slice_get log i ≡ Some t)
          × (proposes row t.entry.event t.nodes ≡ true) × (t.entry.stamp ≡ n))
          → (i : ℕ) × (t : Told) × (slice_get (u ∷ log) i ≡ Some t)
          × (proposes row t.entry.event t.nodes ≡ true) × (t.entry.stamp ≡ n)
      by_case true is f rest = (0, u, refl, is, (let g : u.entry.stamp ≡ n = cc f in g))
      by_case false is f rest = let r = rest f in (suc r.0, r.1, r.2, r.3, r.4)

one_of : (x y : Node) (nodes : List Node) → nodes ≡ x ∷ [] → nodes ≡ y ∷ [] → x ≡ y
one_of x y nodes p q = let f : x ∷ [] ≡ y ∷ [] = sym p ∙ q in let g : x ≡ y = cc in g

-- an entry that proposes the row is the proposal of a node for which the column's seat knows the row as begun
module _ (v : View) (region colour : ℕ) (row : Row) (by n : ℕ) where
  pub proposal_of : (e : Event) (stamp : ℕ) (nodes : List Node) → proposes row e nodes ≡ true → stamp ≡ n
      → Brings region colour e nodes → Backs v e nodes
      → (x : Node) × KnowsBegun v row x
      × (record { entry = record { by = by; event = e; stamp = stamp }; nodes = nodes } ≡ told_propose colour by x n)
  proposal_of (Propose id floor wants) stamp nodes it is brings backs =
      let same = one_of brings.0 backs.0 nodes brings.1 backs.2 in
      let shown : is_row row backs.0.row ≡ true =
      subst (λ (ns : List Node). is_first_of row ns ≡ true) backs.2 it in
      let of = sym (same_row-is backs.1 row (subst (λ (o : Option Row). is_row row o ≡ true) backs.3.of_row shown)) in (
        brings.0,
        subst (λ (y : Node). KnowsBegun v row y) (sym same)
            (subst (λ (r : Row). KnowsBegun v r backs.0) (sym of) backs.3.knows),
        λ i. record { entry = record { by = by; event = brings.3 i; stamp = is i }; nodes = brings.1 i },
      )
  proposal_of (Single id floor wants) stamp nodes it is brings backs = absurd (let g : ⊥ = cc in g)
  proposal_of (Settle id outcome) stamp nodes it is brings backs = absurd (let g : ⊥ = cc in g)
  proposal_of (Raise to) stamp nodes it is brings backs = absurd (let g : ⊥ = cc in g)
  proposal_of (Give other from) stamp nodes it is brings backs = absurd (let g : ⊥ = cc in g)
  proposal_of (Carry other start heads) stamp nodes it is brings backs = absurd (let g : ⊥ = cc in g)
  proposal_of (Trim counts) stamp nodes it is brings backs = absurd (let g : ⊥ = cc in g)
