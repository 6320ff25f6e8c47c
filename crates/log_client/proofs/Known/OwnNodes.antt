-- The nodes that a client appended, as it appends more.
use Rattle.std.proofs.Common.{◌≡◌, ℕ, ◌<◌, List, [], ◌∷◌, ◌++◌, length, Some, slice_get, ap, sym, ◌∙◌, inl, inr, ◌⊎◌}
use Rattle.log_node.specs.declared.ids.Id.{Id}
use Rattle.log_node.specs.declared.node.Node.{Node}
use Rattle.stamp_board.specs.Views.{KnowsBegun}
use Rattle.stamp_board.proofs.CallerLemmas.{begun_learnt}
use Rattle.chain_store.specs.declared.told.Told.{Told}
use Rattle.chain_store.specs.declared.hold.Hold.{Hold}
use Rattle.chain_store.specs.Owning.{row_of}
use Rattle.chain_store.specs.Holds.{made_in, view_of}
use Rattle.append_core.specs.Standing.{IsSingleOf}
use Rattle.lawful_run.proofs.CallerLemmas.{get-append}
use Rattle.log_client.specs.Fits.{HasGoneOn}
use Rattle.log_client.specs.Ending.{HasOwnNodes}
use Rattle.log_client.proofs.Lists.{got_end, got_last}
use Rattle.log_client.proofs.Known.Truly.{WasMade}

-- what a hold brings that has gone on: the nodes of singles that it had not made, and of rows that it had not begun, are
-- in the list at their counts
pub record Brings (number : ℕ) (nodes : List Node) (g h : Hold) : Type 0 where
  pub on : HasGoneOn g h
  pub singles : (colour n : ℕ) (t : Told) (x : Node) → slice_get (made_in h colour) n ≡ Some t → t.nodes ≡ x ∷ []
      → IsSingleOf x.id t.entry.event → WasMade g colour t ⊎ (slice_get nodes x.id.count ≡ Some x)
  pub rows : (j : ℕ) → j < h.seat.used
      → (j < g.seat.used)
      ⊎ ((x : Node) × KnowsBegun (view_of h) (row_of number j) x × (slice_get nodes x.id.count ≡ Some x))

-- the nodes with those that were appended
pub own_nodes_on : (number : ℕ) (gs hs : List Hold) (nodes more : List Node) → HasOwnNodes number gs nodes
    → ((n : ℕ) (x : Node) → slice_get (nodes ++ more) n ≡ Some x → x.id ≡ record { client = number; count = n })
    → ((region : ℕ) (h : Hold) → slice_get hs region ≡ Some h
    → (g : Hold) × (slice_get gs region ≡ Some g) × Brings number (nodes ++ more) g h)
    → HasOwnNodes number hs (nodes ++ more)
own_nodes_on number gs hs nodes more own ids each = record {
  ids = ids;
  singles = λ region colour n h t x at made is single.
      let g = each region h at in
      elim (g.2.singles colour n t x made is single) [
        | inl old ↦ get-append nodes more x.id.count x (own.singles region colour old.0 g.0 t x g.1 old.1 is single)
        | inr new ↦ new
      ];
  rows = λ region j h at lt.
      let g = each region h at in
      elim (g.2.rows j lt) [
        | inl old ↦
            let x = own.rows region j g.0 g.1 old in (
              x.0,
              begun_learnt (view_of g.0) (view_of h) (row_of number j) g.2.on.size g.2.on.learns x.0 x.1,
              get-append nodes more x.0.id.count x.0 x.2,
            )
        | inr new ↦ new
      ];
}

-- the id of one node more
pub ids_then : (number : ℕ) (nodes : List Node) (x : Node)
    → ((n : ℕ) (y : Node) → slice_get nodes n ≡ Some y → y.id ≡ record { client = number; count = n })
    → x.id ≡ record { client = number; count = length nodes }
    → (n : ℕ) (y : Node) → slice_get (nodes ++ x ∷ []) n ≡ Some y → y.id ≡ record { client = number; count = n }
ids_then number nodes x ids is n y at = by_place (got_end nodes x n y at) where
  by_place : (slice_get nodes n ≡ Some y) ⊎ ((n ≡ length nodes) × (x ≡ y)) → y.id ≡ record { client = number; count = n }
  by_place (inl old) = ids n y old
  by_place (inr last) = (ap (λ (z : Node). z.id) (sym last.1) ∙ is) ∙ (λ i. record { client = number; count = sym last.0 i })

-- the last of them stands at its count
pub stands_then : (number : ℕ) (nodes : List Node) (x : Node) → x.id ≡ record { client = number; count = length nodes }
    → slice_get (nodes ++ x ∷ []) x.id.count ≡ Some x
stands_then number nodes x is =
    ap (λ (i : Id). slice_get (nodes ++ x ∷ []) i.count) is ∙ got_last nodes x
