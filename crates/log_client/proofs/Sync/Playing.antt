-- Syncs: what a hold's look shows and what is played of it, as what a client knows.
use Rattle.std.proofs.Common.{◌≡◌, ℕ, List, [], ◌∷◌, Some, slice_get, refl, sym, subst}
use Rattle.std.specs.List.{AllZip}
use Rattle.log_node.specs.declared.ids.Counts.{Counts}
use Rattle.log_node.specs.Reach.{Chains}
use Rattle.log_node.specs.Seen.{PlacedNode}
use Rattle.col_core.specs.declared.Entry.{Entry}
use Rattle.col_core.specs.Cuts.{chain}
use Rattle.col_core.specs.Computed.{dated}
use Rattle.col_core.specs.Keeping.{Kept}
use Rattle.col_core.specs.PlayOrder.{Place, Stands, IsPlayOrder}
use Rattle.chain_store.specs.declared.hold.Hold.{Hold}
use Rattle.chain_store.specs.Histories.{Names}
use Rattle.chain_store.specs.Holds.{entries_seen, seen_in}
use Rattle.lawful_run.specs.Callers.{Caller}
use Rattle.client_law.specs.Knowing.{Rest}
use Rattle.client_law.specs.Moves.{ShowsThere, PlaysThere}
use Rattle.log_client.specs.Fits.{seen_by, FitsHolds}
use Rattle.log_client.proofs.Known.Seeing.{seen_there}
use Rattle.log_client.proofs.Known.Fitting.{text_named}

module _ (hs : List Hold) (caller : Caller) (h : Hold) (at_h : slice_get hs caller.own ≡ Some h) (rest : Rest)
    (fits : FitsHolds hs rest) (colour : ℕ) where
  abbrev chains : Chains
  chains = chain caller.own (dated caller.own (entries_seen h colour))

  -- a node that stands in a chain and is named is shown with its text
  shows_there : (place : Place) (item : PlacedNode) → Stands chains place item.head
      → Names (seen_in h colour) item.head.key.id item.node
      → ShowsThere (seen_by hs) rest caller colour place item
  shows_there place item stands named = record {
    head = item.head;
    stands = subst (λ (l : List Entry). Stands (chain caller.own (dated caller.own l)) place item.head)
        (sym (seen_there hs caller.own h at_h colour)) stands;
    key = refl;
    text = text_named hs rest caller.own h at_h fits (seen_by hs) colour item.head.key.id item.node named;
  }

  all_shown : (order : List Place) (nodes : List PlacedNode)
      → AllZip (λ place (item : PlacedNode). Stands chains place item.head
      × Names (seen_in h colour) item.head.key.id item.node) order nodes
      → AllZip (ShowsThere (seen_by hs) rest caller colour) order nodes
  all_shown [] [] all = tt
  all_shown [] (item ∷ nodes) all = absurd all
  all_shown (place ∷ order) [] all = absurd all
  all_shown (place ∷ order) (item ∷ nodes) all =
      (shows_there place item all.0.0 all.0.1, all_shown order nodes all.1)

  -- nodes that were played in the order of play
  pub plays_there : (kept : Kept) (snapshot : Counts) (order : List Place) (nodes : List PlacedNode)
      → IsPlayOrder chains (kept.starts colour) snapshot order
      → AllZip (λ place (item : PlacedNode). Stands chains place item.head
      × Names (seen_in h colour) item.head.key.id item.node) order nodes
      → PlaysThere (seen_by hs) rest caller kept colour snapshot nodes
  plays_there kept snapshot order nodes played shown = record {
    order = order;
    played = subst (λ (l : List Entry). IsPlayOrder (chain caller.own (dated caller.own l)) (kept.starts colour) snapshot order)
        (sym (seen_there hs caller.own h at_h colour)) played;
    lines = all_shown order nodes shown;
  }
