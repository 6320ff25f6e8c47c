-- Where the nodes stand that a client has played of a colour, as objects may cite it.
use Rattle.std.proofs.Common.{◌≡◌, ℕ, zero, suc, ◌+◌, ◌<◌, ◌≤◌, List, [], ◌∷◌, length, take, drop, Some, ap, sym, subst, ◌∙◌, refl, arith, take-append-drop}
use Rattle.std.specs.Prelude.{slice_get}
use Rattle.std.specs.List.{AllZip, count_by}
use Rattle.log_node.specs.declared.ids.Counts.{Counts}
use Rattle.log_node.specs.declared.node.Node.{Node}
use Rattle.log_node.specs.Seen.{PlacedNode}
use Rattle.log_node.specs.declared.node.Head.{Head}
use Rattle.log_node.specs.Reach.{Chains}
use Rattle.log_node.specs.Vectors.{at}
use Rattle.log_node.proofs.CallerLemmas.{reached_within}
use Rattle.col_core.specs.declared.Entry.{Entry}
use Rattle.col_core.specs.Cuts.{chain}
use Rattle.col_core.specs.Computed.{dated}
use Rattle.col_core.specs.Legal.{IsColumnHistory}
use Rattle.col_core.specs.Keeping.{Kept}
use Rattle.col_core.specs.Log.{HasText}
use Rattle.col_core.specs.PlayOrder.{Place, Stands}
use Rattle.chain_store.specs.declared.told.Told.{Told}
use Rattle.chain_store.specs.Histories.{entries_in, Names}
use Rattle.chain_store.specs.Holds.{seen_in}
use Rattle.script_text.specs.declared.script.Object.{Object}
use Rattle.report_text.specs.declared.report.SyncPiece.{SyncPiece}
use Rattle.lawful_run.specs.Reads.{Syncs}
use Rattle.lawful_run.proofs.CallerLemmas.{prefix_get}
use Rattle.client_law.specs.Knowing.{Rest, log_seen}
use Rattle.client_law.proofs.CallerLemmas.{chain_later}
use Rattle.log_client.specs.declared.store.Store.{Store}
use Rattle.log_client.specs.declared.client.Client.{Client}
use Rattle.log_client.specs.Fits.{FitsHolds}
use Rattle.log_client.specs.Clients.{holds_of, seen_of, tracks_of, starts_of, played_of, counts_in, nodes_of_track, caller_of, IsClient}
use Rattle.log_client.proofs.Known.Seeing.{are_lawful}
use Rattle.log_client.proofs.Known.Fitting.{listed}
use Rattle.log_client.proofs.Going.AtHome.{are_regions}
use Rattle.log_client.proofs.Object.ObjectNodes.{hold_at, seen_is, track_at, tracked}
use Rattle.log_client.proofs.Sync.PlayedOrders.{of_region}
use Rattle.log_client.proofs.Sync.PlayedPlaces.{IsAt, ArePlacedAt, are_placed, zip_at, zip_as}

-- what stands at a place of the colour's chains, beside whatever nodes and rows fit what the client knows
abbrev pub IsPlacedIn : Client → ℕ → Place → PlacedNode → Type 0
IsPlacedIn d colour place item =
    Stands (chain d.region (dated d.region (seen_of d d.region colour))) place item.head
    × (item.node.region ≡ place.region)
    × ((rest : Rest) → FitsHolds (holds_of d) rest → HasText (log_seen (seen_of d) rest) item.head.key.id item.node.text)

-- The nodes that a client has played of a colour stand at these places, up to the counts of its snapshot: each when those before
-- it in its chain were played and all that it needs.
pub record PlayedIn (d : Client) (colour : ℕ) : Type 0 where
  pub order : List Place
  pub shown : AllZip (IsPlacedIn d colour) order (played_of d colour)
  pub placed : (j : ℕ) (p : Place) → slice_get order j ≡ Some p
      → (p.region < 4) × (p.position ≡ count_by (of_region p.region) (take j order))
      × (p.position < at (starts_of d colour) p.region)
  pub needs : (j : ℕ) (p : Place) (item : PlacedNode) → slice_get order j ≡ Some p
      → slice_get (played_of d colour) j ≡ Some item → (r : ℕ) → r < 4
      → at item.head.needs r ≤ count_by (of_region r) (take j order)
  pub whole : (r : ℕ) → r < 4 → count_by (of_region r) order ≡ at (starts_of d colour) r

module _ (s : Store) (d : Client) (colour : ℕ) (is : IsClient s d) (lt : colour < length (tracks_of d)) where
  abbrev log : List Told
  log = seen_in (hold_at s d colour is lt).0 colour

  lawful : IsColumnHistory d.region (length s.regions) (dated d.region (entries_in log))
  lawful =
      subst (λ (h : List Entry). IsColumnHistory d.region (length s.regions) (dated d.region h))
      (seen_is s d colour is lt)
      (are_lawful (length s.regions) s.regions (holds_of d) (are_regions s) is.holds d.region colour)

  all : ArePlacedAt d.region log (starts_of d colour) (played_of d colour)
  all =
      let t = track_at s d colour is lt in
      let of = tracked s d colour is lt in
      subst (λ (v : Counts). ArePlacedAt d.region log v (played_of d colour)) (sym (ap counts_in t.1))
      (subst (λ (l : List PlacedNode). ArePlacedAt d.region log t.0.snapshot.counts l) (sym (ap nodes_of_track t.1))
      (are_placed d.region (length s.regions) log lawful t.0.snapshot.counts t.0.nodes of.played))

  placed_in : (place : Place) (item : PlacedNode) → IsAt d.region log place item → IsPlacedIn d colour place item
  placed_in place item a = (
    subst (λ (h : List Entry). Stands (chain d.region (dated d.region h)) place item.head) (sym (seen_is s d colour is lt)) a.0,
    a.2,
    λ rest fits.
        let h = hold_at s d colour is lt in
        (item.node, listed (holds_of d) rest d.region h.0 h.1 fits colour item.head.key.id item.node a.1, a.1.of_id, refl),
  )

  pub played_in : PlayedIn d colour
  played_in = record {
    order = all.order;
    shown = zip_as (IsAt d.region log) (IsAt d.region log) (IsPlacedIn d colour) all.order (played_of d colour)
        (λ place item a b. placed_in place item a) all.shown all.shown;
    placed = all.placed;
    needs = all.needs;
    whole = all.whole;
  }

  module _ (rest : Rest) (objects : List Object) (kept : Kept) (y : SyncPiece) (of : y.colour ≡ colour)
      (syncs : Syncs (log_seen (seen_of d) rest) (caller_of s d objects) kept y.colour y.events y.counts)
      (started : y.counts ≡ starts_of d colour) where
    abbrev seen : List Entry
    seen = seen_of d d.region y.colour

    abbrev looked : List Entry
    looked = take y.events seen

    abbrev chains : Chains
    chains = chain d.region (dated d.region looked)

    -- A node that the sync's snapshot counts stood there when it looked.
    pub stood_there : (place : Place) (head : Head) → place.region < 4 → place.position < at (starts_of d colour) place.region
        → Stands (chain d.region (dated d.region (seen_of d d.region colour))) place head → Stands chains place head
    stood_there place head few lt there =
        let reach = reached_within chains syncs.cut.reached place.region few in
        let same = ap (λ (v : Counts). at v place.region) started in
        let it = item_at (chains place.region) place.position (omega (arith, reach, same, lt)) in
        let prefix = chain_later d.region (length s.regions) looked seen (drop y.events seen, take-append-drop y.events seen)
        (are_lawful (length s.regions) s.regions (holds_of d) (are_regions s) is.holds d.region y.colour) place.region in
        let whole : slice_get (chain d.region (dated d.region seen) place.region) place.position ≡ Some it.0 =
        prefix_get (chains place.region) (chain d.region (dated d.region seen) place.region) place.position it.0 prefix it.1 in
        let here : slice_get (chain d.region (dated d.region seen) place.region) place.position ≡ Some head =
        subst (λ (k : ℕ). slice_get (chain d.region (dated d.region (seen_of d d.region k)) place.region) place.position ≡ Some head)
        (sym of) there in
        let e : Some it.0 ≡ Some head = sym whole ∙ here in
        let one : it.0 ≡ head = cc (e) in
        it.1 ∙ ap (λ (h : Head). Some h) one where
          item_at : (xs : List Head) (n : ℕ) → n < length xs → (h : Head) × (slice_get xs n ≡ Some h)
          item_at [] n less = absurd (let f : ⊥ = omega (arith, less) in f)
          item_at (x ∷ xs) zero less = (x, refl)
          item_at (x ∷ xs) (suc n) less = item_at xs n (omega (arith, less))
