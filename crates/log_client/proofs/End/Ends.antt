-- The log with which a store ends: whose its nodes are.
use Rattle.std.proofs.Common.{◌≡◌, ◌≢◌, ℕ, ◌<◌, List, [], ◌∷◌, length, map, take, Option, Some, None, true, slice_get, refl, ap, sym, subst, ◌∙◌, inl, inr, ◌⊎◌, arith}
use Rattle.std.specs.Prelude.{nat_lt, if◌then◌else◌}
use Rattle.std.specs.List.{Contains}
use Rattle.std.proofs.lemmas.List.{length-map}
use Rattle.std.proofs.lemmas.Option.{slice_get_within}
use mathlib.Core.List.{IsPrefix}
use Rattle.log_node.specs.declared.ids.Id.{Id}
use Rattle.log_node.specs.declared.ids.Row.{Row}
use Rattle.log_node.specs.declared.node.Node.{Node}
use Rattle.log_node.specs.declared.node.Head.{Head}
use Rattle.log_node.specs.Seen.{PlacedNode}
use Rattle.col_core.specs.declared.Event as event_types
use Rattle.col_core.specs.declared.Event.TheVariants as events
use Rattle.col_core.specs.History.{enters}
use Rattle.col_core.specs.Computed.{dated}
use Rattle.col_core.specs.Legal.{IsLawfulEvent}
use Rattle.col_core.specs.Cuts.{Dated}
use Rattle.col_core.specs.Rows.{BegunRow}
use Rattle.col_core.proofs.CallerLemmas.{in_contains, in_slice, same_id-refl}
use Rattle.column.specs.Columns.{ColumnState}
use Rattle.stamp_board.specs.declared.seats.Seat.{Seat}
use Rattle.stamp_board.specs.Views.{KnowsBegun}
use Rattle.chain_store.specs.declared.told.Told.{Told}
use Rattle.chain_store.specs.declared.hold.Hold.{Hold}
use Rattle.chain_store.specs.declared.region.Region.{Region}
use Rattle.chain_store.specs.declared.closed.ClosedRegion.{ClosedRegion}
use Rattle.chain_store.specs.Histories.{entries_in, Names, EntersAs, Brings}
use Rattle.chain_store.specs.Owning.{row_of}
use Rattle.chain_store.specs.Regions.{tag_at}
use Rattle.chain_store.specs.Rings.{IsCopied}
use Rattle.chain_store.specs.Holds.{made_in, seen_in, view_of}
use Rattle.chain_store.specs.Closing.{AreHoldsOf, Closed, ClosesColumn}
use Rattle.chain_store.proofs.CallerLemmas.{row_place}
use Rattle.append_core.specs.Standing.{IsSingleOf}
use Rattle.region_pull.specs.Origins.{IsHeldFor}
use Rattle.client_law.proofs.CallerLemmas.{lawful_at}
use Rattle.lawful_run.proofs.CallerLemmas.{prefix_get}
use Rattle.log_client.specs.Fits.{IsListed}
use Rattle.log_client.specs.Ending.{AreRegions, AreHoldsIn, PullsTruly, HasOwnNodes}
use Rattle.log_client.specs.Closing.{AreHoldsAt}
use Rattle.log_client.proofs.Lists.{got, mapped, unmapped}
use Rattle.log_client.proofs.End.CarriedNodes.{carried_node}

-- a region that has ended, with the holds of all its clients
pub record Ended : Type 0 where
  pub r : Region
  pub e : ClosedRegion
  pub ks : List Hold
  pub are_of : AreHoldsOf r ks
  pub closed : Closed r ks e

-- what was told of a colour by then; nothing of colours that there are not
abbrev pub told_at : ℕ → Option Ended → ℕ → List Told
told_at colours None colour = []
told_at colours (Some x) colour = if nat_lt colour colours then x.closed.logs colour else []

abbrev pub rows_at : Option Ended → List BegunRow
rows_at None = []
rows_at (Some x) = x.closed.begun

-- the end of the region with this number
pub record IsEnd (rs : List Region) (clients : List (List Hold)) (ends : List ClosedRegion) (n : ℕ) (x : Ended) : Type 0 where
  pub region : slice_get rs n ≡ Some x.r
  pub end : slice_get ends n ≡ Some x.e
  pub holds : AreHoldsAt clients n x.ks

-- what the regions that have ended carried of one another, by each colour
abbrev pub AreCopied : ℕ → (ℕ → Option Ended) → Type 0
AreCopied colours end_of =
    (n m colour : ℕ) (x y : Ended) → end_of n ≡ Some x → end_of m ≡ Some y → n ≢ m → colour < colours
    → IsCopied (tag_at x.r colour) (x.closed.logs colour) (y.closed.logs colour)

module _ (rs : List Region) (regions colours : ℕ) (clients : List (List Hold)) (ends : List ClosedRegion)
    (nodes : ℕ → List Node)
    (are : AreRegions regions rs) (few : length rs ≡ regions)
    (sizes : (n : ℕ) (r : Region) → slice_get rs n ≡ Some r → r.board.size.colours ≡ colours)
    (holds : (u : ℕ) (hs : List Hold) → slice_get clients u ≡ Some hs → AreHoldsIn rs hs)
    (pulls : (u : ℕ) (hs : List Hold) → slice_get clients u ≡ Some hs → PullsTruly rs hs)
    (own : (u : ℕ) (hs : List Hold) → slice_get clients u ≡ Some hs → HasOwnNodes u hs (nodes u))
    (end_of : ℕ → Option Ended)
    (is_end : (n : ℕ) (x : Ended) → end_of n ≡ Some x → IsEnd rs clients ends n x)
    (copied : AreCopied colours end_of)
    (has_end : (n : ℕ) → n < regions → (x : Ended) × (end_of n ≡ Some x)) where
  -- a client's hold of a region is among those with which it ended
  pub hold_at : (n : ℕ) (x : Ended) → end_of n ≡ Some x → (u : ℕ) (hs : List Hold) → slice_get clients u ≡ Some hs
      → (k : Hold) × (slice_get x.ks u ≡ Some k) × (slice_get hs n ≡ Some k)
  hold_at n x e u hs at =
      let lt = slice_get_within clients u hs at in
      let many = (is_end n x e).holds.0 in
      let k = got x.ks u (omega (arith, lt, many)) in
      (k.0, k.1, (is_end n x e).holds.1 u hs k.0 at k.1)

  -- and the client whose hold it is
  client_at : (n : ℕ) (x : Ended) → end_of n ≡ Some x → (u : ℕ) (k : Hold) → slice_get x.ks u ≡ Some k
      → (hs : List Hold) × (slice_get clients u ≡ Some hs) × (slice_get hs n ≡ Some k)
  client_at n x e u k at =
      let lt = slice_get_within x.ks u k at in
      let many = (is_end n x e).holds.0 in
      let hs = got clients u (omega (arith, lt, many)) in
      (hs.0, hs.1, (is_end n x e).holds.1 u hs.0 k hs.1 at)

  -- an own node of a client is listed
  listed_own : (u : ℕ) (hs : List Hold) → slice_get clients u ≡ Some hs → (y : Node)
      → slice_get (nodes u) y.id.count ≡ Some y → IsListed nodes y
  listed_own u hs at y there =
      let is = (own u hs at).ids y.id.count y there in
      ap (λ (i : Id). slice_get (nodes i.client) y.id.count) is ∙ there

  module _ (n : ℕ) (x : Ended) (e : end_of n ≡ Some x) where
    within : (colour : ℕ) → colour < colours → colour < x.r.board.size.colours
    within colour lt = let is = sizes n x.r (is_end n x e).region in omega (arith, lt, is)

    -- the node of a begun row is listed
    pub row_node_listed : (i : ℕ) (b : BegunRow) → slice_get x.closed.begun i ≡ Some b → IsListed nodes b.node
    row_node_listed i b at = known where
      among : (u : ℕ) × (k : Hold) × (slice_get x.ks u ≡ Some k) × (b.row.number < k.seat.used)
          × (b.row.client ≡ k.seat.client)
      among =
          let p = row_place (map (λ (h : Hold). h.seat) x.ks) i b.row
          (ap (λ (l : List Row). slice_get l i) (sym x.closed.in_order)
          ∙ mapped (λ (c : BegunRow). c.row) x.closed.begun i b at) in
          let k = unmapped (λ (h : Hold). h.seat) x.ks p.place p.seat p.there in
          let same = ap (λ (s : Seat). s.used) k.2 in
          let used = p.used in
          (p.place, k.0, k.1, omega (arith, same, used), p.mine ∙ ap (λ (s : Seat). s.client) (sym k.2))

      known : IsListed nodes b.node
      known =
          let u = among.0 in
          let k = among.1 in
          let c = client_at n x e u k among.2 in
          let is = x.are_of.1 u k among.2 in
          let y = (own u c.0 c.1).rows n b.row.number k c.2 among.3 in
          let mine : b.row.client ≡ u = among.4 ∙ (is.0.number ∙ is.1) in
          let same : b.node ≡ y.0 =
          (x.closed.agree u k among.2 i b at).node y.0
          (subst (λ (c : ℕ). KnowsBegun (view_of k) (row_of c b.row.number) y.0) (sym mine) y.1) in
          subst (IsListed nodes) (sym same) (listed_own u c.0 c.1 y.0 y.2)

    module _ (colour : ℕ) (lt : colour < colours) where
      pub column : (c : ColumnState) × ClosesColumn x.r colour c (x.closed.logs colour)
      column =
          let many = x.closed.count in
          let low = within colour lt in
          let c = got x.e.columns colour (omega (arith, many, low)) in
          (c.0, x.closed.columns colour c.0 c.1)

      pub brings : (place : ℕ) (t : Told) → slice_get (x.closed.logs colour) place ≡ Some t
          → Brings column.0.region column.0.colour t.entry.event t.nodes
      brings place t at = column.1.stands.brings place t at

      -- who made an entry, and among what
      pub maker_of : (place : ℕ) (t : Told) → slice_get (x.closed.logs colour) place ≡ Some t
          → (hs : List Hold) × (k : Hold) × (m : ℕ) × (slice_get clients t.entry.by ≡ Some hs) × (slice_get hs n ≡ Some k)
          × (slice_get (made_in k colour) m ≡ Some t)
      maker_of place t at =
          let h = x.closed.makers colour place t (within colour lt) at in
          let c = client_at n x e t.entry.by h.0 h.1 in
          let m = in_slice (made_in h.0 colour) t (in_contains (made_in h.0 colour) t h.2) in
          (c.0, h.0, m.0, c.1, c.2, m.1)

      -- a node that entered is listed
      pub entered_listed : (id : Id) (y : Node) → EntersAs (x.closed.logs colour) id y → IsListed nodes y
      entered_listed id y en = by_event en.told.entry.event refl (brings en.place en.told en.there) en.entered where
        by_event : (ev : event_types.Event) → en.told.entry.event ≡ ev
            → Brings column.0.region column.0.colour ev en.told.nodes → enters id ev ≡ true → IsListed nodes y
        by_event (events.Single other floor wants) is b it =
            let c = maker_of en.place en.told en.there in
            let same : b.0 ≡ y = (let f = sym b.1 ∙ en.brought in cc) in
            let of : other ≡ b.0.id = (let f = b.3 in cc) in
            listed_own en.told.entry.by c.0 c.3 y
            ((own en.told.entry.by c.0 c.3).singles n colour c.2 c.1 en.told y c.4 c.5 en.brought
            (subst (IsSingleOf y.id) (sym is) (of ∙ ap (λ (z : Node). z.id) same)))
        by_event (events.Propose other floor wants) is b it =
            let c = x.closed.named colour en.place en.told other floor wants (within colour lt) en.there is in
            let same : c.1.node ≡ y = (let f = sym c.3 ∙ en.brought in cc) in
            subst (IsListed nodes) same (row_node_listed c.0 c.1 c.2)
        by_event (events.Settle other outcome) is b it = absurd (let f : ⊥ = cc in f)
        by_event (events.Raise to) is b it = absurd (let f : ⊥ = cc in f)
        by_event (events.Give region from) is b it = absurd (let f : ⊥ = cc in f)
        by_event (events.Carry region start heads) is b it = absurd (let f : ⊥ = cc in f)
        by_event (events.Trim counts) is b it = absurd (let f : ⊥ = cc in f)

      -- whose an entering node is
      enters_node : (place : ℕ) (t : Told) (y z : Node) → slice_get (x.closed.logs colour) place ≡ Some t
          → Contains t.nodes y → t.nodes ≡ z ∷ [] → enters z.id t.entry.event ≡ true
          → EntersAs (x.closed.logs colour) y.id y
      enters_node place t y z at there is it =
          let same : z ≡ y = only y (subst (λ (l : List Node). Contains l y) is there) in
          record {
            place = place;
            told = t;
            there = at;
            brought = is ∙ ap (λ (w : Node). w ∷ []) same;
            entered = subst (λ (w : Node). enters w.id t.entry.event ≡ true) same it;
            of_id = refl;
          } where
            only : (y : Node) → Contains (z ∷ []) y → z ≡ y
            only y c = by_in (in_contains (z ∷ []) y c) where
              by_in : (z ≡ y) ⊎ ⊥ → z ≡ y
              by_in (inl is) = is
              by_in (inr f) = absurd f

      -- an entry that carries: whence
      origin_of : (place : ℕ) (t : Told) (origin start : ℕ) (heads : List Head)
          → slice_get (x.closed.logs colour) place ≡ Some t → t.entry.event ≡ events.Carry origin start heads
          → (o : Ended) × (end_of origin ≡ Some o) × (o.r.number ≡ origin) × (origin ≢ n)
      origin_of place t origin start heads at is =
          let l = subst (λ (ev : event_types.Event). IsLawfulEvent x.r.number x.r.regions (before place) ev t.entry.stamp) is
          (lawful_at x.r.number x.r.regions (entries_in (x.closed.logs colour)) place t.entry column.1.lawful
          (mapped (λ (u : Told). u.entry) (x.closed.logs colour) place t at)) in
          let mine = are n x.r (is_end n x e).region in
          let o = has_end origin (subst (λ (k : ℕ). origin < k) mine.1 l.2) in
          (o.0, o.1, (are origin o.0.r (is_end origin o.0 o.1).region).0, λ same. l.1 (same ∙ sym mine.0)) where
            before : ℕ → List Dated
            before place = take place (dated x.r.number (entries_in (x.closed.logs colour)))

      -- an entry that gives: to whom, and what its maker had seen held there
      pub give_of : (place : ℕ) (t : Told) (copier from : ℕ)
          → slice_get (x.closed.logs colour) place ≡ Some t → t.entry.event ≡ events.Give copier from
          → (o : Ended) × (h : Hold) × (end_of copier ≡ Some o) × (slice_get o.ks t.entry.by ≡ Some h)
          × (o.r.number ≡ copier) × (x.r.number ≡ n) × IsHeldFor (tag_at o.r colour) (seen_in h colour) x.r.number t
      give_of place t copier from at is =
          let c = maker_of place t at in
          let l = subst (λ (ev : event_types.Event). IsLawfulEvent x.r.number x.r.regions (before place) ev t.entry.stamp) is
          (lawful_at x.r.number x.r.regions (entries_in (x.closed.logs colour)) place t.entry column.1.lawful
          (mapped (λ (u : Told). u.entry) (x.closed.logs colour) place t at)) in
          let mine = are n x.r (is_end n x e).region in
          let o = has_end copier (subst (λ (k : ℕ). copier < k) mine.1 l.2) in
          let h = hold_at copier o.0 o.1 t.entry.by c.0 c.3 in
          let size = sizes copier o.0.r (is_end copier o.0 o.1).region in (
            o.0,
            h.0,
            o.1,
            h.1,
            (are copier o.0.r (is_end copier o.0 o.1).region).0,
            mine.0,
            (pulls t.entry.by c.0 c.3).gives x.r o.0.r c.1 h.0 colour
                (record {
                  n = n;
                  m = copier;
                  apart = λ same. l.1 (sym same ∙ sym mine.0);
                  from_there = (is_end n x e).region;
                  to_there = (is_end copier o.0 o.1).region;
                  from_hold = c.4;
                  to_hold = h.2;
                }) (omega (arith, lt, size)) c.2 t c.5,
          ) where
            before : ℕ → List Dated
            before place = take place (dated x.r.number (entries_in (x.closed.logs colour)))

  -- a node that a history names is listed: it entered there, or where it was carried from
  pub named_listed : (n : ℕ) (x : Ended) (e : end_of n ≡ Some x) (colour : ℕ) (lt : colour < colours) (id : Id) (y : Node)
      → Names (x.closed.logs colour) id y → IsListed nodes y
  named_listed n x e colour lt id y na =
      by_event na.told.entry.event refl (brings n x e colour lt na.place na.told na.there) where
        entered : (z : Node) → na.told.nodes ≡ z ∷ [] → enters z.id na.told.entry.event ≡ true → IsListed nodes y
        entered z is it =
            entered_listed n x e colour lt y.id y
            (enters_node n x e colour lt na.place na.told y z na.there na.brought is it)

        none : na.told.nodes ≡ [] → IsListed nodes y
        none is = absurd (in_contains [] y (subst (λ (l : List Node). Contains l y) is na.brought))

        carried : (origin start : ℕ) (heads : List Head) → na.told.entry.event ≡ events.Carry origin start heads
            → length na.told.nodes ≡ length heads → IsListed nodes y
        carried origin start heads is long =
            let o = origin_of n x e colour lt na.place na.told origin start heads na.there is in
            let i = carried_node o.0.r.number (x.closed.logs colour) na.place na.told start heads y na.there
            (is ∙ ap (λ (r : ℕ). events.Carry r start heads) (sym o.2)) long
            (in_slice na.told.nodes y (in_contains na.told.nodes y na.brought)) in
            let c = copied origin n colour o.0 x o.1 e o.3 lt in
            subst (IsListed nodes) i.3
            (entered_listed origin o.0 o.1 colour lt i.1.head.key.id i.1.node (c.entered i.0 i.1 i.2))

        by_event : (ev : event_types.Event) → na.told.entry.event ≡ ev
            → Brings (column n x e colour lt).0.region (column n x e colour lt).0.colour ev na.told.nodes
            → IsListed nodes y
        by_event (events.Single other floor wants) is b =
            entered b.0 b.1 (subst (λ (ev : event_types.Event). enters b.0.id ev ≡ true) (sym (is ∙ b.3)) (same_id-refl b.0.id))
        by_event (events.Propose other floor wants) is b =
            entered b.0 b.1 (subst (λ (ev : event_types.Event). enters b.0.id ev ≡ true) (sym (is ∙ b.3)) (same_id-refl b.0.id))
        by_event (events.Settle other outcome) is b = none b
        by_event (events.Raise to) is b = none b
        by_event (events.Give region from) is b = none b
        by_event (events.Carry origin start heads) is b =
            carried origin start heads is
            (sym (length-map na.told.nodes (λ (z : Node). z.id)) ∙ (ap length b ∙ length-map heads (λ (h : Head). h.key.id)))
        by_event (events.Trim counts) is b = none b
