-- The log with which a store ends: what its clients know of it, and that its rows are lawful and its copies true.
use Rattle.std.proofs.Common.{◌≡◌, ◌≢◌, ℕ, ◌<◌, ◌≤◌, List, [], length, map, Option, Some, None, slice_get, refl, ap, sym, subst, ◌∙◌, inl, inr, ◌⊎◌, arith}
use Rattle.std.specs.Prelude.{nat_lt}
use Rattle.std.specs.List.{Contains}
use Rattle.std.proofs.lemmas.Bool.{cases_lt, lt-ltb, le-ltb}
use Rattle.std.proofs.lemmas.Option.{slice_get_within}
use mathlib.Core.List.{IsPrefix}
use Rattle.log_node.specs.declared.ids.Id.{Id}
use Rattle.log_node.specs.declared.ids.Row.{Row}
use Rattle.log_node.specs.declared.node.Node.{Node}
use Rattle.log_node.specs.declared.node.Head.{Head}
use Rattle.col_core.specs.declared.Event.TheVariants as events
use Rattle.col_core.specs.declared.Entry.{Entry}
use Rattle.col_core.specs.Computed.{dated}
use Rattle.col_core.specs.Cuts.{chain}
use Rattle.col_core.specs.Legal.{IsColumnHistory}
use Rattle.col_core.specs.Copies.{AreTrueCopies}
use Rattle.col_core.specs.Log.{Log}
use Rattle.col_core.proofs.CallerLemmas.{contains_in, if_true, if_false, slice_in}
use Rattle.stamp_board.specs.declared.view.Size.{Size}
use Rattle.stamp_board.specs.Rows.{IsRow}
use Rattle.stamp_board.specs.Views.{KnowsBegun}
use Rattle.turn_cell.specs.Histories.{made_by}
use Rattle.chain_store.specs.declared.told.Told.{Told}
use Rattle.chain_store.specs.declared.hold.Hold.{Hold}
use Rattle.chain_store.specs.declared.region.Region.{Region}
use Rattle.chain_store.specs.declared.closed.ClosedRegion.{ClosedRegion}
use Rattle.chain_store.specs.Histories.{entries_in, maker, Names, Brings}
use Rattle.chain_store.specs.Holds.{entries_seen, seen_in, view_of}
use Rattle.chain_store.proofs.CallerLemmas.{carried_heads}
use Rattle.client_law.specs.Knowing.{MoreIsSeen, AreLawful}
use Rattle.client_law.specs.Making.{made_of}
use Rattle.client_law.specs.Origins.{CopyBegins, GivesAreHeld}
use Rattle.client_law.proofs.CallerLemmas.{copies_are_true}
use Rattle.log_client.specs.Fits.{entries_by, seen_by, IsListed, HasBegunRow}
use Rattle.log_client.specs.Ending.{AreRegions, AreHoldsIn, PullsTruly, HasOwnNodes}
use Rattle.log_client.specs.Closing.{EndsClient}
use Rattle.log_client.proofs.Lists.{got, same_items, unmapped}
use Rattle.log_client.proofs.Known.Fitting.{names_longer}
use Rattle.log_client.proofs.Known.Seeing.{entries_longer, made_entries, made_there, nothing_beyond, nothing_lawful}
use Rattle.log_client.proofs.End.Ends.{Ended, IsEnd, AreCopied, told_at, rows_at, hold_at, column, give_of, named_listed, row_node_listed}

module _ (rs : List Region) (regions colours : ℕ) (clients : List (List Hold)) (ends : List ClosedRegion)
    (nodes : ℕ → List Node)
    (are : AreRegions regions rs) (few : length rs ≡ regions)
    (sizes : (n : ℕ) (r : Region) → slice_get rs n ≡ Some r → r.board.size.colours ≡ colours)
    (holds : (u : ℕ) (hs : List Hold) → slice_get clients u ≡ Some hs → AreHoldsIn rs hs)
    (pulls : (u : ℕ) (hs : List Hold) → slice_get clients u ≡ Some hs → PullsTruly rs hs)
    (own : (u : ℕ) (hs : List Hold) → slice_get clients u ≡ Some hs → HasOwnNodes u hs (nodes u))
    (end_of : ℕ → Option Ended)
    (is_end : (n : ℕ) (x : Ended) → end_of n ≡ Some x → IsEnd rs clients ends n x)
    (copied : AreCopied colours end_of)
    (has_end : (n : ℕ) → n < regions → (x : Ended) × (end_of n ≡ Some x))
    (none_beyond : (n : ℕ) → regions ≤ n → end_of n ≡ None) where
  abbrev pub told_of : ℕ → ℕ → List Told
  told_of region colour = told_at colours (end_of region) colour

  abbrev pub log : Log
  log = record {
    histories = λ region colour. entries_in (told_of region colour);
    nodes = nodes;
    rows = λ region. rows_at (end_of region);
  }

  -- by region and colour
  pub told_is : (n : ℕ) (x : Ended) → end_of n ≡ Some x → (colour : ℕ) → colour < colours
      → told_of n colour ≡ x.closed.logs colour
  told_is n x e colour lt =
      ap (λ (o : Option Ended). told_at colours o colour) e
      ∙ if_true (nat_lt colour colours) (x.closed.logs colour) [] (lt-ltb colour colours lt)

  pub told_none : (n colour : ℕ) → (regions ≤ n) ⊎ (colours ≤ colour) → told_of n colour ≡ []
  told_none n colour (inl le) = ap (λ (o : Option Ended). told_at colours o colour) (none_beyond n le)
  told_none n colour (inr le) = by_end (end_of n) refl where
    by_end : (o : Option Ended) → end_of n ≡ o → told_of n colour ≡ []
    by_end None e = ap (λ (o : Option Ended). told_at colours o colour) e
    by_end (Some x) e =
        ap (λ (o : Option Ended). told_at colours o colour) e
        ∙ if_false (nat_lt colour colours) (x.closed.logs colour) [] (le-ltb colour colours le)

  -- where there is an entry there is a column
  pub found : (n colour place : ℕ) (t : Told) → slice_get (told_of n colour) place ≡ Some t
      → (x : Ended) × (end_of n ≡ Some x) × (colour < colours) × (slice_get (x.closed.logs colour) place ≡ Some t)
  found n colour place t at = by_region (cases_lt n regions) (cases_lt colour colours) where
    nowhere : told_of n colour ≡ [] → (x : Ended) × (end_of n ≡ Some x) × (colour < colours)
        × (slice_get (x.closed.logs colour) place ≡ Some t)
    nowhere none = absurd (let f = sym (ap (λ (l : List Told). slice_get l place) none) ∙ at in let g : ⊥ = cc in g)

    by_region : (n < regions) ⊎ (regions ≤ n) → (colour < colours) ⊎ (colours ≤ colour)
        → (x : Ended) × (end_of n ≡ Some x) × (colour < colours) × (slice_get (x.closed.logs colour) place ≡ Some t)
    by_region (inl in_regions) (inl in_colours) =
        let x = has_end n in_regions in
        (x.0, x.1, in_colours, ap (λ (l : List Told). slice_get l place) (sym (told_is n x.0 x.1 colour in_colours)) ∙ at)
    by_region (inl in_regions) (inr out) = nowhere (told_none n colour (inr out))
    by_region (inr out) c = nowhere (told_none n colour (inl out))

  pub lawful : AreLawful regions log.histories
  lawful n colour = by_place (cases_lt n regions) (cases_lt colour colours) where
    nowhere : told_of n colour ≡ [] → IsColumnHistory n regions (dated n (entries_in (told_of n colour)))
    nowhere none = subst (λ (l : List Told). IsColumnHistory n regions (dated n (entries_in l))) (sym none)
        (nothing_lawful n regions)

    by_place : (n < regions) ⊎ (regions ≤ n) → (colour < colours) ⊎ (colours ≤ colour)
        → IsColumnHistory n regions (dated n (entries_in (told_of n colour)))
    by_place (inl in_regions) (inl in_colours) =
        let x = has_end n in_regions in
        let r = are n x.0.r (is_end n x.0 x.1).region in
        let size = sizes n x.0.r (is_end n x.0 x.1).region in
        let many = x.0.closed.count in
        let c = got x.0.e.columns colour (omega (arith, many, size, in_colours)) in
        subst (λ (l : List Told). IsColumnHistory n regions (dated n (entries_in l)))
        (sym (told_is n x.0 x.1 colour in_colours))
        (subst (λ (k : ℕ). IsColumnHistory k regions (dated k (entries_in (x.0.closed.logs colour)))) r.0
        (subst (λ (k : ℕ). IsColumnHistory x.0.r.number k (dated x.0.r.number (entries_in (x.0.closed.logs colour)))) r.1
        (x.0.closed.columns colour c.0 c.1).lawful))
    by_place (inl in_regions) (inr out) = nowhere (told_none n colour (inr out))
    by_place (inr out) c = nowhere (told_none n colour (inl out))

  pub makers : (region colour n : ℕ) (e : Entry) → slice_get (log.histories region colour) n ≡ Some e
      → e.by < length clients
  makers region colour n e at =
      let t = unmapped (λ (u : Told). u.entry) (told_of region colour) n e at in
      let f = found region colour n t.0 t.1 in
      let size = sizes region f.0.r (is_end region f.0 f.1).region in
      let low = f.2 in
      let h = f.0.closed.makers colour n t.0 (omega (arith, size, low)) f.3 in
      let lt = slice_get_within f.0.ks t.0.entry.by h.0 h.1 in
      let many = (is_end region f.0 f.1).holds.0 in
      let is = ap (λ (x : Entry). x.by) t.2 in
      omega (arith, lt, many, is)

  -- WHAT A CLIENT KNOWS

  module _ (u : ℕ) (hs : List Hold) (at : slice_get clients u ≡ Some hs) where
    -- a hold of its region
    region_of : (n : ℕ) (h : Hold) → slice_get hs n ≡ Some h
        → (x : Ended) × (end_of n ≡ Some x) × (slice_get x.ks u ≡ Some h)
    region_of n h there =
        let lt = slice_get_within hs n h there in
        let many = (holds u hs at).0 in
        let x = has_end n (omega (arith, lt, many, few)) in
        let k = hold_at rs regions colours clients ends nodes are few sizes holds pulls own end_of is_end copied has_end
        n x.0 x.1 u hs at in
        (x.0, x.1, k.1 ∙ ap (λ (h : Hold). Some h) (same_items hs n k.0 h k.2 there))

    seen_nothing : (n : ℕ) (h : Hold) → slice_get hs n ≡ Some h → (colour : ℕ) → colours ≤ colour → seen_in h colour ≡ []
    seen_nothing n h there colour le =
        let x = region_of n h there in
        let size = sizes n x.0.r (is_end n x.0 x.1).region in
        nothing_beyond x.0.r h colour (x.0.are_of.1 u h x.2).0 (omega (arith, le, size))

    more_told : (n : ℕ) (h : Hold) → slice_get hs n ≡ Some h → (colour : ℕ) → IsPrefix (seen_in h colour) (told_of n colour)
    more_told n h there colour = by_colour (cases_lt colour colours) where
      by_colour : (colour < colours) ⊎ (colours ≤ colour) → IsPrefix (seen_in h colour) (told_of n colour)
      by_colour (inl lt) =
          let x = region_of n h there in
          let size = sizes n x.0.r (is_end n x.0 x.1).region in
          subst (λ (l : List Told). IsPrefix (seen_in h colour) l) (sym (told_is n x.0 x.1 colour lt))
          (x.0.closed.holds u h x.2 colour (omega (arith, size, lt))).seen
      by_colour (inr le) = subst (λ (l : List Told). IsPrefix l (told_of n colour)) (sym (seen_nothing n h there colour le))
          (told_of n colour, refl)

    made_told : (n : ℕ) (h : Hold) → slice_get hs n ≡ Some h → (colour : ℕ)
        → made_of u (entries_in (told_of n colour)) ≡ made_of u (entries_seen h colour)
    made_told n h there colour = by_colour (cases_lt colour colours) where
      by_colour : (colour < colours) ⊎ (colours ≤ colour)
          → made_of u (entries_in (told_of n colour)) ≡ made_of u (entries_seen h colour)
      by_colour (inl lt) =
          let x = region_of n h there in
          let size = sizes n x.0.r (is_end n x.0 x.1).region in
          let is = (x.0.are_of.1 u h x.2).1 in
          let ends = (x.0.closed.holds u h x.2 colour (omega (arith, size, lt))).made in
          ap (λ (l : List Told). made_of u (entries_in l)) (told_is n x.0 x.1 colour lt)
          ∙ (made_entries u (x.0.closed.logs colour)
          ∙ (ap (λ (k : ℕ). entries_in (made_by maker k (x.0.closed.logs colour))) (sym is)
          ∙ (ap entries_in ends ∙ sym (made_there h u colour is))))
      by_colour (inr le) =
          ap (λ (l : List Told). made_of u (entries_in l))
          (told_none n colour (inr le) ∙ sym (seen_nothing n h there colour le))

    nothing_there : (n colour : ℕ) → slice_get hs n ≡ None → told_of n colour ≡ []
    nothing_there n colour none = by_region (cases_lt n regions) where
      by_region : (n < regions) ⊎ (regions ≤ n) → told_of n colour ≡ []
      by_region (inl lt) =
          let many = (holds u hs at).0 in
          let h = got hs n (omega (arith, lt, many, few)) in
          absurd (let f = sym h.1 ∙ none in let g : ⊥ = cc in g)
      by_region (inr le) = told_none n colour (inl le)

    more : MoreIsSeen (seen_by hs) log.histories
    more n colour = by_hold (slice_get hs n) refl where
      by_hold : (o : Option Hold) → slice_get hs n ≡ o → IsPrefix (seen_by hs n colour) (entries_in (told_of n colour))
      by_hold None e = subst (λ (o : Option Hold). IsPrefix (entries_by o colour) (entries_in (told_of n colour))) (sym e)
          (entries_in (told_of n colour), refl)
      by_hold (Some h) e = subst (λ (o : Option Hold). IsPrefix (entries_by o colour) (entries_in (told_of n colour))) (sym e)
          (entries_longer (seen_in h colour) (told_of n colour) (more_told n h e colour))

    made : (n colour : ℕ) → made_of u (log.histories n colour) ≡ made_of u (seen_by hs n colour)
    made n colour = by_hold (slice_get hs n) refl where
      by_hold : (o : Option Hold) → slice_get hs n ≡ o
          → made_of u (entries_in (told_of n colour)) ≡ made_of u (seen_by hs n colour)
      by_hold None e =
          ap (λ (l : List Told). made_of u (entries_in l)) (nothing_there n colour e)
          ∙ ap (λ (o : Option Hold). made_of u (entries_by o colour)) (sym e)
      by_hold (Some h) e = made_told n h e colour ∙ ap (λ (o : Option Hold). made_of u (entries_by o colour)) (sym e)

    -- a row that a hold knows is among the log's
    row_known : (n : ℕ) (h : Hold) → slice_get hs n ≡ Some h → (row : Row) (y : Node) → IsRow (view_of h).size row
        → KnowsBegun (view_of h) row y → HasBegunRow (log.rows n) h row y × IsListed nodes y
    row_known n h there row y inside knows =
        let x = region_of n h there in
        let is = (x.0.are_of.1 u h x.2).0 in
        let b = x.0.closed.known u h x.2 row y (subst (λ (z : Size). IsRow z row) is.seat.1 inside) knows in
        let agree = x.0.closed.agree u h x.2 b.0 b.1 b.2 in (
          (
            b.1,
            subst (λ (o : Option Ended). Contains (rows_at o) b.1) (sym x.1)
                (contains_in x.0.closed.begun b.1 (slice_in x.0.closed.begun b.0 b.1 b.2)),
            b.3,
            b.4,
            agree,
          ),
          subst (IsListed nodes) b.4
              (row_node_listed rs regions colours clients ends nodes are few sizes holds pulls own end_of is_end copied has_end
              n x.0 x.1 b.0 b.1 b.2),
        )

    name_listed : (n : ℕ) (h : Hold) → slice_get hs n ≡ Some h → (colour : ℕ) (id : Id) (y : Node)
        → Names (seen_in h colour) id y → IsListed nodes y
    name_listed n h there colour id y na = by_colour (cases_lt colour colours) where
      by_colour : (colour < colours) ⊎ (colours ≤ colour) → IsListed nodes y
      by_colour (inl lt) =
          let x = region_of n h there in
          let size = sizes n x.0.r (is_end n x.0 x.1).region in
          named_listed rs regions colours clients ends nodes are few sizes holds pulls own end_of is_end copied has_end
          n x.0 x.1 colour lt id y
          (names_longer (seen_in h colour) (x.0.closed.logs colour) id y
          (x.0.closed.holds u h x.2 colour (omega (arith, size, lt))).seen na)
      by_colour (inr le) =
          absurd (let f = sym (ap (λ (l : List Told). slice_get l na.place) (seen_nothing n h there colour le)) ∙ na.there in
          let g : ⊥ = cc in g)

    pub client_ends : EndsClient log u hs
    client_ends = record {
      more = more;
      made = made;
      fits = λ n h there. record {
        named = λ colour id y na. name_listed n h there colour id y na;
        begun = λ row y inside knows. (row_known n h there row y inside knows).0;
        begun_listed = λ row y inside knows. (row_known n h there row y inside knows).1;
      };
      nodes = own u hs at;
    }

  -- TRUE COPIES

  -- what a hold of another region had seen begins the log's history there
  seen_begins : (n : ℕ) (x : Ended) → end_of n ≡ Some x → (v : ℕ) (g : Hold) → slice_get x.ks v ≡ Some g
      → (colour : ℕ) → colour < colours → IsPrefix (entries_seen g colour) (log.histories n colour)
  seen_begins n x e v g at colour lt =
      let size = sizes n x.r (is_end n x e).region in
      subst (λ (l : List Told). IsPrefix (entries_seen g colour) (entries_in l)) (sym (told_is n x e colour lt))
      (entries_longer (seen_in g colour) (x.closed.logs colour) (x.closed.holds v g at colour (omega (arith, size, lt))).seen)

  copy_begins : (colour : ℕ) → colour < colours → (origin copier : ℕ) → origin < regions → copier < regions
      → origin ≢ copier → CopyBegins (λ (r : ℕ). log.histories r colour) origin copier
  copy_begins colour lt origin copier origin_in copier_in ne =
      let x = has_end origin origin_in in
      let y = has_end copier copier_in in
      let theirs = x.0.closed.logs colour in
      let copied_log = y.0.closed.logs colour in
      let origin_is = (are origin x.0.r (is_end origin x.0 x.1).region).0 in
      let copier_is = (are copier y.0.r (is_end copier y.0 y.1).region).0 in
      let c = column rs regions colours clients ends nodes are few sizes holds pulls own end_of is_end copied has_end
      copier y.0 y.1 colour lt in
      let heads = carried_heads y.0.r.number c.0.colour x.0.r.number copied_log
      (λ same. ne (sym origin_is ∙ (same ∙ copier_is)))
      (λ k t at. subst (λ (r : ℕ). Brings r c.0.colour t.entry.event t.nodes) c.1.region (c.1.stands.brings k t at)) in
      let begins = subst (λ (l : List Head). IsPrefix l
      (chain x.0.r.number (dated x.0.r.number (entries_in theirs)) x.0.r.number)) heads
      (copied origin copier colour x.0 y.0 x.1 y.1 ne lt).begins in
      subst (λ (l : List Told). IsPrefix (chain copier (dated copier (log.histories copier colour)) origin)
      (chain origin (dated origin (entries_in l)) origin)) (sym (told_is origin x.0 x.1 colour lt))
      (subst (λ (l : List Told). IsPrefix (chain copier (dated copier (entries_in l)) origin)
      (chain origin (dated origin (entries_in theirs)) origin)) (sym (told_is copier y.0 y.1 colour lt))
      (subst (λ (k : ℕ). IsPrefix (chain copier (dated copier (entries_in copied_log)) k)
      (chain k (dated k (entries_in theirs)) k)) origin_is
      (subst (λ (k : ℕ). IsPrefix (chain k (dated k (entries_in copied_log)) x.0.r.number)
      (chain x.0.r.number (dated x.0.r.number (entries_in theirs)) x.0.r.number)) copier_is begins)))

  gives_true : (colour region : ℕ) → GivesAreHeld (λ (r : ℕ). log.histories r colour) region
  gives_true colour region place e copier from at is =
      let t = unmapped (λ (u : Told). u.entry) (told_of region colour) place e at in
      let f = found region colour place t.0 t.1 in
      let c = give_of rs regions colours clients ends nodes are few sizes holds pulls own end_of is_end copied has_end
      region f.0 f.1 colour f.2 place t.0 copier from f.3 (ap (λ (x : Entry). x.event) t.2 ∙ is) in
      let le = c.6 from (ap (λ (x : Entry). x.event) t.2 ∙ (is ∙ ap (λ (r : ℕ). events.Give r from) (sym c.4))) in (
        entries_seen c.1 colour,
        seen_begins copier c.0 c.2 t.0.entry.by c.1 c.3 colour f.2,
        subst (λ (r : ℕ). from ≤ length (chain copier (dated copier (entries_seen c.1 colour)) r)) c.5
            (subst (λ (r : ℕ). from ≤ length (chain r (dated r (entries_seen c.1 colour)) f.0.r.number)) c.4 le),
      )

  pub copies : (colour : ℕ) → colour < colours
      → AreTrueCopies regions (λ (region : ℕ). dated region (log.histories region colour))
  copies colour lt = copies_are_true regions (λ (region : ℕ). log.histories region colour)
      (λ region low. lawful region colour) (copy_begins colour lt) (λ region low. gives_true colour region)
