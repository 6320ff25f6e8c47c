-- What a store ends with, for each of its clients.
use Rattle.std.proofs.Common.{◌≡◌, ◌≢◌, ℕ, ◌<◌, List, [], length, map, Some, None, true, slice_get, refl, ap, sym, subst, ◌∙◌, inl, inr, arith, eq-eqb}
use Rattle.std.specs.Prelude.{◌==◌}
use Rattle.std.specs.List.{Contains, filter}
use Rattle.std.proofs.lemmas.Bool.{cases_eq, cases_lt}
use Rattle.std.proofs.lemmas.List.{length-map}
use Rattle.std.proofs.lemmas.List.Elements.{All-contains}
use Rattle.std.proofs.lemmas.Option.{slice_get_within}
use Rattle.log_node.specs.declared.ids.Id.{Id}
use Rattle.log_node.specs.declared.ids.Row.{Row}
use Rattle.log_node.specs.declared.node.Node.{Node}
use Rattle.log_node.specs.declared.marks.Outcome.TheVariants.{Open}
use Rattle.log_node.specs.Sets.{has}
use Rattle.log_node.specs.Standings.{open_entry}
use mathlib.Core.List.{IsPrefix}
use Rattle.col_core.specs.declared.Entry.{Entry}
use Rattle.col_core.specs.History.{entries}
use Rattle.col_core.specs.Ids.{IsStepOf}
use Rattle.stamp_board.specs.declared.seats.Seat.{Seat}
use Rattle.chain_store.proofs.CallerLemmas.{row_place}
use Rattle.col_core.specs.Log.{Log}
use Rattle.col_core.specs.Rows.{BegunRow, FitsRow, is_of}
use Rattle.col_core.proofs.CallerLemmas.{In, in_contains, in_filter-back, in_slice}
use Rattle.stamp_board.specs.declared.view.Size.{Size}
use Rattle.stamp_board.specs.Views.{KnowsBegun, KnowsOutcome}
use Rattle.chain_store.specs.declared.told.Told.{Told}
use Rattle.chain_store.specs.declared.hold.Hold.{Hold}
use Rattle.chain_store.specs.declared.region.Region.{Region}
use Rattle.chain_store.specs.declared.closed.ClosedRegion.{ClosedRegion}
use Rattle.chain_store.specs.Owning.{row_of}
use Rattle.chain_store.specs.Beginning.{begun_for}
use Rattle.chain_store.specs.Histories.{entries_in}
use Rattle.chain_store.specs.Holds.{IsHold, entries_seen, made_in, view_of}
use Rattle.chain_store.specs.Closing.{AgreesWith}
use Rattle.chain_store.specs.Joined.{ends_in, ended_past, AreCarriedAlong}
use Rattle.append_core.specs.Settled.{HoldKnowsComplete, HoldKnewSettled}
use Rattle.lawful_run.specs.Lawful.{IsHelp}
use Rattle.client_law.specs.Making.{made_of, own_steps}
use Rattle.client_law.proofs.CallerLemmas.{steps_at_end}
use Rattle.log_client.specs.declared.store.Store.{Store}
use Rattle.log_client.specs.declared.client.Client.{Client}
use Rattle.log_client.specs.declared.closed.Closed.{Closed}
use Rattle.log_client.specs.declared.closed.Leaving.{Leaving}
use Rattle.log_client.specs.Ending.{AreRegions, AreHoldsIn, PullsTruly, HasOwnNodes, IsHelpBy}
use Rattle.log_client.specs.Closing.{AreHoldsAt, HaveEnded, EndsRegion, EndsStore, EndsClient}
use Rattle.log_client.specs.Clients.{IsClient, Finished, Helps, caller_of, holds_of, nodes_of_rows, seen_of}
use Rattle.log_client.specs.Leaving.{left_of, AreLeaving}
use Rattle.log_client.specs.Closes.{AreClients, EndsComplete, EndsFor, ClosesAsLog}
use Rattle.log_client.proofs.Lists.{got, mapped, same_items, unmapped}
use Rattle.log_client.proofs.End.Endings.{store_ends}
use Rattle.log_client.proofs.End.EndsClients.{own_row_known, own_row_nodes, steps_same}
use Rattle.log_client.proofs.End.JoinedEnds.{ends_alike}
use Rattle.log_client.proofs.End.LeftOpen.{closed_in_row, closed_where_settled, ids_not_open, one_row, row_not_open}
use Rattle.log_client.proofs.Known.Seeing.{made_there, seen_there}

-- clients whose holds these are leave the regions of the store
pub all_leave : (s : Store) (clients : List Client) (ls : List Leaving) → AreClients s clients
    → map left_of ls ≡ map holds_of clients → AreLeaving s.regions ls
all_leave s clients ls all same = record {
  all = λ k r at.
      let a = ap length same in
      let b = length-map ls left_of in
      let c = length-map clients holds_of in
      let d = all.0 in
      let e = ap (λ (z : Size). z.clients) (s.fit.each k r at).size in
      omega (arith, a, b, c, d, e);
  each = λ n l at.
      let c = unmapped holds_of clients n (left_of l)
      (ap (λ (hs : List (List Hold)). slice_get hs n) (sym same) ∙ mapped left_of ls n l at) in
      let is = all.1 n c.0 c.1 in
      record {
        many = ap length (sym c.2) ∙ is.0.holds.0;
        each = λ k r h there had.
            let has : slice_get (holds_of c.0) k ≡ Some h = ap (λ (hs : List Hold). slice_get hs k) c.2 ∙ had in
            (is.0.holds.1 k r h there has, is.0.numbers k h has ∙ is.1);
      };
}

module _ (s : Store) (clients : List Client) (all : AreClients s clients) (ends : List ClosedRegion)
    (ended : HaveEnded s.regions (map holds_of clients) ends) (along : AreCarriedAlong (ends_in ends)) where
  are : AreRegions (length s.regions) s.regions
  are n r at = let i = s.fit.each n r at in (i.number, i.regions)

  sizes : (n : ℕ) (r : Region) → slice_get s.regions n ≡ Some r → r.board.size.colours ≡ s.size.colours
  sizes n r at = ap (λ (z : Size). z.colours) (s.fit.each n r at).size

  holds : (u : ℕ) (hs : List Hold) → slice_get (map holds_of clients) u ≡ Some hs → AreHoldsIn s.regions hs
  holds u hs at =
      let c = unmapped holds_of clients u hs at in
      subst (AreHoldsIn s.regions) c.2 (all.1 u c.0 c.1).0.holds

  pulls : (u : ℕ) (hs : List Hold) → slice_get (map holds_of clients) u ≡ Some hs → PullsTruly s.regions hs
  pulls u hs at =
      let c = unmapped holds_of clients u hs at in
      subst (PullsTruly s.regions) c.2 (all.1 u c.0 c.1).0.pulls

  -- the nodes of each client
  nodes_at : (u : ℕ) → (ns : List Node)
      × ((c : Client) → slice_get clients u ≡ Some c → HasOwnNodes u (holds_of c) ns × (length ns ≡ c.count))
  nodes_at u = elim (cases_lt u (length clients)) [
    | inl lt ↦
        let c = got clients u lt in
        let is = all.1 u c.0 c.1 in (
          is.0.nodes,
          λ d at. subst (λ (e : Client). HasOwnNodes u (holds_of e) is.0.nodes × (length is.0.nodes ≡ e.count))
              (same_items clients u c.0 d c.1 at)
              (subst (λ (n : ℕ). HasOwnNodes n (holds_of c.0) is.0.nodes) is.1 is.0.own_nodes, is.0.nodes_count),
        )
    | inr le ↦ ([], λ d at. absurd (let lt = slice_get_within clients u d at in let f : ⊥ = omega (arith, le, lt) in f))
  ]

  pub nodes_of : ℕ → List Node
  nodes_of u = (nodes_at u).0

  nodes_are : (u : ℕ) (c : Client) → slice_get clients u ≡ Some c
      → HasOwnNodes u (holds_of c) (nodes_of u) × (length (nodes_of u) ≡ c.count)
  unfolding nodes_of
  nodes_are u c at = (nodes_at u).1 c at

  own : (u : ℕ) (hs : List Hold) → slice_get (map holds_of clients) u ≡ Some hs → HasOwnNodes u hs (nodes_of u)
  own u hs at =
      let c = unmapped holds_of clients u hs at in
      subst (λ (l : List Hold). HasOwnNodes u l (nodes_of u)) c.2 (nodes_are u c.0 c.1).0

  pub end_log : (l : Log) × EndsStore (length s.regions) s.size.colours (map holds_of clients) ends l
      × ((u : ℕ) → l.nodes u ≡ nodes_of u)
  end_log = store_ends s.regions (length s.regions) s.size.colours (map holds_of clients) ends nodes_of are refl sizes holds
      pulls own ended along

  module _ (log : Log) (store : EndsStore (length s.regions) s.size.colours (map holds_of clients) ends log)
      (same : (u : ℕ) → log.nodes u ≡ nodes_of u) (n : ℕ) (c : Client) (at : slice_get clients n ≡ Some c) where
    rests : IsClient s c
    rests = (all.1 n c at).0

    number : c.number ≡ n
    number = (all.1 n c at).1

    client : EndsClient log n (holds_of c)
    client = store.each_client n (holds_of c) (mapped holds_of clients n c at)

    -- a region, and its hold of it
    region_at : (m : ℕ) → m < length s.regions → (ks : List Hold) × (r : Region) × (e : ClosedRegion) × (h : Hold)
        × AreHoldsAt (map holds_of clients) m ks
        × EndsRegion log (length s.regions) s.size.colours m ks e
        × (slice_get s.regions m ≡ Some r) × (slice_get ks n ≡ Some h) × (slice_get (holds_of c) m ≡ Some h)
        × ((u : ℕ) (k : Hold) → slice_get ks u ≡ Some k → IsHold r k × (k.passes.number ≡ u))
    region_at m lt =
        let many = ended.0 in
        let r = got s.regions m lt in
        let e = got ends m (omega (arith, lt, many)) in
        let k = store.ends_with m e.0 e.1 in
        let count = k.1.0 in
        let within = slice_get_within clients n c at in
        let all_holds = length-map clients holds_of in
        let h = got k.0 n (omega (arith, count, within, all_holds)) in (
          k.0,
          r.0,
          e.0,
          h.0,
          k.1,
          k.2,
          r.1,
          h.1,
          k.1.1 n (holds_of c) h.0 (mapped holds_of clients n c at) h.1,
          λ u j there. of_hold k.0 r.0 k.1 r.1 u j there,
        ) where
          of_hold : (ks : List Hold) (r : Region) → AreHoldsAt (map holds_of clients) m ks
              → slice_get s.regions m ≡ Some r → (u : ℕ) (j : Hold) → slice_get ks u ≡ Some j
              → IsHold r j × (j.passes.number ≡ u)
          of_hold ks r are_at r_at u j there =
              let lt = slice_get_within ks u j there in
              let count = are_at.0 in
              let all_holds = length-map clients holds_of in
              let d = got clients u (omega (arith, lt, count, all_holds)) in
              let is = all.1 u d.0 d.1 in
              let had = are_at.1 u (holds_of d.0) j (mapped holds_of clients u d.0 d.1) there in
              (is.0.holds.1 m r j r_at had, is.0.numbers m j had ∙ is.1)

    -- a row of the client is of its region
    at_home : (m : ℕ) (b : BegunRow) → m < length s.regions → Contains (log.rows m) b → b.row.client ≡ c.number
        → m ≡ c.region
    at_home m b lt there mine = elim (cases_eq m c.region) [
      | inl is ↦ is
      | inr ne ↦
          let x = region_at m lt in
          let place = in_slice (log.rows m) b (in_contains (log.rows m) b there) in
          let p = row_place (map (λ (k : Hold). k.seat) x.0) place.0 b.row
          (ap (λ (l : List Row). slice_get l place.0) (sym x.5.in_order)
          ∙ mapped (λ (d : BegunRow). d.row) (log.rows m) place.0 b place.1) in
          let k = unmapped (λ (k : Hold). k.seat) x.0 p.place p.seat p.there in
          let is = x.9 p.place k.0 k.1 in
          let here : p.place ≡ n =
          sym is.1 ∙ (sym is.0.number ∙ (ap (λ (z : Seat). z.client) k.2 ∙ (sym p.mine ∙ (mine ∙ number)))) in
          let same : k.0 ≡ x.3 = same_items x.0 n k.0 x.3 (ap (slice_get x.0) (sym here) ∙ k.1) x.7 in
          let seat = ap (λ (z : Seat). z.used) (sym k.2 ∙ ap (λ (z : Hold). z.seat) same) in
          let used = p.used in
          let none = rests.away m x.3 x.8 ne in
          absurd (let f : ⊥ = omega (arith, seat, used, none) in f)
    ]

    home : (ks : List Hold) × (r : Region) × (e : ClosedRegion) × (h : Hold)
        × AreHoldsAt (map holds_of clients) c.region ks
        × EndsRegion log (length s.regions) s.size.colours c.region ks e
        × (slice_get s.regions c.region ≡ Some r) × (slice_get ks n ≡ Some h) × (slice_get (holds_of c) c.region ≡ Some h)
        × ((u : ℕ) (k : Hold) → slice_get ks u ≡ Some k → IsHold r k × (k.passes.number ≡ u))
    home = region_at c.region rests.region

    -- what its hold has seen of a region's column begins the history
    begins : (m : ℕ) (h : Hold) (colour : ℕ) → slice_get (holds_of c) m ≡ Some h
        → IsPrefix (entries_seen h colour) (log.histories m colour)
    begins m h colour there = subst (λ (l : List Entry). IsPrefix l (log.histories m colour))
        (seen_there (holds_of c) m h there colour) (client.more m colour)

    -- a row of its own, as it knows it
    own_row : (b : BegunRow) → Contains (log.rows c.region) b → b.row.client ≡ c.number
        → (j : ℕ) × AgreesWith home.3 b × (b.row ≡ row_of home.3.passes.number j) × (slice_get (nodes_of_rows c) j ≡ Some b.node)
    own_row b there mine =
        let m = home in
        let is = rests.home m.3 m.8 in
        let place = in_slice (filter (is_of n) (log.rows c.region)) b
        (in_filter-back (is_of n) b (log.rows c.region) (in_contains (log.rows c.region) b there)
        (eq-eqb b.row.client n (mine ∙ number))) in
        let known = own_row_known c.region s.size.colours n (log.histories c.region) (log.rows c.region) m.0 m.1 m.3
        (nodes_of_rows c) m.5.lawful_rows m.5.in_order m.9 m.7 is.rows.many
        (λ i x got. subst (λ (u : ℕ). KnowsBegun (view_of m.3) (row_of u i) x) number (is.rows.begun i x got))
        (client.fits c.region m.3 m.8).begun place.0 b place.1 in
        (place.0, known.0, known.1 ∙ (λ i. row_of (sym (m.9 n m.3 m.7).1 i) place.0), known.2)

    own_decided : Finished c → (b : BegunRow) → Contains (log.rows c.region) b → b.row.client ≡ c.number → b.last ≢ Open
    own_decided done b there mine undecided =
        let m = home in
        let own = own_row b there mine in
        let is = done m.3 m.8 own.0 b.node own.3 in
        is.shut
        (sym (own.1.last is.outcome (subst (λ (r : Row). KnowsOutcome (view_of m.3) r is.outcome) (sym own.2) is.known)) ∙ undecided)

    -- none of its ids is left open at home, where it has finished, and none elsewhere
    closed_at_home : Finished c → (colour : ℕ) (id : Id) → colour < s.size.colours → id.client ≡ c.number
        → open_entry id (entries (log.histories c.region colour)) ≡ None
    closed_at_home done colour id lt mine =
        let m = home in
        ids_not_open c.region (length s.regions) s.size.colours (log.histories c.region) (log.rows c.region) m.5.lawful_rows
        colour lt (store.lawful c.region colour) c.number
        (λ b there its of.
        let own = own_row b there its in
        closed_in_row c.region (length s.regions) s.size.colours (log.histories c.region) (log.rows c.region) m.5.lawful_rows
        colour lt (store.lawful c.region colour) m.3 b own.1 (begins c.region m.3 colour m.8) of own.0 own.2
        ((done m.3 m.8 own.0 b.node own.3).in_colours colour of))
        id mine

    closed_in : Finished c → (m colour : ℕ) (id : Id) → m < length s.regions → colour < s.size.colours
        → id.client ≡ c.number → open_entry id (entries (log.histories m colour)) ≡ None
    closed_in done m colour id lt in_colours mine = elim (cases_eq m c.region) [
      | inl is ↦
          subst (λ (k : ℕ). open_entry id (entries (log.histories k colour)) ≡ None) (sym is)
          (closed_at_home done colour id in_colours mine)
      | inr ne ↦
          ids_not_open m (length s.regions) s.size.colours (log.histories m) (log.rows m) (region_at m lt).5.lawful_rows colour
          in_colours (store.lawful m colour) c.number (λ b there its of. absurd (ne (at_home m b lt there its))) id mine
    ]

    -- what it helped

    made_by_it : (m : ℕ) (h : Hold) (colour : ℕ) (e : Entry) → slice_get (holds_of c) m ≡ Some h
        → Contains (log.histories m colour) e → e.by ≡ c.number
        → (k : ℕ) × (t : Told) × (slice_get (made_in h colour) k ≡ Some t) × (t.entry ≡ e)
    made_by_it m h colour e there among by =
        let own = in_filter-back (λ (x : Entry). x.by == n) e (log.histories m colour)
        (in_contains (log.histories m colour) e among) (eq-eqb e.by n (by ∙ number)) in
        let same = client.made m colour
        ∙ (ap (made_of n) (seen_there (holds_of c) m h there colour)
        ∙ made_there h n colour (rests.numbers m h there ∙ number)) in
        let place = in_slice (entries_in (made_in h colour)) e (subst (In e) same own) in
        let t = unmapped (λ (t : Told). t.entry) (made_in h colour) place.0 e place.1 in
        (place.0, t.0, t.1, t.2)

    complete_row : (m : ℕ) (lt : m < length s.regions) (b : BegunRow) → Contains (log.rows m) b
        → HoldKnowsComplete (region_at m lt).3 b.node.id → EndsComplete log s.size.colours m b
    complete_row m lt b there whole =
        let x = region_at m lt in
        let h = x.3 in
        let d = (client.fits m h x.8).begun whole.row whole.node whole.on_board whole.begun in
        let is = one_row m s.size.colours (log.histories m) (log.rows m) x.5.lawful_rows d.0 b d.1 there
        (ap (λ (y : Node). y.id) d.3 ∙ whole.of_id) in
        let agrees = subst (AgreesWith h) is d.4 in
        let row = ap (λ (y : BegunRow). y.row) (sym is) ∙ d.2 in
        let node = ap (λ (y : BegunRow). y.node) (sym is) ∙ d.3 in record {
          decided = λ undecided. whole.shut
              (sym (agrees.last whole.outcome (subst (λ (r : Row). KnowsOutcome (view_of h) r whole.outcome) (sym row) whole.known))
              ∙ undecided);
          open_nowhere = λ colour in_colours.
              row_not_open m (length s.regions) s.size.colours (log.histories m) (log.rows m) x.5.lawful_rows colour in_colours
              (store.lawful m colour) b there
              (λ of. closed_where_settled m (length s.regions) s.size.colours (log.histories m) (log.rows m) x.5.lawful_rows
              colour in_colours (store.lawful m colour) h b agrees (begins m h colour x.8) of whole.outcome
              (subst (λ (r : Row). HoldKnewSettled h (begun_for b.node r) whole.outcome colour) (sym row)
              (subst (λ (y : Node). HoldKnewSettled h (begun_for y whole.row) whole.outcome colour) (sym node)
              (whole.settled colour (subst (λ (y : Node). has y.colours colour ≡ true) node of)))));
        }

    helped : (m colour : ℕ) (e : Entry) → m < length s.regions → colour < s.size.colours → Contains (log.histories m colour) e
        → e.by ≡ c.number → IsHelp c.number e.event
        → Helps c × (m ≡ c.region)
        × ((b : BegunRow) → Contains (log.rows m) b → IsStepOf b.node.id e.event → EndsComplete log s.size.colours m b)
    helped m colour e lt in_colours among by helps =
        let x = region_at m lt in
        let made = made_by_it m x.3 colour e x.8 among by in
        let t = made.1 in
        let it : IsHelpBy c.number (holds_of c) m x.3 t = record {
          there = x.8;
          colour = colour;
          n = made.0;
          made = made.2;
          helps = subst (λ (y : Entry). IsHelp c.number y.event) (sym made.3) helps;
        } in
        let whole = rests.helps m x.3 t it in (
          (m, x.3, t, it),
          whole.0,
          λ b there step. complete_row m lt b there
              (whole.1 b.node.id (subst (λ (y : Entry). IsStepOf b.node.id y.event) (sym made.3) step)),
        )

    row_nodes_are : map (λ (b : BegunRow). b.node) (filter (is_of n) (log.rows c.region)) ≡ nodes_of_rows c
    row_nodes_are =
        let m = home in
        let is = rests.home m.3 m.8 in
        own_row_nodes c.region s.size.colours n (log.histories c.region) (log.rows c.region) m.0 m.1 m.3 (nodes_of_rows c)
        m.5.lawful_rows m.5.in_order m.9 m.7 is.rows.many
        (λ j x there. subst (λ (u : ℕ). KnowsBegun (view_of m.3) (row_of u j) x) number (is.rows.begun j x there))
        (client.fits c.region m.3 m.8).begun

    row_node_listed : (b : BegunRow) → Contains (log.rows c.region) b → b.row.client ≡ c.number
        → slice_get (log.nodes c.number) b.node.id.count ≡ Some b.node
    row_node_listed b there mine =
        let m = home in
        let place = in_slice (log.rows c.region) b (in_contains (log.rows c.region) b there) in
        let fits = All-contains (FitsRow c.region) (log.rows c.region) b m.5.lawful_rows.fit there in
        ap (λ (u : ℕ). slice_get (log.nodes u) b.node.id.count) (sym (fits.client ∙ mine))
        ∙ m.5.listed place.0 b place.1

    pub ends_for : EndsFor s log c
    ends_for = record {
      on = λ objects. record {
        more = client.more;
        lawful = store.lawful;
        home = (let lt = rests.region in let few = s.fit.few in omega (arith, lt, few));
      };
      fits = client.fits;
      steps = λ objects kept keeps region colour.
          steps_at_end (caller_of s c objects) (seen_of c) kept region colour (log.histories region colour) keeps
          (client.more region colour)
          (subst (λ (u : ℕ). own_steps u (log.histories region colour) ≡ own_steps u (seen_of c region colour)) (sym number)
          (steps_same n (seen_of c region colour) (log.histories region colour) (client.made region colour)));
      ids = ap length (ap log.nodes number ∙ same n) ∙ (nodes_are n c at).1;
      rows = subst (λ (u : ℕ). map (λ (b : BegunRow). b.node) (filter (is_of u) (log.rows c.region)) ≡ nodes_of_rows c) (sym number)
          row_nodes_are;
      rows_at_home = at_home;
      closed = closed_in;
      decided = own_decided;
      helped = helped;
      row_nodes = row_node_listed;
    }

-- the store closes with such as these regions' ends, and the nodes of its clients' rows
pub store_closes : (s : Store) (clients : List Client) (all : AreClients s clients) (ends : List ClosedRegion) (closed : Closed)
    → HaveEnded s.regions (map holds_of clients) ends → AreCarriedAlong (ends_in ends)
    → map ended_past closed.regions ≡ map ended_past ends
    → closed.nodes ≡ map (λ (c : Client). c.rows.items) clients → ClosesAsLog s clients closed
store_closes s clients all ends closed ended along same rows =
    let l = end_log s clients all ends ended along in
    record {
      log = l.0;
      ends = ends_alike (length s.regions) s.size.colours (map holds_of clients) ends closed.regions l.0 same l.1;
      each = λ n c at. ends_for s clients all ends ended along l.0 l.1 l.2 n c at;
      nodes = rows;
    }
