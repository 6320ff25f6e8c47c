-- What a region ends with, from what its columns and its board end with.
use Rattle.std.proofs.Common.{◌≡◌, ◌≢◌, ℕ, ◌<◌, ◌≤◌, true, List, [], ◌∷◌, length, map, Some, slice_get, refl, ap, sym}
use Rattle.std.proofs.Common.{subst, ◌∙◌, arith}
use Rattle.std.specs.Prelude.{◌↔◌}
use mathlib.Core.List.{IsPrefix}
use Rattle.std.proofs.lemmas.List.{length-map}
use Rattle.std.proofs.lemmas.Option.{slice_get_within}
use Rattle.std.proofs.lemmas.Simd.{map-map}
use Rattle.log_node.specs.declared.limits.TheConstants.{MAX_COLOURS}
use Rattle.log_node.specs.declared.ids.Id.{Id}
use Rattle.log_node.specs.declared.ids.Row.{Row}
use Rattle.log_node.specs.declared.ids.Counts.{Counts}
use Rattle.log_node.specs.declared.node.Node.{Node}
use Rattle.log_node.specs.Sets.{has, members}
use Rattle.log_node.specs.declared.marks.Mark.{Mark}
use Rattle.log_node.specs.declared.marks.Outcome.{Outcome}
use Rattle.col_core.specs.declared.Event.{Event}
use Rattle.col_core.specs.declared.Event.TheVariants.{Single, Propose}
use Rattle.col_core.specs.Legal.{IsColumnHistory}
use Rattle.col_core.specs.Rows.{BegunRow}
use Rattle.column.specs.Columns.{ColumnState}
use Rattle.ring_ends.specs.declared.rings.Rings.{Rings}
use Rattle.ring_ends.specs.Rings.{IsForRegions}
use Rattle.stamp_board.specs.declared.view.Size.{Size}
use Rattle.stamp_board.specs.declared.view.View.{View}
use Rattle.stamp_board.specs.declared.seats.Seat.{Seat}
use Rattle.stamp_board.specs.Rows.{IsBegun, IsRow, colours_in, mark_in}
use Rattle.stamp_board.specs.Views.{Learns, KnowsBegun, KnowsMark, KnowsOutcome}
use Rattle.stamp_board.specs.Seats.{column_seen}
use Rattle.stamp_board.specs.Closing.{Closes, all_begun, closed_row}
use Rattle.stamp_board.proofs.CallerLemmas.{begun_learnt, mark_learnt, outcome_learnt}
use Rattle.turn_cell.specs.Histories.{made_by}
use Rattle.turn_cell.specs.Cells.{seen}
use Rattle.chain_store.specs.declared.told.Tag.{Tag}
use Rattle.chain_store.specs.declared.told.Told.{Told}
use Rattle.chain_store.specs.declared.hold.Hold.{Hold}
use Rattle.chain_store.specs.declared.seated.Seated.{Seated}
use Rattle.chain_store.specs.declared.region.Region.{Region}
use Rattle.chain_store.specs.declared.closed.ClosedRegion.{ClosedRegion}
use Rattle.chain_store.specs.Regions.{tag_at}
use Rattle.chain_store.specs.Histories.{maker, Brings, IsOfMaker}
use Rattle.chain_store.specs.Marks.{Backs, numbers}
use Rattle.chain_store.specs.Columns.{IsOfHistory, tag_of}
use Rattle.chain_store.specs.Rings.{RingsFit}
use Rattle.chain_store.specs.Passes.{ColumnCell, ColumnPass, tag_in, dated_in}
use Rattle.chain_store.specs.Ends.{EndsAs}
use Rattle.chain_store.specs.Owning.{IsAccountedFor, row_of}
use Rattle.chain_store.specs.Holds.{IsHold, history_seen, passes_of, seen_in, made_in, view_of}
use Rattle.chain_store.specs.Closings.{AreOfColour}
use Rattle.chain_store.specs.Closing.{closed_of, ClosesColumn, ClosesRings, ClosesFor, AgreesWith, Closed}
use Rattle.chain_store.proofs.Tagged.{tagged_at}
use Rattle.chain_store.proofs.Backing.{backs_learnt}
use Rattle.chain_store.proofs.Passing.{made_place}
use Rattle.chain_store.proofs.Places.{image_at, at_image, contained, got, member_at}
use Rattle.chain_store.proofs.LawfulRows.{Lists, Owned, Agrees, begun_row, begun_rows, lawful_rows, node_is}
use Rattle.chain_store.proofs.LawfulRows.{begun_of, begun_place, colour_mark, row_at_place}
use Rattle.chain_store.proofs.ListedRows.{lists_begun}

same_rows : (rows : List Row) → map (λ (row : Row). row) rows ≡ rows
same_rows [] = refl
same_rows (row ∷ rows) = ap (λ l. row ∷ l) (same_rows rows)

-- a client's hold
pub record HoldOf (r : Region) : Type 0 where
  pub hold : Hold
  pub good : IsHold r hold

-- a column that is closed
pub record ColumnEnd : Type 0 where
  pub cell : ColumnCell
  pub seated : Seated
  pub passes : List ColumnPass
  pub ends : EndsAs (tag_in cell) passes seated

module _ (r : Region) (hs : List Hold) (closed : List Seated) (ws : List ℕ) (v : View)
    (many : length hs ≡ r.board.size.clients)
    (few : r.board.size.colours ≤ MAX_COLOURS)
    (z : Closes r.board.size ws v (map (λ (h : Hold). h.seat) hs) (map (λ (s : Seated). s.seat) closed))
    (holder : ℕ → HoldOf r)
    (holders : (n : ℕ) → n < r.board.size.clients
    → (slice_get hs n ≡ Some (holder n).hold) × ((holder n).hold.passes.number ≡ n))
    (end : ℕ → ColumnEnd)
    (ends : (c : ℕ) → c < r.board.size.colours
    → (slice_get r.columns.items c ≡ Some (end c).cell) × (slice_get closed c ≡ Some (end c).seated)
    × AreOfColour (map (λ (h : Hold). h.passes) hs) c (end c).passes) where
  -- the node for which a client began its row
  abbrev node : Row → Node
  node row = (holder row.client).good.owns.nodes row.number

  abbrev logs : ℕ → List Told
  logs c = (end c).ends.log

  -- clients

  seat_at : (n : ℕ) → n < r.board.size.clients
      → slice_get (map (λ (h : Hold). h.seat) hs) n ≡ Some (holder n).hold.seat
  seat_at n lt = at_image (λ (h : Hold). h.seat) hs n (holder n).hold (holders n lt).0

  -- a hold of the list is that of its client
  is_holder : (n : ℕ) (h : Hold) (lt : n < r.board.size.clients) → slice_get hs n ≡ Some h → (holder n).hold ≡ h
  is_holder n h lt at = let two : Some (holder n).hold ≡ Some h = sym (holders n lt).0 ∙ at in cc two

  within : (n : ℕ) (h : Hold) → slice_get hs n ≡ Some h → n < r.board.size.clients
  within n h at = let near = slice_get_within hs n h at in omega (arith, near, many)

  seen_size : (n : ℕ) → v.size ≡ (view_of (holder n).hold).size
  seen_size n = z.size ∙ sym (holder n).good.seat.1

  learns : (n : ℕ) (lt : n < r.board.size.clients) → Learns (view_of (holder n).hold) v
  learns n lt = z.seats n (holder n).hold.seat (seat_at n lt)

  used : (row : Row) → IsRow r.board.size row → IsBegun r.board.size ws row
      → row.number < (holder row.client).hold.seat.used
  used row inside begun = (z.begun row.client (holder row.client).hold.seat
      (seat_at row.client inside.0) row.number inside.1).0 begun

  row_is : (row : Row) → IsRow r.board.size row → row_of (holder row.client).hold.passes.number row.number ≡ row
  row_is row inside = ap (λ c. row_of c row.number) (holders row.client inside.0).1

  owned : Owned r.number r.board.size ws v node
  owned = record {
    knows = λ row inside begun. subst (λ (s : Row). KnowsBegun v s (node row)) (row_is row inside)
        (begun_learnt (view_of (holder row.client).hold) v
        (row_of (holder row.client).hold.passes.number row.number) (seen_size row.client) (learns row.client inside.0)
        (node row) ((holder row.client).good.owns.known row.number (used row inside begun)));
    of_row = λ row inside begun.
        ((holder row.client).good.owns.fit row.number (used row inside begun)).named ∙ ap Some (row_is row inside);
    in_region = λ row inside begun.
        ((holder row.client).good.owns.fit row.number (used row inside begun)).in_region;
  }

  -- the seats' counts of rows
  lists : Lists r.board.size ws (all_begun (map (λ (h : Hold). h.seat) hs))
  lists = lists_begun r.board.size ws (map (λ (h : Hold). h.seat) hs) (length-map hs (λ (h : Hold). h.seat) ∙ many)
      (λ n s at.
      let t = image_at (λ (h : Hold). h.seat) hs n s at in
      let lt = within n t.0 t.1 in
      let same : (holder n).hold.seat ≡ s = ap (λ (h : Hold). h.seat) (is_holder n t.0 lt t.1) ∙ t.2 in
      let few_used = (holder n).hold.seat.few in
      let size = (holder n).good.seat.1 in
      subst (λ (s : Seat). (s.client ≡ n) × (s.used ≤ r.board.size.rows)
      × ((j : ℕ) → j < r.board.size.rows → IsBegun r.board.size ws (row_of n j) ↔ (j < s.used))) same (
        (holder n).good.number ∙ (holders n lt).1,
        subst (λ (k : Size). (holder n).hold.seat.used ≤ k.rows) size few_used,
        z.begun n (holder n).hold.seat (seat_at n lt),
      ))

  -- columns

  module _ (c : ℕ) (lt : c < r.board.size.colours) where
    tag_is : tag_of (end c).seated ≡ tag_at r c
    tag_is = (end c).ends.tagged ∙ tagged_at r c (end c).cell (ends c lt).0

    region_is : (end c).seated.column.region ≡ r.number
    region_is = ap (λ (t : Tag). t.region) tag_is

    colour_is : (end c).seated.column.colour ≡ c
    colour_is = ap (λ (t : Tag). t.colour) tag_is

    regions_are : (end c).seated.column.regions ≡ r.regions
    regions_are = ap (λ (t : Tag). t.regions) tag_is

    size_is : (column_seen (end c).seated.seat).size ≡ r.board.size
    size_is = ap (λ (t : Tag). t.size) tag_is

    column_seat : slice_get (map (λ (s : Seated). s.seat) closed) c ≡ Some (end c).seated.seat
    column_seat = at_image (λ (s : Seated). s.seat) closed c (end c).seated (ends c lt).1

    column_learns : Learns (column_seen (end c).seated.seat) v
    column_learns = z.columns c (end c).seated.seat column_seat

    column_size : v.size ≡ (column_seen (end c).seated.seat).size
    column_size = z.size ∙ sym size_is

    -- a hold's pass of the column
    hold_pass : (n : ℕ) (h : Hold) → slice_get hs n ≡ Some h
        → (p : ColumnPass) × (slice_get (end c).passes n ≡ Some p) × (slice_get (passes_of h) c ≡ Some p)
    hold_pass n h at =
        let of = (ends c lt).2 in
        let near = slice_get_within hs n h at in
        let count = of.count ∙ length-map hs (λ (h : Hold). h.passes) in
        let p = got (end c).passes n (omega (arith, near, count)) in
        (p.0, p.1, of.each n h.passes p.0 (at_image (λ (h : Hold). h.passes) hs n h at) p.1)

    closes_for : (n : ℕ) (h : Hold) → slice_get hs n ≡ Some h → ClosesFor h c (logs c)
    closes_for n h at =
        let p = hold_pass n h at in
        let turned : seen_in h c ≡ seen p.0 = ap history_seen p.2 in
        let number : h.passes.number ≡ n =
        sym (ap (λ (g : Hold). g.passes.number) (is_holder n h (within n h at) at)) ∙ (holders n (within n h at)).1 in
        record {
          seen = subst (λ (l : List Told). IsPrefix l (logs c)) (sym turned) ((end c).ends.seen_by n p.0 p.1);
          made = ap (λ m. made_by maker m (logs c)) number ∙ (end c).ends.made_by_each n p.0 p.1
              ∙ ap (made_by maker n) (sym turned) ∙ ap (λ m. made_by maker m (seen_in h c)) (sym number);
        }

    -- each entry was made by its maker's hold
    made_at : (i : ℕ) (t : Told) → slice_get (logs c) i ≡ Some t
        → (t.entry.by < r.board.size.clients)
        × ((j : ℕ) × (slice_get (made_in (holder t.entry.by).hold c) j ≡ Some t))
    made_at i t at =
        let m = (end c).ends.stands.0.makers i t at in
        let by = subst (λ (k : Size). t.entry.by < k.clients) size_is m.0 in
        let h = (holder t.entry.by).hold in
        let made = (closes_for t.entry.by h (holders t.entry.by by).0).made in
        let p = made_place h.passes.number (logs c) i t at (sym (holders t.entry.by by).1) in
        (by, (p.0, ap (λ l. slice_get l p.0) (sym made) ∙ p.1))

    single_apart : (i : ℕ) (t : Told) (id : Id) (floor : ℕ) (wants : Counts) → slice_get (logs c) i ≡ Some t
        → t.entry.event ≡ Single id floor wants → (row : Row) → IsRow r.board.size row → IsBegun r.board.size ws row
        → (node row).id ≢ id
    single_apart i t id floor wants at is row inside begun same =
        let m = made_at i t at in
        let of : id.client ≡ t.entry.by =
        subst (IsOfMaker t.entry.by) is ((end c).ends.stands.0.makers i t at).1 in
        let mine : (node row).id.client ≡ row.client =
        z.board.clients row (node row) inside (owned.knows row inside begun) in
        let by : t.entry.by ≡ row.client = sym of ∙ sym (ap (λ (x : Id). x.client) same) ∙ mine in
        let there : slice_get (made_in (holder row.client).hold c) m.1.0 ≡ Some t =
        subst (λ n. slice_get (made_in (holder n).hold c) m.1.0 ≡ Some t) by m.1.1 in
        let own = (holder row.client).good.owns in
        let entry = own.entries c m.1.0 t there in
        let single = subst (IsAccountedFor (holder row.client).hold.passes.number (holder row.client).hold.seat.used
        (holder row.client).hold.next own.nodes) is entry in
        single.1 row.number (used row inside begun) (ap (λ (x : Id). x.count) same)

    agrees : Agrees r.number r.board.size ws v node c (logs c)
    agrees = record {
      numbered = λ row inside.
          (end c).ends.stands.1.0.numbered row (subst (λ (k : Size). IsRow k row) (sym size_is) inside)
          ∙ ap numbers (sym (z.marks c (end c).seated.seat column_seat row));
      ended = λ row inside is.
          let e = (end c).ends.stands.1.0.ended row (subst (λ (k : Size). IsRow k row) (sym size_is) inside)
          (sym (z.marks c (end c).seated.seat column_seat row) ∙ is) in record {
            node = e.node;
            knows = begun_learnt (column_seen (end c).seated.seat) v row column_size column_learns e.node e.knows;
            ends = e.ends;
          };
      brings = λ n t at.
          subst (λ (x : ℕ). Brings x c t.entry.event t.nodes) region_is
          (subst (λ (x : ℕ). Brings (end c).seated.column.region x t.entry.event t.nodes) colour_is
          ((end c).ends.stands.0.brings n t at));
      backs = λ n t at. backs_learnt (column_seen (end c).seated.seat) v column_learns column_size t.entry.event t.nodes
          ((end c).ends.stands.1.0.backs n t at);
      singles = single_apart;
    }

    closes_column : (s : Seated) → slice_get closed c ≡ Some s → ClosesColumn r c s.column (logs c)
    closes_column s at =
        let two : Some (end c).seated ≡ Some s = sym (ends c lt).1 ∙ at in
        let same : (end c).seated ≡ s = cc two in
        subst (λ (x : Seated). ClosesColumn r c x.column (logs c)) same (record {
          region = region_is;
          colour_is = colour_is;
          regions = regions_are;
          stands = subst (λ (k : Size). IsOfHistory (end c).seated.column k.clients (logs c)) size_is
              (end c).ends.stands.0;
          lawful = subst (λ (t : Tag). IsColumnHistory t.region t.regions (dated_in t (logs c)))
              (tagged_at r c (end c).cell (ends c lt).0) (end c).ends.lawful;
        })

    -- its rings are those that it began with, and fit its history
    closes_rings : (s : Seated) → slice_get closed c ≡ Some s → ClosesRings r c s.rings (logs c)
    closes_rings s at =
        let two : Some (end c).seated ≡ Some s = sym (ends c lt).1 ∙ at in
        let same : (end c).seated ≡ s = cc two in
        subst (λ (x : Seated). ClosesRings r c x.rings (logs c)) same (
          ap (λ (t : Tag). t.rings) tag_is,
          subst (λ (n : ℕ). IsForRegions n (end c).seated.rings) regions_are (end c).seated.others,
          subst (λ (t : Tag). RingsFit t (end c).seated.rings (logs c)) tag_is (end c).ends.stands.1.1,
        )

  -- rows

  abbrev own_rows : List Row
  own_rows = all_begun (map (λ (h : Hold). h.seat) hs)

  abbrev own_row : Row → BegunRow
  own_row row = begun_row r.number r.board.size ws v z.size few z.board node owned row

  abbrev begun : List BegunRow
  begun = begun_rows r.number r.board.size ws v z.size few z.board node owned own_rows lists

  -- what a hold knows of a row, the board's seats knew
  known_row : (n : ℕ) (h : Hold) (lt : n < r.board.size.clients) → (holder n).hold ≡ h → (row : Row) (x : Node)
      → KnowsBegun (view_of h) row x → KnowsBegun v row x
  known_row n h lt same row x knows = begun_learnt (view_of (holder n).hold) v row (seen_size n) (learns n lt) x
      (subst (λ (g : Hold). KnowsBegun (view_of g) row x) (sym same) knows)

  known_mark : (n : ℕ) (h : Hold) (lt : n < r.board.size.clients) → (holder n).hold ≡ h → (row : Row) (c : ℕ) (m : Mark)
      → KnowsMark (view_of h) row c m → KnowsMark v row c m
  known_mark n h lt same row c m knows = mark_learnt (view_of (holder n).hold) v row (seen_size n) (learns n lt) c m
      (subst (λ (g : Hold). KnowsMark (view_of g) row c m) (sym same) knows)

  known_outcome : (n : ℕ) (h : Hold) (lt : n < r.board.size.clients) → (holder n).hold ≡ h → (row : Row) (o : Outcome)
      → KnowsOutcome (view_of h) row o → KnowsOutcome v row o
  known_outcome n h lt same row o knows = outcome_learnt (view_of (holder n).hold) v row (seen_size n) (learns n lt) o
      (subst (λ (g : Hold). KnowsOutcome (view_of g) row o) (sym same) knows)

  row_there : (row : Row) (x : Node) → IsRow r.board.size row → KnowsBegun v row x
      → (i : ℕ) × (b : BegunRow) × (slice_get begun i ≡ Some b) × (b.row ≡ row) × (b.node ≡ x)
  row_there row x inside knows =
      let place = begun_place r.number r.board.size ws v z.size few z.board node owned own_rows lists row inside
      (begun_of r.number r.board.size ws v z.size few z.board node owned row x knows) in (
        place.0,
        own_row row,
        place.1,
        refl,
        sym (node_is r.number r.board.size ws v z.size few z.board node owned row x inside knows),
      )

  agrees_with : (n : ℕ) (h : Hold) → slice_get hs n ≡ Some h → (i : ℕ) (b : BegunRow) → slice_get begun i ≡ Some b
      → AgreesWith h b
  agrees_with n h at i b bat =
      let lt = within n h at in
      let same = is_holder n h lt at in
      let t = row_at_place r.number r.board.size ws v z.size few z.board node owned own_rows lists i b bat in
      let row = t.0 in
      let colours = (z.board.begun row (node row) (owned.knows row t.3 t.4)).1 in
      subst (AgreesWith h) t.2 (record {
        node = λ x knows. sym (node_is r.number r.board.size ws v z.size few z.board node owned row x t.3
            (known_row n h lt same row x knows));
        marks = λ c m coloured knows.
            let of : has (colours_in r.board.size ws row) c ≡ true = ap (λ s. has s c) colours ∙ coloured in
            let inside = (z.board.colours row t.4).within c of in
            let p = member_at (colours_in r.board.size ws row) c (omega (arith, inside, few)) of in
            let is : mark_in r.board.size ws row c ≡ m = z.board.marks row c m (known_mark n h lt same row c m knows) in
            contained (own_row row).marks p.0 (colour_mark c m)
            (at_image (λ (d : ℕ). colour_mark d (mark_in r.board.size ws row d))
            (members (colours_in r.board.size ws row)) p.0 c p.1 ∙ ap (λ k. Some (colour_mark c k)) is);
        last = λ o knows. z.board.outcomes row o (known_outcome n h lt same row o knows);
      })

  proposal_named : (c n : ℕ) (t : Told) (id : Id) (floor : ℕ) (wants : Counts) → c < r.board.size.colours
      → slice_get (logs c) n ≡ Some t → t.entry.event ≡ Propose id floor wants
      → (i : ℕ) × (b : BegunRow) × (slice_get begun i ≡ Some b) × (t.nodes ≡ b.node ∷ [])
  proposal_named c n t id floor wants lt at is =
      let q = subst (λ (e : Event). Backs v e t.nodes) is ((agrees c lt).backs n t at) in
      let inside = subst (λ (k : Size). IsRow k q.1) z.size q.3.inside in
      let p = row_there q.1 q.0 inside q.3.knows in
      (p.0, p.1, p.2, q.2 ∙ ap (λ (x : Node). x ∷ []) (sym p.4))

  pub region_closes : (closes : ClosedRegion) → length closed ≡ r.board.size.colours
      → closes.columns ≡ map (λ (s : Seated). s.column) closed
      → closes.ends.items ≡ map (λ (s : Seated). s.rings) closed
      → closes.rows ≡ map (closed_row r.board.size ws) own_rows
      → Closed r hs closes
  region_closes closes count columns rings rows = record {
    logs = logs;
    begun = begun;
    count = ap length columns ∙ length-map closed (λ (s : Seated). s.column) ∙ count;
    columns = λ c column at.
        let t = image_at (λ (s : Seated). s.column) closed c column (ap (λ l. slice_get l c) (sym columns) ∙ at) in
        let near = slice_get_within closed c t.0 t.1 in
        let lt : c < r.board.size.colours = omega (arith, near, count) in
        subst (λ (x : ColumnState). ClosesColumn r c x (logs c)) t.2 (closes_column c lt t.0 t.1);
    ends = ap length rings ∙ length-map closed (λ (s : Seated). s.rings) ∙ count;
    rings = λ c own at.
        let t = image_at (λ (s : Seated). s.rings) closed c own (ap (λ l. slice_get l c) (sym rings) ∙ at) in
        let near = slice_get_within closed c t.0 t.1 in
        let lt : c < r.board.size.colours = omega (arith, near, count) in
        subst (λ (x : Rings). ClosesRings r c x (logs c)) t.2 (closes_rings c lt t.0 t.1);
    rows = lawful_rows r.number r.board.size ws v z.size few z.board node owned own_rows lists logs agrees;
    closing = rows ∙ sym (map-map closed_of own_row own_rows);
    in_order = map-map (λ (b : BegunRow). b.row) own_row own_rows ∙ same_rows own_rows;
    holds = λ n h at c lt. closes_for c lt n h at;
    agree = agrees_with;
    known = λ n h at row x inside knows.
        row_there row x inside (known_row n h (within n h at) (is_holder n h (within n h at) at) row x knows);
    makers = λ c n t lt at.
        let m = made_at c lt n t at in (
          (holder t.entry.by).hold,
          (holders t.entry.by m.0).0,
          contained (made_in (holder t.entry.by).hold c) m.1.0 t m.1.1,
        );
    named = λ c n t id floor wants lt at is. proposal_named c n t id floor wants lt at is;
  }
