-- The log with which a store ends: its rows are lawful beside its histories, and each id that enters is of a listed node.
use Rattle.std.proofs.Common.{◌≡◌, ℕ, suc, ◌<◌, ◌≤◌, List, [], ◌∷◌, length, map, Option, Some, None, true, slice_get, refl, ap, sym, subst, ◌∙◌, inl, inr, arith}
use Rattle.std.specs.List.Sorted.{IsNonDecreasing}
use Rattle.std.specs.List.{All}
use Rattle.std.proofs.lemmas.Option.{slice_get_within}
use Rattle.std.proofs.lemmas.List.Elements.{All-contains, All-cons, All-nil}
use Rattle.log_node.specs.declared.ids.Id.{Id}
use Rattle.log_node.specs.declared.ids.Row.{Row}
use Rattle.log_node.specs.declared.node.Node.{Node}
use Rattle.log_node.specs.declared.marks.ColourMark.{ColourMark}
use Rattle.log_node.specs.Sets.{has}
use Rattle.col_core.specs.declared.Event as event_types
use Rattle.col_core.specs.declared.Event.TheVariants as events
use Rattle.col_core.specs.declared.Entry.{Entry}
use Rattle.col_core.specs.History.{enters}
use Rattle.col_core.specs.Log.{Log}
use Rattle.col_core.specs.Rows.{BegunRow, FitsRow, FitsRows, IsMarkOf, AreLawfulRows}
use Rattle.col_core.proofs.CallerLemmas.{contains_in, same_id-true, slice_in}
use Rattle.column.specs.Columns.{ColumnState, single_event, propose_event}
use Rattle.stamp_board.specs.declared.seats.Seat.{Seat}
use Rattle.stamp_board.specs.Views.{KnowsBegun}
use Rattle.chain_store.specs.declared.told.Told.{Told}
use Rattle.chain_store.specs.declared.hold.Hold.{Hold}
use Rattle.chain_store.specs.declared.region.Region.{Region}
use Rattle.chain_store.specs.declared.closed.ClosedRegion.{ClosedRegion}
use Rattle.chain_store.specs.Histories.{entries_in, Brings}
use Rattle.chain_store.specs.Owning.{row_of}
use Rattle.chain_store.specs.Holds.{view_of}
use Rattle.chain_store.specs.Closing.{closed_of}
use Rattle.chain_store.proofs.CallerLemmas.{member_has, row_place}
use Rattle.stamp_board.specs.Closing.{all_begun}
use Rattle.log_client.specs.Fits.{IsListed}
use Rattle.log_client.specs.Ending.{AreRegions, AreHoldsIn, PullsTruly, HasOwnNodes}
use Rattle.log_client.specs.Closing.{EndsColumn, EndsRegion, EntersBy}
use Rattle.log_client.proofs.Lists.{mapped, unmapped}
use Rattle.log_client.proofs.End.ByClient.{rows_by_client}
use Rattle.log_client.proofs.End.Ends.{Ended, IsEnd, AreCopied, brings, column, entered_listed, rows_at, row_node_listed}
use Rattle.log_client.proofs.End.EndsLog.{found, log, told_is, told_of}

clients_of : (bs : List BegunRow)
    → map (λ (r : Row). r.client) (map (λ (b : BegunRow). b.row) bs) ≡ map (λ (b : BegunRow). b.row.client) bs
clients_of [] = refl
clients_of (b ∷ bs) = ap (λ (l : List ℕ). b.row.client ∷ l) (clients_of bs)

-- what holds of each item, by place
all_by : {A : Type 0} (P : A → Type 0) (xs : List A) → ((n : ℕ) (x : A) → slice_get xs n ≡ Some x → P x) → All P xs
all_by P [] each = All-nil P
all_by P (x ∷ xs) each = All-cons P x xs (each 0 x refl) (all_by P xs (λ n y at. each (suc n) y at))

all_at : {A : Type 0} (P : A → Type 0) (xs : List A) (n : ℕ) (x : A) → All P xs → slice_get xs n ≡ Some x → P x
all_at P xs n x all at = All-contains P xs x all (contains_in xs x (slice_in xs n x at))

-- rows that are lawful beside histories are so beside such as agree on the colours
rows_beside : (region colours : ℕ) (some others : ℕ → List Entry) (rows : List BegunRow)
    → AreLawfulRows region colours some rows
    → ((c : ℕ) → c < colours → some c ≡ others c)
    → ((n : ℕ) (b : BegunRow) → slice_get rows n ≡ Some b → (c : ℕ) → has b.node.colours c ≡ true → c < colours)
    → AreLawfulRows region colours others rows
rows_beside region colours some others rows l same within = record {
  in_order = l.in_order;
  fit = l.fit;
  ids_differ = l.ids_differ;
  marks = all_by (λ r. All (λ m. IsMarkOf (others m.colour) r.node m.mark) r.marks) rows
      (λ n b at. all_by (λ m. IsMarkOf (others m.colour) b.node m.mark) b.marks
      (λ k m there. subst (λ (h : List Entry). IsMarkOf h b.node m.mark) (same m.colour (low n b at k m there))
      (all_at (λ (m : ColourMark). IsMarkOf (some m.colour) b.node m.mark) b.marks k m
      (all_at (λ (r : BegunRow). All (λ m. IsMarkOf (some m.colour) r.node m.mark) r.marks) rows n b l.marks at) there)));
  outcomes = l.outcomes;
  events = λ c lt. subst (λ (h : List Entry). All (λ e. FitsRows rows c e.event) h) (same c lt) (l.events c lt);
} where
  low : (n : ℕ) (b : BegunRow) → slice_get rows n ≡ Some b → (k : ℕ) (m : ColourMark) → slice_get b.marks k ≡ Some m
      → m.colour < colours
  low n b at k m there =
      let fits = all_at (FitsRow region) rows n b l.fit at in
      within n b at m.colour (member_has b.node.colours k m.colour
      (ap (λ (l : List ℕ). slice_get l k) (sym fits.a_mark_each) ∙ mapped (λ (m : ColourMark). m.colour) b.marks k m there))

module _ (rs : List Region) (regions colours : ℕ) (clients : List (List Hold)) (ends : List ClosedRegion)
    (nodes : ℕ → List Node)
    (are : AreRegions regions rs) (few : length rs ≡ regions)
    (sizes : (n : ℕ) (r : Region) → slice_get rs n ≡ Some r → r.board.size.colours ≡ colours)
    (holds : (u : ℕ) (hs : List Hold) → slice_get clients u ≡ Some hs → AreHoldsIn rs hs)
    (pulls : (u : ℕ) (hs : List Hold) → slice_get clients u ≡ Some hs → PullsTruly rs hs)
    (own : (u : ℕ) (hs : List Hold) → slice_get clients u ≡ Some hs → HasOwnNodes u hs (nodes u))
    (end_of : ℕ → Option Ended)
    (is_end : (n : ℕ) (x : Ended) → end_of n ≡ Some x → IsEnd rs clients ends n x)
    (copied : AreCopied colours end_of)
    (has_end : (n : ℕ) → n < regions → (x : Ended) × (end_of n ≡ Some x))
    (none_beyond : (n : ℕ) → regions ≤ n → end_of n ≡ None) where
  abbrev the_log : Log
  the_log = log rs regions colours clients ends nodes are few sizes holds pulls own end_of is_end copied has_end none_beyond

  -- the colours of a begun row are the region's
  row_within : (n : ℕ) (x : Ended) → end_of n ≡ Some x → (i : ℕ) (b : BegunRow) → slice_get x.closed.begun i ≡ Some b
      → (c : ℕ) → has b.node.colours c ≡ true → c < colours
  row_within n x e i b at c of =
      let p = row_place (map (λ (h : Hold). h.seat) x.ks) i b.row
      (ap (λ (l : List Row). slice_get l i) (sym x.closed.in_order)
      ∙ mapped (λ (d : BegunRow). d.row) x.closed.begun i b at) in
      let k = unmapped (λ (h : Hold). h.seat) x.ks p.place p.seat p.there in
      let is = (x.are_of.1 p.place k.0 k.1).0 in
      let used = p.used in
      let same = ap (λ (s : Seat). s.used) k.2 in
      let lt : b.row.number < k.0.seat.used = omega (arith, used, same) in
      let mine : b.row.client ≡ k.0.passes.number =
      p.mine ∙ (ap (λ (s : Seat). s.client) (sym k.2) ∙ is.number) in
      let node_is : b.node ≡ is.owns.nodes b.row.number =
      (x.closed.agree p.place k.0 k.1 i b at).node (is.owns.nodes b.row.number)
      (subst (λ (u : ℕ). KnowsBegun (view_of k.0) (row_of u b.row.number) (is.owns.nodes b.row.number)) (sym mine)
      (is.owns.known b.row.number lt)) in
      let low = (is.owns.fit b.row.number lt).coloured.within c
      (subst (λ (y : Node). has y.colours c ≡ true) node_is of) in
      let size = sizes n x.r (is_end n x e).region in
      omega (arith, low, size)

  pub region_ends : (n : ℕ) (x : Ended) → end_of n ≡ Some x → EndsRegion the_log regions colours n x.ks x.e
  region_ends n x e = record {
    count = x.closed.count ∙ size;
    columns = λ colour column at. of_column colour column at;
    rows = subst (λ (l : List BegunRow). x.e.rows ≡ map closed_of l) (sym rows_are) x.closed.closing;
    lawful_rows = subst (AreLawfulRows n colours (the_log.histories n)) (sym rows_are)
        (rows_beside n colours (λ (c : ℕ). entries_in (x.closed.logs c)) (the_log.histories n) x.closed.begun lawful
        (λ c lt. ap entries_in (sym (told_is rs regions colours clients ends nodes are few sizes holds pulls own end_of is_end
        copied has_end none_beyond n x e c lt)))
        (λ i b at c of. row_within n x e i b at c of));
    in_order = subst (λ (l : List BegunRow). map (λ (b : BegunRow). b.row) l ≡ all_begun (map (λ (h : Hold). h.seat) x.ks))
        (sym rows_are) x.closed.in_order;
    by_client = subst (λ (l : List BegunRow). IsNonDecreasing (map (λ (b : BegunRow). b.row.client) l)) (sym rows_are)
        begun_by_client;
    of_clients = λ i b at. begun_of_clients i b (ap (λ (l : List BegunRow). slice_get l i) (sym rows_are) ∙ at);
    listed = λ i b at. row_node_listed rs regions colours clients ends nodes are few sizes holds pulls own end_of is_end copied has_end
        n x e i b (ap (λ (l : List BegunRow). slice_get l i) (sym rows_are) ∙ at);
  } where
    mine : (x.r.number ≡ n) × (x.r.regions ≡ regions)
    mine = are n x.r (is_end n x e).region

    size : x.r.board.size.colours ≡ colours
    size = sizes n x.r (is_end n x e).region

    rows_are : the_log.rows n ≡ x.closed.begun
    rows_are = ap rows_at e

    numbers : (u : ℕ) (s : Seat) → slice_get (map (λ (h : Hold). h.seat) x.ks) u ≡ Some s → s.client ≡ u
    numbers u s at =
        let k = unmapped (λ (h : Hold). h.seat) x.ks u s at in
        let is = x.are_of.1 u k.0 k.1 in
        ap (λ (z : Seat). z.client) (sym k.2) ∙ (is.0.number ∙ is.1)

    begun_by_client : IsNonDecreasing (map (λ (b : BegunRow). b.row.client) x.closed.begun)
    begun_by_client = subst IsNonDecreasing
        (ap (map (λ (r : Row). r.client)) (sym x.closed.in_order) ∙ clients_of x.closed.begun)
        (rows_by_client (map (λ (h : Hold). h.seat) x.ks) numbers)

    begun_of_clients : (i : ℕ) (b : BegunRow) → slice_get x.closed.begun i ≡ Some b → b.row.client < length x.ks
    begun_of_clients i b at =
        let p = row_place (map (λ (h : Hold). h.seat) x.ks) i b.row
        (ap (λ (l : List Row). slice_get l i) (sym x.closed.in_order)
        ∙ mapped (λ (d : BegunRow). d.row) x.closed.begun i b at) in
        let k = unmapped (λ (h : Hold). h.seat) x.ks p.place p.seat p.there in
        let lt = slice_get_within x.ks p.place k.0 k.1 in
        let is = numbers p.place p.seat p.there in
        let mine = p.mine in
        omega (arith, lt, is, mine)

    lawful : AreLawfulRows n colours (λ (c : ℕ). entries_in (x.closed.logs c)) x.closed.begun
    lawful = subst (λ (k : ℕ). AreLawfulRows k colours (λ (c : ℕ). entries_in (x.closed.logs c)) x.closed.begun) mine.0
        (subst (λ (k : ℕ). AreLawfulRows x.r.number k (λ (c : ℕ). entries_in (x.closed.logs c)) x.closed.begun) size
        x.closed.rows)

    of_column : (colour : ℕ) (column : ColumnState) → slice_get x.e.columns colour ≡ Some column
        → EndsColumn the_log regions n colour column
    of_column colour column at =
        let c = x.closed.columns colour column at in
        let lt = slice_get_within x.e.columns colour column at in
        let many = x.closed.count in
        record {
          of_region = c.region ∙ mine.0;
          of_colour = c.colour_is;
          of_regions = c.regions ∙ mine.1;
          journal = c.stands.same
              ∙ ap entries_in (sym (told_is rs regions colours clients ends nodes are few sizes holds pulls own end_of is_end
              copied has_end none_beyond n x e colour (omega (arith, lt, many, size))));
        }

  -- each id that enters is that of a listed node
  pub enters_listed : (region colour n : ℕ) (e : Entry) (id : Id) → slice_get (the_log.histories region colour) n ≡ Some e
      → enters id e.event ≡ true → (y : Node) × (y.id ≡ id) × IsListed nodes y × EntersBy colour y e.event
  enters_listed region colour n e id at it =
      let t = unmapped (λ (u : Told). u.entry)
      (told_of rs regions colours clients ends nodes are few sizes holds pulls own end_of is_end copied has_end none_beyond region colour)
      n e at in
      let f = found rs regions colours clients ends nodes are few sizes holds pulls own end_of is_end copied has_end none_beyond
      region colour n t.0 t.1 in
      subst (λ (x : Entry). (y : Node) × (y.id ≡ id) × IsListed nodes y × EntersBy colour y x.event) t.2
      (of_told f.0 f.1 f.2 t.0 f.3 (ap (λ (x : Entry). enters id x.event) t.2 ∙ it)) where
        of_told : (x : Ended) (e : end_of region ≡ Some x) (lt : colour < colours) (t : Told)
            → slice_get (x.closed.logs colour) n ≡ Some t → enters id t.entry.event ≡ true
            → (y : Node) × (y.id ≡ id) × IsListed nodes y × EntersBy colour y t.entry.event
        of_told x e lt t at it = by_event t.entry.event refl
            (brings rs regions colours clients ends nodes are few sizes holds pulls own end_of is_end copied has_end
            region x e colour lt n t at) it where
              col : ColumnState
              col =
                  let c = column rs regions colours clients ends nodes are few sizes holds pulls own end_of is_end copied has_end
                  region x e colour lt in
                  c.0

              its_colour : col.colour ≡ colour
              its_colour =
                  let c = column rs regions colours clients ends nodes are few sizes holds pulls own end_of is_end copied has_end
                  region x e colour lt in
                  c.1.colour_is

              entered : (y : Node) → t.nodes ≡ y ∷ [] → y.id ≡ id → IsListed nodes y
              entered y is same =
                  entered_listed rs regions colours clients ends nodes are few sizes holds pulls own end_of is_end copied has_end
                  region x e colour lt id y
                  (record { place = n; told = t; there = at; brought = is; entered = it; of_id = same })

              by_event : (ev : event_types.Event) → t.entry.event ≡ ev → Brings col.region col.colour ev t.nodes
                  → enters id ev ≡ true
                  → (y : Node) × (y.id ≡ id) × IsListed nodes y × EntersBy colour y t.entry.event
              by_event (events.Single other floor wants) is b now =
                  let of : other ≡ b.0.id = (let f = b.3 in cc) in
                  let same = sym (same_id-true id other now ∙ of) in (
                    b.0,
                    same,
                    entered b.0 b.1 same,
                    inl (is ∙ (b.3 ∙ ap (λ (c : ℕ). single_event c b.0) its_colour)),
                  )
              by_event (events.Propose other floor wants) is b now =
                  let of : other ≡ b.0.id = (let f = b.3 in cc) in
                  let same = sym (same_id-true id other now ∙ of) in (
                    b.0,
                    same,
                    entered b.0 b.1 same,
                    inr (is ∙ (b.3 ∙ ap (λ (c : ℕ). propose_event c b.0) its_colour)),
                  )
              by_event (events.Settle other outcome) is b now = absurd (let f : ⊥ = cc in f)
              by_event (events.Raise to) is b now = absurd (let f : ⊥ = cc in f)
              by_event (events.Give other from) is b now = absurd (let f : ⊥ = cc in f)
              by_event (events.Carry other start heads) is b now = absurd (let f : ⊥ = cc in f)
              by_event (events.Trim counts) is b now = absurd (let f : ⊥ = cc in f)
