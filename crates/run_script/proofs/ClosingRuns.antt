-- What clients who were served leave in the end is reported as a lawful run.
use Rattle.std.proofs.Common.{◌≡◌, ◌⊎◌, ℕ, zero, suc, ◌+◌, ◌<◌, List, [], ◌∷◌, ◌++◌, length, map, Some, None, Bool, true, false, cond, slice_get, refl, ap, sym, subst, ◌∙◌, inl, inr, arith, eq-eqb, length-append}
use Rattle.std.specs.Prelude.{IsTrue, ◌&&◌, not, slice_index, slice_index_or, unwrap_or}
use Rattle.std.specs.List.{All, Contains, enumerate_from, filter, find, flat_map, range_with_len}
use Rattle.std.proofs.lemmas.List.{length-map}
use Rattle.std.proofs.lemmas.List.FromFn.{length-enumerate_from}
use Rattle.std.proofs.lemmas.List.Elements.{All-contains}
use Rattle.std.proofs.lemmas.Option.{get_or_from_slice_get, slice_get_within}
use Rattle.std.proofs.lemmas.Simd.{map-map}
use Rattle.log_node.specs.declared.ids.Id.{Id}
use Rattle.log_node.specs.declared.node.Node.{Node}
use Rattle.log_node.specs.declared.marks.Outcome.TheVariants.{Open}
use Rattle.log_node.specs.Order.{same_id}
use Rattle.log_node.specs.Standings.{Standing, is_open_id, queue_of}
use Rattle.col_core.specs.declared.Entry.{Entry}
use Rattle.col_core.specs.History.{entries}
use Rattle.col_core.specs.Computed.{dated}
use Rattle.col_core.specs.Copies.{AreTrueCopies}
use Rattle.col_core.specs.Ids.{IsStepOf}
use Rattle.col_core.specs.Legal.{IsColumnHistory}
use Rattle.col_core.specs.Log.{Log, places_of}
use Rattle.col_core.specs.Rows.{BegunRow, FitsRow, is_of}
use Rattle.col_core.proofs.CallerLemmas.{In, contains_in, cut-is_greatest, in_contains, in_filter-back, in_slice, same_id-refl, slice_in}
use Rattle.column.specs.Columns.{ColumnState, base_of}
use Rattle.stamp_board.specs.declared.rows.ClosedRow.{ClosedRow}
use Rattle.stamp_board.specs.declared.view.Size.{Size}
use Rattle.script_text.specs.declared.script.Script.{Script}
use Rattle.script_text.specs.Fitting.{IsFitting}
use Rattle.script_text.proofs.CallerLemmas.{regions_few}
use Rattle.report_text.specs.declared.report.ClientReport.{ClientReport}
use Rattle.report_text.specs.declared.report.ColumnReport.{ColumnReport}
use Rattle.report_text.specs.declared.report.QueueKey.{QueueKey}
use Rattle.report_text.specs.declared.report.Report.{Report}
use Rattle.report_text.specs.declared.report.ReplyLine.{ReplyLine}
use Rattle.report_text.specs.declared.report.RowReport.{RowReport}
use Rattle.lawful_run.specs.Callers.{Caller, caller_of, commands_of}
use Rattle.lawful_run.specs.Columns.{AreColumns, HoldsTrueCopies, AreRowReports, IsClientIn, IsColumnReport, row_report}
use Rattle.lawful_run.specs.Explains.{Explained}
use Rattle.lawful_run.specs.Lawful.{HasHelping, HasStopped, IsClientRun, IsComplete, IsHelp, LawfulRun, LeavesOpen}
use Rattle.client_law.proofs.CallerLemmas.{explained_at_end}
use Rattle.chain_store.specs.declared.closed.ClosedRegion.{ClosedRegion}
use Rattle.chain_store.specs.declared.hold.Hold.{Hold}
use Rattle.chain_store.specs.Closing.{closed_of}
use Rattle.chain_store.proofs.CallerLemmas.{all_by, got}
use Rattle.closing_report.specs.Columns.{HasNames, column_shown, waiting_shown}
use Rattle.log_client.specs.declared.client.Client.{Client}
use Rattle.log_client.specs.declared.closed.Closed.{Closed}
use Rattle.log_client.specs.declared.store.Store.{Store}
use Rattle.log_client.specs.Clients.{holds_of, nodes_of_rows, seen_of}
use Rattle.log_client.specs.Clients.{caller_of as client_caller}
use Rattle.log_client.specs.Closes.{ClosesAsLog, EndsFor}
use Rattle.log_client.specs.Closing.{AreHoldsAt, EndsColumn, EndsRegion}
use Rattle.log_client.specs.Fits.{FitsHolds}
use Rattle.log_client.proofs.CallerLemmas.{open_row}
use Rattle.run_script.specs.EndReports.{CanShow, HaveNodes, replies_shown, region_shown, end_report, id_of, node_at, nodes_in, closing_nodes, row_shown, rows_shown}
use Rattle.run_script.specs.Serving.{AreServed, HasStopped as Stopped, WasServed}
use Rattle.run_script.proofs.ByPlace.{all_flat, flat_numbered, map_flat, map_numbered, mapped, numbered_at, numbered_get, numbered_second, unmapped}
use Rattle.log_node.proofs.CallerLemmas.{get_range as range_is}

-- what a search for one that is there finds
finds : {A : Type 0} (test : A → Bool) (xs : List A) (x : A) → In x xs → test x ≡ true
    → (y : A) × (find test xs ≡ Some y)
finds test [] x i t = absurd i
finds {A} test (y ∷ ys) x i t = by (test y) refl i (λ j. finds test ys x j t) where
  by : (b : Bool) → test y ≡ b → (y ≡ x) ⊎ In x ys → (In x ys → (z : A) × (find test ys ≡ Some z))
      → (z : A) × (cond b (Some y) (find test ys) ≡ Some z)
  by true is j rest = (y, refl)
  by false is (inl same) rest = absurd (let two = sym is ∙ (ap test same ∙ t) in let f : ⊥ = cc (two) in f)
  by false is (inr j) rest = rest j

shown_back : (s : List Standing) → map (λ (q : QueueKey). record { key = q.key; settled = q.settled }) (map waiting_shown s) ≡ s
shown_back [] = refl
shown_back (e ∷ s) = ap (λ (l : List Standing). e ∷ l) (shown_back s)

module _ (script : Script) (fits : IsFitting script) (s : Store) (clients : List Client) (replies : List (List ReplyLine))
    (served : AreServed script s clients replies) (closed : Closed) (closes : ClosesAsLog s clients closed) where
  abbrev log : Log
  log = closes.log

  abbrev regions : ℕ
  regions = script.shape.regions

  abbrev colours : ℕ
  colours = script.shape.colours

  abbrev report : Report
  report = end_report script closed replies

  colours_are : s.size.colours ≡ colours
  colours_are = ap (λ (k : Size). k.colours) served.size

  -- a client of the script
  client_at : (n : ℕ) → n < length script.shape.homes → (c : Client) × (slice_get clients n ≡ Some c)
  client_at n lt = let many = served.many in got clients n (omega (arith, lt, many))

  ends_for : (n : ℕ) (c : Client) → slice_get clients n ≡ Some c → EndsFor s log c
  ends_for n c at = closes.each n c at

  home_of : (n : ℕ) (c : Client) → slice_get clients n ≡ Some c → slice_index script.shape.homes n ≡ c.region
  home_of n c at = get_or_from_slice_get script.shape.homes n c.region 0 (served.each n c at).1

  serves : (n : ℕ) (c : Client) → slice_get clients n ≡ Some c
      → WasServed s script.objects c (commands_of script n) (slice_index_or replies n [])
  serves n c at = (served.each n c at).2

  -- CLIENTS

  names : map (λ (c : ClientReport). c.name) report.clients ≡ script.clients
  names =
      map-map (λ (c : ClientReport). c.name) (replies_shown replies) (enumerate_from 0 script.clients)
      ∙ numbered_second 0 script.clients

  caller_is : (n : ℕ) (c : Client) → slice_get clients n ≡ Some c → client_caller s c script.objects ≡ caller_of script n
  caller_is n c at = λ i. record {
    client = (served.each n c at).0 i;
    own = sym (home_of n c at) i;
    regions = served.regions i;
    rows = (served.size i).rows;
    objects = script.objects;
  }

  client_run : (n : ℕ) (c : Client) → slice_get clients n ≡ Some c → IsClientRun log script n (slice_index_or replies n [])
  client_run n c at =
      let number = (served.each n c at).0 in
      let v = serves n c at in
      let e = ends_for n c at in
      let own = sym (home_of n c at) in record {
        kept = v.kept;
        explained = subst (λ (who : Caller). Explained log who (commands_of script n) (slice_index_or replies n []) v.kept)
            (caller_is n c at)
            (explained_at_end (seen_of c) (FitsHolds (holds_of c)) (client_caller s c script.objects) (commands_of script n)
            (slice_index_or replies n []) v.kept log (e.on script.objects) e.fits v.explained);
        made = λ region colour lt lc. subst (λ (k : ℕ). places_of k (log.histories region colour) ≡ v.kept.made region colour)
            number (e.steps script.objects v.kept v.by region colour);
        nodes = ap (λ (k : ℕ). length (log.nodes k)) (sym number) ∙ (e.ids ∙ sym v.ids);
        rows = ap (λ (r : ℕ). length (filter (is_of n) (log.rows r))) (sym own)
            ∙ (ap (λ (k : ℕ). length (filter (is_of k) (log.rows c.region))) (sym number)
            ∙ (sym (length-map (filter (is_of c.number) (log.rows c.region)) (λ (b : BegunRow). b.node))
            ∙ (ap length e.rows ∙ sym v.rows)));
        row_nodes = λ b among mine. subst (λ (k : ℕ). slice_get (log.nodes k) b.node.id.count ≡ Some b.node) number
            (e.row_nodes b (subst (λ (r : ℕ). Contains (log.rows r) b) (sym own) among) (mine ∙ sym number));
      }

  -- a client that is shown
  shown_at : (n : ℕ) (c : ClientReport) → slice_get report.clients n ≡ Some c
      → (n < length script.shape.homes) × (slice_index_or replies n [] ≡ c.replies)
  shown_at n c there =
      let p = unmapped (replies_shown replies) (enumerate_from 0 script.clients) n c there in
      let number = numbered_get 0 script.clients n p.0 p.1 in
      let lt = slice_get_within script.clients n p.0.1 number.1 in
      let many = fits.clients in
      let is : p.0.0 ≡ n = (let e = number.0 in omega (arith, e)) in (
        omega (arith, lt, many),
        ap (λ (k : ℕ). slice_index_or replies k []) (sym is) ∙ ap (λ (r : ClientReport). r.replies) p.2,
      )

  client_runs : (n : ℕ) (c : ClientReport) → slice_get report.clients n ≡ Some c → IsClientRun log script n c.replies
  client_runs n c there =
      let is = shown_at n c there in
      let own = client_at n is.0 in
      subst (IsClientRun log script n) is.1 (client_run n own.0 own.1)

  -- REGIONS

  region_at : (n : ℕ) (e : ClosedRegion) → slice_get closed.regions n ≡ Some e
      → (ks : List Hold) × AreHoldsAt (map holds_of clients) n ks × EndsRegion log regions colours n ks e
  region_at n e at =
      let r = closes.ends.ends_with n e at in (
        r.0,
        r.1,
        subst (λ (k : ℕ). EndsRegion log k colours n r.0 e) served.regions
            (subst (λ (k : ℕ). EndsRegion log (length s.regions) k n r.0 e) colours_are r.2),
      )

  many_regions : length closed.regions ≡ regions
  many_regions = closes.ends.many ∙ served.regions

  ended_at : (n : ℕ) → n < regions → (e : ClosedRegion) × (slice_get closed.regions n ≡ Some e)
  ended_at n lt = let many = many_regions in got closed.regions n (omega (arith, lt, many))

  region_of : (n : ℕ) → n < regions
      → (e : ClosedRegion) × (ks : List Hold) × AreHoldsAt (map holds_of clients) n ks × EndsRegion log regions colours n ks e
  region_of n lt =
      let e = ended_at n lt in
      let r = region_at n e.0 e.1 in
      (e.0, r.0, r.1, r.2)

  lawful_at : (region colour : ℕ) → IsColumnHistory region regions (dated region (log.histories region colour))
  lawful_at region colour = subst (λ (k : ℕ). IsColumnHistory region k (dated region (log.histories region colour)))
      served.regions (closes.ends.lawful region colour)

  within_regions : (region : ℕ) → region < regions → region < length s.regions
  within_regions region lt = let is = served.regions in omega (arith, lt, is)

  within_colours : (colour : ℕ) → colour < colours → colour < s.size.colours
  within_colours colour lt = let is = colours_are in omega (arith, lt, is)

  -- the client of a row
  row_client : (region : ℕ) (lt : region < regions) (b : BegunRow) → Contains (log.rows region) b
      → (c : Client) × (slice_get clients b.row.client ≡ Some c) × (c.number ≡ b.row.client) × (region ≡ c.region)
  row_client region lt b among =
      let r = region_of region lt in
      let place = in_slice (log.rows region) b (in_contains (log.rows region) b among) in
      let less = r.3.of_clients place.0 b place.1 in
      let count = r.2.0 in
      let many = length-map clients holds_of in
      let c = got clients b.row.client (omega (arith, less, count, many)) in
      let number = (served.each b.row.client c.0 c.1).0 in (
        c.0,
        c.1,
        number,
        (ends_for b.row.client c.0 c.1).rows_at_home region b (within_regions region lt) among (sym number),
      )

  -- the client who made an entry
  maker_of : (region colour : ℕ) (e : Entry) → Contains (log.histories region colour) e
      → (c : Client) × (slice_get clients e.by ≡ Some c) × (c.number ≡ e.by)
  maker_of region colour e among =
      let place = in_slice (log.histories region colour) e (in_contains (log.histories region colour) e among) in
      let less = closes.ends.makers region colour place.0 e place.1 in
      let many = length-map clients holds_of in
      let c = got clients e.by (omega (arith, less, many)) in
      (c.0, c.1, (served.each e.by c.0 c.1).0)

  -- COLUMNS

  named : (list : List (List ℕ)) (n : ℕ) → n < length list → slice_get list n ≡ Some (unwrap_or (slice_get list n) [])
  named [] n lt = absurd (omega (arith, lt))
  named (name ∷ list) zero lt = refl
  named (name ∷ list) (suc n) lt = named list n (omega (arith, lt))

  column : (region colour : ℕ) (c : ColumnState) → region < regions → colour < colours
      → EndsColumn log regions region colour c
      → IsColumnReport log script (column_shown script.regions script.colours c)
  column region colour c lt lc is =
      let history : c.journal ≡ log.histories c.region c.colour =
      is.journal ∙ (λ i. log.histories (sym is.of_region i) (sym is.of_colour i)) in record {
        history = history;
        legal = subst (λ (h : List Entry). IsColumnHistory c.region regions (dated c.region h)) (sym history)
            (lawful_at c.region c.colour);
        makers = all_by (λ (e : Entry). e.by < length script.clients) c.journal (λ n e at.
            let less = closes.ends.makers c.region c.colour n e
            (subst (λ (h : List Entry). slice_get h n ≡ Some e) history at) in
            let many = length-map clients holds_of in
            let all = served.many in
            let shown = fits.clients in
            omega (arith, less, many, all, shown));
        closing = record {
          clock_shown = refl;
          line_shown = refl;
          queue_shown = shown_back (queue_of (entries c.journal));
          cut_shown = cut-is_greatest c.region (dated c.region c.journal);
          base_shown = λ i. base_of (record c { regions = is.of_regions i });
        };
        region_named = named script.regions c.region
            (let a = is.of_region in let b = fits.regions in omega (arith, a, b, lt));
        colour_named = named script.colours c.colour
            (let a = is.of_colour in let b = fits.colours in omega (arith, a, b, lc));
      }

  -- the numbers of a column
  abbrev numbers : ColumnReport → ℕ × ℕ
  numbers c = (c.region, c.colour)

  abbrev region_numbers : ℕ → List (ℕ × ℕ)
  region_numbers region = map {B = ℕ × ℕ} (λ colour. (region, colour)) (range_with_len 0 colours)

  columns_of_region : (n : ℕ) (e : ClosedRegion) → slice_get closed.regions n ≡ Some e
      → All (IsColumnReport log script) (map (column_shown script.regions script.colours) e.columns)
  columns_of_region n e at = all_by (IsColumnReport log script) (map (column_shown script.regions script.colours) e.columns)
      (λ k shown there.
      let c = unmapped (column_shown script.regions script.colours) e.columns k shown there in
      let r = region_at n e at in
      let lt = slice_get_within closed.regions n e at in
      let many = many_regions in
      let lc = slice_get_within e.columns k c.0 c.1 in
      let count = r.2.count in
      subst (IsColumnReport log script) c.2
      (column n k c.0 (omega (arith, lt, many)) (omega (arith, lc, count)) (r.2.columns k c.0 c.1)))

  numbers_of_region : (n : ℕ) (e : ClosedRegion) → slice_get closed.regions n ≡ Some e
      → map numbers (region_shown script.regions script.colours e) ≡ region_numbers n
  numbers_of_region n e at =
      let r = region_at n e at in
      map-map numbers (column_shown script.regions script.colours) e.columns
      ∙ (map_numbered {B = ℕ × ℕ} (λ (c : ColumnState). (c.region, c.colour)) (λ colour. (n, colour)) e.columns
      (λ k c there. let is = r.2.columns k c there in (λ i. (is.of_region i, is.of_colour i)))
      ∙ ap (λ (k : ℕ). map {B = ℕ × ℕ} (λ colour. (n, colour)) (range_with_len 0 k)) r.2.count)

  columns : AreColumns log script report.columns
  columns = record {
    all =
        map_flat numbers (region_shown script.regions script.colours) closed.regions
        ∙ (flat_numbered (λ (e : ClosedRegion). map numbers (region_shown script.regions script.colours e)) region_numbers
        closed.regions (λ n e at. numbers_of_region n e at)
        ∙ ap (λ (k : ℕ). flat_map region_numbers (range_with_len 0 k)) many_regions);
    each = all_flat (IsColumnReport log script) (region_shown script.regions script.colours) closed.regions columns_of_region;
  }

  -- ROWS

  -- a row's node is among those that its client had, at the row's number
  node_there : (region : ℕ) (lt : region < regions) (b : BegunRow) → Contains (log.rows region) b
      → node_at (closing_nodes closed) b.row ≡ Some b.node
  node_there region lt b among =
      let c = row_client region lt b among in
      let e = ends_for b.row.client c.0 c.1 in
      let r = region_of region lt in
      let own = filter (is_of b.row.client) (log.rows region) in
      let place = in_slice own b (in_filter-back (is_of b.row.client) b (log.rows region)
      (in_contains (log.rows region) b among) (eq-eqb b.row.client b.row.client refl)) in
      let number : b.row.number ≡ place.0 =
      (let k = range_is 0 (length own) place.0 b.row.number
      (ap (λ (l : List ℕ). slice_get l place.0) (sym (r.3.lawful_rows.in_order b.row.client))
      ∙ mapped (λ (d : BegunRow). d.row.number) own place.0 b place.1) in omega (arith, k)) in
      let its : map (λ (d : BegunRow). d.node) own ≡ nodes_of_rows c.0 =
      (λ i. map (λ (d : BegunRow). d.node) (filter (is_of (sym c.2 i)) (log.rows (c.3 i)))) ∙ e.rows in
      let at : slice_get (nodes_of_rows c.0) b.row.number ≡ Some b.node =
      ap (slice_get (nodes_of_rows c.0)) number
      ∙ (ap (λ (l : List Node). slice_get l place.0) (sym its) ∙ mapped (λ (d : BegunRow). d.node) own place.0 b place.1) in
      let lists : slice_get (closing_nodes closed) b.row.client ≡ Some (nodes_of_rows c.0) =
      ap (λ l. slice_get (nodes_in l) b.row.client) closes.nodes
      ∙ mapped (map (λ shared. shared.value)) (map (λ (d : Client). d.rows.items) clients) b.row.client
      c.0.rows.items (mapped (λ (d : Client). d.rows.items) clients b.row.client c.0 c.1) in
      ap (λ (l : List Node). slice_get l b.row.number)
      (get_or_from_slice_get (closing_nodes closed) b.row.client (nodes_of_rows c.0) [] lists) ∙ at

  shown_row : (region : ℕ) (lt : region < regions) (b : BegunRow) → Contains (log.rows region) b
      → row_shown (closing_nodes closed) region (closed_of b) ≡ row_report region b
  shown_row region lt b among = λ i. record {
    region = region;
    row = b.row;
    id = id_of (node_there region lt b among i);
    marks = b.marks;
    last = b.last;
  }

  rows_of_region : (n : ℕ) (e : ClosedRegion) → slice_get closed.regions n ≡ Some e
      → map (row_shown (closing_nodes closed) n) e.rows ≡ map (row_report n) (log.rows n)
  rows_of_region n e at =
      let r = region_at n e at in
      let lt = slice_get_within closed.regions n e at in
      let many = many_regions in
      ap (map (row_shown (closing_nodes closed) n)) r.2.rows
      ∙ (map-map (row_shown (closing_nodes closed) n) closed_of (log.rows n)
      ∙ same_maps (λ (b : BegunRow). row_shown (closing_nodes closed) n (closed_of b)) (row_report n) (log.rows n)
      (λ k b there. shown_row n (omega (arith, lt, many)) b (contains_in (log.rows n) b (slice_in (log.rows n) k b there)))) where
        same_maps : (f g : BegunRow → RowReport) (bs : List BegunRow)
            → ((k : ℕ) (b : BegunRow) → slice_get bs k ≡ Some b → f b ≡ g b) → map f bs ≡ map g bs
        same_maps f g [] same = refl
        same_maps f g (b ∷ bs) same =
            λ i. same 0 b refl i ∷ same_maps f g bs (λ k d there. same (suc k) d there) i

  rows_in_range : (P : BegunRow → Type 0) (region : ℕ) → region < regions
      → ((b : BegunRow) → Contains (log.rows region) b → P b) → All P (log.rows region)
  rows_in_range P region lt each = all_by P (log.rows region)
      (λ k b there. each b (contains_in (log.rows region) b (slice_in (log.rows region) k b there)))

  begun : AreRowReports log script report.rows
  begun = record {
    all =
        flat_numbered (rows_shown (closing_nodes closed))
        (λ region. map (row_report region) (log.rows region)) (enumerate_from 0 closed.regions)
        (λ n p at.
        let is = numbered_get 0 closed.regions n p at in
        let number : p.0 ≡ n = (let e = is.0 in omega (arith, e)) in
        ap (λ (k : ℕ). map (row_shown (closing_nodes closed) k) p.1.rows) number ∙ rows_of_region n p.1 is.1)
        ∙ ap (λ (k : ℕ). flat_map (λ region. map (row_report region) (log.rows region)) (range_with_len 0 k))
        (length-enumerate_from 0 closed.regions ∙ many_regions);
    by_client = λ region lt. (region_of region lt).3.by_client;
    of_clients = λ region lt. rows_in_range (λ (b : BegunRow). IsClientIn script region b.row.client) region lt
        (λ b among.
        let c = row_client region lt b among in
        let less = slice_get_within clients b.row.client c.0 c.1 in
        let many = served.many in
        (omega (arith, less, many), home_of b.row.client c.0 c.1 ∙ sym c.3));
    lawful = λ region lt. (region_of region lt).3.lawful_rows;
  }

  copies : HoldsTrueCopies log script
  copies colour lt = subst (λ (k : ℕ). AreTrueCopies k (λ region. dated region (log.histories region colour))) served.regions
      (closes.ends.copies colour (within_colours colour lt))

  -- HELP

  helpers : (region colour : ℕ) (e : Entry) → region < regions → colour < colours
      → Contains (log.histories region colour) e → IsHelp e.by e.event
      → HasHelping script e.by × ((caller_of script e.by).own ≡ region)
  helpers region colour e lt lc among help =
      let c = maker_of region colour e among in
      let h = (ends_for e.by c.0 c.1).helped region colour e (within_regions region lt) (within_colours colour lc) among
      (sym c.2) (subst (λ (k : ℕ). IsHelp k e.event) (sym c.2) help) in
      ((serves e.by c.0 c.1).helps h.0, home_of e.by c.0 c.1 ∙ sym h.1)

  helped : (region colour : ℕ) (e : Entry) (b : BegunRow) → region < regions → colour < colours
      → Contains (log.histories region colour) e → IsHelp e.by e.event → Contains (log.rows region) b
      → IsStepOf b.node.id e.event → IsComplete log script region b
  helped region colour e b lt lc among help listed step =
      let c = maker_of region colour e among in
      let h = (ends_for e.by c.0 c.1).helped region colour e (within_regions region lt) (within_colours colour lc) among
      (sym c.2) (subst (λ (k : ℕ). IsHelp k e.event) (sym c.2) help) in
      let whole = h.2 b listed step in record {
        decided = whole.decided;
        open_nowhere = λ k lk. whole.open_nowhere k (within_colours k lk);
      }

  -- WHAT IS LEFT OPEN

  -- a client whose last command stopped is shown so
  shown_stopped : (n : ℕ) (c : Client) → slice_get clients n ≡ Some c
      → Stopped (commands_of script n) (slice_index_or replies n []) → HasStopped report n
  shown_stopped n c at stop =
      let less = slice_get_within clients n c at in
      let many = served.many in
      let all = fits.clients in
      let name = got script.clients n (omega (arith, less, many, all)) in
      let p = numbered_at 0 script.clients n name.0 name.1 in
      let is : p.0.0 ≡ n = (let e = p.2 in omega (arith, e)) in
      let shown : slice_index_or replies p.0.0 [] ≡ stop.earlier ++ stop.reply ∷ [] =
      ap (λ (k : ℕ). slice_index_or replies k []) is ∙ stop.replied in record {
        shown = record { name = p.0.1; replies = slice_index_or replies p.0.0 [] };
        of_client = mapped (replies_shown replies) (enumerate_from 0 script.clients) n p.0 p.1;
        before = length stop.earlier;
        reply = stop.reply;
        last = ap length shown ∙ length-append stop.earlier (stop.reply ∷ []);
        there = ap (λ (l : List ReplyLine). slice_get l (length stop.earlier)) shown ∙ at_end stop.earlier stop.reply;
        steps = stop.stopped.0;
        stopped = stop.stopped.1;
      } where
        at_end : (xs : List ReplyLine) (x : ReplyLine) → slice_get (xs ++ x ∷ []) (length xs) ≡ Some x
        at_end [] x = refl
        at_end (y ∷ xs) x = at_end xs x

  -- an entry is settled, or its client stopped
  settled_or : (region colour : ℕ) (lt : region < regions) (lc : colour < colours) (z : Standing)
      → In z (entries (log.histories region colour)) → IsTrue z.settled ⊎ HasStopped report z.key.id.client
  settled_or region colour lt lc z among = by z.settled refl where
    by : (b : Bool) → z.settled ≡ b → IsTrue z.settled ⊎ HasStopped report z.key.id.client
    by true is = inl is
    by false is =
        let found = finds (is_open_id z.key.id) (entries (log.histories region colour)) z among
        (ap (λ (b : Bool). not b && same_id z.key.id z.key.id) is ∙ same_id-refl z.key.id) in
        let r = region_of region lt in
        let row = open_row region regions colours (log.histories region) (log.rows region) r.3.lawful_rows colour lc
        (lawful_at region colour) z.key.id found.0 found.1 in
        let c = row_client region lt row.1 row.2 in
        let mine : row.1.row.client ≡ z.key.id.client =
        sym (All-contains (FitsRow region) (log.rows region) row.1 r.3.lawful_rows.fit row.2).client
        ∙ ap (λ (i : Id). i.client) row.3 in
        elim (serves row.1.row.client c.0 c.1).finished [
          | inl done ↦ absurd (let none = (ends_for row.1.row.client c.0 c.1).closed done region colour z.key.id
              (within_regions region lt) (within_colours colour lc) (sym mine ∙ sym c.2) in
              let two : Some found.0 ≡ None = sym found.1 ∙ none in let f : ⊥ = cc (two) in f)
          | inr stop ↦ inr (subst (HasStopped report) mine (shown_stopped row.1.row.client c.0 c.1 stop))
        ]

  left_open : LeavesOpen log script report
  left_open = record {
    ids = λ region colour lt lc. all_by (λ (z : Standing). IsTrue z.settled ⊎ HasStopped report z.key.id.client)
        (entries (log.histories region colour)) (λ k z at. settled_or region colour lt lc z
        (slice_in (entries (log.histories region colour)) k z at));
    rows = λ region lt. rows_in_range (λ (b : BegunRow). b.last ≡ Open → HasStopped report b.row.client) region lt
        (λ b among undecided.
        let c = row_client region lt b among in
        elim (serves b.row.client c.0 c.1).finished [
          | inl done ↦ absurd ((ends_for b.row.client c.0 c.1).decided done b
              (subst (λ (k : ℕ). Contains (log.rows k) b) c.3 among) (sym c.2) undecided)
          | inr stop ↦ shown_stopped b.row.client c.0 c.1 stop
        ]);
  }

  pub runs_end_lawfully : LawfulRun script report
  runs_end_lawfully = record {
    log = log;
    version = refl;
    names = names;
    clients = client_runs;
    columns = columns;
    begun = begun;
    copies = copies;
    helpers = helpers;
    helped = helped;
    left_open = left_open;
  }

  row_nodes_there : (n : ℕ) (e : ClosedRegion) → slice_get closed.regions n ≡ Some e → HaveNodes (closing_nodes closed) e.rows
  row_nodes_there n e at i r there =
      let end = region_at n e at in
      let lt = slice_get_within closed.regions n e at in
      let many = many_regions in
      let b = unmapped closed_of (log.rows n) i r (subst (λ l. slice_get l i ≡ Some r) end.2.rows there) in
      let among = contains_in (log.rows n) b.0 (slice_in (log.rows n) i b.0 b.1) in (
        b.0.node,
        ap (λ (q : ClosedRow). node_at (closing_nodes closed) q.row) (sym b.2) ∙ node_there n (omega (arith, lt, many)) b.0 among,
      )

  pub can_be_shown : CanShow script.regions script.colours closed
  can_be_shown = record {
    many = many_regions ∙ sym fits.regions;
    few = let a = fits.regions in let b = regions_few script.version script.shape fits.shape in omega (arith, a, b);
    columns = λ n e at.
        let r = (region_at n e at).2 in
        let region = slice_get_within closed.regions n e at in
        let regions_are = many_regions in
        let named = fits.regions in
        let count = r.count in
        let coloured = fits.colours in
        all_by (HasNames script.regions script.colours) e.columns (λ colour column there.
        let is = r.columns colour column there in
        let lt = slice_get_within e.columns colour column there in
        let of_region = is.of_region in
        let of_colour = is.of_colour in
        (omega (arith, region, regions_are, named, of_region), omega (arith, lt, count, coloured, of_colour)));
    rows = row_nodes_there;
  }
