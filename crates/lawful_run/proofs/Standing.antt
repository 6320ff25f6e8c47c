-- From which command each key of a line comes.
use Rattle.std.proofs.Common.{◌≡◌, ℕ, zero, suc, ◌+◌, ◌<◌, List, [], ◌∷◌, length, map, true, false, Some, slice_get, refl, ap, sym, subst, ◌∙◌, ◌⊎◌, inl, inr, arith}
use Rattle.std.specs.Prelude.{◌==◌, ◌&&◌, ◌≢◌}
use Rattle.std.specs.List.{All, Contains, range_with_len}
use Rattle.std.proofs.lemmas.Bool.{eq-eqb}
use Rattle.std.proofs.lemmas.List.{length-map}
use Rattle.std.proofs.lemmas.List.Elements.{All-contains}
use Rattle.log_node.specs.declared.ids.Id.{Id}
use Rattle.log_node.specs.declared.ids.Key.{Key}
use Rattle.log_node.specs.declared.node.Node.{Node}
use Rattle.log_node.specs.Sets.{members}
use Rattle.log_node.specs.declared.marks.Outcome.TheVariants.{Gone, Final}
use Rattle.col_core.specs.declared.Event.{Event}
use Rattle.col_core.specs.declared.Entry.{Entry}
use Rattle.col_core.specs.History.{line}
use Rattle.col_core.specs.Computed.{dated}
use Rattle.col_core.specs.Legal.{IsColumnHistory}
use Rattle.col_core.specs.Rows.{BegunRow, FitsRow, FitsRows}
use Rattle.col_core.specs.Log.{HasOutcome, is_own, places_from, places_of}
use Rattle.col_core.proofs.CallerLemmas.{choice, apart, In}
use Rattle.script_text.specs.declared.script.Script.{Script}
use Rattle.script_text.specs.Fitting.{IsFitting}
use Rattle.report_text.specs.declared.report.ClientReport.{ClientReport}
use Rattle.report_text.specs.declared.report.ColumnReport.{ColumnReport}
use Rattle.report_text.specs.declared.report.Report.{Report}
use Rattle.lawful_run.specs.Callers.{caller_of, node_of}
use Rattle.lawful_run.specs.Columns.{IsColumnReport, IsClientIn}
use Rattle.lawful_run.specs.Lawful.{LawfulRun}
use Rattle.lawful_run.specs.Readings.{Nowhere, told}
use Rattle.lawful_run.proofs.Prefixes.{get_within}
use Rattle.lawful_run.proofs.Listed.{to_in, from_in, in_get, get_in, same_one, in_map, in_map_back, in_flat_map, in_range}
use Rattle.lawful_run.proofs.Entered.{HasSingle, CameIn, by_single, by_settling, came_in}
use Rattle.lawful_run.proofs.Clients.{IsShown, shown_there, get_there}
use Rattle.lawful_run.proofs.Origins.{Origin, AloneAt, id_origin, alone_origin}

-- the places of a client's own events have them
places_there : (client : ℕ) (h : List Entry) (p n : ℕ) (e : Entry) → slice_get h n ≡ Some e →
    ((e.by == client) && is_own client e.event) ≡ true
    → In (p + n) (places_from p client h)
places_there client [] p n e there own = absurd (let f : ⊥ = cc in f)
places_there client (d ∷ h) p zero e there own =
    choice (λ (l : List ℕ). In (p + 0) l) ((d.by == client) && is_own client d.event) (p ∷ places_from (p + 1) client h)
    (places_from (p + 1) client h)
    (λ t. inl (omega arith))
    (λ f. let same : d ≡ e = cc in absurd (apart ((e.by == client) && is_own client e.event) own
    (subst (λ (x : Entry). ((x.by == client) && is_own client x.event) ≡ false) same f)))
places_there client (d ∷ h) p (suc n) e there own =
    let rest = places_there client h (p + 1) n e there own in
    let moved : In (p + suc n) (places_from (p + 1) client h) =
    subst (λ m. In m (places_from (p + 1) client h)) (let g : p + 1 + n ≡ p + suc n = omega arith in g) rest in
    choice (λ (l : List ℕ). In (p + suc n) l) ((d.by == client) && is_own client d.event)
    (p ∷ places_from (p + 1) client h) (places_from (p + 1) client h)
    (λ t. inr moved) (λ f. moved)

-- the command of a key in a line, and how the key came in
pub record Stands {script : Script} {report : Report} (run : LawfulRun script report) (region colour : ℕ)
    (key : Key) : Type 0 where
  pub own : (caller_of script key.id.client).own ≡ region
  pub client : IsShown run key.id.client
  pub origin : Origin (run.clients key.id.client client.shown client.of_client).explained key.id
  pub among : In colour (members origin.colours)
  pub stands : told origin.step.reply.answer ≢ Nowhere
  pub came : (HasSingle (run.log.histories region colour) key.id × (members origin.colours ≡ colour ∷ []))
      ⊎ ((r : BegunRow) × In r (run.log.rows region) × (r.node.id ≡ key.id) × (r.last ≡ Final key.stamp))

module _ (script : Script) (report : Report) (fits : IsFitting script) (run : LawfulRun script report) where
  client_shown : (n : ℕ) → n < length script.clients → IsShown run n
  client_shown n lt =
      let long : length report.clients ≡ length script.clients = sym
      (length-map report.clients (λ (c : ClientReport). c.name)) ∙ ap length run.names in
      let c = get_there report.clients n (omega (arith, lt, long)) in
      (shown_there run n c.0 c.1).0

  pub column_is : (column : ColumnReport) → Contains report.columns column → IsColumnReport run.log script column
  column_is column there = All-contains (IsColumnReport run.log script) report.columns column run.columns.each there

  pub column_within : (column : ColumnReport) → Contains report.columns column → (column.region < script.shape.regions)
      × (column.colour < script.shape.colours)
  column_within column there =
      let i = subst (λ (l : List (ℕ × ℕ)). In (column.region, column.colour) l) run.columns.all
      (in_map (λ (c : ColumnReport). (c.region, c.colour)) report.columns column (to_in report.columns column there)) in
      let a = in_flat_map (λ region. map (λ colour. (region, colour)) (range_with_len 0 script.shape.colours))
      (range_with_len 0 script.shape.regions)
      (column.region, column.colour) i in
      let b = in_map_back (λ colour. (a.0, colour)) (range_with_len 0 script.shape.colours)
      (column.region, column.colour) a.2 in
      let r = in_range 0 script.shape.regions a.0 a.1 in
      let c = in_range 0 script.shape.colours b.0 b.1 in
      let e : a.0 ≡ column.region = ap (λ (p : ℕ × ℕ). p.0) b.2 in
      let f : b.0 ≡ column.colour = ap (λ (p : ℕ × ℕ). p.1) b.2 in
      let ru = r.1 in
      let cu = c.1 in
      (omega (arith, e, ru), omega (arith, f, cu))

  -- singles
  abbrev Alone : ℕ → ℕ → Id → ℕ → Type 0
  Alone region colour id n =
      (c : IsShown run n) × AloneAt (run.clients n c.shown c.of_client).explained region colour id

  single_of : (region colour : ℕ) → region < script.shape.regions → colour < script.shape.colours
      → All (λ (e : Entry). e.by < length script.clients) (run.log.histories region colour) → (id : Id) → HasSingle
      (run.log.histories region colour) id
      → Alone region colour id id.client
  single_of region colour lr lc makers id s =
      let h = run.log.histories region colour in
      let at = in_get h s.entry s.among in
      let by = s.entry.by in
      let c = client_shown by (All-contains (λ (e : Entry). e.by < length script.clients) h s.entry makers
      (from_in h s.entry s.among)) in
      let is = s.is in
      let own : ((by == by) && is_own by s.entry.event) ≡ true =
      ap (λ b. b && is_own by s.entry.event) (eq-eqb by by refl) ∙ ap (is_own by) is in
      let made = subst (λ (l : List ℕ). In at.0 l) ((run.clients by c.shown c.of_client).made region colour lr lc)
      (subst (λ m. In m (places_of by h)) (let g : 0 + at.0 ≡ at.0 = omega arith in g)
      (places_there by h 0 at.0 s.entry at.1 own)) in
      let alone = alone_origin (run.clients by c.shown c.of_client).explained region colour at.0 id
      (record { entry = s.entry; floor = s.floor; wants = s.wants; there = at.1; single = is }) (from_in _ at.0 made) in
      let client : id.client ≡ by = ap (λ (i : Id). i.client) alone.origin.id_is in
      subst (Alone region colour id) (sym client) (c, alone)

  -- rows
  abbrev RowOf : BegunRow → ℕ → Type 0
  RowOf r n =
      (c : IsShown run n) × Origin (run.clients n c.shown c.of_client).explained r.node.id

  row_of : (region : ℕ) → region < script.shape.regions → (r : BegunRow) → In r (run.log.rows region)
      → ((caller_of script r.node.id.client).own ≡ region) × RowOf r r.node.id.client
  row_of region lr r among =
      let rows = run.log.rows region in
      let n = r.row.client in
      let there = from_in rows r among in
      let o = All-contains (λ (x : BegunRow). IsClientIn script region x.row.client) rows r
      (run.begun.of_clients region lr) there in
      let fit = All-contains (FitsRow region) rows r (run.begun.lawful region lr).fit there in
      let less = o.0 in
      let long = fits.clients in
      let c = client_shown n (omega (arith, less, long)) in
      let k = run.clients n c.shown c.of_client in
      let node = k.row_nodes r (subst (λ (x : ℕ). Contains (run.log.rows x) r) (sym o.1) there) refl in
      let within = get_within (run.log.nodes n) r.node.id.count r.node node in
      let all = k.nodes in
      let origin = id_origin k.explained r.node.id.count (omega (arith, within, all)) in
      let client = fit.client in (
        ap (λ (m : ℕ). (caller_of script m).own) client ∙ o.1,
        subst (RowOf r) (sym client) (
          c,
          subst (λ (i : Id). Origin k.explained i)
              (ap (λ (m : ℕ). record { client = m; count = r.node.id.count }) (sym client)) origin,
        ),
      )

  -- the node of an origin
  origin_node : (n : ℕ) (c : ClientReport) (of_client : slice_get report.clients n ≡ Some c) (id : Id) → id.client ≡ n
      → (o : Origin (run.clients n c of_client).explained id) → slice_get (run.log.nodes id.client) id.count ≡ Some
      (node_of (caller_of script n) o.over o.colours o.text)
  origin_node n c of_client id is o =
      ap (λ (m : ℕ). slice_get (run.log.nodes m) id.count) is
      ∙ (ap (λ (i : Id). slice_get (run.log.nodes n) i.count) o.id_is ∙ o.node)

  pub stands_of : (region colour : ℕ) → region < script.shape.regions → colour < script.shape.colours
      → IsColumnHistory region script.shape.regions (dated region (run.log.histories region colour))
      → All (λ (e : Entry). e.by < length script.clients) (run.log.histories region colour)
      → (key : Key) → In key (line (run.log.histories region colour)) → Stands run region colour key
  stands_of region colour lr lc legal makers key inside = turn
      (came_in region script.shape.regions h legal key inside) where
        h : List Entry
        h = run.log.histories region colour

        fitting : (e : Entry) → In e (run.log.histories region colour) → (ev : Event) → e.event ≡ ev → FitsRows
            (run.log.rows region) colour ev
        fitting e among ev is =
            subst (FitsRows (run.log.rows region) colour) is
            (All-contains (λ (x : Entry). FitsRows (run.log.rows region) colour x.event)
            (run.log.histories region colour) e
            ((run.begun.lawful region lr).events colour lc) (from_in (run.log.histories region colour) e among))

        turn : CameIn (run.log.histories region colour) key → Stands run region colour key
        turn (by_single s) =
            let a = single_of region colour lr lc makers key.id s in record {
              own = sym a.1.own;
              client = a.0;
              origin = a.1.origin;
              among = subst (λ (l : List ℕ). In colour l) (sym a.1.only) (inl refl);
              stands = a.1.stands;
              came = inl (s, a.1.only);
            }
        turn (by_settling p s) =
            let rows = run.log.rows region in
            let lawful = run.begun.lawful region lr in
            let f = fitting s.entry s.among _ s.is in
            let g = fitting p.entry p.among _ p.is in
            let r = f.1 in
            let one : g.1 ≡ r = same_one (λ (x : BegunRow). x.node.id) rows lawful.ids_differ g.0 f.0 g.1 r g.2 f.2
            (g.3 ∙ sym f.3) in
            let o = row_of region lr r (get_in rows f.0 r f.2) in
            let o' = subst (λ (i : Id). ((caller_of script i.client).own ≡ region)
            × (c : IsShown run i.client) × Origin (run.clients i.client c.shown c.of_client).explained i) f.3
            (o.0, o.1.0, o.1.1) in
            let origin = o'.2 in
            let kept_node = origin_node key.id.client o'.1.shown o'.1.of_client key.id refl origin in
            let there : slice_get (run.log.nodes r.node.id.client) r.node.id.count ≡ Some r.node = row_node r
            (get_in rows f.0 r f.2) in
            let there' : slice_get (run.log.nodes key.id.client) key.id.count ≡ Some r.node =
            subst (λ (i : Id). slice_get (run.log.nodes i.client) i.count ≡ Some r.node) f.3 there in
            let same : Some r.node ≡ Some (node_of
            (caller_of script key.id.client) origin.over origin.colours origin.text) = sym there' ∙ kept_node in
            let node : r.node ≡ node_of (caller_of script key.id.client) origin.over origin.colours origin.text = cc
            (same) in
            let colours : members g.1.node.colours ≡ members origin.colours =
            ap (λ (x : BegunRow). members x.node.colours) one ∙ ap (λ (x : Node). members x.colours) node in
            record {
              own = o'.0;
              client = o'.1;
              origin = origin;
              among = subst (λ (l : List ℕ). In colour l) colours (get_in (members g.1.node.colours) g.6 colour g.7);
              stands = stood r (get_in rows f.0 r f.2) f.4 origin.fate (ap (λ (x : Node). x.id) node) o'.0;
              came = inr (r, get_in rows f.0 r f.2, f.3, f.4);
            } where
              row_node : (r : BegunRow) → In r (run.log.rows region) → slice_get
                  (run.log.nodes r.node.id.client) r.node.id.count ≡ Some r.node
              row_node r among =
                  let there = from_in (run.log.rows region) r among in
                  let o = All-contains (λ (x : BegunRow). IsClientIn script region x.row.client) (run.log.rows region) r
                  (run.begun.of_clients region lr) there in
                  let fit = All-contains (FitsRow region) (run.log.rows region) r
                  (run.begun.lawful region lr).fit there in
                  let less = o.0 in
                  let long = fits.clients in
                  let c = client_shown r.row.client (omega (arith, less, long)) in
                  ap (λ (m : ℕ). slice_get (run.log.nodes m) r.node.id.count) fit.client
                  ∙ (run.clients r.row.client c.shown c.of_client).row_nodes r
                  (subst (λ (x : ℕ). Contains (run.log.rows x) r) (sym o.1) there) refl

              stood : {tells : _} (r : BegunRow) → In r (run.log.rows region) → r.last ≡ Final key.stamp
                  → {node : Node} → (tells ≢ Nowhere) ⊎ ((why : _) × HasOutcome run.log node (Gone why)) → r.node.id
                  ≡ node.id → node.region ≡ region → tells ≢ Nowhere
              stood r among final (inl s) same own = s
              stood r among final {node} (inr (why, out)) same own =
                  let rows = run.log.rows region in
                  let lawful = run.begun.lawful region lr in
                  let other = out.0 in
                  let i = in_get rows r among in
                  let j = in_get rows other (to_in rows other
                  (subst (λ (x : ℕ). Contains (run.log.rows x) other) own out.1.begun)) in
                  let of_node = out.1.of_node in
                  let one : r ≡ other = same_one (λ (x : BegunRow). x.node.id) rows lawful.ids_differ i.0 j.0
                  r other i.1 j.1
                  (same ∙ sym (ap (λ (x : Node). x.id) of_node)) in
                  let gone = out.2 in
                  let e : Final key.stamp ≡ Gone why = sym final ∙ (ap (λ (x : BegunRow). x.last) one ∙ gone) in
                  absurd (let f : ⊥ = cc in f)
