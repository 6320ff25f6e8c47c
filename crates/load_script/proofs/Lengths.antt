-- How long the closing lines of a run are that only appends, syncs and pulls, how many rows it begins, and how many replies
-- tell of a node: each as its commands say.
use Rattle.std.proofs.Common.{◌≡◌, ℕ, zero, suc, ◌+◌, ◌<◌, Bool, true, cond, List, [], ◌∷◌, length, map, Option, Some, None, slice_get, refl, ap, sym, subst, ◌∙◌, arith}
use Rattle.std.specs.Prelude.{◌≢◌, ◌==◌, slice_index, IsTrue}
use Rattle.std.specs.List.{Contains, filter, flat_map, range_with_len}
use Rattle.std.proofs.lemmas.Bool.{eqb-true, eq-eqb, and_parts, and_from, true≢false, false_from_ne_true}
use Rattle.std.proofs.lemmas.List.{length-map}
use Rattle.std.proofs.lemmas.List.Elements.{All-contains}
use Rattle.log_node.specs.declared.ids.Colours.{Colours}
use Rattle.log_node.specs.declared.ids.Id.{Id}
use Rattle.log_node.specs.declared.ids.Key.{Key}
use Rattle.log_node.specs.declared.limits.TheConstants.{MAX_COLOURS}
use Rattle.log_node.specs.Order.{key_below}
use Rattle.log_node.specs.Sets.{has, members}
use Rattle.col_core.specs.History.{entry_key}
use Rattle.col_core.specs.Log.{Log}
use Rattle.col_core.specs.Rows.{BegunRow, is_of}
use Rattle.col_core.proofs.CallerLemmas.{In, in_contains, contains_in, slice_in, in_filter, in_filter-back, key-irrefl, by_test, apart, if_true, if_false}
use Rattle.script_text.specs.declared.commands.What.{What}
use Rattle.script_text.specs.declared.script.Command.{Command}
use Rattle.script_text.specs.declared.script.Script.{Script}
use Rattle.script_text.specs.Fitting.{IsFitting}
use Rattle.report_text.specs.declared.report.ClientReport.{ClientReport}
use Rattle.report_text.specs.declared.report.ColumnReport.{ColumnReport}
use Rattle.report_text.specs.declared.report.PointPiece.{PointPiece}
use Rattle.report_text.specs.declared.report.ReplyLine.{ReplyLine}
use Rattle.report_text.specs.declared.report.Report.{Report}
use Rattle.lawful_run.specs.Callers.{caller_of, commands_of}
use Rattle.lawful_run.specs.Columns.{row_report}
use Rattle.lawful_run.specs.Lawful.{LawfulRun}
use Rattle.lawful_run.specs.Readings.{kept_of, HasReply, IsAppend, NodeTold, Nowhere, UnderAt, StoodAt, Under, Perhaps, told, StandsAtEnd, StandsAs, ReturnedAppendsStand, OneCommand, ClosingLinesRise, OneKey, NothingElseStands}
use Rattle.load_script.specs.Generated.{home_by_turns}
use Rattle.load_script.specs.Plain.{IsPlainScript, IsUnwanting}
use Rattle.load_script.specs.Summing.{appended, appends, begins_row, is_node, is_of_colour, goes_to, length_of, tells_node, nodes_told}
use Rattle.load_script.proofs.Counts.{Distinct, as_many, in_map, in_map_back, in_range, range_in, length_range, total, total_same, total_one, by_client, passes, all_pass}
use Rattle.load_script.proofs.Places.{places, length_places, in_places, places_in, distinct_places, distinct_filter, distinct_map, distinct_at}
use Rattle.load_script.proofs.Sums.{passed, by_place, none_pass, get_range, length_mapped}
use Rattle.load_script.proofs.Answers.{plain as is_plain, asks_append}
use Rattle.load_script.proofs.Heads.{in_flat_map}
use Rattle.load_script.proofs.Stamps.{client_shown, commands_plain, replies_unwanting, home_within, row_owner}
use Rattle.load_script.proofs.Bounds.{IsLoadSized, get_map_back}
use Rattle.load_script.proofs.Follows.{tells, all_follow}
pub use Rattle.log_node.proofs.CallerLemmas.{get_map}

within_there : {A : Type 0} (xs : List A) (k : ℕ) (x : A) → slice_get xs k ≡ Some x → k < length xs
within_there [] k x e = absurd (let f : ⊥ = cc in f)
within_there (y ∷ xs) zero x e = omega arith
within_there (y ∷ xs) (suc k) x e = let l = within_there xs k x e in omega (arith, l)

-- where a node stands of which an answer tells
stands_in : (report : Report) (region : ℕ) (id : Id) (colours : Colours) (t : NodeTold) → tells_node t ≡ true
    → StandsAs report region id colours t → (colour : ℕ) → In colour (members colours)
    → (stamp : ℕ) × (position : ℕ) × StandsAtEnd report region colour position (entry_key stamp id)
stands_in report region id colours Nowhere tell s colour i = absurd s
stands_in report region id colours (UnderAt stamp points) tell s colour i =
    let p = in_map_back (λ (p : PointPiece). p.colour) points colour
    (subst (λ (l : List ℕ). In colour l) (sym s.all) i) in (
      stamp,
      p.0.position,
      subst (λ c. StandsAtEnd report region c p.0.position (entry_key stamp id)) p.2
          (s.each p.0 (contains_in points p.0 p.1)),
    )
stands_in report region id colours (StoodAt points) tell s colour i =
    let p = in_map_back (λ (p : PointPiece). p.colour) points colour
    (subst (λ (l : List ℕ). In colour l) (sym s.1.all) i) in (
      s.0,
      p.0.position,
      subst (λ c. StandsAtEnd report region c p.0.position (entry_key s.0 id)) p.2
          (s.1.each p.0 (contains_in points p.0 p.1)),
    )
stands_in report region id colours (Under stamp) tell s colour i =
    let p = s colour (contains_in (members colours) colour i) in (stamp, p.0, p.1)
stands_in report region id colours Perhaps tell s colour i = absurd (true≢false (sym tell))

of_told : (t : NodeTold) → tells_node t ≡ true → t ≢ Nowhere
of_told t e n = true≢false (sym e ∙ ap tells_node n)

module _ (script : Script) (report : Report) (fits : IsFitting script) (plain : IsPlainScript script)
    (sized : IsLoadSized script) (run : LawfulRun script report)
    (unwanting : IsUnwanting report)
    (homes : (n : ℕ) → n < length script.shape.homes → slice_index script.shape.homes n ≡ home_by_turns n)
    (returned : ReturnedAppendsStand) (one_command : OneCommand) (rising : ClosingLinesRise) (one_key : OneKey)
    (nothing_else : NothingElseStands) where
  abbrev log : Log
  log = run.log

  clients_many : length report.clients ≡ length script.shape.homes
  clients_many =
      sym (length-map report.clients (λ (c : ClientReport). c.name)) ∙ (ap length run.names ∙ fits.clients)

  -- what follows of a client
  pub client_follows : (n : ℕ) (c : ClientReport) (there : slice_get report.clients n ≡ Some c)
      → (map tells c.replies ≡ map appends (commands_of script n))
      × ((run.clients n c there).kept.rows ≡ length (filter begins_row (commands_of script n)))
  client_follows n c there =
      let l = within_there report.clients n c there in
      let m = clients_many in
      all_follow script report fits plain sized run unwanting n (omega (arith, l, m)) (run.clients n c there).explained
      (λ x i. i) (plain.rows n) (replies_unwanting script report fits plain run unwanting n c there)

  module _ (column : ColumnReport) (there : Contains report.columns column) where
    column_colour : column.colour < script.shape.colours
    column_colour =
        let i = subst (λ (l : List (ℕ × ℕ)). In (column.region, column.colour) l) run.columns.all
        (in_map (λ (c : ColumnReport). (c.region, c.colour)) report.columns column
        (in_contains report.columns column there)) in
        let a = in_flat_map (λ region. map (λ colour. (region, colour)) (range_with_len 0 script.shape.colours))
        (range_with_len 0 script.shape.regions) (column.region, column.colour) i in
        let b = in_map_back (λ colour. (a.0, colour)) (range_with_len 0 script.shape.colours)
        (column.region, column.colour) a.2 in
        let e : b.0 ≡ column.colour = ap (λ (p : ℕ × ℕ). p.1) b.2 in
        let r = (range_in 0 script.shape.colours b.0 b.1).1 in
        omega (arith, e, r)

    goes : Command → Bool
    goes command = goes_to column.region column.colour command

    -- the number of the id of a client's command
    number : ℕ → ℕ → ℕ
    number n k = (kept_of run n k).ids

    -- a key of the line is of a command that goes there
    from_line : (n : ℕ) (key : Key) → In key column.line → key.id.client ≡ n
        → In key.id.count (map (number n) (places goes 0 (commands_of script n)))
    unfolding goes number
    from_line n key i is =
        let s = nothing_else script report fits run column there key (contains_in column.line key i) in
        let a = s.4 in
        let here = slice_in (commands_of script key.id.client) s.0 a.command a.asked in
        let p = commands_plain script report fits plain run unwanting key.id.client a.command here in
        let what = asks_append (caller_of script key.id.client) (kept_of run key.id.client s.0) a.command.what s.2 s.3
        (is_plain a.command.what p.0) a.asks in
        let from = in_filter (λ (x : Command). x.client == key.id.client) a.command script.commands here in
        let client : a.command.client ≡ key.id.client = eqb-true a.command.client key.id.client from.1 in
        let lt : key.id.client < length script.shape.homes =
        let l = within_there report.clients key.id.client a.replied.0 a.replied.1 in let m = clients_many in omega
        (arith, l, m) in
        let home : home_by_turns a.command.client ≡ column.region = ap home_by_turns client ∙
        (sym (homes key.id.client lt) ∙ s.7) in
        let colour : is_of_colour column.colour (appended a.command.what) ≡ true =
        ap (λ (x : What). is_of_colour column.colour (appended x)) what
        ∙ (in_filter (has s.2) column.colour (range_with_len 0 MAX_COLOURS) (in_contains (members s.2) column.colour s.6)).1 in
        let g : goes_to column.region column.colour a.command ≡ true =
        and_from (home_by_turns a.command.client == column.region) (is_of_colour column.colour (appended a.command.what))
        (eq-eqb (home_by_turns a.command.client) column.region home) colour in
        let placed = places_in (goes_to column.region column.colour) 0 (commands_of script key.id.client) s.0
        a.command a.asked g in
        let count : number key.id.client (0 + s.0) ≡ key.id.count =
        ap (number key.id.client) (let z : 0 + s.0 ≡ s.0 = omega arith in z) ∙ sym (ap (λ (x : Id). x.count) a.id_is) in
        subst (λ m. In key.id.count (map (number m) (places (goes_to column.region column.colour) 0
        (commands_of script m)))) is
        (subst (λ m. In m (map (number key.id.client) (places (goes_to column.region column.colour) 0
        (commands_of script key.id.client))))
        count (in_map (number key.id.client) (places (goes_to column.region column.colour) 0
        (commands_of script key.id.client)) (0 + s.0) placed))

    -- a command that goes there, with its reply
    record Gone (n k : ℕ) : Type 0 where
      reply : ReplyLine
      replied : HasReply report n k reply
      telling : tells reply ≡ true
      command : Command
      asked : slice_get (commands_of script n) k ≡ Some command
      going : goes_to column.region column.colour command ≡ true

    node_of_colour : (c : ℕ) (o : Option Colours) → is_of_colour c o ≡ true → is_node o ≡ true
    node_of_colour c None e = absurd (true≢false (sym e))
    node_of_colour c (Some set) e = refl

    gone : (n : ℕ) → n < length script.shape.homes → (k : ℕ) → In k (places goes 0 (commands_of script n)) → Gone n k
    unfolding goes
    gone n lt k i =
        let p = in_places (goes_to column.region column.colour) 0 (commands_of script n) k i in
        let at : k ≡ p.0 = let e = p.1 in omega (arith, e) in
        let asked = subst (λ m. slice_get (commands_of script n) m ≡ Some p.2) (sym at) p.3 in
        let c = client_shown script report fits plain run unwanting n lt in
        let f = (client_follows n c.0 c.1).0 in
        let b = get_map_back tells c.0.replies k (appends p.2)
        (subst (λ (l : List Bool). slice_get l k ≡ Some (appends p.2)) (sym f)
        (get_map appends (commands_of script n) k p.2 asked)) in
        let g = and_parts (home_by_turns p.2.client == column.region) (is_of_colour column.colour (appended p.2.what)) p.4
        in record {
          reply = b.0;
          replied = (c.0, c.1, b.1);
          telling = b.2 ∙ node_of_colour column.colour (appended p.2.what) g.1;
          command = p.2;
          asked = asked;
          going = p.4;
        }

    -- its node stands in the line
    in_line : (n : ℕ) → n < length script.shape.homes → (k : ℕ) → Gone n k
        → (key : Key) × In key column.line × (key.id ≡ record { client = n; count = (kept_of run n k).ids })
    in_line n lt k g =
        let s = returned script report run n k g.reply g.replied (of_told (told g.reply.answer) g.telling) in
        let a = s.3 in
        let two : Some a.command ≡ Some g.command = sym a.asked ∙ g.asked in
        let same : a.command ≡ g.command = cc in
        let here = slice_in (commands_of script n) k g.command g.asked in
        let p = commands_plain script report fits plain run unwanting n a.command
        (subst (λ (x : Command). In x (commands_of script n)) (sym same) here) in
        let what = asks_append (caller_of script n) (kept_of run n k) a.command.what s.1 s.2
        (is_plain a.command.what p.0) a.asks in
        let q = and_parts (home_by_turns g.command.client == column.region)
        (is_of_colour column.colour (appended g.command.what)) g.going in
        let client = eqb-true g.command.client n (in_filter (λ (x : Command). x.client == n) g.command
        script.commands here).1 in
        let own : slice_index script.shape.homes n ≡ column.region =
        homes n lt ∙ (ap home_by_turns (sym client) ∙ eqb-true (home_by_turns g.command.client) column.region q.0) in
        let colour : has s.1 column.colour ≡ true =
        sym (ap (λ (x : What). is_of_colour column.colour (appended x)) what)
        ∙ (ap (λ (x : Command). is_of_colour column.colour (appended x.what)) same ∙ q.1) in
        let among : In column.colour (members s.1) =
        in_filter-back (has s.1) column.colour (range_with_len 0 MAX_COLOURS)
        (in_range 0 MAX_COLOURS column.colour (omega arith) (let c = column_colour in let m = sized.colours in
        omega (arith, c, m))) colour in
        let w = stands_in report (slice_index script.shape.homes n) s.0 s.1 (told g.reply.answer) g.telling s.4
        column.colour among in
        let at = w.2 column there (sym own) refl in
        (entry_key w.0 s.0, slice_in column.line w.1 (entry_key w.0 s.0) at, a.id_is)

    -- two commands of a client have different ids
    one_number : (n : ℕ) → n < length script.shape.homes → (k m : ℕ) → In k (places goes 0 (commands_of script n))
        → In m (places goes 0 (commands_of script n)) → number n k ≡ number n m → k ≡ m
    unfolding number
    one_number n lt k m i j same =
        let g = gone n lt k i in
        let h = gone n lt m j in
        let s = returned script report run n k g.reply g.replied (of_told (told g.reply.answer) g.telling) in
        let t = returned script report run n m h.reply h.replied (of_told (told h.reply.answer) h.telling) in
        let id : t.0 ≡ s.0 = t.3.id_is ∙ (ap (λ (x : ℕ). let y : Id = record { client = n; count = x } in y)
        (sym same) ∙ sym s.3.id_is) in
        one_command script report run n k m g.reply h.reply s.0 s.1 t.1 s.2 t.2 s.3
        (of_told (told g.reply.answer) g.telling)
        (subst (λ (x : Id). IsAppend run n m h.reply x t.1 t.2) id t.3) (of_told (told h.reply.answer) h.telling)

    line_distinct : Distinct column.line
    line_distinct = distinct_at column.line (λ i j x y lt a b e.
        key-irrefl x (subst (λ (z : Key). IsTrue (key_below x z)) (sym e)
        (rising script report run column there i j x y a b lt)))

    -- of each client as many keys stand in the line as commands go there
    client_line : (n : ℕ) → n < length script.shape.homes
        → length (filter (λ (key : Key). key.id.client == n) column.line) ≡ length (filter goes (commands_of script n))
    unfolding goes number
    client_line n lt =
        let mine = filter (λ (key : Key). key.id.client == n) column.line in
        let gos = places (goes_to column.region column.colour) 0 (commands_of script n) in
        sym (length-map mine (λ (key : Key). key.id.count))
        ∙ (as_many (map (λ (key : Key). key.id.count) mine) (map (number n) gos)
        (distinct_map (λ (key : Key). key.id.count) mine (distinct_filter (λ (key : Key). key.id.client == n)
        column.line line_distinct)
        (λ x y i j same. one_id x y (in_filter (λ (key : Key). key.id.client == n) x column.line i)
        (in_filter (λ (key : Key). key.id.client == n) y column.line j) same))
        (distinct_map (number n) gos (distinct_places (goes_to column.region column.colour) 0 (commands_of script n))
        (one_number n lt))
        (λ x i.
        let r = in_map_back (λ (key : Key). key.id.count) mine x i in
        let f = in_filter (λ (key : Key). key.id.client == n) r.0 column.line r.1 in
        subst (λ m. In m (map (number n) gos)) r.2 (from_line n r.0 f.0 (eqb-true r.0.id.client n f.1)))
        (λ x i.
        let r = in_map_back (number n) gos x i in
        let k = in_line n lt r.0 (gone n lt r.0 r.1) in
        let client : k.0.id.client ≡ n = ap (λ (y : Id). y.client) k.2 in
        subst (λ m. In m (map (λ (key : Key). key.id.count) mine)) (ap (λ (y : Id). y.count) k.2 ∙ r.2)
        (in_map (λ (key : Key). key.id.count) mine k.0
        (in_filter-back (λ (key : Key). key.id.client == n) k.0 column.line k.1 (eq-eqb k.0.id.client n client))))
        ∙ (length-map gos (number n) ∙ length_places (goes_to column.region column.colour) 0 (commands_of script n)))
      where
        one_id : (x y : Key) → In x column.line × ((x.id.client == n) ≡ true) → In y column.line ×
            ((y.id.client == n) ≡ true)
            → x.id.count ≡ y.id.count → x ≡ y
        one_id x y a b same =
            let e = eqb-true x.id.client n a.1 ∙ sym (eqb-true y.id.client n b.1) in
            let id : x.id ≡ y.id =
            ap (λ (c : ℕ). let i : Id = record { client = c; count = x.id.count } in i) e
            ∙ ap (λ (c : ℕ). let i : Id = record { client = y.id.client; count = c } in i) same in
            (one_key script report fits run column column there there x y (contains_in column.line x a.0)
            (contains_in column.line y b.0) id).0

    -- the closing line is as long as the commands say
    pub line_length : length column.line ≡ length_of script.commands (column.region, column.colour)
    unfolding goes
    line_length =
        let k = length script.shape.homes in
        sym (all_pass column.line)
        ∙ (by_client (λ (key : Key). key.id.client) (λ key. true) k column.line key_within
        ∙ (total_same k (passes (λ (key : Key). key.id.client) (λ key. true) column.line)
        (passes (λ (x : Command). x.client) (goes_to column.region column.colour) script.commands)
        (λ n lt. all_pass (filter (λ (key : Key). key.id.client == n) column.line) ∙ client_line n lt)
        ∙ sym (by_client (λ (x : Command). x.client) (goes_to column.region column.colour) k script.commands
        (λ c i. All-contains (λ (x : Command). x.client < k) script.commands c fits.callers
        (contains_in script.commands c i))))) where
          key_within : (key : Key) → In key column.line → key.id.client < length script.shape.homes
          key_within key i =
              let s = nothing_else script report fits run column there key (contains_in column.line key i) in
              let l = within_there report.clients key.id.client s.4.replied.0 s.4.replied.1 in
              let m = clients_many in
              omega (arith, l, m)

  -- NODES AND ROWS
  pub nodes_are : nodes_told report ≡ length (filter appends script.commands)
  nodes_are =
      let k = length script.shape.homes in
      by_place tells (λ (c : ClientReport). c.replies) report.clients
      (passes (λ (x : Command). x.client) appends script.commands)
      (λ n c there. passed tells c.replies ∙ (ap (λ (bs : List Bool). length (filter (λ b. b) bs))
      (client_follows n c there).0
      ∙ sym (passed appends (commands_of script n))))
      ∙ (ap (λ m. total m (passes (λ (x : Command). x.client) appends script.commands)) clients_many
      ∙ sym (by_client (λ (x : Command). x.client) appends k script.commands
      (λ c i. All-contains (λ (x : Command). x.client < k) script.commands c fits.callers
      (contains_in script.commands c i))))

  all_rows : List BegunRow
  all_rows = flat_map (λ r. log.rows r) (range_with_len 0 script.shape.regions)

  -- the rows of a client
  client_rows : (n : ℕ) → n < length script.shape.homes
      → length (filter (is_of n) all_rows) ≡ length (filter begins_row (commands_of script n))
  unfolding all_rows
  client_rows n lt =
      let own = slice_index script.shape.homes n in
      let c = client_shown script report fits plain run unwanting n lt in
      let count = length (filter (is_of n) (log.rows own)) in
      by_place (is_of n) (λ r. log.rows r) (range_with_len 0 script.shape.regions) (λ r. cond (own == r) count 0)
      at_region
      ∙ (ap (λ m. total m (λ r. cond (own == r) count 0)) (length_range 0 script.shape.regions)
      ∙ (total_one script.shape.regions own count (home_within script report fits plain run unwanting n lt)
      ∙ ((run.clients n c.0 c.1).rows ∙ (client_follows n c.0 c.1).1))) where
        at_region : (m r : ℕ) → slice_get (range_with_len 0 script.shape.regions) m ≡ Some r
            → length (filter (is_of n) (log.rows r))
            ≡ cond (slice_index script.shape.homes n == m) (length
            (filter (is_of n) (log.rows (slice_index script.shape.homes n)))) 0
        at_region m r e =
            let own = slice_index script.shape.homes n in
            let count = length (filter (is_of n) (log.rows own)) in
            let is = get_range 0 script.shape.regions m r e in
            let l = within_there (range_with_len 0 script.shape.regions) m r e in
            let k = length_range 0 script.shape.regions in
            let same : r ≡ m = omega (arith, is) in
            let lr : r < script.shape.regions = omega (arith, is, l, k) in
            by_test _ (own == m)
            (λ t. ap (λ x. length (filter (is_of n) (log.rows x))) (same ∙ sym (eqb-true own m t)) ∙ sym
            (if_true (own == m) count 0 t))
            (λ f. none_pass (is_of n) (log.rows r) (λ row i. false_from_ne_true (is_of n row) (λ t.
            let o = row_owner script report fits plain run unwanting r lr row i in
            let client = eqb-true row.row.client n t in
            apart (own == m) (eq-eqb own m (ap (slice_index script.shape.homes) (sym client) ∙ (o.1 ∙ same))) f))
            ∙ sym (if_false (own == m) count 0 f))

  pub rows_are : length report.rows ≡ length (filter begins_row script.commands)
  unfolding all_rows
  rows_are =
      let k = length script.shape.homes in
      ap length run.begun.all
      ∙ (length_mapped (λ r. log.rows r) row_report (range_with_len 0 script.shape.regions)
      ∙ (sym (all_pass all_rows)
      ∙ (by_client (λ (r : BegunRow). r.row.client) (λ r. true) k all_rows row_within
      ∙ (total_same k (passes (λ (r : BegunRow). r.row.client) (λ r. true) all_rows)
      (passes (λ (x : Command). x.client) begins_row script.commands)
      (λ n lt. all_pass (filter (λ (r : BegunRow). r.row.client == n) all_rows) ∙ client_rows n lt)
      ∙ sym (by_client (λ (x : Command). x.client) begins_row k script.commands
      (λ c i. All-contains (λ (x : Command). x.client < k) script.commands c fits.callers
      (contains_in script.commands c i))))))) where
        row_within : (r : BegunRow) → In r all_rows → r.row.client < length script.shape.homes
        row_within r i =
            let a = in_flat_map (λ x. log.rows x) (range_with_len 0 script.shape.regions) r i in
            let u = (range_in 0 script.shape.regions a.0 a.1).1 in
            (row_owner script report fits plain run unwanting a.0 (omega (arith, u)) r a.2).0
