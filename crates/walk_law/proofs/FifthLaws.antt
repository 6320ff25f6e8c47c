-- The fifth rule, at the account with the nodes of the commands, is what is looked at of steps and rows.
use Rattle.std.proofs.Common.{◌≡◌, ◌⊎◌, ◌∙◌, refl, ap, sym, subst, Bool, true, false, ℕ, zero, suc, ◌+◌, ◌<◌, ◌≤◌, List, [], ◌∷◌, length, map, get_or, Option, Some, None, inl, inr, arith}
use Rattle.std.specs.Prelude.{◌≢◌, ◌↔◌, ◌==◌, IsTrue, nat_lt, slice_get}
use Rattle.std.specs.List.{All, AllPairs, filter, list_any, range_with_len}
use Rattle.std.proofs.lemmas.Bool.{lt-ltb, eqb-true, eq-eqb, true≢false}
use Rattle.std.proofs.lemmas.List.{length-map}
use Rattle.std.proofs.lemmas.List.Elements.{All-contains}
use Rattle.std.proofs.lemmas.Option.{slice_get_within}
use Rattle.log_node.specs.declared.ids.Id.{Id}
use Rattle.log_node.specs.declared.ids.Row.{Row}
use Rattle.log_node.specs.declared.ids.Colours.{Colours}
use Rattle.log_node.specs.declared.ids.Counts.{Counts}
use Rattle.log_node.specs.declared.node.Node.{Node}
use Rattle.log_node.specs.declared.marks.Mark.{Mark}
use Rattle.log_node.specs.declared.marks.Mark.TheVariants as marks
use Rattle.log_node.specs.declared.marks.Why.TheVariants.{Memory, StampEnd}
use Rattle.log_node.specs.declared.marks.ColourMark.{ColourMark}
use Rattle.log_node.specs.Sets.{members}
use Rattle.log_node.proofs.CallerLemmas.{get_map, get_map_back, get_within, same_some}
use Rattle.col_core.specs.declared.Event.{Event}
use Rattle.col_core.specs.declared.Event.TheVariants.{Single, Propose, Settle, Raise, Give, Carry, Trim}
use Rattle.col_core.specs.declared.Entry.{Entry}
use Rattle.col_core.specs.History.{IsAtEnd}
use Rattle.col_core.specs.Ids.{Proposes}
use Rattle.col_core.specs.Log.{Log}
use Rattle.col_core.specs.Keeping.{Kept, nothing_kept}
use Rattle.col_core.specs.Rows.{BegunRow, AreLawfulRows, FitsMarks, FitsRow, FitsRows, IsMarkOf, is_of, node_wants, wants_of}
use Rattle.col_core.proofs.CallerLemmas.{In, all_in, any_in, contains_in, if_true, in_contains, in_filter, in_filter-back, in_map, in_map-back, in_slice, slice_in}
use Rattle.script_text.specs.declared.commands.What.{What}
use Rattle.script_text.specs.declared.script.Script.{Script}
use Rattle.script_text.specs.Commands.{use_of}
use Rattle.script_text.specs.Fitting.{IsFitting}
use Rattle.report_text.specs.declared.report.Answer.{Answer}
use Rattle.report_text.specs.declared.report.Answer.TheVariants as answers
use Rattle.report_text.specs.declared.report.Ended.{Ended}
use Rattle.report_text.specs.declared.report.Ended.TheVariants as ends
use Rattle.report_text.specs.declared.report.PointPiece.{PointPiece}
use Rattle.report_text.specs.declared.report.ClientReport.{ClientReport}
use Rattle.report_text.specs.declared.report.Report.{Report}
use Rattle.report_text.specs.declared.report.RowReport.{RowReport}
use Rattle.lawful_run.specs.Callers.{Caller, caller_of, commands_of, node_of, row_taken}
use Rattle.lawful_run.specs.Asks.{object_colours, kind_asked}
use Rattle.lawful_run.specs.Columns.{IsClientIn}
use Rattle.lawful_run.specs.Deeds.{Reach, NoColours, Named, One, ShardsOf, Whole, Listed, ShardThenWhole, Reaches, Saying, SaysNode, AsksToAppend, colours_reached, found_by, saying_of}
use Rattle.run_rules.specs.Told.{Account, Step, OfEachStep, colours_asked, colours_said, is_several, kept_at, kept_deciding}
use Rattle.run_rules.specs.Telling.{IsWellFormed, account_of, is_in, journal_among, log_of, marked_colours, no_nodes, places_shown, replies_to, row_of}
use Rattle.run_rules.specs.Rules.{EntersAsNode, HasNode, HasOwnNodes, Rule1, Rule3, Rule5, UsesEnd, UsesNode}
use Rattle.run_rules.specs.Nodes.{HasItsNode, HasItsNodes, HasNodeAtEnd, nodes_told}
use Rattle.run_rules.specs.Keeping.{RulesTo, five}
use Rattle.run_rules.specs.Laws.{ComputedAccountAgrees, NodesAreTold, NodesChangeNoStep}
use Rattle.run_rules.proofs.CallerLemmas.{reports_tell, rule1, rule3, rule5}
use Rattle.walk_law.specs.Fifth.{EntersBeside, EntersItsNodes, EntersNode, FencesNode, FifthIsEntering, Finding, HasItsRows, HasNextRow, IsNextRow, MarksNext, OfEnd, OfNode, ProposesNode, next_id, row_ids}
use Rattle.walk_law.specs.PlaceTables.{row_with}
use Rattle.walk_law.specs.Proposals.{proposal, proposes}
use Rattle.walk_law.specs.RowsBeside.{HaveOwnIds, is_by, rows_by}
use Rattle.walk_law.specs.Third.{rows_in}
use Rattle.walk_law.specs.Walking.{Walked}
use Rattle.walk_law.proofs.Lists.{Finds, find_cases}
use Rattle.walk_law.proofs.NodeRows.{found_row, full, full_id, full_node, pairs_onto, row_found, rows_mapped}
use Rattle.walk_law.proofs.NodeRows as beside
use Rattle.walk_law.proofs.ProposalLemmas.{proposed_by, proposes_is}
use Rattle.walk_law.proofs.RowLemmas.{mapped_back, wants_among}
use Rattle.walk_law.proofs.UsedIds.{each_used}

-- WHAT IS ASKED OF A NODE

-- a node that a command appends has the colours that are asked for
reached_colours : (own : List ℕ) (reach : Reach) (colours : Colours) → Reaches own reach colours
    → members colours ≡ colours_reached own reach
reached_colours own (Named asked) colours is = ap members is
reached_colours own NoColours colours is = is
reached_colours own (One colour) colours is = is
reached_colours own (ShardsOf keys) colours is = is
reached_colours own Whole colours is = is
reached_colours own Listed colours is = is
reached_colours own (ShardThenWhole key) colours is = is

said_colours : (own : List ℕ) (saying : Option Saying) (colours : Colours) (text : List ℕ) → SaysNode own saying colours text
    → members colours ≡ colours_said own saying
said_colours own None colours text says = absurd says
said_colours own (Some saying) colours text says = reached_colours own saying.reach colours says.0

pub node_colours : (caller : Caller) (kept : Kept) (what : What) (colours : Colours) (text : List ℕ)
    → AsksToAppend caller kept what colours text → members colours ≡ colours_asked caller kept what
node_colours caller kept what colours text asks =
    said_colours (object_colours (kind_asked caller what))
    (saying_of (kind_asked caller what) (found_by (use_of what) kept) what) colours text asks

-- of a report, with these nodes
module _ (script : Script) (report : Report) (nodes : ℕ → List Node) (caller : Caller) (what : What) (find : Finding) where
  abbrev bare_log : Log
  bare_log = log_of report no_nodes

  abbrev full_log : Log
  full_log = log_of report nodes

  abbrev Beside : Kept → Option ℕ → List PointPiece → Type 0
  Beside = EntersBeside find script.shape.colours bare_log caller what

  -- the command's node is there, and what is asked of it holds
  abbrev pub IsThere : Kept → Option ℕ → List PointPiece → Type 0
  IsThere kept row points = HasNode full_log caller kept what × Beside kept row points

  module _ (kept : Kept) where
    end_there : (middle : Kept) (ended : Ended) → HasNodeAtEnd full_log caller middle what ended → OfEnd Beside middle ended
        → OfEnd IsThere middle ended
    end_there middle (ends.Stood stamp point) has asked = (has, asked)
    end_there middle _ has asked = tt

    pub there : (answer : Answer) → HasItsNode full_log caller kept what answer → OfNode Beside bare_log caller kept what answer
        → OfNode IsThere bare_log caller kept what answer
    there (answers.Stood stamp row points) has asked = (has, asked)
    there (answers.StampEnd colour) has asked = λ t. (has t, asked t)
    there (answers.Stopped zero) has asked = tt
    there (answers.Stopped (suc steps)) has asked = (has, asked)
    there (answers.Ruled conflict stamp row points read_stamp raises syncs) has asked = (has, asked)
    there (answers.Changed failed stamp row points read_stamp raises syncs) has asked = (has, asked)
    there (answers.Took value point sync) has asked = (has, asked)
    there (answers.Decided commits stamp sync read_stamp raises syncs ended) has asked =
        end_there (kept_deciding full_log caller kept sync read_stamp raises syncs) ended has asked
    there _ has asked = tt

    -- then it is used as the rule asks
    end_uses : (middle : Kept) (ended : Ended) → OfEnd IsThere middle ended → UsesEnd full_log caller middle what ended
    end_uses middle (ends.Stood stamp point) is = (is.0, is.1.enters)
    end_uses middle _ is = tt

    pub uses : (answer : Answer) → OfNode IsThere bare_log caller kept what answer → UsesNode full_log caller kept what answer
    uses (answers.Stood stamp row points) is = (is.0, is.1.enters)
    uses (answers.StampEnd colour) is = λ t. (is t).0
    uses (answers.Stopped zero) is = tt
    uses (answers.Stopped (suc steps)) is = is.0
    uses (answers.Ruled conflict stamp row points read_stamp raises syncs) is = (is.0, is.1.enters)
    uses (answers.Changed failed stamp row points read_stamp raises syncs) is = (is.0, is.1.enters)
    uses (answers.Took value point sync) is = (is.0, is.1.enters)
    uses (answers.Decided commits stamp sync read_stamp raises syncs ended) is =
        end_uses (kept_deciding full_log caller kept sync read_stamp raises syncs) ended is
    uses _ is = tt

    -- and where it is used so, all that is asked holds where rows do
    module _ (rows : (k : Kept) → HasNode full_log caller k what
        → HasNextRow script.shape.colours bare_log caller k (colours_asked caller k what) (find caller.own (next_id caller k))) where
      beside_of : (k : Kept) (row : Option ℕ) (points : List PointPiece) → HasNode full_log caller k what
          → EntersAsNode full_log caller k row points → Beside k row points
      beside_of k row points has enters = record { enters = enters; beside = rows k has }

      end_asked : (middle : Kept) (ended : Ended) → UsesEnd full_log caller middle what ended → OfEnd Beside middle ended
      end_asked middle (ends.Stood stamp point) is = beside_of middle None (point ∷ []) is.0 is.1
      end_asked middle _ is = tt

      pub asked : (answer : Answer) → UsesNode full_log caller kept what answer → OfNode Beside bare_log caller kept what answer
      asked (answers.Stood stamp row points) is = beside_of kept row points is.0 is.1
      asked (answers.StampEnd colour) is = λ t. beside_of kept None [] (is t) tt
      asked (answers.Stopped zero) is = tt
      asked (answers.Stopped (suc steps)) is = beside_of kept None [] is tt
      asked (answers.Ruled conflict stamp row points read_stamp raises syncs) is = beside_of kept row points is.0 is.1
      asked (answers.Changed failed stamp row points read_stamp raises syncs) is = beside_of kept row points is.0 is.1
      asked (answers.Took value point sync) is = beside_of kept None (point ∷ []) is.0 is.1
      asked (answers.Decided commits stamp sync read_stamp raises syncs ended) is =
          end_asked (kept_deciding full_log caller kept sync read_stamp raises syncs) ended is
      asked _ is = tt

-- what a node wants of a colour of its own
pub wants_own : (w : ℕ → Counts) (cs : List ℕ) (c : ℕ) → In c cs → wants_of cs (map w cs) c ≡ w c
wants_own w cs c i = wants_among cs w c (any_in (λ (m : ℕ). m == c) cs c i (eq-eqb c c refl))

-- a mark of a node is one of another with its id, where its column leaves no stamp for that one's floor either
mark_moved : (history : List Entry) (x y : Node) → x.id ≡ y.id → (floor : ℕ) → y.floor ≡ floor → (mark : Mark)
    → FencesNode history floor mark → IsMarkOf history x mark → IsMarkOf history y mark
mark_moved history x y e floor is marks.None fenced m = subst (λ (i : Id). (stamp : ℕ) → Proposes history i stamp → ⊥) e m
mark_moved history x y e floor is (marks.Number s) fenced m = subst (λ (i : Id). Proposes history i s) e m
mark_moved history x y e floor is (marks.Fenced Memory) fenced m =
    subst (λ (i : Id). (stamp : ℕ) → Proposes history i stamp → ⊥) e m
mark_moved history x y e floor is (marks.Fenced StampEnd) fenced m =
    (subst (λ (i : Id). (stamp : ℕ) → Proposes history i stamp → ⊥) e m.0, subst (IsAtEnd history) (sym is) fenced)

fence_of : (history : List Entry) (node : Node) (floor : ℕ) → node.floor ≡ floor → (mark : Mark) → IsMarkOf history node mark
    → FencesNode history floor mark
fence_of history node floor is marks.None m = tt
fence_of history node floor is (marks.Number s) m = tt
fence_of history node floor is (marks.Fenced Memory) m = tt
fence_of history node floor is (marks.Fenced StampEnd) m = subst (IsAtEnd history) is m.1

-- each client's rows are in order with whatever nodes
numbers_with : (script : Script) (report : Report) (nodes : ℕ → List Node) (rows : List RowReport)
    → map (λ (x : BegunRow). x.row.number) (map (full script report nodes) rows) ≡ map (λ (r : RowReport). r.row.number) rows
numbers_with script report nodes [] = refl
numbers_with script report nodes (r ∷ rs) = ap (λ (l : List ℕ). r.row.number ∷ l) (numbers_with script report nodes rs)

in_order_with : (script : Script) (report : Report) (one other : ℕ → List Node) (rows : List RowReport) (client : ℕ)
    → map (λ (x : BegunRow). x.row.number) (filter (is_of client) (map (full script report one) rows))
    ≡ range_with_len 0 (length (filter (is_of client) (map (full script report one) rows)))
    → map (λ (x : BegunRow). x.row.number) (filter (is_of client) (map (full script report other) rows))
    ≡ range_with_len 0 (length (filter (is_of client) (map (full script report other) rows)))
in_order_with script report one other rows client order =
    let x = rows_mapped (full script report one) (λ r. refl) client rows in
    let y = rows_mapped (full script report other) (λ r. refl) client rows in
    ap (map (λ (z : BegunRow). z.row.number)) y
    ∙ (numbers_with script report other (rows_by client rows)
    ∙ (sym (numbers_with script report one (rows_by client rows))
    ∙ (ap (map (λ (z : BegunRow). z.row.number)) (sym x)
    ∙ (order
    ∙ ap (range_with_len 0)
    (ap length x
    ∙ (length-map (rows_by client rows) (full script report one)
    ∙ (sym (length-map (rows_by client rows) (full script report other)) ∙ sym (ap length y))))))))

-- THE RULE FROM WHAT IS ASKED

module _ (are_told : NodesAreTold) (same_steps : NodesChangeNoStep) (agrees : ComputedAccountAgrees) (script : Script)
    (report : Report) (fits : IsFitting script) (well : IsWellFormed script report)
    (rules : RulesTo script report (account_of script report no_nodes) 4) where
  abbrev own_nodes : ℕ → List Node
  own_nodes = nodes_told script report

  abbrev bare : Account
  bare = account_of script report no_nodes

  abbrev whole : Account
  whole = account_of script report own_nodes

  abbrev walked : Walked
  walked = record { script = script; report = report }

  abbrev finding : Finding
  finding region id = row_with region id report.rows

  abbrev C : ℕ
  C = script.shape.colours

  first : Rule1 script report bare
  first = rule1 rules.0.0.0.1

  third : Rule3 script bare
  third = rule3 rules.0.1

  has_nodes : HasItsNodes script report whole
  has_nodes = are_told script report fits well first

  -- a client of the script has replies
  client_there : (region client : ℕ) → IsClientIn script region client → (c : ClientReport) × (slice_get report.clients client ≡ Some c)
  client_there region client is =
      let names = ap length first.names in
      let long = length-map report.clients (λ (c : ClientReport). c.name) in
      let many = fits.clients in
      let lt = is.0 in
      get_within report.clients client (omega (arith, names, long, many, lt))

  -- and its region is one of the shape
  home_low : (n : ℕ) (c : ClientReport) → slice_get report.clients n ≡ Some c → (caller_of script n).own < script.shape.regions
  home_low n c at =
      let names = ap length first.names in
      let long = length-map report.clients (λ (x : ClientReport). x.name) in
      let many = fits.clients in
      let lt = slice_get_within report.clients n c at in
      fits.shape.homes n 0 (omega (arith, names, long, many, lt))

  -- both accounts have the same steps
  of_steps : (P : Step → Type 0) (n : ℕ) → All P (bare.steps n) → All P (whole.steps n)
  of_steps P n all = subst (All P) (sym (same_steps script report own_nodes n).0) all

  to_steps : (P : Step → Type 0) (n : ℕ) → All P (whole.steps n) → All P (bare.steps n)
  to_steps P n all = subst (All P) (same_steps script report own_nodes n).0 all

  -- rows of a client, in its region
  ids_in : (n : ℕ) (r : RowReport) → In r (rows_in (caller_of script n).own report.rows) → r.row.client ≡ n
      → In r.id.count (row_ids script n report.rows)
  ids_in n r i e =
      in_map-back (λ (x : RowReport). x.id.count) (rows_by n (rows_in (caller_of script n).own report.rows)) r
      (in_filter-back (is_by n) r (rows_in (caller_of script n).own report.rows) i (eq-eqb r.row.client n e))

  module _ (is : EntersItsNodes script report) where
    -- all steps have their nodes, and rows beside them
    all_there : (n : ℕ) (c : ClientReport) → slice_get report.clients n ≡ Some c
        → All (λ (s : Step). OfNode (IsThere script report own_nodes (caller_of script n) s.command.what finding)
        (log_of report no_nodes) (caller_of script n) (kept_at s) s.command.what s.reply.answer) (bare.steps n)
    all_there n c at k d lt =
        let s = get_or (bare.steps n) k d in
        there script report own_nodes (caller_of script n) s.command.what finding (kept_at s) s.reply.answer
        (to_steps (λ (s : Step). HasItsNode whole.log (caller_of script n) (kept_at s) s.command.what s.reply.answer) n
        (has_nodes.steps n c at) k d lt)
        (is.steps n c at k d lt)

    -- the node of a row of a client
    pub record IsNodeOf (n : ℕ) (r : RowReport) : Type 0 where
      pub kept : Kept
      pub what : What
      pub colours : Colours
      pub text : List ℕ
      pub ids : kept.ids ≡ r.id.count
      pub at : slice_get (own_nodes n) r.id.count ≡ Some (node_of (caller_of script n) kept colours text)
      pub next : IsNextRow script.shape.colours bare.log (caller_of script n) kept (members colours) r

    node_there : (region : ℕ) → region < script.shape.regions → (r : RowReport) → In r (rows_in region report.rows)
        → IsNodeOf r.row.client r
    node_there region lt r i =
        let client = beside.client_of script report no_nodes third region lt r i in
        let n = r.row.client in
        let c = client_there region n client in
        let j : In r (rows_in (caller_of script n).own report.rows) =
        subst (λ (g : ℕ). In r (rows_in g report.rows)) (sym client.1) i in
        let low : r.id.count < (bare.last n).ids =
        All-contains (λ (count : ℕ). count < (bare.last n).ids) (row_ids script n report.rows) r.id.count (is.rows n c.0 c.1).used
        (contains_in (row_ids script n report.rows) r.id.count (ids_in n r j refl)) in
        let used = each_used (log_of report no_nodes) (caller_of script n) (places_shown script report n)
        (λ w. IsThere script report own_nodes (caller_of script n) w finding) nothing_kept (commands_of script n)
        (replies_to report n) (all_there n c.0 c.1) r.id.count (omega arith) low in
        let k = used.1 in
        let has = used.5.0 in
        let same : r.id ≡ next_id (caller_of script n) k =
        ap (λ (m : ℕ). let d : Id = record { client = m; count = r.id.count } in d)
        (beside.own_id script report no_nodes third region lt r i)
        ∙ ap (λ (m : ℕ). let d : Id = record { client = n; count = m } in d) (sym used.4) in
        let found : row_with (caller_of script n).own (next_id (caller_of script n) k) report.rows ≡ Some r =
        row_found report.rows (caller_of script n).own
        (subst (λ (g : ℕ). HaveOwnIds (rows_in g report.rows)) (sym client.1)
        (beside.ids_apart script report no_nodes third region lt)) (next_id (caller_of script n) k) r j same in
        let next = subst (HasNextRow C bare.log (caller_of script n) k (colours_asked (caller_of script n) k used.0)) found used.5.1.beside in
        record {
          kept = k;
          what = used.0;
          colours = has.0;
          text = has.1;
          ids = used.4;
          at = ap (slice_get (own_nodes n)) (sym used.4) ∙ has.3;
          next = subst (λ (cs : List ℕ). IsNextRow C bare.log (caller_of script n) k cs r)
              (sym (node_colours (caller_of script n) k used.0 has.0 has.1 has.2)) next;
        }

    module _ (region : ℕ) (lt : region < script.shape.regions) where
      abbrev rows : List RowReport
      rows = rows_in region report.rows

      abbrev b : RowReport → BegunRow
      b = full script report no_nodes

      abbrev f : RowReport → BegunRow
      f = full script report own_nodes

      abbrev h : ℕ → List Entry
      h = journal_among report.columns region

      low : AreLawfulRows region script.shape.colours h (map b rows)
      low = third.lawful region lt

      module _ (r : RowReport) (i : In r rows) where
        m : IsNodeOf r.row.client r
        m = node_there region lt r i

        abbrev who : Caller
        who = caller_of script r.row.client

        abbrev node : Node
        node = node_of who m.kept m.colours m.text

        bare_fit : FitsRow region (b r)
        bare_fit = beside.fit_of script report no_nodes third region lt r i

        own_id : r.id.client ≡ r.row.client
        own_id = beside.own_id script report no_nodes third region lt r i

        home : who.own ≡ region
        home = (beside.client_of script report no_nodes third region lt r i).1

        same_id : next_id who m.kept ≡ r.id
        same_id =
            ap (λ (k : ℕ). let d : Id = record { client = k; count = m.kept.ids } in d) (sym own_id)
            ∙ ap (λ (k : ℕ). let d : Id = record { client = r.id.client; count = k } in d) m.ids

        its_node : (f r).node ≡ node
        its_node = full_node script report own_nodes r node
            (ap (λ (k : ℕ). slice_get (own_nodes k) r.id.count) own_id ∙ m.at) same_id

        node_at : slice_get (own_nodes r.row.client) (f r).node.id.count ≡ Some (f r).node
        node_at =
            ap (λ (d : Id). slice_get (own_nodes r.row.client) d.count) (full_id script report own_nodes r)
            ∙ (m.at ∙ ap (λ (n : Node). Some n) (sym its_node))

        colours_of : marked_colours r.marks ≡ members (f r).node.colours
        colours_of = m.next.colours_are ∙ ap (λ (n : Node). members n.colours) (sym its_node)

        two : 2 ≤ length (members m.colours)
        two =
            let one = ap length (sym m.next.colours_are ∙ bare_fit.a_mark_each) in
            let some = bare_fit.several in
            omega (arith, one, some)

        its_fit : FitsRow region (f r)
        its_fit = record {
          client = ap (λ (d : Id). d.client) (full_id script report own_nodes r) ∙ own_id;
          row = ap (λ (n : Node). n.row) its_node
              ∙ (if_true (nat_lt 1 (length (members m.colours))) (Some (record { client = r.row.client; number = m.kept.rows })) None
              (lt-ltb 1 (length (members m.colours)) (let t = two in omega (arith, t)))
              ∙ ap (λ (w : Row). Some w) (sym m.next.row));
          in_region = ap (λ (n : Node). n.region) its_node ∙ home;
          several = subst (λ (n : Node). 2 ≤ length (members n.colours)) (sym its_node) two;
          a_mark_each = colours_of;
        }

        -- marks
        its_next : (k : ColourMark) → In k r.marks → MarksNext script.shape.colours bare.log who m.kept k
        its_next k j = All-contains (MarksNext script.shape.colours bare.log who m.kept) r.marks k m.next.marks_are (contains_in r.marks k j)

        its_mark : (k : ColourMark) → In k r.marks → IsMarkOf (h k.colour) (f r).node k.mark
        its_mark k j = mark_moved (h k.colour) (b r).node (f r).node (sym (full_id script report own_nodes r)) m.kept.floor
            (ap (λ (n : Node). n.floor) its_node) k.mark
            (subst (λ (g : ℕ). FencesNode (journal_among report.columns g k.colour) m.kept.floor k.mark) home (its_next k j).fenced)
            (All-contains (λ (x : ColourMark). IsMarkOf (h x.colour) (b r).node x.mark) r.marks k
            (beside.of_row script report no_nodes third region lt
            (λ (x : BegunRow). All (λ (y : ColourMark). IsMarkOf (h y.colour) x.node y.mark) x.marks) low.marks r i)
            (contains_in r.marks k j))

        -- what an event that proposes its id says of its node
        proposed : (c : ℕ) → c < script.shape.colours → (e : Entry) (floor : ℕ) (wants : Counts) → In e (h c)
            → e.event ≡ Propose r.id floor wants
            → ((f r).node.floor ≡ floor) × (node_wants (f r).node c ≡ wants) × In c (members (f r).node.colours)
        proposed c less e floor wants among is_event =
            by (find_cases (λ (d : Entry). proposes r.id d.event) (h c)) where
              told : (d : Entry) (fl : ℕ) (w : Counts) → In d (h c) → d.event ≡ Propose r.id fl w
                  → beside.IsProposedAs script report no_nodes third region lt r c fl w
              told d fl w j t = beside.proposed_as script report no_nodes third region lt r i c less d fl w j t

              marked : In c (marked_colours r.marks)
              marked = subst (In c) (sym bare_fit.a_mark_each) (told e floor wants among is_event).among

              mark : (k : ColourMark) × In k r.marks × (k.colour ≡ c)
              mark = in_map (λ (k : ColourMark). k.colour) r.marks c marked

              by : Finds (λ (d : Entry). proposes r.id d.event) (h c)
                  → ((f r).node.floor ≡ floor) × (node_wants (f r).node c ≡ wants) × In c (members (f r).node.colours)
              by (inl none) = absurd (true≢false (sym (proposed_by r.id e.event floor wants is_event) ∙ none.1 e among))
              by (inr some) =
                  let d = some.0 in
                  let next = (its_next mark.0 mark.1).proposed in
                  let here : ProposesNode r.id m.kept.floor (m.kept.starts c) (Some d) =
                  subst (ProposesNode r.id m.kept.floor (m.kept.starts c)) some.3
                  (subst (λ (x : ℕ). ProposesNode r.id m.kept.floor (m.kept.starts x) (proposal r.id (h x))) mark.2
                  (subst (λ (g : ℕ). ProposesNode r.id m.kept.floor (m.kept.starts mark.0.colour)
                  (proposal r.id (journal_among report.columns g mark.0.colour))) home
                  (subst (λ (x : Id). ProposesNode x m.kept.floor (m.kept.starts mark.0.colour)
                  (proposal x (journal_among report.columns who.own mark.0.colour))) same_id next))) in
                  let one = told e floor wants among is_event in
                  let other = told d m.kept.floor (m.kept.starts c) some.1 here in
                  let own : In c (members m.colours) = subst (In c) m.next.colours_are marked in (
                    ap (λ (n : Node). n.floor) its_node ∙ (sym other.floor_is ∙ one.floor_is),
                    ap (λ (n : Node). node_wants n c) its_node
                        ∙ (wants_own m.kept.starts (members m.colours) c own ∙ (sym other.wants_are ∙ one.wants_are)),
                    subst (In c) colours_of marked,
                  )

      -- what is so of each row
      onto : (P : BegunRow → Type 0) → ((r : RowReport) → In r rows → P (f r)) → All P (map f rows)
      onto P each = all_in P (map f rows) (λ y j. let k = in_map f rows y j in subst P k.2 (each k.0 k.1))

      its_event : (c : ℕ) → c < script.shape.colours → (e : Entry) → In e (h c) → (event : Event) → e.event ≡ event
          → FitsRows (map b rows) c event → FitsRows (map f rows) c event
      its_event c less e among (Single id floor wants) is_event fit =
          onto (λ (x : BegunRow). x.node.id ≢ id) (λ r i same.
          beside.of_row script report no_nodes third region lt (λ (x : BegunRow). x.node.id ≢ id) fit r i
          (sym (full_id script report own_nodes r) ∙ same))
      its_event c less e among (Propose id floor wants) is_event (n, r, at, of_id, its_wants, its_floor, k, place) =
          let back = get_map_back b rows n r at in
          let i = slice_in rows n back.0 back.1 in
          let same : back.0.id ≡ id = ap (λ (x : BegunRow). x.node.id) back.2 ∙ of_id in
          let told = proposed back.0 i c less e floor wants among
          (is_event ∙ ap (λ (d : Id). let v : Event = Propose d floor wants in v) (sym same)) in
          let there = in_slice (members (f back.0).node.colours) c told.2 in (
            n,
            f back.0,
            get_map f rows n back.0 back.1,
            full_id script report own_nodes back.0 ∙ same,
            told.1,
            told.0,
            there.0,
            there.1,
          )
      its_event c less e among (Settle id outcome) is_event (n, r, at, of_id, last) =
          let back = get_map_back b rows n r at in (
            n,
            f back.0,
            get_map f rows n back.0 back.1,
            full_id script report own_nodes back.0 ∙ (ap (λ (x : BegunRow). x.node.id) back.2 ∙ of_id),
            ap (λ (x : BegunRow). x.last) back.2 ∙ last,
          )
      its_event c less e among (Raise to) is_event fit = tt
      its_event c less e among (Give other from) is_event fit = tt
      its_event c less e among (Carry other start heads) is_event fit = tt
      its_event c less e among (Trim counts) is_event fit = tt

      its_lawful : AreLawfulRows region script.shape.colours h (map f rows)
      its_lawful = record {
        in_order = λ client. in_order_with script report no_nodes own_nodes rows client (low.in_order client);
        fit = onto (FitsRow region) its_fit;
        ids_differ = pairs_onto f (λ (r s : RowReport). r.id ≢ s.id) (λ (x y : BegunRow). x.node.id ≢ y.node.id)
            (λ r s ne e. ne (sym (full_id script report own_nodes r) ∙ (e ∙ full_id script report own_nodes s))) rows
            (beside.ids_apart script report no_nodes third region lt);
        marks = onto (λ (x : BegunRow). All (λ (k : ColourMark). IsMarkOf (h k.colour) x.node k.mark) x.marks)
            (λ r i. all_in (λ (k : ColourMark). IsMarkOf (h k.colour) (f r).node k.mark) r.marks (its_mark r i));
        outcomes = onto (λ (x : BegunRow). FitsMarks (map (λ (k : ColourMark). k.mark) x.marks) x.last)
            (beside.of_row script report no_nodes third region lt
            (λ (x : BegunRow). FitsMarks (map (λ (k : ColourMark). k.mark) x.marks) x.last) low.outcomes);
        events = λ c less. all_in (λ (e : Entry). FitsRows (map f rows) c e.event) (h c) (λ e among.
            its_event c less e among e.event refl
            (All-contains (λ (d : Entry). FitsRows (map b rows) c d.event) (h c) e (low.events c less) (contains_in (h c) e among)));
      }

    its_third : Rule3 script whole
    its_third = record {
      of_clients = λ region lt. onto region lt (λ (x : BegunRow). IsClientIn script region x.row.client)
          (beside.client_of script report no_nodes third region lt);
      lawful = its_lawful;
      marked = λ region lt. onto region lt (λ (x : BegunRow). All (λ (k : ColourMark). k.colour < script.shape.colours) x.marks)
          (beside.of_row script report no_nodes third region lt
          (λ (x : BegunRow). All (λ (k : ColourMark). k.colour < script.shape.colours) x.marks) (third.marked region lt));
      copies = third.copies;
    }

    its_fifth : Rule5 script report whole
    its_fifth = record {
      used = λ n c at. of_steps (λ (s : Step). UsesNode whole.log (caller_of script n) (kept_at s) s.command.what s.reply.answer) n
          (λ k d lt. let s = get_or (bare.steps n) k d in
          uses script report own_nodes (caller_of script n) s.command.what finding (kept_at s) s.reply.answer
          (all_there n c at k d lt));
      own = λ n c at. record {
        nodes = has_nodes.all n c at;
        rows = ap length (rows_mapped (full script report own_nodes) (λ r. refl) n (rows_in (caller_of script n).own report.rows))
            ∙ (length-map (rows_by n (rows_in (caller_of script n).own report.rows)) (full script report own_nodes)
            ∙ (sym (length-map (rows_by n (rows_in (caller_of script n).own report.rows)) (λ (r : RowReport). r.id.count))
            ∙ ((is.rows n c at).many
            ∙ ap (λ (k : Kept). k.rows) (sym (same_steps script report own_nodes n).1))));
        row_nodes = λ r there of_client.
            let all = rows_in (caller_of script n).own report.rows in
            let back = in_map (full script report own_nodes) all r
            (in_contains (map (full script report own_nodes) all) r there) in
            let e : back.0.row.client ≡ n = ap (λ (x : BegunRow). x.row.client) back.2 ∙ of_client in
            subst (λ (x : BegunRow). slice_get (own_nodes n) x.node.id.count ≡ Some x.node) back.2
            (subst (λ (k : ℕ). slice_get (own_nodes k) (full script report own_nodes back.0).node.id.count
            ≡ Some (full script report own_nodes back.0).node) e
            (node_at (caller_of script n).own (home_low n c at) back.0 back.1));
      };
    }

  -- AND BACK

  module _ (to_five : RulesTo script report whole 5) where
    whole_third : Rule3 script whole
    whole_third = rule3 to_five.0.0.1

    fifth : Rule5 script report whole
    fifth = rule5 to_five.1

    module _ (n : ℕ) (c : ClientReport) (at : slice_get report.clients n ≡ Some c) where
      abbrev it : Caller
      it = caller_of script n

      abbrev its_rows : List RowReport
      its_rows = rows_in it.own report.rows

      abbrev g : RowReport → BegunRow
      g = full script report own_nodes

      abbrev line : ℕ → List Entry
      line = journal_among report.columns it.own

      its_home : it.own < script.shape.regions
      its_home = home_low n c at

      row_node : (r : RowReport) → In r its_rows → r.row.client ≡ n → slice_get (own_nodes n) r.id.count ≡ Some (g r).node
      row_node r i e =
          ap (λ (d : Id). slice_get (own_nodes n) d.count) (sym (full_id script report own_nodes r))
          ∙ (fifth.own n c at).row_nodes (g r) (contains_in (map g its_rows) (g r) (in_map-back g its_rows r i)) e

      module _ (what : What) (k : Kept) (has : HasNode whole.log it k what) where
        abbrev next : Node
        next = node_of it k has.0 has.1

        module _ (r : RowReport) (i : In r its_rows) (is_next : r.id ≡ next_id it k) where
          of_it : r.row.client ≡ n
          of_it =
              sym (beside.own_id script report own_nodes whole_third it.own its_home r i)
              ∙ ap (λ (d : Id). d.client) is_next

          node_is : (g r).node ≡ next
          node_is =
              same_some (sym (row_node r i of_it)
              ∙ (ap (λ (d : Id). slice_get (own_nodes n) d.count) is_next ∙ has.3))

          fit : FitsRow it.own (g r)
          fit = beside.fit_of script report own_nodes whole_third it.own its_home r i

          mark_next : (m : ColourMark) → In m r.marks → MarksNext script.shape.colours bare.log it k m
          mark_next m j = record {
            below = less;
            proposed = by (find_cases (λ (d : Entry). proposes (next_id it k) d.event) (line m.colour));
            fenced = fence_of (line m.colour) (g r).node k.floor (ap (λ (x : Node). x.floor) node_is) m.mark
                (All-contains (λ (x : ColourMark). IsMarkOf (line x.colour) (g r).node x.mark) r.marks m
                (beside.of_row script report own_nodes whole_third it.own its_home
                (λ (x : BegunRow). All (λ (y : ColourMark). IsMarkOf (line y.colour) x.node y.mark) x.marks)
                (whole_third.lawful it.own its_home).marks r i)
                (contains_in r.marks m j));
          } where
            less : m.colour < script.shape.colours
            less = All-contains (λ (x : ColourMark). x.colour < script.shape.colours) r.marks m
                (beside.of_row script report own_nodes whole_third it.own its_home
                (λ (x : BegunRow). All (λ (y : ColourMark). y.colour < script.shape.colours) x.marks)
                (whole_third.marked it.own its_home) r i)
                (contains_in r.marks m j)

            by : Finds (λ (d : Entry). proposes (next_id it k) d.event) (line m.colour)
                → ProposesNode (next_id it k) k.floor (k.starts m.colour) (proposal (next_id it k) (line m.colour))
            by (inl none) = subst (ProposesNode (next_id it k) k.floor (k.starts m.colour)) (sym none.0) tt
            by (inr some) =
                let how = proposes_is (next_id it k) some.0.event some.2 in
                let told = beside.proposed_as script report own_nodes whole_third it.own its_home r i m.colour less some.0 how.0 how.1
                some.1 (how.2 ∙ ap (λ (d : Id). let v : Event = Propose d how.0 how.1 in v) (sym is_next)) in
                let own : In m.colour (members has.0) =
                subst (λ (x : Node). In m.colour (members x.colours)) node_is told.among in
                let floor_is : how.0 ≡ k.floor = sym told.floor_is ∙ ap (λ (x : Node). x.floor) node_is in
                let wants_are : how.1 ≡ k.starts m.colour =
                sym told.wants_are
                ∙ (ap (λ (x : Node). node_wants x m.colour) node_is ∙ wants_own k.starts (members has.0) m.colour own) in
                subst (ProposesNode (next_id it k) k.floor (k.starts m.colour)) (sym some.3)
                (how.2
                ∙ (ap (λ (x : ℕ). let v : Event = Propose (next_id it k) x how.1 in v) floor_is
                ∙ ap (λ (x : Counts). let v : Event = Propose (next_id it k) k.floor x in v) wants_are))

          row_next : IsNextRow script.shape.colours bare.log it k (colours_asked it k what) r
          row_next = record {
            row =
                let two = subst (λ (x : Node). 2 ≤ length (members x.colours)) node_is fit.several in
                same_some (sym fit.row
                ∙ (ap (λ (x : Node). x.row) node_is
                ∙ if_true (nat_lt 1 (length (members has.0))) (Some (record { client = n; number = k.rows })) None
                (lt-ltb 1 (length (members has.0)) (omega (arith, two)))));
            colours_are =
                fit.a_mark_each ∙ (ap (λ (x : Node). members x.colours) node_is ∙ node_colours it k what has.0 has.1 has.2);
            marks_are = all_in (MarksNext script.shape.colours bare.log it k) r.marks mark_next;
          }

        has_next : HasNextRow script.shape.colours bare.log it k (colours_asked it k what) (finding it.own (next_id it k))
        has_next = by (finding it.own (next_id it k)) refl where
          by : (o : Option RowReport) → finding it.own (next_id it k) ≡ o
              → HasNextRow script.shape.colours bare.log it k (colours_asked it k what) o
          by None found = tt
          by (Some r) found =
              let there = found_row report.rows it.own (next_id it k) r found in row_next r there.0 there.1

      steps_asked : All (EntersNode finding walked it) (bare.steps n)
      steps_asked k d lt =
          let s = get_or (bare.steps n) k d in
          asked script report own_nodes it s.command.what finding (kept_at s) (has_next s.command.what) s.reply.answer
          (to_steps (λ (x : Step). UsesNode whole.log it (kept_at x) x.command.what x.reply.answer) n (fifth.used n c at) k d lt)

      rows_asked : HasItsRows (bare.last n).ids (bare.last n).rows (row_ids script n report.rows)
      rows_asked = record {
        many =
            length-map (rows_by n its_rows) (λ (r : RowReport). r.id.count)
            ∙ (sym (length-map (rows_by n its_rows) g)
            ∙ (sym (ap length (rows_mapped g (λ r. refl) n its_rows))
            ∙ ((fifth.own n c at).rows ∙ ap (λ (x : Kept). x.rows) (same_steps script report own_nodes n).1)));
        used = all_in (λ (x : ℕ). x < (bare.last n).ids) (row_ids script n report.rows) (λ x j.
            let back = in_map (λ (r : RowReport). r.id.count) (rows_by n its_rows) x j in
            let own = in_filter (is_by n) back.0 its_rows back.1 in
            let low = slice_get_within (own_nodes n) back.0.id.count (g back.0).node
            (row_node back.0 own.0 (eqb-true back.0.row.client n own.1)) in
            let many = (fifth.own n c at).nodes in
            let ids = ap (λ (y : Kept). y.ids) (same_steps script report own_nodes n).1 in
            let is = back.2 in
            omega (arith, low, many, ids, is));
      }

    all_asked : EntersItsNodes script report
    all_asked = record { steps = steps_asked; rows = rows_asked }

  four_whole : EntersItsNodes script report → RulesTo script report whole 4
  four_whole is =
      (agrees script report own_nodes bare fits well (reports_tell script report no_nodes well) rules).1 (its_third is)

  both_ways : EntersItsNodes script report ↔ RulesTo script report whole 5
  both_ways = (λ is. (four_whole is, five (its_fifth is)), all_asked)

pub fifth_is_entering : NodesAreTold → NodesChangeNoStep → ComputedAccountAgrees → FifthIsEntering
fifth_is_entering are_told same_steps agrees script report fits well rules =
    both_ways are_told same_steps agrees script report fits well rules
