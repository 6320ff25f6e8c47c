-- The account that is computed with the nodes of its commands keeps the fifth rule where some told account does.
use Rattle.std.proofs.Common.{◌≡◌, ◌∙◌, refl, ap, sym, subst, ℕ, zero, suc, ◌<◌, List, [], ◌∷◌, length, map, Option, Some, None, inl, arith}
use Rattle.std.specs.Prelude.{slice_get}
use Rattle.std.specs.List.{AllZip, filter}
use Rattle.std.proofs.lemmas.List.{length-map}
use Rattle.std.proofs.lemmas.List.Elements.{All-contains}
use Rattle.log_node.specs.declared.ids.Id.{Id}
use Rattle.log_node.specs.declared.node.Node.{Node}
use Rattle.log_node.specs.declared.forms.Version.{Version}
use Rattle.log_node.specs.declared.ids.Counts.{Counts}
use Rattle.log_node.specs.Order.{same_id}
use Rattle.log_node.specs.Sets.{members}
use Rattle.log_node.specs.Seen.{PlacedNode}
use Rattle.col_core.specs.declared.Event.TheVariants.{Single}
use Rattle.col_core.specs.declared.Entry.{Entry}
use Rattle.col_core.specs.History.{IsAtEnd}
use Rattle.col_core.specs.Log.{Log}
use Rattle.col_core.specs.Rows.{BegunRow, FitsRow, is_of, wants_of}
use Rattle.col_core.specs.Keeping.{Kept}
use Rattle.col_core.proofs.CallerLemmas.{In, contains_in, if_true, in_contains, in_map, same_id-refl}
use Rattle.script_text.specs.declared.commands.What.{What}
use Rattle.script_text.specs.declared.script.Script.{Script}
use Rattle.script_text.specs.Fitting.{IsFitting, IsWithin}
use Rattle.report_text.specs.declared.report.Answer.{Answer}
use Rattle.report_text.specs.declared.report.Answer.TheVariants as answers
use Rattle.report_text.specs.declared.report.Ended.{Ended}
use Rattle.report_text.specs.declared.report.Ended.TheVariants as ends
use Rattle.report_text.specs.declared.report.PointPiece.{PointPiece}
use Rattle.report_text.specs.declared.report.ClientReport.{ClientReport}
use Rattle.report_text.specs.declared.report.Report.{Report}
use Rattle.lawful_run.specs.Callers.{Caller, caller_of}
use Rattle.lawful_run.specs.Columns.{IsClientIn, row_report}
use Rattle.lawful_run.specs.Reads.{events_until}
use Rattle.run_rules.specs.Told.{Step, Account, IsTold, OfEachStep, colours_asked, kept_at}
use Rattle.run_rules.specs.Telling.{FindKeys, IsWellFormed, account_with, node_or, replies_in, replies_to}
use Rattle.run_rules.specs.Answering.{HasPoints, CanHave, CanEnd}
use Rattle.run_rules.specs.Rules.{EntersAsNode, HasOwnNodes, Rule1, Rule3, Rule4, Rule5, UsesEnd, UsesNode}
use Rattle.run_rules.specs.Nodes.{HasItsNode, HasItsNodes, HasNodeAtEnd}
use Rattle.run_rules.specs.Keeping.{RulesTo, five}
use Rattle.run_rules.specs.Agreeing.{HasColumn, KeepSame, AreStepsAlike, AreNodesAlike, Agree}
use Rattle.run_rules.specs.Laws.{ComputedAccountDecides, FindsDecide}
use Rattle.run_rules.proofs.Lists.{zip_at, zip_onto}
use Rattle.run_rules.proofs.Numbers.{rule1, rule3, rule4, rule5, rules_fewer}
use Rattle.run_rules.proofs.Reached.{home_within}
use Rattle.run_rules.proofs.SameKept.{before_same}
use Rattle.run_rules.proofs.LeftOut.{Obeys}
use Rattle.run_rules.proofs.ToldAlike.{deciding_same, points_below}
use Rattle.run_rules.proofs.OneAccount.{obeys, step_with}
use Rattle.run_rules.proofs.NodesAlike.{Uses, nodes_agree}
use Rattle.run_rules.proofs.MarksWithin.{shown_client}
use Rattle.run_rules.proofs.RowsTold.{IsRowBeside, filter_mapped, row_with, rows_are, third_beside, told_of}
use Rattle.run_rules.proofs.ReportsTell.{finds_tell, unnamed_account, unnamed_by, unnamed_keys}
use Rattle.run_rules.proofs.RulesAlike.{one_account_decides}
use Rattle.run_rules.proofs.Computed.{finds_agree_too}

-- STEPS

module _ (script : Script) (fits : IsFitting script) (n : ℕ) (one two : Log)
    (histories : (r c : ℕ) → HasColumn script r c → one.histories r c ≡ two.histories r c)
    (home : (caller_of script n).own < script.shape.regions)
    (rows : map (row_report (caller_of script n).own) (one.rows (caller_of script n).own)
    ≡ map (row_report (caller_of script n).own) (two.rows (caller_of script n).own)) where
  abbrev who : Caller
  who = caller_of script n

  -- the event at a point enters the same node
  enters_same : {a b : Kept} → KeepSame script a b → (row : Option ℕ) (points : List PointPiece)
      → ((p : PointPiece) → In p points → p.colour < script.shape.colours)
      → EntersAsNode one who a row points → EntersAsNode two who b row points
  enters_same s None [] below e = tt
  enters_same {a} {b} s None (p ∷ ps) below e = λ d there.
      e d (ap (λ (h : List Entry). slice_get h (events_until p.at)) (histories who.own p.colour (home, below p (inl refl)))
      ∙ there)
      ∙ (ap (λ (k : ℕ). Single (record { client = who.client; count = k }) a.floor (a.starts p.colour)) s.ids
      ∙ (ap (λ (k : ℕ). Single (record { client = who.client; count = b.ids }) k (a.starts p.colour)) s.floor
      ∙ ap (λ (w : Counts). Single (record { client = who.client; count = b.ids }) b.floor w) (s.starts p.colour)))
  enters_same s (Some number) points below e = tt

  module _ (x y : Step) (within : IsWithin script.shape.regions script.shape.colours x.command.what) where
    abbrev k : Kept
    k = kept_at x

    abbrev what : What
    what = x.command.what

    module _ (l : Kept) (s : KeepSame script k l) (nodes : List PlacedNode) where
      below : (row : Option ℕ) (points : List PointPiece) → HasPoints (colours_asked who k what) row points
          → (p : PointPiece) → In p points → p.colour < script.shape.colours
      below row points has =
          points_below script fits n one two histories home rows what within x.untold y.untold k l s nodes row points has

      end_uses : {c d : Kept} → KeepSame script c d → (ended : Ended) → CanEnd (colours_asked who k what) ended
          → UsesEnd one who c what ended → HasNodeAtEnd two who d what ended → UsesEnd two who d what ended
      end_uses t (ends.Stood stamp point) can u h = (h, enters_same t None (point ∷ []) (below None (point ∷ []) can) u.1)
      end_uses t _ can u h = tt

      uses_same : (answer : Answer) → CanHave who k what nodes answer → UsesNode one who k what answer
          → HasItsNode two who l what answer → UsesNode two who l what answer
      uses_same (answers.Stood stamp row points) can u h = (h, enters_same s row points (below row points can.2) u.1)
      uses_same (answers.StampEnd colour) can u h = h
      uses_same (answers.Stopped zero) can u h = tt
      uses_same (answers.Stopped (suc steps)) can u h = h
      uses_same (answers.Ruled conflict stamp row points read_stamp raises syncs) can u h =
          (h, enters_same s row points (below row points can.2) u.1)
      uses_same (answers.Changed failed stamp row points read_stamp raises syncs) can u h =
          (h, enters_same s row points (below row points can.2) u.1)
      uses_same (answers.Took value point sync) can u h =
          (h, enters_same s None (point ∷ []) (below None (point ∷ []) can.2) u.1)
      uses_same (answers.Decided commits stamp sync read_stamp raises syncs ended) can u h =
          end_uses (deciding_same script fits n one two histories home rows what within x.untold y.untold k l s nodes sync
          read_stamp raises syncs can.1 can.2 can.3) ended can.4 u h
      uses_same _ can u h = tt

  abbrev HasIts : Step → Type 0
  HasIts s = HasItsNode two who (kept_at s) s.command.what s.reply.answer

  step_uses_same : (x y : Step) → AreStepsAlike script who x y → Obeys script one who x × Uses one who x → HasIts y
      → Uses two who y
  step_uses_same x y r o h =
      let is = step_with y x.command x.reply r.command r.reply in
      let z : Step = record { command = x.command; reply = x.reply; kept = y.kept; untold = y.untold } in
      subst (Uses two who) (sym is) (uses_same x y o.0.within (kept_at z) (before_same script r.kept x.command.what)
      x.reply.nodes x.reply.answer o.0.can o.1 (subst HasIts is h))

-- NODES

module _ (script : Script) (report : Report) (nodes : ℕ → List Node) (finds : ℕ → ℕ → List Version) (a : Account)
    (fits : IsFitting script) (well : IsWellFormed script report)
    (keys : (n : ℕ) (c : ClientReport) → slice_get report.clients n ≡ Some c → FindKeys (finds n) c.replies)
    (ta : IsTold script report a) (rules : RulesTo script report a 5)
    (its : HasItsNodes script report (account_with script report nodes finds)) where
  abbrev b : Account
  b = account_with script report nodes finds

  tb : IsTold script report b
  tb = finds_tell script report nodes finds well keys

  a1 : Rule1 script report a
  a1 = rule1 rules.0.0.0.0.1

  a3 : Rule3 script a
  a3 = rule3 rules.0.0.1

  a4 : Rule4 script report a
  a4 = rule4 rules.0.1

  a5 : Rule5 script report a
  a5 = rule5 rules.1

  agree : Agree script report a b
  agree = (finds_agree_too script report nodes finds a fits well keys ta rules.0).0

  own : (n : ℕ) (c : ClientReport) → slice_get report.clients n ≡ Some c → (caller_of script n).own < script.shape.regions
  own = home_within script report fits a1.names

  used : OfEachStep script report b (Uses b.log)
  used n c there =
      zip_onto {R = AreStepsAlike script (caller_of script n)}
      {P = λ (x : Step). Obeys script a.log (caller_of script n) x × Uses a.log (caller_of script n) x}
      {Q = λ (s : Step). HasItsNode b.log (caller_of script n) (kept_at s) s.command.what s.reply.answer}
      {S = Uses b.log (caller_of script n)} (a.steps n) (b.steps n) (agree.steps n c there)
      (λ k d lt. (obeys script fits report a ta a1 a4 n c there k d lt, a5.used n c there k d lt)) (its.steps n c there)
      (step_uses_same script fits n a.log b.log agree.histories (own n c there)
      (agree.rows (caller_of script n).own (own n c there)))

  alike : (n : ℕ) (c : ClientReport) → slice_get report.clients n ≡ Some c → AllZip AreNodesAlike (a.log.nodes n) (nodes n)
  alike n c there =
      nodes_agree script report a b fits ta tb a1 a4 agree a5.used used n c there (a5.own n c there).nodes (its.all n c there)

  -- a row of a region, with its node as it is computed
  abbrev with_node : ℕ → BegunRow → BegunRow
  with_node = row_with script report nodes a well ta a1 a3

  module _ (region : ℕ) (lt : region < script.shape.regions) (x : BegunRow) (i : In x (a.log.rows region)) where
    fit : FitsRow region x
    fit = All-contains (FitsRow region) (a.log.rows region) x (a3.lawful region lt).fit (contains_in (a.log.rows region) x i)

    in_region : IsClientIn script region x.row.client
    in_region = All-contains (λ (r : BegunRow). IsClientIn script region r.row.client) (a.log.rows region) x
        (a3.of_clients region lt) (contains_in (a.log.rows region) x i)

    -- the client's node with the row's id
    found : (m : Node) × (slice_get (nodes x.row.client) x.node.id.count ≡ Some m) × AreNodesAlike x.node m
    found =
        let c = shown_client script report fits a1.names x.row.client in_region.0 in
        let there : In x (a.log.rows (caller_of script x.row.client).own) =
        subst (λ (k : ℕ). In x (a.log.rows k)) (sym in_region.1) i in
        zip_at AreNodesAlike (a.log.nodes x.row.client) (nodes x.row.client) (alike x.row.client c.0 c.1) x.node.id.count
        x.node ((a5.own x.row.client c.0 c.1).row_nodes x
        (contains_in (a.log.rows (caller_of script x.row.client).own) x there) refl)

    its_node : (with_node region x).node ≡ found.0
    its_node =
        ap (node_or (told_of script report nodes a well ta a1 a3) (row_report region x))
        (ap (λ (k : ℕ). slice_get (nodes k) x.node.id.count) fit.client ∙ found.1)
        ∙ if_true (same_id found.0.id x.node.id) found.0 _
        (ap (λ (k : Id). same_id k x.node.id) (sym found.2.id) ∙ same_id-refl x.node.id)

    same : AreNodesAlike x.node (with_node region x).node
    same = subst (AreNodesAlike x.node) (sym its_node) found.2

    there_now : slice_get (nodes x.row.client) (with_node region x).node.id.count ≡ Some (with_node region x).node
    there_now =
        ap (λ (k : Id). slice_get (nodes x.row.client) k.count) (sym same.id)
        ∙ (found.1 ∙ ap (λ (m : Node). Some m) (sym its_node))

    beside : IsRowBeside region (told_of script report nodes a well ta a1 a3 region) x (with_node region x)
    beside = record {
      fit = record {
        client = ap (λ (k : Id). k.client) (sym same.id) ∙ fit.client;
        row = sym same.row ∙ fit.row;
        in_region = sym same.region ∙ fit.in_region;
        several = let m = ap length same.colours in let n = fit.several in omega (arith, m, n);
        a_mark_each = fit.a_mark_each ∙ same.colours;
      };
      colours = sym same.colours;
      at_end = λ h. subst (IsAtEnd h) same.floor;
      proposed = λ c e floor wants among there is of_floor of_wants. (
        sym same.floor ∙ of_floor,
        ap (λ (l : List ℕ). wants_of l (with_node region x).node.wants c) (sym same.colours)
            ∙ (ap (λ (w : List Counts). wants_of (members x.node.colours) w c) (sym same.wants) ∙ of_wants),
      );
    }

  rows_with : (region : ℕ) → region < script.shape.regions → b.log.rows region ≡ map (with_node region) (a.log.rows region)
  rows_with = rows_are script report nodes a well ta a1 a3

  own_nodes : (n : ℕ) (c : ClientReport) → slice_get report.clients n ≡ Some c → HasOwnNodes script b n
  own_nodes n c there =
      let region = (caller_of script n).own in
      let lt = own n c there in
      let all = rows_with region lt in record {
        nodes = its.all n c there;
        rows = ap (λ (l : List BegunRow). length (filter (is_of n) l)) all
            ∙ (ap length (filter_mapped (with_node region) (is_of n) (a.log.rows region))
            ∙ (length-map (filter (is_of n) (a.log.rows region)) (with_node region)
            ∙ ((a5.own n c there).rows ∙ (agree.last n c there).rows)));
        row_nodes = λ r among of_n.
            let m = in_map (with_node region) (a.log.rows region) r
            (subst (In r) all (in_contains (b.log.rows region) r among)) in
            let client : m.0.row.client ≡ n = ap (λ (q : BegunRow). q.row.client) m.2 ∙ of_n in
            subst (λ (q : BegunRow). slice_get (nodes n) q.node.id.count ≡ Some q.node) m.2
            (subst (λ (k : ℕ). slice_get (nodes k) (with_node region m.0).node.id.count ≡ Some (with_node region m.0).node) client
            (there_now region lt m.0 m.1));
      }

  third : Rule3 script b
  third = let r = third_beside script report nodes a well ta a1 a3 beside in record {
    of_clients = r.of_clients;
    lawful = r.lawful;
    marked = r.marked;
    copies = r.copies;
  }

  to_five : RulesTo script report b 5
  to_five = (
    (finds_agree_too script report nodes finds a fits well keys ta rules.0).1 third,
    five (record { used = used; own = own_nodes }),
  )

pub finds_decide : FindsDecide
finds_decide script report nodes finds fits well keys its n least most keeps =
    one_account_decides script report (account_with script report nodes finds) fits
    (finds_tell script report nodes finds well keys)
    (to_five script report nodes finds keeps.0 fits well keys keeps.1 (rules_fewer script report keeps.0 n 5 least keeps.2) its)
    n most keeps

pub computed_account_decides : ComputedAccountDecides
computed_account_decides script report nodes fits well its n least most keeps =
    subst (λ (b : Account). RulesTo script report b n) (unnamed_account script report nodes)
    (finds_decide script report nodes (λ m. unnamed_by (replies_to report m)) fits well (λ m c there.
    subst (FindKeys (unnamed_by (replies_to report m))) (ap replies_in there) (unnamed_keys (replies_to report m)))
    (subst (HasItsNodes script report) (sym (unnamed_account script report nodes)) its) n least most keeps)
