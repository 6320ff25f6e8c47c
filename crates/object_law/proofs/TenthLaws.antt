-- The tenth rule, at the account with what reads found and node lines show, is what is looked at of each step.
use mathlib.Core.Path.{fun_ext}
use Rattle.std.proofs.Common.{◌≡◌, ◌∙◌, refl, ap, sym, subst, ℕ, ◌<◌, List, [], ◌∷◌, length, Option, Some, None, inl, inr, arith}
use Rattle.std.specs.Prelude.{◌↔◌, slice_get}
use Rattle.std.specs.List.{All, find}
use Rattle.std.proofs.lemmas.List.{length-map}
use Rattle.std.proofs.lemmas.List.Elements.{All-contains}
use Rattle.std.proofs.lemmas.Option.{slice_get_within}
use Rattle.log_node.specs.declared.forms.Version.{Version}
use Rattle.log_node.specs.declared.ids.Key.{Key}
use Rattle.log_node.specs.declared.node.Node.{Node}
use Rattle.log_node.specs.Order.{same_id}
use Rattle.log_node.specs.Outcomes.{final_number}
use Rattle.log_node.specs.Seen.{PlacedNode}
use Rattle.log_node.specs.Vectors.{at}
use Rattle.object_fold.specs.Maps.{Value, shard_value}
use Rattle.object_fold.specs.Nodes.{ObjectNode}
use Rattle.object_fold.specs.Queues.{front_after}
use Rattle.object_fold.specs.Transactions.{versions_after}
use Rattle.col_core.specs.History.{entry_key}
use Rattle.col_core.specs.Keeping.{Kept, with_read}
use Rattle.col_core.specs.Laws.{RegionOrderIsUnique}
use Rattle.col_core.specs.Log.{Log}
use Rattle.col_core.specs.Rows.{BegunRow}
use Rattle.col_core.proofs.CallerLemmas.{In, all_in, contains_in}
use Rattle.playback.specs.Laws.{RegionOrderIsLawful}
use Rattle.script_text.specs.Commands.{use_of}
use Rattle.script_text.specs.Fitting.{IsFitting, IsWithin}
use Rattle.script_text.specs.declared.commands.What.{What}
use Rattle.script_text.specs.declared.commands.What.TheVariants as whats
use Rattle.script_text.specs.declared.script.Command.{Command}
use Rattle.script_text.specs.declared.script.Kind.{Kind}
use Rattle.script_text.specs.declared.script.Kind.TheVariants as kinds
use Rattle.script_text.specs.declared.script.Script.{Script}
use Rattle.report_text.specs.declared.report.Answer.{Answer}
use Rattle.report_text.specs.declared.report.Answer.TheVariants as answers
use Rattle.report_text.specs.declared.report.ClientReport.{ClientReport}
use Rattle.report_text.specs.declared.report.KeyAnswer.{KeyAnswer}
use Rattle.report_text.specs.declared.report.PointPiece.{PointPiece}
use Rattle.report_text.specs.declared.report.RaisePiece.{RaisePiece}
use Rattle.report_text.specs.declared.report.ReplyLine.{ReplyLine}
use Rattle.report_text.specs.declared.report.Report.{Report}
use Rattle.report_text.specs.declared.report.SyncPiece.{SyncPiece}
use Rattle.lawful_run.specs.Asks.{kind_asked, kind_used}
use Rattle.lawful_run.specs.Callers.{Caller, caller_of}
use Rattle.lawful_run.specs.Deeds.{AsksForKey, Deed, colours_synced}
use Rattle.lawful_run.specs.Explains.{AnswersKeys, ShowsVerdict}
use Rattle.lawful_run.specs.Laws.{ReadItemsLast}
use Rattle.lawful_run.specs.Objects.{GetsValues, TakesFront}
use Rattle.lawful_run.specs.Parts.{AnswersGet, HasValue}
use Rattle.lawful_run.specs.Reads.{ReadsAt, Syncs}
use Rattle.lawful_run.specs.Refusals.{kept_before}
use Rattle.run_rules.specs.Agreeing.{AreStepsAlike}
use Rattle.run_rules.specs.Answering.{CanGet, CanHave}
use Rattle.run_rules.specs.Deciding.{account_showing, nodes_showing}
use Rattle.run_rules.specs.Finding.{HasItsFinds, IsFound}
use Rattle.run_rules.specs.Keeping.{RulesTo}
use Rattle.run_rules.specs.Laws.{ComputedAccountAgrees, FindsTell}
use Rattle.run_rules.specs.Rules.{IsReplyTo, Rule1}
use Rattle.run_rules.specs.Shown.{AnswersRight, GetsRight, OfMap, OfNodesRead, Rule9, Shows, own_key}
use Rattle.run_rules.specs.Telling.{IsWellFormed, account_of, log_of, no_nodes}
use Rattle.run_rules.specs.Told.{Account, Step, Untold, colours_asked, kept_after_read, kept_at, last_of, stamp_told, with_found}
use Rattle.run_rules.proofs.CallerLemmas.{rule1, rule9, stamp_one}
use Rattle.object_law.specs.NodeTables.{AreNodes, nodes_at}
use Rattle.object_law.specs.ReadNodes.{AreNodesPlayed, AreNodesRead, HasTable}
use Rattle.object_law.specs.Tenth.{AnswersSo, AreValuesAsked, IsMapValue, IsRightAnswer, OfKeyAsked, ShownFindsAreRight, TenthIsRight, line_nodes, stamped_nodes}
use Rattle.walk_law.specs.Walking.{Walked}
use Rattle.object_law.proofs.ReadDecides.{playing_decides, stamped, taking_decides}
use Rattle.walk_law.proofs.CallerLemmas.{before_same}
use Rattle.walk_law.proofs.CallerLemmas.{appended_within, synced_within}
use Rattle.walk_law.proofs.CallerLemmas.{home_low, its_within_shown as its_within, to_bare_shown as to_bare, to_shown, told_shown as told}

-- KEYS

-- what is so of the key for which a command asks
of_key : (what : What) (object : ℕ) (key : List ℕ) (Says : List ℕ → Type 0) → AsksForKey what object key → Says key
    → OfKeyAsked what Says
of_key (whats.Get other k) object key Says a s = subst Says (let g = ap (λ (d : Deed). d.syncs) a.gets in cc (g)) s
of_key (whats.Peek other k) object key Says a s = subst Says (let g = ap (λ (d : Deed). d.syncs) a.gets in cc (g)) s
of_key _ object key Says a s = absurd (let g = ap (λ (d : Deed). d.manner) a.gets in let no : ⊥ = cc (g) in no)

key_of : (what : What) (object : ℕ) (key : List ℕ) (Says : List ℕ → Type 0) → AsksForKey what object key → OfKeyAsked what Says
    → Says key
key_of (whats.Get other k) object key Says a s = subst Says (let g = ap (λ (d : Deed). d.syncs) a.gets in cc (g)) s
key_of (whats.Peek other k) object key Says a s = subst Says (let g = ap (λ (d : Deed). d.syncs) a.gets in cc (g)) s
key_of _ object key Says a s = absurd s

-- the value that a command has of a map is that of the key for which it asks
value_is : (caller : Caller) (what : What) (sync : SyncPiece) (value : Value) (nodes : List ObjectNode) (home : ℕ) (colours : List ℕ)
    → kind_asked caller what ≡ Some (kinds.Map home colours) → AnswersGet caller what sync value nodes
    → OfKeyAsked what (λ key. value ≡ shard_value colours sync.colour nodes key)
value_is caller what sync value nodes home colours at (inl g) =
    let kind : g.0 ≡ Some (kinds.Map home colours) =
    sym g.2.2 ∙ (sym (ap (kind_used caller) g.2.1.uses) ∙ at) in
    of_key what g.2.0 g.1 (λ key. value ≡ shard_value colours sync.colour nodes key) g.2.1
    (subst (λ (k : Option Kind). HasValue k sync.colour g.1 value nodes) kind g.3)
value_is caller what sync value nodes home colours at (inr d) =
    let asks = d.1 in
    let parts : Some (kinds.Parts asks.3 d.0) ≡ Some (kinds.Map home colours) =
    sym asks.4 ∙ (sym (ap (kind_asked caller) asks.2) ∙ at) in
    absurd (let no : ⊥ = cc (parts) in no)

-- VALUES OF KEYS

values_of : (caller : Caller) (what : What) (shown : List KeyAnswer) (read after : Kept) (nodes : List ObjectNode)
    → AnswersKeys caller what shown read after nodes → AreValuesAsked caller what shown nodes
values_of caller what shown read after nodes (inl g) = subst (λ (w : What). AreValuesAsked caller w shown nodes) (sym g.2) g.3
values_of caller what shown read after nodes (inr g) = subst (λ (w : What). AreValuesAsked caller w shown nodes) (sym g.2) g.3

-- what a read found is what the transactions among these nodes left
abbrev FindsLeft : What → List Version → List ObjectNode → Type 0
FindsLeft (whats.Read object asked) found nodes = found ≡ versions_after nodes asked
FindsLeft _ found nodes = Unit {0}

of_values : (caller : Caller) (what : What) (shown : List KeyAnswer) (read : Kept) (found : List Version) (nodes : List ObjectNode)
    → AreValuesAsked caller what shown nodes → FindsLeft what found nodes
    → AnswersKeys caller what shown read (with_found (use_of what) found read) nodes
of_values caller (whats.GetAll object asked) shown read found nodes v f = inl (object, asked, refl, v, refl)
of_values caller (whats.Read object asked) shown read found nodes v f =
    inr (object, asked, refl, v, ap (λ (vs : List Version). with_read read object (Some vs)) f)
of_values caller _ shown read found nodes v f = absurd v

finds_left : (log : Log) (caller : Caller) (what : What) (stamp : ℕ) (shown : List KeyAnswer) (raises : List RaisePiece)
    (syncs : List SyncPiece) (found : List Version) (nodes : List ObjectNode) → AreNodesRead log caller stamp syncs nodes
    → IsFound log caller what (answers.GotKeys stamp shown raises syncs) found → FindsLeft what found nodes
finds_left log caller (whats.Read object asked) stamp shown raises syncs found nodes are f =
    f.4 ∙ ap (λ (ns : List ObjectNode). versions_after ns asked) (are.only f.0 f.2 f.1 f.3)
finds_left log caller _ stamp shown raises syncs found nodes are f = tt

-- THE OWN NODE

-- the stamp of an append rests on the client's next id alone
stamp_ids : (log : Log) (caller : Caller) (k l : Kept) → k.ids ≡ l.ids → (row : Option ℕ) (points : List PointPiece)
    → stamp_told log caller k row points ≡ stamp_told log caller l row points
stamp_ids log caller k l e None [] = refl
stamp_ids log caller k l e None (p ∷ ps) = refl
stamp_ids log caller k l e (Some number) points =
    ap (λ (count : ℕ). final_number (last_of (find (λ (r : BegunRow). same_id (record { client = caller.client; count = count }) r.node.id)
    (log.rows caller.own)))) e

pub own_same : (report : Report) (x y : ℕ → List Node) (caller : Caller) (k l : Kept) → k.ids ≡ l.ids → (row : Option ℕ)
    (points : List PointPiece)
    → own_key caller k (stamp_told (log_of report x) caller k row points) ≡ own_key caller l (stamp_told (log_of report y) caller l row points)
own_same report x y caller k l e row points =
    ap (λ (stamp : ℕ). own_key caller k stamp)
    (stamp_one report x y caller k row points ∙ stamp_ids (log_of report y) caller k l e row points)
    ∙ ap (λ (count : ℕ). entry_key (stamp_told (log_of report y) caller l row points) (record { client = caller.client; count = count })) e

-- THE RULE

module _ (tell : FindsTell) (agrees : ComputedAccountAgrees) (ordered : RegionOrderIsLawful) (unique : RegionOrderIsUnique)
    (last : ReadItemsLast) (script : Script) (report : Report) (table : List (List Node)) (fits : IsFitting script)
    (well : IsWellFormed script report) (has_nodes : AreNodes (nodes_showing script report) table)
    (rules : RulesTo script report (account_showing script report) 9)
    (right : HasItsFinds script report (account_showing script report)) where
  abbrev shown : Account
  shown = account_showing script report

  abbrev bare : Account
  bare = account_of script report no_nodes

  abbrev walked : Walked
  walked = record { script = script; report = report }

  five : RulesTo script report shown 4
  five = rules.0.0.0.0.0

  first : Rule1 script report shown
  first = rule1 rules.0.0.0.0.0.0.0.0.1

  ninth : Rule9 script report shown
  ninth = rule9 rules.1

  has : HasTable script report shown table
  has = record {
    fitting = fits;
    told = told tell agrees script report fits well five;
    rules = rules;
    nodes = has_nodes;
  }

  -- the table has the nodes of the log
  same_log : log_of report (nodes_at table) ≡ shown.log
  same_log = ap (log_of report) (fun_ext (λ client. has_nodes client))

  module _ (n : ℕ) (c : ClientReport) (there : slice_get report.clients n ≡ Some c) where
    abbrev it : Caller
    it = caller_of script n

    home : it.own < script.shape.regions
    home = home_low tell agrees script report fits well five n c there

    is : n < length script.shape.homes
    is =
        let lt = slice_get_within report.clients n c there in
        let names = ap length first.names in
        let long = length-map report.clients (λ (x : ClientReport). x.name) in
        let many = fits.clients in
        omega (arith, lt, names, long, many)

    -- of a command and its answer, to which the rules before hold
    module _ (what : What) (within : IsWithin script.shape.regions script.shape.colours what) (untold : Untold) (k l : Kept)
        (ids : k.ids ≡ l.ids) (lines : List PlacedNode) where
      low : (colour : ℕ) → In colour (colours_synced it what) → colour < script.shape.colours
      low colour i = synced_within script fits n what within colour i

      all_low : All (λ colour. colour < script.shape.colours) (colours_synced it what)
      all_low = all_in (λ colour. colour < script.shape.colours) (colours_synced it what) low

      read_nodes : (kept : Kept) (stamp : ℕ) (raises : List RaisePiece) (syncs : List SyncPiece) (after : Kept)
          → ReadsAt shown.log it kept (colours_synced it what) stamp raises syncs after
          → AreNodesRead shown.log it stamp syncs (stamped_nodes walked table it.own (colours_synced it what) stamp)
      read_nodes kept stamp raises syncs after reads =
          stamped script report shown table has ordered unique last n is kept (colours_synced it what) stamp raises syncs after all_low
          reads

      -- what is said of the nodes read
      read_to : (stamp : ℕ) (syncs : List SyncPiece) (nodes : List ObjectNode) (Says : List ObjectNode → Type 0)
          → AreNodesRead shown.log it stamp syncs nodes → OfNodesRead shown.log it stamp syncs Says → Says nodes
      read_to stamp syncs nodes Says are r = subst Says (are.only r.0 r.2 r.1 r.3) r.4

      read_from : (stamp : ℕ) (syncs : List SyncPiece) (nodes : List ObjectNode) (Says : List ObjectNode → Type 0)
          → AreNodesRead shown.log it stamp syncs nodes → Says nodes → OfNodesRead shown.log it stamp syncs Says
      read_from stamp syncs nodes Says are s = (are.keys, are.are_keys, nodes, are.are_nodes, s)

      played_nodes : (sync : SyncPiece) → sync.colour < script.shape.colours
          → Syncs shown.log it k sync.colour sync.events sync.counts
          → AreNodesPlayed shown.log it sync (line_nodes walked table it.own sync.colour (at sync.counts it.own))
      played_nodes sync small synced = playing_decides script report shown table has n is k sync small synced

      -- A GET

      one_low : (sync : SyncPiece) → colours_synced it what ≡ sync.colour ∷ [] → sync.colour < script.shape.colours
      one_low sync e = low sync.colour (subst (In sync.colour) (sym e) (inl refl))

      got_to : (value : Value) (sync : SyncPiece) (kind : Option Kind) → kind_asked it what ≡ kind → CanGet it what sync value kind
          → Syncs shown.log it k sync.colour sync.events sync.counts → OfMap kind (GetsRight shown.log it what sync value)
          → IsMapValue kind sync.colour what value (line_nodes walked table it.own sync.colour (at sync.counts it.own))
      got_to value sync (Some (kinds.Map home_told colours)) e can synced g =
          let are = played_nodes sync (one_low sync can.1.3) synced in
          value_is it what sync value (line_nodes walked table it.own sync.colour (at sync.counts it.own)) home_told colours e
          (subst (AnswersGet it what sync value) (are.only g.0 g.1) g.2)
      got_to value sync _ e can synced g = tt

      got_from : (value : Value) (sync : SyncPiece) (kind : Option Kind) → kind_asked it what ≡ kind → CanGet it what sync value kind
          → Syncs shown.log it k sync.colour sync.events sync.counts
          → IsMapValue kind sync.colour what value (line_nodes walked table it.own sync.colour (at sync.counts it.own))
          → OfMap kind (GetsRight shown.log it what sync value)
      got_from value sync (Some (kinds.Map home_told colours)) e can synced v =
          let are = played_nodes sync (one_low sync can.1.3) synced in
          let nodes = line_nodes walked table it.own sync.colour (at sync.counts it.own) in (
            nodes,
            are.are_nodes,
            inl (
              Some (kinds.Map home_told colours),
              can.0,
              can.1,
              key_of what can.1.0 can.0 (λ key. value ≡ shard_value colours sync.colour nodes key) can.1.1 v,
            ),
          )
      got_from value sync _ e can synced v = tt

      -- AN ANSWER

      taking : (point : PointPiece) (value : Value) → In point.colour (colours_asked it k what)
          → TakesFront shown.log it point value
          ↔ (value ≡ front_after (line_nodes walked table it.own point.colour point.position))
      taking point value i =
          taking_decides script report shown table has n is point value (appended_within script fits n k what within point.colour i)

      abbrev Right : Answer → Type 0
      Right answer = IsRightAnswer walked table it l what answer

      to : (answer : Answer) → CanHave it k what lines answer → Shows shown.log untold it k what lines answer
          → AnswersRight shown.log untold it k what answer → Right answer
      to (answers.Got value sync) can shows r = got_to value sync (kind_asked it what) refl can.1 shows r
      to (answers.GotMany values sync) can shows r =
          of_key what r.0 r.1 (λ key. GetsValues (log_of report (nodes_at table)) it sync key values) r.2
          (subst (λ (g : Log). GetsValues g it sync r.1 values) (sym same_log) r.4)
      to (answers.GotKeys stamp keys raises syncs) can shows r =
          let nodes = stamped_nodes walked table it.own (colours_synced it what) stamp in
          let read = kept_after_read shown.log it k stamp raises syncs in
          values_of it what keys read (with_found (use_of what) untold.found read) nodes
          (read_to stamp syncs nodes (AnswersKeys it what keys read (with_found (use_of what) untold.found read))
          (read_nodes k stamp raises syncs read shows) r)
      to (answers.Ruled conflict stamp row points read_stamp raises syncs) can shows r =
          let nodes = stamped_nodes walked table it.own (colours_synced it what) read_stamp in
          let own = own_key it k (stamp_told shown.log it k row points) in
          subst (λ (key : Key). ShowsVerdict conflict stamp key nodes)
          (own_same report (nodes_showing script report) no_nodes it k l ids row points)
          (read_to read_stamp syncs nodes (ShowsVerdict conflict stamp own) (read_nodes _ read_stamp raises syncs _ shows) r)
      to (answers.Took value point sync) can shows r =
          (taking point value (subst (In point.colour) can.2.0 (inl refl))).0 r
      to _ can shows r = tt

      from : (answer : Answer) → CanHave it k what lines answer → Shows shown.log untold it k what lines answer
          → IsFound shown.log it what answer untold.found → Right answer → AnswersRight shown.log untold it k what answer
      from (answers.Got value sync) can shows found v = got_from value sync (kind_asked it what) refl can.1 shows v
      from (answers.GotMany values sync) can shows found v = (
        can.1,
        can.2,
        can.3,
        can.4,
        subst (λ (g : Log). GetsValues g it sync can.2 values) same_log
            (key_of what can.1 can.2 (λ key. GetsValues (log_of report (nodes_at table)) it sync key values) can.3 v),
      )
      from (answers.GotKeys stamp keys raises syncs) can shows found v =
          let nodes = stamped_nodes walked table it.own (colours_synced it what) stamp in
          let read = kept_after_read shown.log it k stamp raises syncs in
          let are = read_nodes k stamp raises syncs read shows in
          read_from stamp syncs nodes (AnswersKeys it what keys read (with_found (use_of what) untold.found read)) are
          (of_values it what keys read untold.found nodes v
          (finds_left shown.log it what stamp keys raises syncs untold.found nodes are found))
      from (answers.Ruled conflict stamp row points read_stamp raises syncs) can shows found v =
          let nodes = stamped_nodes walked table it.own (colours_synced it what) read_stamp in
          let own = own_key it k (stamp_told shown.log it k row points) in
          read_from read_stamp syncs nodes (ShowsVerdict conflict stamp own) (read_nodes _ read_stamp raises syncs _ shows)
          (subst (λ (key : Key). ShowsVerdict conflict stamp key nodes)
          (sym (own_same report (nodes_showing script report) no_nodes it k l ids row points)) v)
      from (answers.Took value point sync) can shows found v =
          (taking point value (subst (In point.colour) can.2.0 (inl refl))).1 v
      from _ can shows found v = tt

    -- OF STEPS

    abbrev Keeps : Step → Type 0
    Keeps x = AnswersRight shown.log x.untold it (kept_at x) x.command.what x.reply.answer

    can_of : (x : Step) → In x (shown.steps n) → CanHave it (kept_at x) x.command.what x.reply.nodes x.reply.answer
    can_of x i =
        (All-contains (IsReplyTo it) (shown.steps n) x (first.replies n c there) (contains_in (shown.steps n) x i)).answer

    shows_of : (x : Step) → In x (shown.steps n) → Shows shown.log x.untold it (kept_at x) x.command.what x.reply.nodes x.reply.answer
    shows_of x i =
        All-contains (λ (y : Step). Shows shown.log y.untold it (kept_at y) y.command.what y.reply.nodes y.reply.answer) (shown.steps n) x
        (ninth.shows n c there) (contains_in (shown.steps n) x i)

    found_of : (x : Step) → In x (shown.steps n) → IsFound shown.log it x.command.what x.reply.answer x.untold.found
    found_of x i =
        All-contains (λ (y : Step). IsFound shown.log it y.command.what y.reply.answer y.untold.found) (shown.steps n) x
        (right.found n c there) (contains_in (shown.steps n) x i)

    -- the step of the other account has the same command and reply
    moved : (x y : Step) → AreStepsAlike script it x y
        → IsRightAnswer walked table it (kept_before x.command.what y.kept) x.command.what x.reply.answer ≡ AnswersSo walked table it y
    moved x y s =
        ap (λ (d : Command). IsRightAnswer walked table it (kept_before d.what y.kept) d.what x.reply.answer) s.command
        ∙ ap (λ (r : ReplyLine). IsRightAnswer walked table it (kept_at y) y.command.what r.answer) s.reply

    onto : All Keeps (shown.steps n) → All (AnswersSo walked table it) (bare.steps n)
    onto = to_bare tell agrees script report fits well five n c there Keeps (AnswersSo walked table it) (λ x y i r h.
        subst (λ (T : Type 0). T) (moved x y r.alike)
        (to x.command.what (its_within tell agrees script report fits well five n c there x i) x.untold (kept_at x)
        (kept_before x.command.what y.kept) (before_same r.alike.kept x.command.what).ids x.reply.nodes x.reply.answer (can_of x i)
        (shows_of x i) h))

    back : All (AnswersSo walked table it) (bare.steps n) → All Keeps (shown.steps n)
    back = to_shown tell agrees script report fits well five n c there Keeps (AnswersSo walked table it) (λ x y i r q.
        from x.command.what (its_within tell agrees script report fits well five n c there x i) x.untold (kept_at x)
        (kept_before x.command.what y.kept) (before_same r.alike.kept x.command.what).ids x.reply.nodes x.reply.answer (can_of x i)
        (shows_of x i) (found_of x i) (subst (λ (T : Type 0). T) (sym (moved x y r.alike)) q))

pub tenth_is_right : FindsTell → ComputedAccountAgrees → RegionOrderIsLawful → RegionOrderIsUnique → ReadItemsLast
    → ShownFindsAreRight → TenthIsRight
tenth_is_right tell agrees ordered unique last finds script report table fits well nodes rules = (
  λ so. record {
    right = λ n c there. back tell agrees ordered unique last script report table fits well nodes rules right n c there (so n c there);
  },
  λ rule n c there.
      onto tell agrees ordered unique last script report table fits well nodes rules right n c there (rule.right n c there),
) where
  right : HasItsFinds script report (account_showing script report)
  right = finds script report fits well rules
