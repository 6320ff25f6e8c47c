-- The thirteenth rule, at the account with what reads found and node lines show, is what trees say of each step.
use Rattle.std.proofs.Common.{◌≡◌, ◌∙◌, refl, ap, sym, subst, Bool, ℕ, ◌<◌, List, length, Some, arith}
use Rattle.std.specs.Prelude.{slice_get}
use Rattle.std.specs.List.{All}
use Rattle.std.proofs.lemmas.List.{length-map}
use Rattle.std.proofs.lemmas.List.Elements.{All-contains}
use Rattle.std.proofs.lemmas.Option.{slice_get_within}
use Rattle.log_node.specs.declared.ids.Key.{Key}
use Rattle.log_node.specs.declared.node.Node.{Node}
use Rattle.log_node.specs.Seen.{PlacedNode}
use Rattle.object_fold.specs.Nodes.{ObjectNode}
use Rattle.col_core.specs.Keeping.{Kept}
use Rattle.col_core.specs.Laws.{RegionOrderIsUnique}
use Rattle.col_core.proofs.CallerLemmas.{In, all_in, contains_in}
use Rattle.playback.specs.Laws.{RegionOrderIsLawful}
use Rattle.script_text.specs.Fitting.{IsFitting, IsWithin}
use Rattle.script_text.specs.declared.commands.What.{What}
use Rattle.script_text.specs.declared.commands.What.TheVariants as whats
use Rattle.script_text.specs.declared.script.Command.{Command}
use Rattle.script_text.specs.declared.script.Script.{Script}
use Rattle.report_text.specs.declared.report.Answer.{Answer}
use Rattle.report_text.specs.declared.report.Answer.TheVariants as answers
use Rattle.report_text.specs.declared.report.ClientReport.{ClientReport}
use Rattle.report_text.specs.declared.report.RaisePiece.{RaisePiece}
use Rattle.report_text.specs.declared.report.ReplyLine.{ReplyLine}
use Rattle.report_text.specs.declared.report.Report.{Report}
use Rattle.report_text.specs.declared.report.SyncPiece.{SyncPiece}
use Rattle.column_track.specs.Tracks.{Tells}
use Rattle.lawful_run.specs.Callers.{Caller, caller_of}
use Rattle.lawful_run.specs.Deeds.{colours_synced}
use Rattle.lawful_run.specs.Explains.{ShowsChange, ShowsNames}
use Rattle.lawful_run.specs.Laws.{ReadItemsLast}
use Rattle.lawful_run.specs.Reads.{ReadsAt}
use Rattle.lawful_run.specs.Refusals.{kept_before}
use Rattle.run_rules.specs.Agreeing.{AreStepsAlike}
use Rattle.run_rules.specs.Deciding.{account_showing, nodes_showing}
use Rattle.run_rules.specs.Keeping.{RulesTo}
use Rattle.run_rules.specs.Laws.{ComputedAccountAgrees, FindsTell}
use Rattle.run_rules.specs.Rules.{Rule1}
use Rattle.run_rules.specs.Shown.{OfNodesRead, Rule13, Rule9, Shows, TreeAnswers, own_key}
use Rattle.run_rules.specs.Telling.{IsWellFormed, account_of, no_nodes}
use Rattle.run_rules.specs.Told.{Account, OfEachStep, Step, Untold, kept_at, stamp_told}
use Rattle.run_rules.proofs.CallerLemmas.{rule1, rule9, rules_fewer}
use Rattle.object_law.specs.NodeTables.{AreNodes}
use Rattle.object_law.specs.ReadNodes.{AreNodesRead, HasTable}
use Rattle.object_law.specs.Tenth.{stamped_nodes}
use Rattle.object_law.specs.Thirteenth.{IsTreeAnswer, OfPathAsked, ThirteenthIsSaid, TreesSaySo}
use Rattle.walk_law.specs.Walking.{DecidesEachStep, Walked}
use Rattle.object_law.proofs.ReadDecides.{stamped}
use Rattle.walk_law.proofs.CallerLemmas.{before_same, told_as}
use Rattle.walk_law.proofs.CallerLemmas.{synced_within}
use Rattle.walk_law.proofs.CallerLemmas.{its_within_shown as its_within, to_bare_shown as to_bare, to_shown, told_shown as told}
use Rattle.object_law.proofs.TenthLaws.{own_same}

module _ (tell : FindsTell) (agrees : ComputedAccountAgrees) (ordered : RegionOrderIsLawful) (unique : RegionOrderIsUnique)
    (last : ReadItemsLast) (script : Script) (report : Report) (table : List (List Node)) (fits : IsFitting script)
    (well : IsWellFormed script report) (has_nodes : AreNodes (nodes_showing script report) table)
    (rules : RulesTo script report (account_showing script report) 9) where
  abbrev shown : Account
  shown = account_showing script report

  abbrev bare : Account
  bare = account_of script report no_nodes

  abbrev walked : Walked
  walked = record { script = script; report = report }

  four : RulesTo script report shown 4
  four = rules.0.0.0.0.0

  first : Rule1 script report shown
  first = rule1 rules.0.0.0.0.0.0.0.0.1

  ninth : Rule9 script report shown
  ninth = rule9 rules.1

  has : HasTable script report shown table
  has = record {
    fitting = fits;
    told = told tell agrees script report fits well four;
    rules = rules;
    nodes = has_nodes;
  }

  module _ (n : ℕ) (c : ClientReport) (there : slice_get report.clients n ≡ Some c) where
    abbrev it : Caller
    it = caller_of script n

    is : n < length script.shape.homes
    is =
        let lt = slice_get_within report.clients n c there in
        let names = ap length first.names in
        let long = length-map report.clients (λ (x : ClientReport). x.name) in
        let many = fits.clients in
        omega (arith, lt, names, long, many)

    -- of a command and its answer, to which the rules before hold
    module _ (what : What) (within : IsWithin script.shape.regions script.shape.colours what) (untold : Untold) (k l : Kept)
        (ids : k.ids ≡ l.ids) (lines : List PlacedNode) where
      all_low : All (λ colour. colour < script.shape.colours) (colours_synced it what)
      all_low =
          all_in (λ colour. colour < script.shape.colours) (colours_synced it what)
          (λ colour i. synced_within script fits n what within colour i)

      -- the nodes that a stamped read of its colours read
      abbrev nodes_to : ℕ → List ObjectNode
      nodes_to stamp = stamped_nodes walked table it.own (colours_synced it what) stamp

      read_nodes : (kept : Kept) (stamp : ℕ) (raises : List RaisePiece) (syncs : List SyncPiece) (after : Kept)
          → ReadsAt shown.log it kept (colours_synced it what) stamp raises syncs after
          → AreNodesRead shown.log it stamp syncs (nodes_to stamp)
      read_nodes kept stamp raises syncs after reads =
          stamped script report shown table has ordered unique last n is kept (colours_synced it what) stamp raises syncs after all_low
          reads

      read_to : (stamp : ℕ) (syncs : List SyncPiece) (Says : List ObjectNode → Type 0)
          → AreNodesRead shown.log it stamp syncs (nodes_to stamp) → OfNodesRead shown.log it stamp syncs Says → Says (nodes_to stamp)
      read_to stamp syncs Says are r = subst Says (are.only r.0 r.2 r.1 r.3) r.4

      read_from : (stamp : ℕ) (syncs : List SyncPiece) (Says : List ObjectNode → Type 0)
          → AreNodesRead shown.log it stamp syncs (nodes_to stamp) → Says (nodes_to stamp) → OfNodesRead shown.log it stamp syncs Says
      read_from stamp syncs Says are s = (are.keys, are.are_keys, nodes_to stamp, are.are_nodes, s)

      to : (answer : Answer) → Shows shown.log untold it k what lines answer → TreeAnswers shown.log it k what answer
          → IsTreeAnswer walked table it l what answer
      to (answers.Changed failed stamp row points read_stamp raises syncs) shows r =
          let own = own_key it k (stamp_told shown.log it k row points) in
          subst (λ (key : Key). ShowsChange failed stamp key (nodes_to read_stamp))
          (own_same report (nodes_showing script report) no_nodes it k l ids row points)
          (read_to read_stamp syncs (ShowsChange failed stamp own) (read_nodes _ read_stamp raises syncs _ shows) r)
      to (answers.Listed names stamp raises syncs) shows r =
          subst (λ (w : What). OfPathAsked w (λ path. ShowsNames path names (nodes_to stamp))) (sym r.2)
          (read_to stamp syncs (ShowsNames r.1 names) (read_nodes k stamp raises syncs _ shows) r.3)
      to _ shows r = tt

      path_is : (w : What) (Says : List ℕ → Type 0) → OfPathAsked w Says
          → (object : ℕ) × (path : List ℕ) × (w ≡ whats.Ls object path) × Says path
      path_is (whats.Ls object path) Says s = (object, path, refl, s)
      path_is _ Says s = absurd s

      from : (answer : Answer) → Shows shown.log untold it k what lines answer → IsTreeAnswer walked table it l what answer
          → TreeAnswers shown.log it k what answer
      from (answers.Changed failed stamp row points read_stamp raises syncs) shows v =
          let own = own_key it k (stamp_told shown.log it k row points) in
          read_from read_stamp syncs (ShowsChange failed stamp own) (read_nodes _ read_stamp raises syncs _ shows)
          (subst (λ (key : Key). ShowsChange failed stamp key (nodes_to read_stamp))
          (sym (own_same report (nodes_showing script report) no_nodes it k l ids row points)) v)
      from (answers.Listed names stamp raises syncs) shows v =
          let p = path_is what (λ path. ShowsNames path names (nodes_to stamp)) v in (
            p.0,
            p.1,
            p.2,
            read_from stamp syncs (ShowsNames p.1 names) (read_nodes k stamp raises syncs _ shows) p.3,
          )
      from _ shows v = tt

    -- OF STEPS

    abbrev Keeps : Step → Type 0
    Keeps x = TreeAnswers shown.log it (kept_at x) x.command.what x.reply.answer

    shows_of : (x : Step) → In x (shown.steps n) → Shows shown.log x.untold it (kept_at x) x.command.what x.reply.nodes x.reply.answer
    shows_of x i =
        All-contains (λ (y : Step). Shows shown.log y.untold it (kept_at y) y.command.what y.reply.nodes y.reply.answer) (shown.steps n) x
        (ninth.shows n c there) (contains_in (shown.steps n) x i)

    -- the step of the other account has the same command and reply
    moved : (x y : Step) → AreStepsAlike script it x y
        → IsTreeAnswer walked table it (kept_before x.command.what y.kept) x.command.what x.reply.answer ≡ TreesSaySo walked table it y
    moved x y s =
        ap (λ (d : Command). IsTreeAnswer walked table it (kept_before d.what y.kept) d.what x.reply.answer) s.command
        ∙ ap (λ (r : ReplyLine). IsTreeAnswer walked table it (kept_at y) y.command.what r.answer) s.reply

    onto : All Keeps (shown.steps n) → All (TreesSaySo walked table it) (bare.steps n)
    onto = to_bare tell agrees script report fits well four n c there Keeps (TreesSaySo walked table it) (λ x y i r h.
        subst (λ (T : Type 0). T) (moved x y r.alike)
        (to x.command.what (its_within tell agrees script report fits well four n c there x i) x.untold (kept_at x)
        (kept_before x.command.what y.kept) (before_same r.alike.kept x.command.what).ids x.reply.nodes x.reply.answer (shows_of x i) h))

    back : All (TreesSaySo walked table it) (bare.steps n) → All Keeps (shown.steps n)
    back = to_shown tell agrees script report fits well four n c there Keeps (TreesSaySo walked table it) (λ x y i r q.
        from x.command.what (its_within tell agrees script report fits well four n c there x i) x.untold (kept_at x)
        (kept_before x.command.what y.kept) (before_same r.alike.kept x.command.what).ids x.reply.nodes x.reply.answer (shows_of x i)
        (subst (λ (T : Type 0). T) (sym (moved x y r.alike)) q))

pub thirteenth_is_said : FindsTell → ComputedAccountAgrees → RegionOrderIsLawful → RegionOrderIsUnique → ReadItemsLast
    → ThirteenthIsSaid
thirteenth_is_said tell agrees ordered unique last script report table fits well nodes rules = (
  λ so. record { tree = λ n c there. back tell agrees ordered unique last script report table fits well nodes rules n c there (so n c there) },
  λ rule n c there. onto tell agrees ordered unique last script report table fits well nodes rules n c there (rule.tree n c there),
)

-- what is told of the steps is told of the report
pub thirteenth_told : ThirteenthIsSaid → (script : Script) (report : Report) (table : List (List Node)) → IsFitting script
    → IsWellFormed script report → AreNodes (nodes_showing script report) table
    → RulesTo script report (account_showing script report) 12 → (b : Bool)
    → DecidesEachStep (record { script = script; report = report }) (TreesSaySo (record { script = script; report = report }) table) b
    → Tells b (Rule13 script report (account_showing script report))
thirteenth_told said script report table fits well nodes rules b told_steps =
    let law = said script report table fits well nodes
    (rules_fewer script report (account_showing script report) 12 9 (omega arith) rules) in
    told_as b (OfEachStep script report (account_of script report no_nodes)
    (TreesSaySo (record { script = script; report = report }) table)) (Rule13 script report (account_showing script report))
    law.0 law.1 (told_steps no_nodes)
