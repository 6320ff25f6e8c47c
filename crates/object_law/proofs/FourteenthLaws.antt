-- The fourteenth rule, at the account with what reads found and what decisions say, is what is looked at of each step.
use mathlib.Core.Path.{fun_ext}
use Rattle.std.proofs.Common.{Bool, ◌≡◌, ◌∙◌, refl, ap, sym, subst, ℕ, ◌<◌, List, [], ◌∷◌, length, Option, Some, inl, inr, arith}
use Rattle.std.specs.Prelude.{slice_get}
use Rattle.std.specs.List.{All}
use Rattle.std.proofs.lemmas.List.{length-map}
use Rattle.std.proofs.lemmas.List.Elements.{All-contains}
use Rattle.std.proofs.lemmas.Option.{slice_get_within}
use Rattle.log_node.specs.declared.node.Node.{Node}
use Rattle.log_node.specs.Seen.{PlacedNode}
use Rattle.log_node.specs.Vectors.{at}
use Rattle.object_fold.specs.Maps.{Value}
use Rattle.object_fold.specs.Nodes.{ObjectNode, shard_of}
use Rattle.part_fold.specs.Decisions.{decision_text}
use Rattle.col_core.specs.Keeping.{Kept}
use Rattle.col_core.specs.Laws.{RegionOrderIsUnique}
use Rattle.col_core.specs.Log.{Log}
use Rattle.col_core.proofs.CallerLemmas.{In, all_in, contains_in}
use Rattle.playback.specs.Laws.{RegionOrderIsLawful}
use Rattle.script_text.specs.Fitting.{IsFitting, IsWithin}
use Rattle.script_text.specs.declared.commands.What.{What}
use Rattle.script_text.specs.declared.script.Command.{Command}
use Rattle.script_text.specs.declared.script.Kind.{Kind}
use Rattle.script_text.specs.declared.script.Kind.TheVariants as kinds
use Rattle.script_text.specs.declared.script.Script.{Script}
use Rattle.report_text.specs.declared.report.Answer.{Answer}
use Rattle.report_text.specs.declared.report.Answer.TheVariants as answers
use Rattle.report_text.specs.declared.report.ClientReport.{ClientReport}
use Rattle.report_text.specs.declared.report.Ended.{Ended}
use Rattle.report_text.specs.declared.report.Ended.TheVariants as ends
use Rattle.report_text.specs.declared.report.RaisePiece.{RaisePiece}
use Rattle.report_text.specs.declared.report.ReplyLine.{ReplyLine}
use Rattle.report_text.specs.declared.report.Report.{Report}
use Rattle.report_text.specs.declared.report.SyncPiece.{SyncPiece}
use Rattle.lawful_run.specs.Asks.{kind_asked, object_colours, rising}
use Rattle.lawful_run.specs.Callers.{Caller, caller_of}
use Rattle.lawful_run.specs.Deeds.{colours_synced}
use Rattle.lawful_run.specs.Laws.{ReadItemsLast}
use Rattle.lawful_run.specs.Parts.{AnswersGet, AnswersUndecided, AsksToDecide, IsRuledAs, OfNodesPlayed, OfPart, WaitsFor}
use Rattle.lawful_run.specs.Reads.{Syncs, kept_after_piece}
use Rattle.lawful_run.specs.Refusals.{kept_before}
use Rattle.column_track.specs.Tracks.{Tells}
use Rattle.run_rules.specs.Agreeing.{AreStepsAlike}
use Rattle.run_rules.specs.Answering.{CanGet, CanHave}
use Rattle.run_rules.specs.Computing.{finds_of}
use Rattle.run_rules.specs.Deciding.{ColoursDiffer, account_deciding, decisions_of}
use Rattle.run_rules.specs.Keeping.{Keeps, RulesTo, rule_count}
use Rattle.run_rules.specs.Laws.{ComputedAccountAgrees, ComputedFindsDecide, FindsTell}
use Rattle.run_rules.specs.Nodes.{nodes_with}
use Rattle.run_rules.specs.Rules.{IsReplyTo, Rule1}
use Rattle.run_rules.specs.Shown.{GetsRight, OfNodesRead, OfParts, PartAnswers, ReadsColours, Rule9, SaysSo, Shows}
use Rattle.run_rules.specs.Telling.{IsWellFormed, account_of, log_of, no_nodes}
use Rattle.run_rules.specs.Told.{Account, OfEachStep, Step, Untold, kept_at, kept_deciding}
use Rattle.run_rules.proofs.CallerLemmas.{read_ids, rule1, rule9, rules_fewer}
use Rattle.object_law.specs.Fourteenth.{AnswersByParts, FourteenthIsOfParts, IsPartAnswer, object_nodes, synced_nodes}
use Rattle.object_law.specs.NodeTables.{AreNodes, nodes_at}
use Rattle.object_law.specs.ReadNodes.{AreNodesPlayed, AreNodesRead, HasTable}
use Rattle.object_law.specs.Showing.{FourteenthIsDecided, ShownAreDecided}
use Rattle.walk_law.specs.Walking.{DecidesEachStep, Walked}
use Rattle.walk_law.proofs.CallerLemmas.{its_within, to_bare, to_found, told}
use Rattle.walk_law.proofs.CallerLemmas.{told_as}
use Rattle.object_law.proofs.ReadDecides.{playing_decides, stamped}
use Rattle.walk_law.proofs.CallerLemmas.{before_same}
use Rattle.walk_law.proofs.CallerLemmas.{shards_within, synced_within, whole_within}

-- what the client's next node says rests on its id alone
says_ids : (log : Log) (caller : Caller) (k l : Kept) → k.ids ≡ l.ids → (text : List ℕ) (ended : Ended)
    → SaysSo log caller k text ended → SaysSo log caller l text ended
says_ids log caller k l e text (ends.Stood stamp point) s =
    (s.0, ap (slice_get (log.nodes caller.client)) (sym e) ∙ s.1, s.2 ∙ ap (λ (m : ℕ). record { client = caller.client; count = m }) e, s.3)
says_ids log caller k l e text _ s = tt

module _ (tell : FindsTell) (agrees : ComputedAccountAgrees) (ordered : RegionOrderIsLawful) (unique : RegionOrderIsUnique)
    (last : ReadItemsLast) (script : Script) (report : Report) (table : List (List Node)) (fits : IsFitting script)
    (well : IsWellFormed script report)
    (has_nodes : AreNodes (nodes_with script report (finds_of script report) (decisions_of script report)) table)
    (rules : RulesTo script report (account_deciding script report (decisions_of script report)) 9) where
  abbrev nodes_of : ℕ → List Node
  nodes_of = nodes_with script report (finds_of script report) (decisions_of script report)

  abbrev full : Account
  full = account_deciding script report (decisions_of script report)

  abbrev bare : Account
  bare = account_of script report no_nodes

  abbrev walked : Walked
  walked = record { script = script; report = report }

  four : RulesTo script report full 4
  four = rules.0.0.0.0.0

  first : Rule1 script report full
  first = rule1 rules.0.0.0.0.0.0.0.0.1

  ninth : Rule9 script report full
  ninth = rule9 rules.1

  has : HasTable script report full table
  has = record {
    fitting = fits;
    told = told tell agrees script report nodes_of fits well four;
    rules = rules;
    nodes = has_nodes;
  }

  -- the table has the nodes of the log
  same_log : log_of report (nodes_at table) ≡ full.log
  same_log = ap (log_of report) (fun_ext (λ client. has_nodes client))

  module _ (n : ℕ) (c : ClientReport) (there : slice_get report.clients n ≡ Some c) where
    abbrev it : Caller
    it = caller_of script n

    is : n < length script.shape.homes
    is =
        let lt = slice_get_within report.clients n c there in
        let names = ap length first.names in
        let long = length-map report.clients (λ (x : ClientReport). x.name) in
        let many = fits.clients in
        omega (arith, lt, names, long, many)

    -- of a command, to which the rules before hold
    module _ (what : What) (within : IsWithin script.shape.regions script.shape.colours what) (untold : Untold) (k l : Kept)
        (ids : k.ids ≡ l.ids) (lines : List PlacedNode) where
      -- WHAT A SYNC PLAYED

      one_low : (sync : SyncPiece) → colours_synced it what ≡ sync.colour ∷ [] → sync.colour < script.shape.colours
      one_low sync e = synced_within script fits n what within sync.colour (subst (In sync.colour) (sym e) (inl refl))

      shard_low : (sync : SyncPiece) (colours : List ℕ) → AsksToDecide it what sync colours → sync.colour < script.shape.colours
      shard_low sync colours a =
          let kind = ap object_colours a.4 in
          subst (λ (c : ℕ). c < script.shape.colours)
          (ap (λ (cs : List ℕ). shard_of cs a.1) kind ∙ sym a.5) (shards_within script fits n a.0 a.1)

      played_nodes : (sync : SyncPiece) → sync.colour < script.shape.colours
          → Syncs full.log it k sync.colour sync.events sync.counts
          → AreNodesPlayed full.log it sync (synced_nodes walked table it sync)
      played_nodes sync small synced = playing_decides script report full table has n is k sync small synced

      played_to : (sync : SyncPiece) (Says : List ObjectNode → Type 0) → sync.colour < script.shape.colours
          → Syncs full.log it k sync.colour sync.events sync.counts
          → OfNodesPlayed full.log it sync Says → Says (synced_nodes walked table it sync)
      played_to sync Says small synced p = subst Says ((played_nodes sync small synced).only p.0 p.1) p.2

      played_from : (sync : SyncPiece) (Says : List ObjectNode → Type 0) → sync.colour < script.shape.colours
          → Syncs full.log it k sync.colour sync.events sync.counts
          → Says (synced_nodes walked table it sync) → OfNodesPlayed full.log it sync Says
      played_from sync Says small synced s = (synced_nodes walked table it sync, (played_nodes sync small synced).are_nodes, s)

      got_low : (value : Value) (sync : SyncPiece) (home : ℕ) (colours : List ℕ)
          → CanGet it what sync value (Some (kinds.Parts home colours)) → sync.colour < script.shape.colours
      got_low value sync home colours (inl a) = one_low sync a.1.3
      got_low value sync home colours (inr d) = shard_low sync colours d.0

      got_to : (value : Value) (sync : SyncPiece) (kind : Option Kind) → CanGet it what sync value kind
          → Syncs full.log it k sync.colour sync.events sync.counts → OfParts kind (GetsRight full.log it what sync value)
          → OfParts kind (AnswersGet it what sync value (synced_nodes walked table it sync))
      got_to value sync (Some (kinds.Parts home colours)) can synced g =
          played_to sync (AnswersGet it what sync value) (got_low value sync home colours can) synced g
      got_to value sync _ can synced g = tt

      got_from : (value : Value) (sync : SyncPiece) (kind : Option Kind) → CanGet it what sync value kind
          → Syncs full.log it k sync.colour sync.events sync.counts
          → OfParts kind (AnswersGet it what sync value (synced_nodes walked table it sync))
          → OfParts kind (GetsRight full.log it what sync value)
      got_from value sync (Some (kinds.Parts home colours)) can synced g =
          played_from sync (AnswersGet it what sync value) (got_low value sync home colours can) synced g
      got_from value sync _ can synced g = tt

      -- WHAT A READ READ

      abbrev own : List ℕ
      own = object_colours (kind_asked it what)

      all_low : All (λ colour. colour < script.shape.colours) (rising own)
      all_low = all_in (λ colour. colour < script.shape.colours) (rising own) (whole_within script fits n what)

      read_nodes : (kept : Kept) (stamp : ℕ) (raises : List RaisePiece) (syncs : List SyncPiece)
          → ReadsColours full.log it kept (rising own) stamp raises syncs
          → AreNodesRead full.log it stamp syncs (object_nodes walked table it own stamp)
      read_nodes kept stamp raises syncs reads =
          stamped script report full table has ordered unique last n is kept (rising own) stamp raises syncs _ all_low reads

      read_to : (stamp : ℕ) (syncs : List SyncPiece) (Says : List ObjectNode → Type 0)
          → AreNodesRead full.log it stamp syncs (object_nodes walked table it own stamp)
          → OfNodesRead full.log it stamp syncs Says → Says (object_nodes walked table it own stamp)
      read_to stamp syncs Says are r = subst Says (are.only r.0 r.2 r.1 r.3) r.4

      read_from : (stamp : ℕ) (syncs : List SyncPiece) (Says : List ObjectNode → Type 0)
          → AreNodesRead full.log it stamp syncs (object_nodes walked table it own stamp)
          → Says (object_nodes walked table it own stamp) → OfNodesRead full.log it stamp syncs Says
      read_from stamp syncs Says are s = (are.keys, are.are_keys, object_nodes walked table it own stamp, are.are_nodes, s)

      -- a sync and a read use no id
      deciding_ids : (sync : SyncPiece) (stamp : ℕ) (raises : List RaisePiece) (syncs : List SyncPiece)
          → (kept_deciding full.log it k sync stamp raises syncs).ids ≡ l.ids
      deciding_ids sync stamp raises syncs = read_ids full.log it (kept_after_piece full.log it k sync) stamp raises syncs ∙ ids

      -- AN ANSWER

      abbrev Right : Answer → Type 0
      Right answer = IsPartAnswer walked table it l what answer

      to : (answer : Answer) → CanHave it k what lines answer → Shows full.log untold it k what lines answer
          → PartAnswers full.log it k what answer → Right answer
      to (answers.Got value sync) can shows r = got_to value sync (kind_asked it what) can.1 shows r
      to (answers.Undecided stamp sync) can shows r =
          played_to sync (AnswersUndecided it what sync stamp) (one_low sync can.4.3) shows r
      to (answers.Decided commits stamp sync read_stamp raises syncs ended) can shows r =
          let text = decision_text (record { key = r.0; commits = commits }) in (
            r.0,
            r.1,
            played_to sync (OfPart own sync.colour (WaitsFor (Some r.0))) (shard_low sync can.1 can.2) shows.0 r.2,
            read_to read_stamp syncs (IsRuledAs r.0 commits)
                (read_nodes (kept_after_piece full.log it k sync) read_stamp raises syncs shows.1) r.3,
            subst (λ (g : Log). SaysSo g it l text ended) (sym same_log)
                (says_ids full.log it (kept_deciding full.log it k sync read_stamp raises syncs) l
                (deciding_ids sync read_stamp raises syncs) text ended r.4),
          )
      to _ can shows r = tt

      from : (answer : Answer) → CanHave it k what lines answer → Shows full.log untold it k what lines answer
          → Right answer → PartAnswers full.log it k what answer
      from (answers.Got value sync) can shows r = got_from value sync (kind_asked it what) can.1 shows r
      from (answers.Undecided stamp sync) can shows r =
          played_from sync (AnswersUndecided it what sync stamp) (one_low sync can.4.3) shows r
      from (answers.Decided commits stamp sync read_stamp raises syncs ended) can shows r =
          let text = decision_text (record { key = r.0; commits = commits }) in (
            r.0,
            r.1,
            played_from sync (OfPart own sync.colour (WaitsFor (Some r.0))) (shard_low sync can.1 can.2) shows.0 r.2,
            read_from read_stamp syncs (IsRuledAs r.0 commits)
                (read_nodes (kept_after_piece full.log it k sync) read_stamp raises syncs shows.1) r.3,
            says_ids full.log it l (kept_deciding full.log it k sync read_stamp raises syncs)
                (sym (deciding_ids sync read_stamp raises syncs)) text ended
                (subst (λ (g : Log). SaysSo g it l text ended) same_log r.4),
          )
      from _ can shows r = tt

    -- OF STEPS

    abbrev Said : Step → Type 0
    Said x = PartAnswers full.log it (kept_at x) x.command.what x.reply.answer

    can_of : (x : Step) → In x (full.steps n) → CanHave it (kept_at x) x.command.what x.reply.nodes x.reply.answer
    can_of x i = (All-contains (IsReplyTo it) (full.steps n) x (first.replies n c there) (contains_in (full.steps n) x i)).answer

    shows_of : (x : Step) → In x (full.steps n) → Shows full.log x.untold it (kept_at x) x.command.what x.reply.nodes x.reply.answer
    shows_of x i =
        All-contains (λ (y : Step). Shows full.log y.untold it (kept_at y) y.command.what y.reply.nodes y.reply.answer) (full.steps n) x
        (ninth.shows n c there) (contains_in (full.steps n) x i)

    -- the step of the other account has the same command and reply
    moved : (x y : Step) → AreStepsAlike script it x y
        → IsPartAnswer walked table it (kept_before x.command.what y.kept) x.command.what x.reply.answer
        ≡ AnswersByParts walked table it y
    moved x y s =
        ap (λ (d : Command). IsPartAnswer walked table it (kept_before d.what y.kept) d.what x.reply.answer) s.command
        ∙ ap (λ (r : ReplyLine). IsPartAnswer walked table it (kept_at y) y.command.what r.answer) s.reply

    onto : All Said (full.steps n) → All (AnswersByParts walked table it) (bare.steps n)
    onto = to_bare tell agrees script report nodes_of fits well four n c there Said (AnswersByParts walked table it) (λ x y i r h.
        subst (λ (T : Type 0). T) (moved x y r.alike)
        (to x.command.what (its_within tell agrees script report nodes_of fits well four n c there x i) x.untold (kept_at x)
        (kept_before x.command.what y.kept) (before_same r.alike.kept x.command.what).ids x.reply.nodes x.reply.answer (can_of x i)
        (shows_of x i) h))

    back : All (AnswersByParts walked table it) (bare.steps n) → All Said (full.steps n)
    back = to_found tell agrees script report nodes_of fits well four n c there Said (AnswersByParts walked table it) (λ x y i r q.
        from x.command.what (its_within tell agrees script report nodes_of fits well four n c there x i) x.untold (kept_at x)
        (kept_before x.command.what y.kept) (before_same r.alike.kept x.command.what).ids x.reply.nodes x.reply.answer (can_of x i)
        (shows_of x i) (subst (λ (T : Type 0). T) (sym (moved x y r.alike)) q))

pub fourteenth_is_of_parts : FindsTell → ComputedAccountAgrees → ComputedFindsDecide → RegionOrderIsLawful → RegionOrderIsUnique
    → ReadItemsLast → FourteenthIsOfParts
fourteenth_is_of_parts tell agrees decide ordered unique last script report table fits keeps shown nodes = (
  λ so. record { part = λ n c there. back tell agrees ordered unique last script report table fits at_it.0 nodes nine n c there (so n c there) },
  λ rule n c there.
      onto tell agrees ordered unique last script report table fits at_it.0 nodes nine n c there (rule.part n c there),
) where
  full : Account
  full = account_deciding script report (decisions_of script report)

  at_it : IsWellFormed script report × RulesTo script report full 13
  at_it =
      (decide script report (decisions_of script report) fits
      (λ n c there i d lt text e said own. shown n c there i d lt text e) 13 (omega arith) (omega arith)).0 keeps

  nine : RulesTo script report full 9
  nine = rules_fewer script report full 13 9 (omega arith) at_it.1

-- what is told of the steps is told of the report
pub fourteenth_told : FourteenthIsDecided → FourteenthIsOfParts → (script : Script) (report : Report) (table : List (List Node))
    → IsFitting script → ColoursDiffer script → Keeps script report 13 → ShownAreDecided script report
    → AreNodes (nodes_with script report (finds_of script report) (decisions_of script report)) table → (b : Bool)
    → DecidesEachStep (record { script = script; report = report })
    (AnswersByParts (record { script = script; report = report }) table) b
    → Tells b (Keeps script report rule_count)
fourteenth_told decided parts script report table fits differ keeps shown nodes b told_steps =
    let both = decided script report fits differ keeps in
    let law = parts script report table fits keeps shown nodes in
    told_as b (OfEachStep script report (account_of script report no_nodes)
    (AnswersByParts (record { script = script; report = report }) table)) (Keeps script report rule_count)
    (λ so. both.0 (shown, law.0 so)) (λ k. law.1 (both.1 k).1) (told_steps no_nodes)
