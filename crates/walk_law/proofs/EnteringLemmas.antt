-- From what is told of a node to what is told of its step, of a client and of the report.
use Rattle.std.proofs.Common.{◌≡◌, ◌∙◌, refl, ap, sym, subst, inl, inr, Bool, true, false, ℕ, zero, suc, ◌+◌, ◌<◌, ◌≤◌, List, [], length, Option, Some, None, get_or, arith}
use Rattle.std.specs.Prelude.{IsTrue, slice_get}
use Rattle.std.specs.List.{All}
use Rattle.std.proofs.lemmas.Bool.{cases_lt}
use Rattle.std.proofs.lemmas.Option.{slice_get_within}
use Rattle.log_node.specs.declared.ids.Id.{Id}
use Rattle.log_node.proofs.CallerLemmas.{get_within, same_some}
use Rattle.col_core.specs.Log.{Log}
use Rattle.col_core.specs.Keeping.{Kept}
use Rattle.script_text.specs.declared.commands.What.{What}
use Rattle.script_text.specs.declared.script.Command.{Command}
use Rattle.script_text.specs.declared.script.Script.{Script}
use Rattle.report_text.specs.declared.report.Answer.{Answer}
use Rattle.report_text.specs.declared.report.Answer.TheVariants as answers
use Rattle.report_text.specs.declared.report.Ended.{Ended}
use Rattle.report_text.specs.declared.report.Ended.TheVariants as ends
use Rattle.report_text.specs.declared.report.PointPiece.{PointPiece}
use Rattle.report_text.specs.declared.report.RaisePiece.{RaisePiece}
use Rattle.report_text.specs.declared.report.SyncPiece.{SyncPiece}
use Rattle.report_text.specs.declared.report.ReplyLine.{ReplyLine}
use Rattle.report_text.specs.declared.report.Report.{Report}
use Rattle.lawful_run.specs.Callers.{Caller, caller_of, commands_of}
use Rattle.lawful_run.specs.Refusals.{kept_behind}
use Rattle.column_track.specs.Tracks.{Tells, Tracked}
use Rattle.run_rules.specs.Told.{Step, colours_asked, is_several, kept_after_end, kept_appending, kept_at, kept_deciding, kept_past, kept_told}
use Rattle.run_rules.specs.Telling.{account_of, no_nodes, replies_to}
use Rattle.run_rules.specs.Rules.{EntersAsNode, Rule4}
use Rattle.run_rules.specs.Nodes.{nodes_told}
use Rattle.run_rules.specs.Keeping.{RulesTo, four, one, three, two}
use Rattle.walk_law.specs.declared.row_places.RowPlaces.{RowPlaces}
use Rattle.walk_law.specs.Fifth.{EntersBeside, EntersItsNodes, EntersItsOwn, EntersNode, EntersSo, FifthIsEntering, Finding, HasItsRows, HasNextRow, OfAppended, OfEnd, OfNode, finding_in, next_id, row_ids}
use Rattle.walk_law.specs.Keepings.{Counted, IsCounted}
use Rattle.walk_law.specs.PlaceTables.{row_with}
use Rattle.walk_law.specs.RowPlaces.{AreRowPlaces}
use Rattle.walk_law.specs.Walking.{IsSeen, MayWalk, Walked, WalksTo, log_walked}

-- A NODE

pub beside_told : (find : Finding) (colours : ℕ) (log : Log) (caller : Caller) (what : What) (kept : Kept) (row : Option ℕ)
    (points : List PointPiece) (own : ℕ) (asked : List ℕ) → own ≡ caller.own → asked ≡ colours_asked caller kept what
    → EntersAsNode log caller kept row points → (b : Bool)
    → Tells b (HasNextRow colours log caller kept asked (find own (next_id caller kept)))
    → Tells b (EntersBeside find colours log caller what kept row points)
beside_told find colours log caller what kept row points own asked home are enters true has = record {
  enters = enters;
  beside = subst (λ (l : List ℕ). HasNextRow colours log caller kept l (find caller.own (next_id caller kept))) are
      (subst (λ (r : ℕ). HasNextRow colours log caller kept asked (find r (next_id caller kept))) home has);
}
beside_told find colours log caller what kept row points own asked home are enters false fails = λ is.
    fails (subst (λ (r : ℕ). HasNextRow colours log caller kept asked (find r (next_id caller kept))) (sym home)
    (subst (λ (l : List ℕ). HasNextRow colours log caller kept l (find caller.own (next_id caller kept))) (sym are) is.beside))

module _ (P : Kept → Option ℕ → List PointPiece → Type 0) where
  -- no stamp was left for an append to several colours
  pub several_told : (caller : Caller) (kept : Kept) (what : What) (answer : Answer) (colour : ℕ) → answer ≡ answers.StampEnd colour
      → is_several caller kept what ≡ true → (b : Bool) → Tells b (P kept None []) → Tells b (OfAppended P caller kept what answer)
  several_told caller kept what answer colour is several b told =
      subst (λ (a : Answer). Tells b (OfAppended P caller kept what a)) (sym is) (by b told) where
        by : (t : Bool) → Tells t (P kept None []) → Tells t (IsTrue (is_several caller kept what) → P kept None [])
        by true has = λ s. has
        by false fails = λ f. fails (f several)

  -- what is asked when the node is appended is what is asked of it
  node_told : (log : Log) (caller : Caller) (kept : Kept) (what : What) (answer : Answer) (b : Bool)
      → Tells b (OfAppended P caller (kept_appending log caller kept answer) what answer)
      → Tells b (OfNode P log caller kept what answer)
  node_told log caller kept what (answers.Decided commits stamp sync read_stamp raises syncs ended) b told = told
  node_told log caller kept what _ b told = told

-- what follows for each node
module _ (P Q : Kept → Option ℕ → List PointPiece → Type 0) (more : (k : Kept) (row : Option ℕ) (points : List PointPiece)
    → P k row points → Q k row points) (caller : Caller) (what : What) where
  end_more : (kept : Kept) (ended : Ended) → OfEnd P kept ended → OfEnd Q kept ended
  end_more kept (ends.Stood stamp point) is = more kept None _ is
  end_more kept _ is = tt

  node_more : (log : Log) (kept : Kept) (answer : Answer) → OfNode P log caller kept what answer → OfNode Q log caller kept what answer
  node_more log kept (answers.Stood stamp row points) is = more kept row points is
  node_more log kept (answers.StampEnd colour) is = λ t. more kept None [] (is t)
  node_more log kept (answers.Stopped zero) is = tt
  node_more log kept (answers.Stopped (suc steps)) is = more kept None [] is
  node_more log kept (answers.Ruled conflict stamp row points read_stamp raises syncs) is = more kept row points is
  node_more log kept (answers.Changed failed stamp row points read_stamp raises syncs) is = more kept row points is
  node_more log kept (answers.Took value point sync) is = more kept None _ is
  node_more log kept (answers.Decided commits stamp sync read_stamp raises syncs ended) is =
      end_more (kept_deciding log caller kept sync read_stamp raises syncs) ended is
  node_more log kept _ is = tt

-- as rows are found
found_so : (find other : Finding) → ((region : ℕ) (id : Id) → find region id ≡ other region id) → (walked : Walked) (caller : Caller)
    (step : Step) → EntersNode find walked caller step → EntersNode other walked caller step
found_so find other same walked caller step =
    node_more (Beside find) (Beside other)
    (λ k row points is. record {
      enters = is.enters;
      beside = subst (HasNextRow walked.script.shape.colours (log_walked walked) caller k (colours_asked caller k step.command.what))
          (same caller.own (next_id caller k)) is.beside;
    })
    caller step.command.what (log_walked walked) (kept_at step) step.reply.answer where
      Beside : Finding → Kept → Option ℕ → List PointPiece → Type 0
      Beside f = EntersBeside f walked.script.shape.colours (log_walked walked) caller step.command.what

-- A STEP

-- the answer is none to a decide that was open
abbrev pub IsPlain : Answer → Type 0
IsPlain answer = (commits : Bool) (stamp : ℕ) (sync : SyncPiece) (read_stamp : ℕ) (raises : List RaisePiece) (syncs : List SyncPiece)
    (ended : Ended) → answer ≡ answers.Decided commits stamp sync read_stamp raises syncs ended → ⊥

pub appending_same : (log : Log) (caller : Caller) (kept : Kept) (answer : Answer) → IsPlain answer
    → kept_appending log caller kept answer ≡ kept
appending_same log caller kept (answers.Decided commits stamp sync read_stamp raises syncs ended) plain =
    absurd (plain commits stamp sync read_stamp raises syncs ended refl)
appending_same log caller kept _ plain = refl

module _ (walked : Walked) (client place : ℕ) where
  abbrev log : Log
  log = log_walked walked

  abbrev caller : Caller
  caller = caller_of walked.script client

  abbrev replies : List ReplyLine
  replies = replies_to walked.report client

  module _ (before : Counted) (step : Step) (seen : IsSeen walked client place before step) (reply : ReplyLine)
      (replied : slice_get replies place ≡ Some reply) where
    pub reply_is : step.reply ≡ reply
    reply_is = same_some (sym seen.reply ∙ replied)

    -- it is seen so before its node is appended
    pub seen_appending : (now : Counted) → IsPlain reply.answer
        → IsCounted replies (kept_appending log caller (kept_at step) step.reply.answer) now → IsSeen walked client place now step
    seen_appending now plain counted = record {
      command = seen.command;
      reply = seen.reply;
      untold = seen.untold;
      kept = subst (λ (k : Kept). IsCounted replies k now)
          (appending_same log caller (kept_at step) step.reply.answer (subst (λ (r : ReplyLine). IsPlain r.answer) (sym reply_is) plain))
          counted;
      can = seen.can;
    }

    -- what is kept is counted when its node is appended
    pub counted_appending : (now : Counted) → IsCounted replies (kept_appending log caller (kept_at step) reply.answer) now
        → IsCounted replies (kept_appending log caller (kept_at step) step.reply.answer) now
    counted_appending now =
        subst (λ (r : ReplyLine). IsCounted replies (kept_appending log caller (kept_at step) r.answer) now) (sym reply_is)

    module _ (command : Command) (asks : slice_get (commands_of walked.script client) place ≡ Some command) where
      command_is : step.command ≡ command
      command_is = same_some (sym seen.command ∙ asks)

      -- what is told of the node is told of the step
      pub step_told : (table : RowPlaces) (b : Bool)
          → Tells b (OfAppended (EntersSo table walked client command.what) caller (kept_appending log caller (kept_at step) reply.answer)
          command.what reply.answer) → Tells b (EntersNode (finding_in table walked.report.rows) walked caller step)
      step_told table b told =
          subst (λ (r : ReplyLine). Tells b (OfNode (EntersSo table walked client step.command.what) log caller (kept_at step)
          step.command.what r.answer)) (sym reply_is)
          (subst (λ (c : Command). Tells b (OfNode (EntersSo table walked client c.what) log caller (kept_at step) c.what reply.answer))
          (sym command_is) (node_told (EntersSo table walked client command.what) log caller (kept_at step) command.what reply.answer b told))

      -- behind a decision's end
      pub decided_past : (commits : Bool) (stamp : ℕ) (sync : SyncPiece) (read_stamp : ℕ) (raises : List RaisePiece)
          (syncs : List SyncPiece) (ended : Ended) → reply.answer ≡ answers.Decided commits stamp sync read_stamp raises syncs ended
          → (now middle new : Counted) → IsCounted replies (kept_appending log caller (kept_at step) step.reply.answer) now
          → ((k : Kept) → IsCounted replies k now → IsCounted replies (kept_after_end step.untold caller k ended) middle)
          → ((k : Kept) → IsCounted replies k middle → IsCounted replies (kept_behind command.what k) new)
          → IsCounted replies (kept_past log caller step) new
      decided_past commits stamp sync read_stamp raises syncs ended is now middle new counted ends_so behind =
          subst (λ (c : Command). IsCounted replies (kept_behind c.what
          (kept_told log step.untold caller (kept_at step) step.command.what step.reply.answer)) new) (sym command_is)
          (subst (λ (a : Answer). IsCounted replies (kept_behind command.what
          (kept_told log step.untold caller (kept_at step) step.command.what a)) new) (sym answer_is)
          (behind (kept_after_end step.untold caller deciding ended) (ends_so deciding
          (subst (λ (a : Answer). IsCounted replies (kept_appending log caller (kept_at step) a) now) answer_is counted)))) where
            deciding : Kept
            deciding = kept_deciding log caller (kept_at step) sync read_stamp raises syncs

            answer_is : step.reply.answer ≡ answers.Decided commits stamp sync read_stamp raises syncs ended
            answer_is = ap (λ (r : ReplyLine). r.answer) reply_is ∙ is

-- ONE CLIENT

module _ (walked : Walked) (client : ℕ) (table : RowPlaces) (are : AreRowPlaces walked.report.rows table) where
  abbrev steps : List Step
  steps = (account_of walked.script walked.report no_nodes).steps client

  -- what a walk asks of a step, and what is looked at
  abbrev Asked : Step → Type 0
  Asked = EntersNode (finding_in table walked.report.rows) walked (caller_of walked.script client)

  abbrev Looked : Step → Type 0
  Looked = EntersNode (λ region id. row_with region id walked.report.rows) walked (caller_of walked.script client)

  asked_looked : All Asked steps → All Looked steps
  asked_looked all k d lt =
      found_so (finding_in table walked.report.rows) (λ region id. row_with region id walked.report.rows) are walked
      (caller_of walked.script client) (get_or steps k d) (all k d lt)

  looked_asked : All Looked steps → All Asked steps
  looked_asked all k d lt =
      found_so (λ region id. row_with region id walked.report.rows) (finding_in table walked.report.rows)
      (λ region id. sym (are region id)) walked (caller_of walked.script client) (get_or steps k d) (all k d lt)

  pub own_off : (o : Option Counted) → o ≡ None → WalksTo walked client Asked o → EntersItsOwn walked.script walked.report client → ⊥
  own_off o is to own = subst (WalksTo walked client Asked) is to (looked_asked own.steps)

  pub own_told : (o : Option Counted) (counted : Counted) → o ≡ Some counted → WalksTo walked client Asked o
      → (ids : List ℕ) → ids ≡ row_ids walked.script client walked.report.rows
      → (b : Bool) → Tells b (HasItsRows counted.ids counted.rows ids) → Tells b (EntersItsOwn walked.script walked.report client)
  own_told o counted is to ids are_ids = by where
    walk : WalksTo walked client Asked (Some counted)
    walk = subst (WalksTo walked client Asked) is to

    last : Kept
    last = (account_of walked.script walked.report no_nodes).last client

    there : HasItsRows counted.ids counted.rows ids → HasItsRows last.ids last.rows (row_ids walked.script client walked.report.rows)
    there rows =
        subst (HasItsRows last.ids last.rows) are_ids
        (subst (λ (n : ℕ). HasItsRows last.ids n ids) walk.1.rows (subst (λ (n : ℕ). HasItsRows n counted.rows ids) walk.1.ids rows))

    back : HasItsRows last.ids last.rows (row_ids walked.script client walked.report.rows) → HasItsRows counted.ids counted.rows ids
    back rows =
        subst (λ (n : ℕ). HasItsRows n counted.rows ids) (sym walk.1.ids)
        (subst (λ (n : ℕ). HasItsRows last.ids n ids) (sym walk.1.rows) (subst (HasItsRows last.ids last.rows) (sym are_ids) rows))

    by : (b : Bool) → Tells b (HasItsRows counted.ids counted.rows ids) → Tells b (EntersItsOwn walked.script walked.report client)
    by true rows = record { steps = asked_looked walk.0; rows = there rows }
    by false fails = λ own. fails (back own.rows)

-- ALL CLIENTS

module _ (script : Script) (report : Report) where
  pub own_among : (n : ℕ) → n < length report.clients → EntersItsNodes script report → EntersItsOwn script report n
  own_among n lt is =
      let c = get_within report.clients n lt in
      record { steps = is.steps n c.0 c.1; rows = is.rows n c.0 c.1 }

  pub own_next : (n : ℕ) → ((k : ℕ) → k < n → EntersItsOwn script report k) → EntersItsOwn script report n
      → (k : ℕ) → k < n + 1 → EntersItsOwn script report k
  own_next n before here k lt = elim (cases_lt k n) [
    | inl less ↦ before k less
    | inr ge ↦ subst (EntersItsOwn script report) (let e : n ≡ k = omega (arith, lt, ge) in e) here
  ]

  pub own_all : (n : ℕ) → length report.clients ≤ n → ((k : ℕ) → k < n → EntersItsOwn script report k) → EntersItsNodes script report
  own_all n ge own = record {
    steps = λ k c at. (own k (let lt = slice_get_within report.clients k c at in omega (arith, lt, ge))).steps;
    rows = λ k c at. (own k (let lt = slice_get_within report.clients k c at in omega (arith, lt, ge))).rows;
  }

  -- THE RULE

  pub fifth_told : FifthIsEntering → (tracks : List Tracked) → MayWalk script report tracks
      → Rule4 script report (account_of script report no_nodes) → (b : Bool) → Tells b (EntersItsNodes script report)
      → Tells b (RulesTo script report (account_of script report (nodes_told script report)) 5)
  fifth_told law tracks may fourth = by where
    rules : RulesTo script report (account_of script report no_nodes) 4
    rules = ((((tt, one may.first), two may.second), three may.third), four fourth)

    by : (b : Bool) → Tells b (EntersItsNodes script report)
        → Tells b (RulesTo script report (account_of script report (nodes_told script report)) 5)
    by true is = (law script report may.fitting may.formed rules).0 is
    by false fails = λ kept. fails ((law script report may.fitting may.formed rules).1 kept)
