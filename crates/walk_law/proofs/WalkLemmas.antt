-- How a walk goes on from step to step.
use Rattle.std.proofs.Common.{◌≡◌, ◌⊎◌, ℕ, zero, suc, ◌+◌, ◌<◌, ◌≤◌, ◌^◌, Bool, true, false, List, [], ◌∷◌, length, map, take, Option, Some, None, inl, inr, refl, ap, sym, subst, ◌∙◌, arith, get_or}
use Rattle.std.specs.Prelude.{is_some, slice_get}
use Rattle.std.proofs.lemmas.Bool.{cases_lt, true≢false}
use Rattle.std.specs.List.{All, fold}
use Rattle.std.proofs.lemmas.List.{length-map, take_all}
use Rattle.std.proofs.lemmas.List.Elements.{All-more, All-nil}
use Rattle.std.proofs.lemmas.Option.{get_or_from_slice_get, slice_get_within}
use Rattle.log_node.specs.declared.node.Node.{Node}
use Rattle.log_node.specs.declared.node.At.{At}
use Rattle.log_node.specs.declared.node.At.TheVariants as ats
use Rattle.log_node.proofs.CallerLemmas.{get_map, get_within, same_some}
use Rattle.col_core.specs.Log.{Log}
use Rattle.col_core.specs.Keeping.{Kept, nothing_kept, kept_after_point}
use Rattle.script_text.specs.declared.commands.What.{What}
use Rattle.script_text.specs.declared.commands.What.TheVariants as whats
use Rattle.script_text.specs.declared.uses.ReadUse.TheVariants.{Leaves, Takes, UsesUp}
use Rattle.script_text.specs.declared.uses.Use.{Use}
use Rattle.script_text.specs.declared.uses.Use.TheVariants.{OfLog, OfObject}
use Rattle.script_text.specs.declared.script.Command.{Command}
use Rattle.script_text.specs.declared.script.Script.{Script}
use Rattle.script_text.specs.Commands.{use_of}
use Rattle.report_text.specs.declared.report.Answer.{Answer}
use Rattle.report_text.specs.declared.report.Answer.TheVariants as answers
use Rattle.report_text.specs.declared.report.Ended.{Ended}
use Rattle.report_text.specs.declared.report.Ended.TheVariants as ends
use Rattle.report_text.specs.declared.report.ClientReport.{ClientReport}
use Rattle.report_text.specs.declared.report.PointPiece.{PointPiece}
use Rattle.report_text.specs.declared.report.RaisePiece.{RaisePiece}
use Rattle.report_text.specs.declared.report.SyncPiece.{SyncPiece}
use Rattle.report_text.specs.declared.report.ReplyLine.{ReplyLine}
use Rattle.report_text.specs.declared.report.Report.{Report}
use Rattle.lawful_run.specs.Callers.{Caller, caller_of, commands_of}
use Rattle.lawful_run.specs.Appends.{kept_after_points}
use Rattle.lawful_run.specs.Reads.{kept_after_place, kept_after_piece}
use Rattle.lawful_run.specs.Refusals.{before_by, behind_by, kept_before, kept_behind}
use Rattle.column_track.specs.Tracks.{Tells, Tracked}
use Rattle.run_rules.specs.Told.{Account, Follow, IsClientTold, OfEachStep, Step, Untold, is_several, kept_after_append, kept_after_end, kept_after_raises, kept_after_read, kept_after_row, kept_after_stop, kept_after_syncs, kept_at, kept_deciding, kept_past, kept_pulled, kept_told, kept_trimmed, kept_where, stamp_told, with_found}
use Rattle.run_rules.specs.Telling.{account_of, log_of, no_nodes, places_shown, replies_in, replies_to, step_of, steps_of, untold_told}
use Rattle.run_rules.specs.Laws.{NodesChangeNoStep}
use Rattle.run_rules.specs.Rules.{IsReplyTo}
use Rattle.run_rules.proofs.CallerLemmas.{reports_tell}
use Rattle.walk_law.specs.Keepings.{Counted, IsCounted, KeepsCount}
use Rattle.walk_law.specs.Walking.{DecidesEachStep, GoesOn, HasFew, IsSeen, MayWalk, Walked, WalksTo, log_walked, places_printed}

-- HOW MANY IDS AND ROWS

-- one more of each at most
record Few (a b : Kept) : Type 0 where
  pub ids : b.ids ≤ a.ids + 1
  pub rows : b.rows ≤ a.rows + 1

pub record Same (a b : Kept) : Type 0 where
  pub ids : b.ids ≡ a.ids
  pub rows : b.rows ≡ a.rows

few_same : (a : Kept) → Few a a
few_same a = record { ids = omega arith; rows = omega arith }

few_then : (a b c : Kept) → Few a b → Same b c → Few a c
few_then a b c f s =
    let i = f.ids in
    let j = s.ids in
    let r = f.rows in
    let q = s.rows in
    record { ids = omega (arith, i, j); rows = omega (arith, r, q) }

few_before : (a b c : Kept) → Same a b → Few b c → Few a c
few_before a b c s f =
    let i = f.ids in
    let j = s.ids in
    let r = f.rows in
    let q = s.rows in
    record { ids = omega (arith, i, j); rows = omega (arith, r, q) }

same_then : (a b c : Kept) → Same a b → Same b c → Same a c
same_then a b c s t = record { ids = t.ids ∙ s.ids; rows = t.rows ∙ s.rows }

same_few : (a b : Kept) → Same a b → Few a b
same_few a b s = few_then a a b (few_same a) s

folded : {A : Type 0} (f : Kept → A → Kept) → ((k : Kept) (x : A) → Same k (f k x)) → (xs : List A) (k : Kept) → Same k (fold f k xs)
folded f one [] k = record { ids = refl; rows = refl }
folded f one (x ∷ xs) k = same_then k (f k x) (fold f (f k x) xs) (one k x) (folded f one xs (f k x))

place_same : (k : Kept) (region colour : ℕ) (at : At) → Same k (kept_after_place k region colour at)
place_same k region colour (ats.Event place) = record { ids = refl; rows = refl }
place_same k region colour (ats.Look events) = record { ids = refl; rows = refl }

module _ (log : Log) (caller : Caller) where
  read_same : (k : Kept) (stamp : ℕ) (raises : List RaisePiece) (syncs : List SyncPiece)
      → Same k (kept_after_read log caller k stamp raises syncs)
  read_same k stamp raises syncs =
      let raised = kept_after_raises caller k raises in
      let s = folded (λ (h : Kept) (r : RaisePiece). kept_after_place h caller.own r.colour r.at)
      (λ h r. place_same h caller.own r.colour r.at) raises k in
      let t = folded (λ (h : Kept) (p : SyncPiece). kept_after_piece log caller h p) (λ h p. record { ids = refl; rows = refl }) syncs raised in
      let both = same_then k raised (kept_after_syncs log caller raised syncs) s t in
      record { ids = both.ids; rows = both.rows }

  pub points_same : (k : Kept) (points : List PointPiece) → Same k (kept_after_points k caller.own points)
  points_same k points =
      folded (λ (h : Kept) (p : PointPiece). kept_after_point h caller.own p.colour p.at p.position)
      (λ h p. record { ids = refl; rows = refl }) points k

  append_few : (untold : Untold) (k : Kept) (stamp : ℕ) (row : Option ℕ) (points : List PointPiece)
      → Few k (kept_after_append untold caller k stamp row points)
  append_few untold k stamp None [] = few_same k
  append_few untold k stamp None (point ∷ points) = record { ids = omega arith; rows = omega arith }
  append_few untold k stamp (Some number) points =
      let s = points_same k points in
      let i = s.ids in
      let r = s.rows in
      record { ids = omega (arith, i); rows = omega (arith, r) }

  end_few : (untold : Untold) (k : Kept) (ended : Ended) → Few k (kept_after_end untold caller k ended)
  end_few untold k (ends.Stood stamp point) = append_few untold k stamp None (point ∷ [])
  end_few untold k (ends.StampEnd colour) = few_same k
  end_few untold k ends.NoMemory = few_same k

  row_few : (untold : Untold) (k : Kept) → Few k (kept_after_row untold caller k)
  row_few untold k = record { ids = omega arith; rows = omega arith }

  where_few : (b : Bool) (a c : Kept) → Few a c → Few a (kept_where b c a)
  where_few true a c f = f
  where_few false a c f = few_same a

  stop_few : (untold : Untold) (k : Kept) (steps : ℕ) → Few k (kept_after_stop untold caller k steps)
  stop_few untold k zero = few_same k
  stop_few untold k (suc n) = row_few untold k

  pulled_few : (untold : Untold) (k : Kept) (what : What) (give carry : At) → Few k (kept_pulled untold caller k what give carry)
  pulled_few untold k what give carry = same_few k (kept_pulled untold caller k what give carry) (by what carry) where
    by : (what : What) (carry : At) → Same k (kept_pulled untold caller k what give carry)
    by (whats.Pull region colour) (ats.Event place) = record { ids = refl; rows = refl }
    by (whats.Pull region colour) (ats.Look events) = record { ids = refl; rows = refl }
    by _ carry = record { ids = refl; rows = refl }

  trimmed_same : (k : Kept) (what : What) (at : At) → Same k (kept_trimmed caller k what at)
  trimmed_same k (whats.Trim colour) at = record { ids = refl; rows = refl }
  trimmed_same k _ at = record { ids = refl; rows = refl }

  found_same : (how : Use) (found : _) (k : Kept) → Same k (with_found how found k)
  found_same (OfObject object Takes) found k = record { ids = refl; rows = refl }
  found_same _ found k = record { ids = refl; rows = refl }

  commit_few : (untold : Untold) (k : Kept) (stamp : ℕ) (row : Option ℕ) (points : List PointPiece) (read_stamp : ℕ)
      (raises : List RaisePiece) (syncs : List SyncPiece)
      → Few k (kept_after_read log caller (kept_after_append untold caller k stamp row points) read_stamp raises syncs)
  commit_few untold k stamp row points read_stamp raises syncs =
      let a = kept_after_append untold caller k stamp row points in
      few_then k a (kept_after_read log caller a read_stamp raises syncs) (append_few untold k stamp row points)
      (read_same a read_stamp raises syncs)

  told_few : (untold : Untold) (k : Kept) (what : What) (answer : Answer) → Few k (kept_told log untold caller k what answer)
  told_few untold k what (answers.Stood stamp row points) = append_few untold k stamp row points
  told_few untold k what (answers.StampEnd colour) = where_few (is_several caller k what) k (kept_after_row untold caller k) (row_few untold k)
  told_few untold k what (answers.Stopped steps) = stop_few untold k steps
  told_few untold k what (answers.Synced sync plays) = same_few k (kept_after_piece log caller k sync) (record { ids = refl; rows = refl })
  told_few untold k what (answers.Got value sync) = same_few k (kept_after_piece log caller k sync) (record { ids = refl; rows = refl })
  told_few untold k what (answers.GotMany values sync) = same_few k (kept_after_piece log caller k sync) (record { ids = refl; rows = refl })
  told_few untold k what (answers.Undecided stamp sync) = same_few k (kept_after_piece log caller k sync) (record { ids = refl; rows = refl })
  told_few untold k what (answers.Scanned stamp count raises syncs) =
      same_few k (kept_after_read log caller k stamp raises syncs) (read_same k stamp raises syncs)
  told_few untold k what (answers.Listed names stamp raises syncs) =
      same_few k (kept_after_read log caller k stamp raises syncs) (read_same k stamp raises syncs)
  told_few untold k what (answers.Pulled count give carry) = pulled_few untold k what give carry
  told_few untold k what (answers.Based at base) = same_few k (kept_trimmed caller k what at) (trimmed_same k what at)
  told_few untold k what (answers.GotKeys stamp shown raises syncs) =
      let r = kept_after_read log caller k stamp raises syncs in
      same_few k (with_found (use_of what) untold.found r)
      (same_then k r (with_found (use_of what) untold.found r) (read_same k stamp raises syncs) (found_same (use_of what) untold.found r))
  told_few untold k what (answers.Ruled conflict stamp row points read_stamp raises syncs) =
      commit_few untold k (stamp_told log caller k row points) row points read_stamp raises syncs
  told_few untold k what (answers.Changed failed stamp row points read_stamp raises syncs) =
      commit_few untold k (stamp_told log caller k row points) row points read_stamp raises syncs
  told_few untold k what (answers.Decided commits stamp sync read_stamp raises syncs ended) =
      let d = kept_deciding log caller k sync read_stamp raises syncs in
      let p = kept_after_piece log caller k sync in
      let s = read_same p read_stamp raises syncs in
      few_before k d (kept_after_end untold caller d ended) (record { ids = s.ids; rows = s.rows }) (end_few untold d ended)
  told_few untold k what (answers.Took value point sync) =
      let a = kept_after_append untold caller k (stamp_told log caller k None (point ∷ [])) None (point ∷ []) in
      few_then k a (kept_after_piece log caller a sync) (append_few untold k (stamp_told log caller k None (point ∷ [])) None (point ∷ []))
      (record { ids = refl; rows = refl })
  told_few untold k what (answers.Moved lined waiting colour events) = record { ids = omega arith; rows = omega arith }
  told_few untold k what _ = few_same k

  before_same : (how : Use) (k : Kept) → Same k (before_by how k)
  before_same (OfObject object Takes) k = record { ids = refl; rows = refl }
  before_same _ k = record { ids = refl; rows = refl }

  behind_same : (how : Use) (k : Kept) → Same k (behind_by how k)
  behind_same (OfObject object UsesUp) k = record { ids = refl; rows = refl }
  behind_same _ k = record { ids = refl; rows = refl }

  past_few : (s : Step) → Few s.kept (kept_past log caller s)
  past_few s =
      let what = s.command.what in
      let told = kept_told log s.untold caller (kept_at s) what s.reply.answer in
      few_then s.kept told (kept_past log caller s)
      (few_before s.kept (kept_at s) told (before_same (use_of what) s.kept) (told_few s.untold (kept_at s) what s.reply.answer))
      (behind_same (use_of what) told)

  -- FROM STEP TO STEP

  -- what is kept behind so many steps
  pub kept_upto : Kept → List Step → ℕ → Kept
  kept_upto kept [] n = kept
  kept_upto kept (s ∷ ss) zero = kept
  kept_upto kept (s ∷ ss) (suc n) = kept_upto (kept_past log caller s) ss n

  upto_none : (kept : Kept) (ss : List Step) → kept_upto kept ss zero ≡ kept
  unfolding kept_upto
  upto_none kept [] = refl
  upto_none kept (s ∷ ss) = refl

  upto_step : (kept last : Kept) (ss : List Step) → Follow log caller kept ss last → (n : ℕ) (s : Step) → slice_get ss n ≡ Some s
      → (s.kept ≡ kept_upto kept ss n) × (kept_upto kept ss (suc n) ≡ kept_past log caller s)
  unfolding kept_upto
  upto_step kept last [] follow n s at = absurd (let f : ⊥ = cc (at) in f)
  upto_step kept last (x ∷ xs) follow zero s at =
      let one : x ≡ s = same_some at in
      (ap (λ (y : Step). y.kept) (sym one) ∙ follow.0, upto_none (kept_past log caller x) xs ∙ ap (kept_past log caller) one)
  upto_step kept last (x ∷ xs) follow (suc n) s at = upto_step (kept_past log caller x) last xs follow.1 n s at

  upto_end : (kept last : Kept) (ss : List Step) → Follow log caller kept ss last → kept_upto kept ss (length ss) ≡ last
  unfolding kept_upto
  upto_end kept last [] follow = sym follow
  upto_end kept last (x ∷ xs) follow = upto_end (kept_past log caller x) last xs follow.1

  upto_few : (kept last : Kept) (ss : List Step) → Follow log caller kept ss last → (n : ℕ)
      → ((kept_upto kept ss n).ids ≤ kept.ids + n) × ((kept_upto kept ss n).rows ≤ kept.rows + n)
  unfolding kept_upto
  upto_few kept last [] follow n = (omega arith, omega arith)
  upto_few kept last (x ∷ xs) follow zero = (omega arith, omega arith)
  upto_few kept last (x ∷ xs) follow (suc n) =
      let rest = upto_few (kept_past log caller x) last xs follow.1 n in
      let i = rest.0 in
      let r = rest.1 in
      let few = past_few x in
      let fi = few.ids in
      let fr = few.rows in
      let ki = ap (λ (k : Kept). k.ids) follow.0 in
      let kr = ap (λ (k : Kept). k.rows) follow.0 in
      (omega (arith, i, fi, ki), omega (arith, r, fr, kr))

  untold_of : (shown : ℕ → ℕ → List ℕ) (kept : Kept) (c : Command) (r : ReplyLine)
      → (step_of log caller shown kept c r).untold
      ≡ untold_told log caller shown (kept_at (step_of log caller shown kept c r)) c.what r.answer
  untold_of shown kept c r = refl

  untold_at : (shown : ℕ → ℕ → List ℕ) (kept : Kept) (cs : List Command) (rs : List ReplyLine) (n : ℕ) (s : Step)
      → slice_get (steps_of log caller shown kept cs rs) n ≡ Some s
      → s.untold ≡ untold_told log caller shown (kept_at s) s.command.what s.reply.answer
  untold_at shown kept [] rs n s at = absurd (let f : ⊥ = cc (at) in f)
  untold_at shown kept (c ∷ cs) [] n s at = absurd (let f : ⊥ = cc (at) in f)
  untold_at shown kept (c ∷ cs) (r ∷ rs) zero s at =
      subst (λ (y : Step). y.untold ≡ untold_told log caller shown (kept_at y) y.command.what y.reply.answer) (same_some at)
      (untold_of shown kept c r)
  untold_at shown kept (c ∷ cs) (r ∷ rs) (suc n) s at =
      untold_at shown (kept_past log caller (step_of log caller shown kept c r)) cs rs n s at

-- OF ONE CLIENT

-- the steps of a client
abbrev pub steps_by : Walked → ℕ → List Step
steps_by walked client = (account_of walked.script walked.report no_nodes).steps client

-- all steps before are as is asked, and the keeping counts what is kept behind them
pub record WalkedSo (walked : Walked) (client : ℕ) (Asked : Step → Type 0) (n : ℕ) (counted : Counted) : Type 0 where
  pub done : All Asked (take n (steps_by walked client))
  pub kept : IsCounted (replies_to walked.report client)
      (kept_upto (log_walked walked) (caller_of walked.script client) nothing_kept (steps_by walked client) n) counted

module _ (walked : Walked) (tracks : List Tracked) (may : MayWalk walked.script walked.report tracks) (client : ℕ)
    (walker : client < length walked.report.clients) where
  abbrev log : Log
  log = log_walked walked

  abbrev caller : Caller
  caller = caller_of walked.script client

  abbrev account : Account
  account = account_of walked.script walked.report no_nodes

  abbrev steps : List Step
  steps = account.steps client

  shown : (c : ClientReport) × (slice_get walked.report.clients client ≡ Some c)
  shown = get_within walked.report.clients client walker

  told : IsClientTold walked.script account client shown.0.replies
  told = (reports_tell walked.script walked.report no_nodes may.formed).clients client shown.0 shown.1

  replies_are : replies_to walked.report client ≡ shown.0.replies
  replies_are = ap replies_in shown.1

  pub steps_many : length steps ≡ length (commands_of walked.script client)
  steps_many = sym (length-map steps (λ (s : Step). s.command)) ∙ ap length told.commands

  pub replies_many : length (commands_of walked.script client) ≡ length (replies_to walked.report client)
  replies_many =
      sym steps_many
      ∙ (sym (length-map steps (λ (s : Step). s.reply)) ∙ (ap length told.replied ∙ ap length (sym replies_are)))

  pub first_walked : (Asked : Step → Type 0) (counted : Counted)
      → ((replies : List ReplyLine) → IsCounted replies nothing_kept counted) → WalkedSo walked client Asked zero counted
  first_walked Asked counted none = record {
    done = All-nil Asked;
    kept = subst (λ (k : Kept). IsCounted (replies_to walked.report client) k counted) (sym (upto_none log caller nothing_kept steps))
        (none (replies_to walked.report client));
  }

  module _ (Asked : Step → Type 0) (n : ℕ) (there : n < length (commands_of walked.script client)) (old now : Counted)
      (so : WalkedSo walked client Asked n old) (command : Command) (at : slice_get (commands_of walked.script client) n ≡ Some command)
      (begun : (replies : List ReplyLine) (kept : Kept) → IsCounted replies kept old → IsCounted replies (kept_before command.what kept) now)
      (count : KeepsCount old now) where
    pub step : (s : Step) × (slice_get steps n ≡ Some s)
    step = get_within steps n (let many = steps_many in omega (arith, there, many))

    command_is : step.0.command ≡ command
    command_is =
        same_some (sym (get_map (λ (s : Step). s.command) steps n step.0 step.1)
        ∙ (ap (λ (l : List Command). slice_get l n) told.commands ∙ at))

    follow : (step.0.kept ≡ kept_upto log caller nothing_kept steps n)
        × (kept_upto log caller nothing_kept steps (n + 1) ≡ kept_past log caller step.0)
    follow =
        let f = upto_step log caller nothing_kept (account.last client) steps told.follow n step.0 step.1 in
        (f.0, ap (kept_upto log caller nothing_kept steps) (let e : n + 1 ≡ suc n = omega arith in e) ∙ f.1)

    pub step_seen : IsSeen walked client n now step.0
    step_seen = record {
      command = at ∙ ap (λ (c : Command). Some c) (sym command_is);
      reply = ap (λ (l : List ReplyLine). slice_get l n) (replies_are ∙ sym told.replied)
          ∙ get_map (λ (s : Step). s.reply) steps n step.0 step.1;
      untold = untold_at log caller (places_printed walked client) nothing_kept (commands_of walked.script client)
          (replies_to walked.report client) n step.0 step.1;
      kept = subst (λ (k : Kept). IsCounted (replies_to walked.report client) k now)
          (ap (λ (c : Command). kept_before c.what (kept_upto log caller nothing_kept steps n)) (sym command_is)
          ∙ ap (kept_before step.0.command.what) (sym follow.0))
          (begun (replies_to walked.report client) (kept_upto log caller nothing_kept steps n) so.kept);
      can = subst (IsReplyTo caller) (get_or_from_slice_get steps n step.0 step.0 step.1)
          (may.first.replies client shown.0 shown.1 n step.0 (slice_get_within steps n step.0 step.1));
    }

    pub step_few : (few : length (commands_of walked.script client) < 2 ^ 15) → HasFew now
    step_few few =
        let upto = upto_few log caller nothing_kept (account.last client) steps told.follow n in
        let i = upto.0 in
        let r = upto.1 in
        let ci = so.kept.ids in
        let cr = so.kept.rows in
        let ki = count.ids in
        let kr = count.rows in
        record { ids = omega (arith, i, ci, ki, few, there); rows = omega (arith, r, cr, kr, few, there) }

    within : n < length steps
    within = slice_get_within steps n step.0 step.1

    here : step.0 ≡ get_or steps n step.0
    here = sym (get_or_from_slice_get steps n step.0 step.0 step.1)

    -- what is told of the step is told of the walk
    pub step_on : (new : Counted) → GoesOn walked client step.0 (Asked step.0) new true → WalkedSo walked client Asked (n + 1) new
    step_on new on = record {
      done = All-more Asked steps n step.0 within so.done (subst Asked here on.0);
      kept = subst (λ (k : Kept). IsCounted (replies_to walked.report client) k new) (sym follow.1) on.1;
    }

    pub step_off : (new : Counted) → GoesOn walked client step.0 (Asked step.0) new false → WalksTo walked client Asked None
    step_off new off all = off (subst Asked (sym here) (all n step.0 within))

    -- as the check tells it
    pub step_goes : (new : Counted) (b : Bool)
        → ((s : Step) → IsSeen walked client n now s → GoesOn walked client s (Asked s) new b) → b ≡ true
        → WalkedSo walked client Asked (n + 1) new
    step_goes new b told is = step_on new (subst (GoesOn walked client step.0 (Asked step.0) new) is (told step.0 step_seen))

    pub step_stops : (new : Counted) (b : Bool)
        → ((s : Step) → IsSeen walked client n now s → GoesOn walked client s (Asked s) new b) → b ≡ false
        → WalksTo walked client Asked None
    step_stops new b told is = step_off new (subst (GoesOn walked client step.0 (Asked step.0) new) is (told step.0 step_seen))

  pub walked_all : (Asked : Step → Type 0) (n : ℕ) (counted : Counted) → length (commands_of walked.script client) ≤ n
      → n ≤ length (commands_of walked.script client) → WalkedSo walked client Asked n counted → WalksTo walked client Asked (Some counted)
  walked_all Asked n counted ge le so =
      let many = steps_many in
      let same : n ≡ length steps = omega (arith, ge, le, many) in (
        subst (λ (l : List Step). All Asked l) (take_all n steps (omega (arith, same))) so.done,
        subst (λ (k : Kept). IsCounted (replies_to walked.report client) k counted)
            (ap (kept_upto log caller nothing_kept steps) same ∙ upto_end log caller nothing_kept (account.last client) steps told.follow)
            so.kept,
      )

-- OF ALL CLIENTS

module _ (walked : Walked) (Asks : Caller → Step → Type 0) where
  -- the steps of the first so many clients are as is asked
  abbrev pub ClientsSo : ℕ → Type 0
  ClientsSo n = (k : ℕ) → k < n → All (Asks (caller_of walked.script k)) (steps_by walked k)

  pub clients_on : (n : ℕ) (o : Option Counted) → ClientsSo n → WalksTo walked n (Asks (caller_of walked.script n)) o
      → is_some o ≡ true → ClientsSo (n + 1)
  clients_on n None so to t = absurd (true≢false (sym t))
  clients_on n (Some counted) so to t = λ k lt. elim (cases_lt k n) [
    | inl less ↦ so k less
    | inr ge ↦ subst (λ (m : ℕ). All (Asks (caller_of walked.script m)) (steps_by walked m)) (let e : n ≡ k = omega (arith, lt, ge) in e) to.0
  ]

  same_steps : NodesChangeNoStep → (nodes : ℕ → List Node) (n : ℕ)
      → (account_of walked.script walked.report nodes).steps n ≡ steps_by walked n
  same_steps law nodes n = (law walked.script walked.report nodes n).0

  pub clients_off : NodesChangeNoStep → (n : ℕ) (o : Option Counted) → n < length walked.report.clients
      → WalksTo walked n (Asks (caller_of walked.script n)) o → is_some o ≡ false → DecidesEachStep walked Asks false
  clients_off law n (Some counted) lt to f = absurd (true≢false f)
  clients_off law n None lt to f = λ nodes all.
      let c = get_within walked.report.clients n lt in
      to (subst (All (Asks (caller_of walked.script n))) (same_steps law nodes n) (all n c.0 c.1))

  pub clients_all : NodesChangeNoStep → (n : ℕ) → length walked.report.clients ≤ n → ClientsSo n → DecidesEachStep walked Asks true
  clients_all law n ge so nodes k c at =
      subst (All (Asks (caller_of walked.script k))) (sym (same_steps law nodes k))
      (so k (let lt = slice_get_within walked.report.clients k c at in omega (arith, lt, ge)))
