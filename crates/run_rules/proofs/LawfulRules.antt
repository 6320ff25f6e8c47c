-- Of a lawful run that hides nothing all rules hold.
use Rattle.std.proofs.Common.{◌≡◌, ◌∙◌, ℕ, ◌<◌, false, List, [], ◌∷◌, ◌++◌, length, map, Option, Some, None, refl, ap, sym, subst, inl}
use Rattle.std.specs.Prelude.{◌≢◌, slice_get}
use Rattle.std.specs.List.{All, AllPairs, filter}
use Rattle.std.proofs.lemmas.List.{map_push}
use Rattle.std.proofs.lemmas.List.Elements.{All-nil, All-push, All-contains}
use Rattle.col_core.specs.Log.{Log, places_of}
use Rattle.col_core.specs.Rows.{BegunRow, FitsRow, is_of}
use Rattle.col_core.specs.Keeping.{Kept, nothing_kept}
use Rattle.col_core.proofs.CallerLemmas.{In, contains_in, in_left, in_right}
use Rattle.script_text.specs.declared.script.Command.{Command}
use Rattle.script_text.specs.declared.script.Script.{Script}
use Rattle.script_text.specs.Commands.{word_of}
use Rattle.script_text.specs.Fitting.{IsFitting}
use Rattle.report_text.specs.declared.report.ClientReport.{ClientReport}
use Rattle.report_text.specs.declared.report.ReplyLine.{ReplyLine}
use Rattle.report_text.specs.declared.report.Report.{Report}
use Rattle.lawful_run.specs.Callers.{Caller, caller_of, commands_of}
use Rattle.lawful_run.specs.Asks.{home_asked}
use Rattle.lawful_run.specs.Explains.{Explained, start, next}
use Rattle.lawful_run.specs.Lawful.{LawfulRun}
use Rattle.lawful_run.specs.Refusals.{kept_before, kept_behind, IsAway, IsHomeRefusal}
use Rattle.run_rules.specs.Told.{Account, Step, Follow, IsTold, AreKeysFound, kept_at, kept_past, OfEachStep}
use Rattle.run_rules.specs.Rules.{Rule1, Rule4, Rule5}
use Rattle.run_rules.specs.Keeping.{HidesNothing, hides}
use Rattle.run_rules.specs.Laws.{LawfulRunsKeepRules, BrokenIsUnlawful}
use Rattle.run_rules.proofs.Facts.{Facts}
use Rattle.run_rules.proofs.MarksWithin.{marks_within}
use Rattle.run_rules.proofs.Numbers.{AllRules, rules_of, keeps_fewer}
use Rattle.run_rules.proofs.Reached.{home_within}
use Rattle.run_rules.proofs.RulesLawful.{shown_replies}
use Rattle.run_rules.proofs.StepsTold.{step_told}

-- all that the rules say of a step
record StepKeeps (log : Log) (caller : Caller) (step : Step) : Type 0 where
  line : step.reply.line ≡ step.command.line
  word : step.reply.word ≡ word_of step.command.what
  away : IsAway caller (home_asked caller step.command.what) → IsHomeRefusal step.reply.answer
  facts : Facts log caller step.untold (kept_at step) step.command.what step.reply.nodes step.reply.answer
  keys : AreKeysFound step.untold.found step.reply.answer

-- steps as they are explained
record Traced (log : Log) (caller : Caller) (commands : List Command) (replies : List ReplyLine) (steps : List Step)
    (kept : Kept) : Type 0 where
  asked : map (λ (s : Step). s.command) steps ≡ commands
  replied : map (λ (s : Step). s.reply) steps ≡ replies
  follow : Follow log caller nothing_kept steps kept
  keep : All (StepKeeps log caller) steps

module _ (log : Log) (caller : Caller) where
  follow_on : (steps : List Step) (step : Step) (kept middle : Kept) → Follow log caller kept steps middle
      → step.kept ≡ middle → Follow log caller kept (steps ++ step ∷ []) (kept_past log caller step)
  follow_on [] step kept middle f e = (e ∙ f, refl)
  follow_on (s ∷ steps) step kept middle f e = (f.0, follow_on steps step (kept_past log caller s) middle f.1 e)

  module _ (apart : AllPairs (λ (r s : BegunRow). r.node.id ≢ s.node.id) (log.rows caller.own))
      (fit : All (FitsRow caller.own) (log.rows caller.own)) where
    trace : {commands : List Command} {replies : List ReplyLine} {kept : Kept}
        → Explained log caller commands replies kept
        → ((r : ReplyLine) → In r replies → hides r.word r.answer ≡ false)
        → (steps : List Step) × Traced log caller commands replies steps kept
    trace start shown =
        ([], record { asked = refl; replied = refl; follow = refl; keep = All-nil (StepKeeps log caller) })
    trace (next {commands} {replies} {kept} {after} command reply e a) shown =
        let t = trace e (λ r i. shown r (in_left r replies (reply ∷ []) i)) in
        let before = kept_before command.what kept in
        let told = step_told log caller before apart fit command.what reply.nodes reply.answer a.answered
        (ap (λ w. hides w reply.answer) (sym a.word) ∙ shown reply (in_right reply replies (reply ∷ []) (inl refl)))
        a.explained in
        let step : Step = record { command = command; reply = reply; kept = kept; untold = told.untold } in
        let past : kept_past log caller step ≡ after =
        ap (kept_behind command.what) (sym told.told) ∙ sym a.after_is in (
          t.0 ++ step ∷ [],
          record {
            asked = map_push (λ (s : Step). s.command) t.0 step
                ∙ ap (λ (cs : List Command). cs ++ command ∷ []) t.1.asked;
            replied = map_push (λ (s : Step). s.reply) t.0 step
                ∙ ap (λ (rs : List ReplyLine). rs ++ reply ∷ []) t.1.replied;
            follow = subst (Follow log caller nothing_kept (t.0 ++ step ∷ [])) past
                (follow_on t.0 step nothing_kept kept t.1.follow refl);
            keep = All-push (StepKeeps log caller) t.0 step t.1.keep (record {
              line = a.line;
              word = a.word;
              away = a.away;
              facts = told.facts;
              keys = told.keys;
            });
          },
        )

module _ (script : Script) (fits : IsFitting script) (report : Report) (none : HidesNothing report)
    (run : LawfulRun script report) where
  abbrev log : Log
  log = run.log

  home : (n : ℕ) (c : ClientReport) → slice_get report.clients n ≡ Some c
      → (caller_of script n).own < script.shape.regions
  home = home_within script report fits run.names

  -- a client's steps, and what it keeps behind them
  record OfClient (n : ℕ) (c : ClientReport) (steps : List Step) (kept : Kept) : Type 0 where
    traced : Traced log (caller_of script n) (commands_of script n) c.replies steps kept
    made : (region colour : ℕ) → region < script.shape.regions → colour < script.shape.colours
        → places_of n (log.histories region colour) ≡ kept.made region colour
    nodes : length (log.nodes n) ≡ kept.ids
    rows : length (filter (is_of n) (log.rows (caller_of script n).own)) ≡ kept.rows

  of_client : (n : ℕ) (c : ClientReport) → slice_get report.clients n ≡ Some c
      → (steps : List Step) × (kept : Kept) × OfClient n c steps kept
  of_client n c there =
      let r = run.clients n c there in
      let own = home n c there in
      let rows = run.begun.lawful (caller_of script n).own own in
      let t = trace log (caller_of script n) rows.ids_differ rows.fit r.explained
      (λ (x : ReplyLine) i. All-contains (λ (y : ReplyLine). hides y.word y.answer ≡ false) c.replies x
      (shown_replies report none n c there) (contains_in c.replies x i)) in
      (t.0, r.kept, record { traced = t.1; made = r.made; nodes = r.nodes; rows = r.rows })

  -- of each client; nothing of one that the report does not show
  abbrev steps_where : (n : ℕ) (shown : Option ClientReport) → slice_get report.clients n ≡ shown → List Step × Kept
  steps_where n None e = ([], nothing_kept)
  steps_where n (Some c) e = let t = of_client n c e in (t.0, t.1)

  where_shown : (n : ℕ) (shown : Option ClientReport) (e : slice_get report.clients n ≡ shown) (c : ClientReport)
      → shown ≡ Some c → OfClient n c (steps_where n shown e).0 (steps_where n shown e).1
  where_shown n None e c is = absurd (let f : ⊥ = cc (is) in f)
  where_shown n (Some d) e c is =
      let same : d ≡ c = cc (is) in
      subst (λ (x : ClientReport). OfClient n x (of_client n d e).0 (of_client n d e).1) same (of_client n d e).2

  abbrev account : Account
  account = record {
    log = log;
    steps = λ n. (steps_where n (slice_get report.clients n) refl).0;
    last = λ n. (steps_where n (slice_get report.clients n) refl).1;
  }

  client_at : (n : ℕ) (c : ClientReport) → slice_get report.clients n ≡ Some c
      → OfClient n c (account.steps n) (account.last n)
  client_at n c there = where_shown n (slice_get report.clients n) refl c there

  told : IsTold script report account
  told = record {
    histories = λ k d lt. (run.columns.each k d lt).history;
    rows = run.begun.all;
    clients = λ n c there. let o = client_at n c there in record {
      commands = o.traced.asked;
      replied = o.traced.replied;
      follow = o.traced.follow;
      keys = λ k d lt. (o.traced.keep k d lt).keys;
    };
  }

  -- of each step
  keeps_at : OfEachStep script report account (StepKeeps log)
  keeps_at n c there = (client_at n c there).traced.keep

  first : Rule1 script report account
  first = record {
    version = run.version;
    names = run.names;
    replies = λ n c there k d lt. let s = keeps_at n c there k d lt in
        record { line = s.line; word = s.word; answer = s.facts.can };
    columns = run.columns.all;
    named = λ k d lt. let x = run.columns.each k d lt in record { region = x.region_named; colour = x.colour_named };
    by_client = run.begun.by_client;
  }

  fourth : Rule4 script report account
  fourth = record {
    named = λ n c there k d lt. (keeps_at n c there k d lt).facts.names;
    made = λ n c there. (client_at n c there).made;
    helpers = run.helpers;
  }

  fifth : Rule5 script report account
  fifth = record {
    used = λ n c there k d lt. (keeps_at n c there k d lt).facts.used;
    own = λ n c there. record {
      nodes = (client_at n c there).nodes;
      rows = (client_at n c there).rows;
      row_nodes = (run.clients n c there).row_nodes;
    };
  }

  all_rules : AllRules script report account
  all_rules = record {
    r1 = first;
    r2 = record {
      each = λ k d lt. let x = run.columns.each k d lt in
          record { legal = x.legal; makers = x.makers; closing = x.closing };
    };
    r3 = record {
      of_clients = run.begun.of_clients;
      lawful = run.begun.lawful;
      marked = marks_within script report account fits told first fourth fifth run.begun.of_clients
          (λ region lt. (run.begun.lawful region lt).fit);
      copies = run.copies;
    };
    r4 = fourth;
    r5 = fifth;
    r6 = record { stands = λ n c there k d lt. (keeps_at n c there k d lt).facts.stands };
    r7 = record { stops = λ n c there k d lt. (keeps_at n c there k d lt).facts.stops };
    r8 = record { left_open = run.left_open; helped = run.helped };
    r9 = record { shows = λ n c there k d lt. (keeps_at n c there k d lt).facts.shows };
    r10 = record { right = λ n c there k d lt. (keeps_at n c there k d lt).facts.right };
    r11 = record {
      caused = λ n c there k d lt. (keeps_at n c there k d lt).facts.caused;
      room = λ n c there k d lt. (keeps_at n c there k d lt).facts.room;
      away = λ n c there k d lt. (keeps_at n c there k d lt).away;
    };
    r12 = record { next = λ n c there k d lt. (keeps_at n c there k d lt).facts.next };
    r13 = record { tree = λ n c there k d lt. (keeps_at n c there k d lt).facts.tree };
    r14 = record { part = λ n c there k d lt. (keeps_at n c there k d lt).facts.part };
  }

pub lawful_runs_keep_rules : LawfulRunsKeepRules
lawful_runs_keep_rules script report fits none run =
    (account script fits report none run, told script fits report none run, rules_of (all_rules script fits report none run))

pub broken_is_unlawful : BrokenIsUnlawful
broken_is_unlawful script report fits none rule least run =
    let m = least.number.1 in
    least.broken (keeps_fewer script report rule 14 m (lawful_runs_keep_rules script report fits none run))
