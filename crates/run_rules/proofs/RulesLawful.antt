-- A report that keeps all rules and hides nothing is that of a lawful run.
use Rattle.std.proofs.Common.{◌≡◌, ◌∙◌, ℕ, ◌<◌, false, List, [], ◌∷◌, ◌++◌, length, map, slice_index_or, Some, refl, ap, sym, subst, append_assoc}
use mathlib.Core.List.{append-nil}
use Rattle.std.specs.Prelude.{slice_get}
use Rattle.std.specs.List.{All}
use Rattle.std.proofs.lemmas.List.Elements.{All-head, All-tail}
use Rattle.col_core.specs.Log.{Log}
use Rattle.col_core.specs.Keeping.{Kept, nothing_kept}
use Rattle.col_core.proofs.CallerLemmas.{all_in, slice_in, in_flat_map-back}
use Rattle.script_text.specs.declared.script.Command.{Command}
use Rattle.script_text.specs.declared.script.Script.{Script}
use Rattle.script_text.specs.Commands.{word_of}
use Rattle.report_text.specs.declared.report.ClientReport.{ClientReport}
use Rattle.report_text.specs.declared.report.ReplyLine.{ReplyLine}
use Rattle.report_text.specs.declared.report.Report.{Report}
use Rattle.lawful_run.specs.Callers.{Caller, caller_of, commands_of}
use Rattle.lawful_run.specs.Columns.{IsColumnReport}
use Rattle.lawful_run.specs.Explains.{Answers, Explained, start, next}
use Rattle.lawful_run.specs.Lawful.{IsClientRun, LawfulRun}
use Rattle.run_rules.specs.Told.{Account, Step, Follow, IsTold, kept_at, kept_past, kept_told}
use Rattle.run_rules.specs.Keeping.{HidesNothing, hides, all_replies}
use Rattle.run_rules.specs.Laws.{RulesMakeLawful}
use Rattle.run_rules.proofs.Explaining.{explained_so}
use Rattle.run_rules.proofs.Facts.{Facts}
use Rattle.run_rules.proofs.Lists.{find_none, all_mapped}
use Rattle.run_rules.proofs.Numbers.{AllRules, all_of}

-- no reply hides what was done
pub shown_replies : (report : Report) → HidesNothing report → (n : ℕ) (c : ClientReport) → slice_get report.clients n ≡ Some c
    → All (λ (r : ReplyLine). hides r.word r.answer ≡ false) c.replies
shown_replies report none n c e =
    all_in (λ (r : ReplyLine). hides r.word r.answer ≡ false) c.replies (λ r i.
    find_none (λ (x : ReplyLine). hides x.word x.answer) (all_replies report) none r
    (in_flat_map-back (λ (x : ClientReport). x.replies) report.clients c r (slice_in report.clients n c e) i))

-- steps that follow one another, each of them explained, are explained one behind another
module _ (log : Log) (caller : Caller) where
  abbrev AnswersAt : Step → Type 0
  AnswersAt s = Answers log caller s.kept s.command s.reply (kept_past log caller s)

  explained_on : (steps : List Step) (commands : List Command) (replies : List ReplyLine) (kept last : Kept)
      → Explained log caller commands replies kept → Follow log caller kept steps last → All AnswersAt steps
      → Explained log caller (commands ++ map (λ (s : Step). s.command) steps) (replies ++ map (λ (s : Step). s.reply) steps) last
  explained_on [] commands replies kept last e follow all =
      subst (λ (cs : List Command). Explained log caller cs (replies ++ []) last) (sym (append-nil commands))
      (subst (λ (rs : List ReplyLine). Explained log caller commands rs last) (sym (append-nil replies))
      (subst (λ (k : Kept). Explained log caller commands replies k) (sym follow) e))
  explained_on (s ∷ steps) commands replies kept last e follow all =
      let here = next s.command s.reply (subst (λ (k : Kept). Explained log caller commands replies k) (sym follow.0) e)
      (All-head AnswersAt s steps all) in
      let rest = explained_on steps (commands ++ s.command ∷ []) (replies ++ s.reply ∷ []) (kept_past log caller s) last here
      follow.1 (All-tail AnswersAt s steps all) in
      subst (λ (cs : List Command). Explained log caller cs (replies ++ s.reply ∷ map (λ (x : Step). x.reply) steps) last)
      (append_assoc commands (s.command ∷ []) (map (λ (x : Step). x.command) steps))
      (subst (λ (rs : List ReplyLine). Explained log caller
      ((commands ++ s.command ∷ []) ++ map (λ (x : Step). x.command) steps) rs last)
      (append_assoc replies (s.reply ∷ []) (map (λ (x : Step). x.reply) steps)) rest)

module _ (script : Script) (report : Report) (none : HidesNothing report) (account : Account)
    (told : IsTold script report account) (all : AllRules script report account) where
  abbrev log : Log
  log = account.log

  module _ (n : ℕ) (c : ClientReport) (there : slice_get report.clients n ≡ Some c) where
    abbrev caller : Caller
    caller = caller_of script n

    abbrev steps : List Step
    steps = account.steps n

    module _ (k : ℕ) (d : Step) (lt : k < length steps) where
      abbrev step : Step
      step = slice_index_or steps k d

      facts : Facts log caller step.untold (kept_at step) step.command.what step.reply.nodes step.reply.answer
      facts = record {
        can = (all.r1.replies n c there k d lt).answer;
        names = all.r4.named n c there k d lt;
        used = all.r5.used n c there k d lt;
        stands = all.r6.stands n c there k d lt;
        stops = all.r7.stops n c there k d lt;
        shows = all.r9.shows n c there k d lt;
        right = all.r10.right n c there k d lt;
        caused = all.r11.caused n c there k d lt;
        room = all.r11.room n c there k d lt;
        next = all.r12.next n c there k d lt;
        tree = all.r13.tree n c there k d lt;
        part = all.r14.part n c there k d lt;
      }

      shown : hides (word_of step.command.what) step.reply.answer ≡ false
      shown =
          let shows : All (λ (r : ReplyLine). hides r.word r.answer ≡ false) (map (λ (s : Step). s.reply) steps) =
          subst (All (λ (r : ReplyLine). hides r.word r.answer ≡ false)) (sym (told.clients n c there).replied)
          (shown_replies report none n c there) in
          ap (λ w. hides w step.reply.answer) (sym (all.r1.replies n c there k d lt).word)
          ∙ all_mapped (λ (r : ReplyLine). hides r.word r.answer ≡ false) (λ (s : Step). s.reply) steps shows k d lt

      answers_at : AnswersAt log caller step
      answers_at = record {
        line = (all.r1.replies n c there k d lt).line;
        word = (all.r1.replies n c there k d lt).word;
        answered = kept_told log step.untold caller (kept_at step) step.command.what step.reply.answer;
        explained = explained_so log caller step.untold (kept_at step) step.command.what step.reply.nodes step.reply.answer
            shown facts;
        after_is = refl;
        away = all.r11.away n c there k d lt;
      }

    client_run : IsClientRun log script n c.replies
    client_run =
        let t = told.clients n c there in
        let o = all.r5.own n c there in
        let e = explained_on log caller steps [] [] nothing_kept (account.last n) start t.follow answers_at in record {
          kept = account.last n;
          explained = subst (λ (rs : List ReplyLine). Explained log caller (commands_of script n) rs (account.last n)) t.replied
              (subst (λ (cs : List Command). Explained log caller cs (map (λ (s : Step). s.reply) steps) (account.last n))
              t.commands e);
          made = all.r4.made n c there;
          nodes = o.nodes;
          rows = o.rows;
          row_nodes = o.row_nodes;
        }

  column_at : All (IsColumnReport log script) report.columns
  column_at k d lt =
      let l = all.r2.each k d lt in
      let m = all.r1.named k d lt in record {
        history = told.histories k d lt;
        legal = l.legal;
        makers = l.makers;
        closing = l.closing;
        region_named = m.region;
        colour_named = m.colour;
      }

  lawful : LawfulRun script report
  lawful = record {
    log = log;
    version = all.r1.version;
    names = all.r1.names;
    clients = client_run;
    columns = record { all = all.r1.columns; each = column_at };
    begun = record {
      all = told.rows;
      by_client = all.r1.by_client;
      of_clients = all.r3.of_clients;
      lawful = all.r3.lawful;
    };
    copies = all.r3.copies;
    helpers = all.r4.helpers;
    helped = all.r8.helped;
    left_open = all.r8.left_open;
  }

pub rules_make_lawful : RulesMakeLawful
rules_make_lawful script report none keeps = lawful script report none keeps.0 keeps.1 (all_of keeps.2)
