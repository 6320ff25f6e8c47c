-- The replies of a report beside their commands, of which only the reads that commits use up are carried on.
use Rattle.std.specs.Prelude.{◌≡◌, Bool, true, false, ℕ, ◌<◌, ◌≤◌, ◌==◌, List, [], ◌∷◌, drop, length, Option, Some, None, slice_get, slice_index_or}
use Rattle.std.specs.List.{filter}
use Rattle.log_node.specs.declared.forms.Version.{Version}
use Rattle.col_core.specs.Log.{Log}
use Rattle.col_core.specs.Keeping.{Kept, nothing_kept}
use Rattle.script_text.specs.declared.script.Command.{Command}
use Rattle.script_text.specs.declared.script.Script.{Script}
use Rattle.report_text.specs.declared.report.Answer.{Answer}
use Rattle.report_text.specs.declared.report.Answer.TheVariants as answers
use Rattle.report_text.specs.declared.report.ClientReport.{ClientReport}
use Rattle.report_text.specs.declared.report.ReplyLine.{ReplyLine}
use Rattle.lawful_run.specs.Callers.{Caller, caller_of, commands_of}
use Rattle.run_rules.specs.Told.{kept_past}
use Rattle.run_rules.specs.Telling.{step_of}
use Rattle.run_rules.specs.Rules.{IsReplyTo}
use Rattle.walk_law.specs.Keepings.{IsFoundAt}

-- How many of a client's replies are passed, and the place among them of each object's read that a commit may use up.
pub record Passed : Type 0 where
  pub next : ℕ
  pub reads : List (Option ℕ)

-- what a client's reads found is at these places of its replies
abbrev pub AreReadsAt : List ReplyLine → (ℕ → Option (List Version)) → List (Option ℕ) → Type 0
AreReadsAt replies reads places =
    (object : ℕ) → object < 256 → IsFoundAt replies (reads object) (slice_index_or places object None)

-- the place of a reply that shows what a read found
abbrev pub place_read : Answer → ℕ → Option ℕ
place_read (answers.GotKeys stamp shown raises syncs) place = Some place
place_read _ place = None

-- Each of these commands, of a client that keeps this before them, has a reply to it, and there are no more replies.
abbrev pub AreReplies : Log → Caller → (ℕ → ℕ → List ℕ) → Kept → List Command → List ReplyLine → Type 0
AreReplies log caller shown kept [] [] = Unit {0}
AreReplies log caller shown kept [] (r ∷ rs) = ⊥
AreReplies log caller shown kept (c ∷ cs) [] = ⊥
AreReplies log caller shown kept (c ∷ cs) (r ∷ rs) =
    let step = step_of log caller shown kept c r in
    IsReplyTo caller step × AreReplies log caller shown (kept_past log caller step) cs rs

-- A client's replies are those to its commands if what is left of them, behind those passed, is to the commands left.
pub record HasCome (log : Log) (caller : Caller) (shown : ℕ → ℕ → List ℕ) (commands : List Command) (replies : List ReplyLine)
    (left : List Command) (passed : Passed) : Type 0 where
  pub kept : Kept
  pub reads : AreReadsAt replies kept.reads passed.reads
  pub to : AreReplies log caller shown kept left (drop passed.next replies)
      → AreReplies log caller shown nothing_kept commands replies
  pub from : AreReplies log caller shown nothing_kept commands replies
      → AreReplies log caller shown kept left (drop passed.next replies)

-- one goes on if the reply is to its command, and where it is not, the replies are not those to the commands
abbrev pub GoesOn : Bool → Type 0 → Type 0 → Type 0
GoesOn true Next All = Next
GoesOn false Next All = All → ⊥

-- a client's commands among these
abbrev pub of_client : ℕ → List Command → List Command
of_client client commands = filter (λ (c : Command). c.client == client) commands

-- So it is of each client, whose commands that are left are among these.
abbrev pub HaveCome : Script → List ClientReport → List Command → List Passed → Type 0
HaveCome script clients left passed = (log : Log) (shown : ℕ → ℕ → ℕ → List ℕ) (n : ℕ) (c : ClientReport) (p : Passed)
    → slice_get clients n ≡ Some c → slice_get passed n ≡ Some p
    → HasCome log (caller_of script n) (shown n) (commands_of script n) c.replies (of_client n left) p

-- nothing is passed yet
abbrev pub IsBegun : Passed → Type 0
IsBegun p = (p.next ≡ 0) × ((replies : List ReplyLine) → AreReadsAt replies nothing_kept.reads p.reads)

-- all replies of each client are passed
abbrev pub AreAllPassed : List ClientReport → List Passed → Type 0
AreAllPassed clients passed = (n : ℕ) (c : ClientReport) (p : Passed) → slice_get clients n ≡ Some c → slice_get passed n ≡ Some p
    → length c.replies ≤ p.next

-- the replies of each client are those to its commands
abbrev pub AreAllReplies : Log → (ℕ → ℕ → ℕ → List ℕ) → Script → List ClientReport → Type 0
AreAllReplies log shown script clients = (n : ℕ) (c : ClientReport) → slice_get clients n ≡ Some c
    → AreReplies log (caller_of script n) (shown n) nothing_kept (commands_of script n) c.replies
