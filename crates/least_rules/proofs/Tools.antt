-- What an account has of a report of a few commands, and what shows which rule is the least that is broken.
use Rattle.std.proofs.Common.{◌≡◌, ◌∙◌, ℕ, ◌+◌, ◌≤◌, List, [], ◌∷◌, map, Some, ap, subst, arith}
use Rattle.std.specs.Prelude.{slice_get}
use Rattle.std.specs.List.{All}
use Rattle.std.proofs.lemmas.List.Elements.{All-head, All-tail}
use Rattle.col_core.specs.Log.{Log}
use Rattle.col_core.specs.Keeping.{Kept, nothing_kept}
use Rattle.script_text.specs.declared.script.Command.{Command}
use Rattle.script_text.specs.declared.script.Script.{Script}
use Rattle.report_text.specs.declared.report.ClientReport.{ClientReport}
use Rattle.report_text.specs.declared.report.ReplyLine.{ReplyLine}
use Rattle.report_text.specs.declared.report.Report.{Report}
use Rattle.lawful_run.specs.Callers.{Caller, caller_of, commands_of}
use Rattle.run_rules.specs.Told.{Account, Untold, Step, Follow, kept_past, IsTold, OfEachStep}
use Rattle.run_rules.specs.Rules.{Rule1}
use Rattle.run_rules.specs.Keeping.{Keeps}
use Rattle.run_rules.proofs.CallerLemmas.{keeps_fewer, rule1}
use Rattle.wrong_reports.specs.Cases.{Case}
use Rattle.least_rules.specs.Breaking.{Breaks}

-- This holds of each of the commands with its reply, of a client that keeps this before them, for something that the replies
-- leave out; behind them it keeps this.
abbrev pub Tells : (Step → Type 0) → Log → Caller → Kept → List Command → List ReplyLine → Kept → Type 0
Tells P log caller kept [] [] last = last ≡ kept
Tells P log caller kept [] (r ∷ rs) last = ⊥
Tells P log caller kept (c ∷ cs) [] last = ⊥
Tells P log caller kept (c ∷ cs) (r ∷ rs) last =
    (u : Untold) × P (record { command = c; reply = r; kept = kept; untold = u })
    × Tells P log caller (kept_past log caller (record { command = c; reply = r; kept = kept; untold = u })) cs rs last

module _ (P : Step → Type 0) (log : Log) (caller : Caller) where
  tells : (steps : List Step) (kept : Kept) (cs : List Command) (rs : List ReplyLine) (last : Kept)
      → map (λ (s : Step). s.command) steps ≡ cs → map (λ (s : Step). s.reply) steps ≡ rs
      → Follow log caller kept steps last → All P steps → Tells P log caller kept cs rs last
  tells [] kept [] [] last a b follow all = follow
  tells [] kept [] (r ∷ rs) last a b follow all = let f : ⊥ = cc (b) in f
  tells [] kept (c ∷ cs) rs last a b follow all = absurd (let f : ⊥ = cc (a) in f)
  tells (s ∷ ss) kept [] rs last a b follow all = absurd (let f : ⊥ = cc (a) in f)
  tells (s ∷ ss) kept (c ∷ cs) [] last a b follow all = let f : ⊥ = cc (b) in f
  tells (s ∷ ss) kept (c ∷ cs) (r ∷ rs) last a b follow all =
      let command : s.command ≡ c = cc (a) in
      let asked : map (λ (x : Step). x.command) ss ≡ cs = cc (a) in
      let reply : s.reply ≡ r = cc (b) in
      let replied : map (λ (x : Step). x.reply) ss ≡ rs = cc (b) in
      let same : s ≡ record { command = c; reply = r; kept = kept; untold = s.untold } =
      ap (λ (x : Command). record { command = x; reply = s.reply; kept = s.kept; untold = s.untold }) command
      ∙ (ap (λ (x : ReplyLine). record { command = c; reply = x; kept = s.kept; untold = s.untold }) reply
      ∙ ap (λ (x : Kept). record { command = c; reply = r; kept = x; untold = s.untold }) follow.0) in (
        s.untold,
        subst P same (All-head P s ss all),
        tells ss (kept_past log caller (record { command = c; reply = r; kept = kept; untold = s.untold })) cs rs last asked
            replied (subst (λ (x : Step). Follow log caller (kept_past log caller x) ss last) same follow.1)
            (All-tail P s ss all),
      )

-- what holds of each step holds of the commands of a client with the replies that are shown
pub client_tells : (script : Script) (report : Report) (account : Account) → IsTold script report account
    → (P : Caller → Step → Type 0) → OfEachStep script report account P → (n : ℕ) (c : ClientReport)
    → slice_get report.clients n ≡ Some c
    → Tells (P (caller_of script n)) account.log (caller_of script n) nothing_kept (commands_of script n) c.replies
    (account.last n)
client_tells script report account told P each n c there =
    let t = told.clients n c there in
    tells (P (caller_of script n)) account.log (caller_of script n) (account.steps n) nothing_kept (commands_of script n)
    c.replies (account.last n) t.commands t.replied t.follow (each n c there)

-- the first rule is the least where it is broken
pub breaks_first : (case : Case)
    → ((account : Account) → IsTold case.script case.report account → Rule1 case.script case.report account → ⊥)
    → Breaks case 1
breaks_first case broken = record {
  number = (omega arith, omega arith);
  before = λ n some few. absurd (let f : ⊥ = omega (arith, some, few) in f);
  broken = λ keeps. broken keeps.0 keeps.1 (rule1 keeps.2.1);
}

-- a rule is the least where those before it are kept, and not it with them
pub breaks_next : (case : Case) (n : ℕ) → 1 ≤ n → n + 1 ≤ 14 → Keeps case.script case.report n
    → (Keeps case.script case.report (n + 1) → ⊥) → Breaks case (n + 1)
breaks_next case n some few keeps broken = record {
  number = (omega (arith, some), few);
  before = λ m least lt. keeps_fewer case.script case.report m n (let l : m ≤ n = omega (arith, lt) in l) keeps;
  broken = broken;
}
