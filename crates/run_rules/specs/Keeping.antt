-- The rules by their numbers, which reports keep them, and what a report hides.
use Rattle.std.specs.Prelude.{◌≡◌, Bool, true, false, not, ℕ, zero, suc, ◌<◌, ◌≤◌, List, Option, None}
use Rattle.std.specs.List.{find, flat_map}
use Rattle.script_text.specs.declared.commands.Word.{Word}
use Rattle.script_text.specs.declared.commands.Word.TheVariants as words
use Rattle.script_text.specs.declared.script.Script.{Script}
use Rattle.report_text.specs.declared.report.Answer.{Answer}
use Rattle.report_text.specs.declared.report.Answer.TheVariants as answers
use Rattle.report_text.specs.declared.report.ReplyLine.{ReplyLine}
use Rattle.report_text.specs.declared.report.ClientReport.{ClientReport}
use Rattle.report_text.specs.declared.report.Report.{Report}
use Rattle.run_rules.specs.Told.{Account, IsTold}
use Rattle.run_rules.specs.Rules.{Rule1, Rule2, Rule3, Rule4, Rule5, Rule6, Rule7, Rule8}
use Rattle.run_rules.specs.Shown.{Rule9, Rule10, Rule11, Rule12, Rule13, Rule14}

-- the rule with this number, at an account
pub data Rule (script : Script) (report : Report) (account : Account) : ℕ → Type 0 where
  one : Rule1 script report account → Rule script report account 1
  two : Rule2 script report → Rule script report account 2
  three : Rule3 script account → Rule script report account 3
  four : Rule4 script report account → Rule script report account 4
  five : Rule5 script report account → Rule script report account 5
  six : Rule6 script report account → Rule script report account 6
  seven : Rule7 script report account → Rule script report account 7
  eight : Rule8 script report account → Rule script report account 8
  nine : Rule9 script report account → Rule script report account 9
  ten : Rule10 script report account → Rule script report account 10
  eleven : Rule11 script report account → Rule script report account 11
  twelve : Rule12 script report account → Rule script report account 12
  thirteen : Rule13 script report account → Rule script report account 13
  fourteen : Rule14 script report account → Rule script report account 14

-- how many rules there are
abbrev pub rule_count : ℕ
rule_count = 14

-- the rules up to this number
abbrev pub RulesTo : Script → Report → Account → ℕ → Type 0
RulesTo script report account zero = Unit {0}
RulesTo script report account (suc n) = RulesTo script report account n × Rule script report account (suc n)

-- The report keeps the rules up to this number, at an account that it tells.
abbrev pub Keeps : Script → Report → ℕ → Type 0
Keeps script report n = (account : Account) × IsTold script report account × RulesTo script report account n

-- It keeps the rules before this one, and not this one with them.
pub record IsLeastBroken (script : Script) (report : Report) (rule : ℕ) : Type 0 where
  pub number : (1 ≤ rule) × (rule ≤ rule_count)
  pub before : (n : ℕ) → 1 ≤ n → n < rule → Keeps script report n
  pub broken : Keeps script report rule → ⊥

-- WHAT IS HIDDEN

abbrev pub is_sync : Word → Bool
is_sync words.Sync = true
is_sync _ = false

-- The first word of the answer is `nomemory` or `unread`; or it is `trimmed`, and the command's word is not `sync`.
abbrev pub hides : Word → Answer → Bool
hides word answers.NoMemory = true
hides word (answers.UnreadTrimmed stamp colour base) = true
hides word (answers.UnreadNoMemory stamp) = true
hides word (answers.Trimmed colour base) = not (is_sync word)
hides word _ = false

-- all replies, in the report's order
abbrev pub all_replies : Report → List ReplyLine
all_replies report = flat_map (λ (c : ClientReport). c.replies) report.clients

-- the first reply that hides what was done
abbrev pub first_hidden : Report → Option ReplyLine
first_hidden report = find (λ (r : ReplyLine). hides r.word r.answer) (all_replies report)

abbrev pub HidesNothing : Report → Type 0
HidesNothing report = first_hidden report ≡ None
