-- The steps of the account by which reports are judged from the tenth rule on, beside those of the one with no nodes.
use Rattle.std.proofs.Common.{◌≡◌, ℕ, ◌<◌, Some}
use Rattle.std.specs.Prelude.{slice_get}
use Rattle.std.specs.List.{All}
use Rattle.col_core.proofs.CallerLemmas.{In}
use Rattle.script_text.specs.declared.script.Script.{Script}
use Rattle.script_text.specs.Fitting.{IsFitting, IsWithin, UsesObject}
use Rattle.report_text.specs.declared.report.ClientReport.{ClientReport}
use Rattle.report_text.specs.declared.report.Report.{Report}
use Rattle.lawful_run.specs.Callers.{Caller, caller_of}
use Rattle.run_rules.specs.Told.{Account, IsTold, Step}
use Rattle.run_rules.specs.Telling.{IsWellFormed, account_of, no_nodes}
use Rattle.run_rules.specs.Deciding.{account_showing, nodes_showing}
use Rattle.run_rules.specs.Keeping.{RulesTo}
use Rattle.run_rules.specs.Laws.{ComputedAccountAgrees, FindsTell}
use Rattle.walk_law.proofs.FoundSteps.{AreBeside}
use Rattle.walk_law.proofs.FoundSteps as found

module _ (tell : FindsTell) (agrees : ComputedAccountAgrees) (script : Script) (report : Report) (fits : IsFitting script)
    (well : IsWellFormed script report) (rules : RulesTo script report (account_showing script report) 4) where
  abbrev shown : Account
  shown = account_showing script report

  abbrev bare : Account
  bare = account_of script report no_nodes

  pub told : IsTold script report shown
  told = found.told tell agrees script report (nodes_showing script report) fits well rules

  module _ (n : ℕ) (c : ClientReport) (at : slice_get report.clients n ≡ Some c) where
    abbrev who : Caller
    who = caller_of script n

    -- what is so of steps of the one account is so of those of the other
    pub to_bare : (P Q : Step → Type 0)
        → ((x y : Step) → In x (shown.steps n) → AreBeside script who shown.log bare.log x y → P x → Q y)
        → All P (shown.steps n) → All Q (bare.steps n)
    to_bare = found.to_bare tell agrees script report (nodes_showing script report) fits well rules n c at

    pub to_shown : (P Q : Step → Type 0)
        → ((x y : Step) → In x (shown.steps n) → AreBeside script who shown.log bare.log x y → Q y → P x)
        → All Q (bare.steps n) → All P (shown.steps n)
    to_shown = found.to_found tell agrees script report (nodes_showing script report) fits well rules n c at

    -- the region of a client is one of the shape
    pub home_low : who.own < script.shape.regions
    home_low = found.home_low tell agrees script report (nodes_showing script report) fits well rules n c at

    -- a step's command is within the shape
    pub its_within : (x : Step) → In x (shown.steps n) → IsWithin script.shape.regions script.shape.colours x.command.what
    its_within = found.its_within tell agrees script report (nodes_showing script report) fits well rules n c at

    pub its_object : (x : Step) → In x (shown.steps n) → UsesObject script.objects x.command.what
    its_object = found.its_object tell agrees script report (nodes_showing script report) fits well rules n c at
