use Rattle.run_rules.specs.Telling.{account_of}
use Rattle.run_rules.specs.Nodes.{nodes_told}
use Rattle.run_rules.specs.Keeping.{RulesTo}
use Rattle.walk_law.specs.Fifth.{EntersItsNodes}
use Rattle.walk_law.proofs.EnteringLemmas.{fifth_told}
use Rattle.walk_law.proofs.Members.{ok_as}
use Rattle.walk_law.proofs.fifth.keeps_fifth.Goals as goal

pub returns : goal.returns
returns c =
    let walked = c.args.subject.now in
    let may = c.agrees.ensures.may in
    ok_as c.enter_their_own.result (EntersItsNodes walked.script walked.report)
    (RulesTo walked.script walked.report (account_of walked.script walked.report (nodes_told walked.script walked.report)) 5)
    (fifth_told walked.script walked.report c.fifth_is_entering.ensures may.0 may.1 c.requires) c.enter_their_own.ensures
