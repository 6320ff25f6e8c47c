use Rattle.std.proofs.Common.{false}
use Rattle.run_rules.specs.Computing.{any_decisions, finds_of}
use Rattle.run_rules.specs.Deciding.{account_showing}
use Rattle.run_rules.specs.Keeping.{RulesTo}
use Rattle.run_rules.specs.Nodes.{nodes_with}
use Rattle.object_law.specs.Showing.{ShownAreFound}
use Rattle.walk_law.proofs.CallerLemmas.{told_as}
use Rattle.object_law.proofs.ShowingLemmas.{told_table}
use Rattle.object_law.proofs.showing.keeps_showing.Goals as goal

pub returns : goal.returns
returns c =
    let script = c.args.subject.now.script in
    let report = c.args.subject.now.report in
    let law = c.showing_is_found.ensures script report c.agrees.ensures.may.1.fitting c.requires.kept in
    told_as c.each_says_shown.result (ShownAreFound script report) (RulesTo script report (account_showing script report) 9)
    law.0 law.1
    (told_table false report c.args.texts.now (nodes_with script report (finds_of script report) any_decisions) c.args.nodes.now
    c.requires.texts c.requires.nodes c.each_says_shown.result c.each_says_shown.ensures)
