use Rattle.std.proofs.Common.{true}
use Rattle.run_rules.specs.Computing.{finds_of}
use Rattle.run_rules.specs.Deciding.{decisions_of}
use Rattle.run_rules.specs.Nodes.{nodes_with}
use Rattle.object_law.proofs.ShowingLemmas.{told_table}
use Rattle.object_law.proofs.showing.shows_decisions.Goals as goal

pub returns : goal.returns
returns c =
    let script = c.args.subject.now.script in
    let report = c.args.subject.now.report in
    told_table true report c.args.texts.now
    (nodes_with script report (finds_of script report) (decisions_of script report)) c.args.nodes.now c.requires.texts
    c.requires.nodes c.each_says_shown.result c.each_says_shown.ensures
