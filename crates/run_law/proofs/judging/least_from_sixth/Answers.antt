use Rattle.run_rules.specs.Nodes.{nodes_told}
use Rattle.run_rules.specs.Telling.{account_of}
use Rattle.run_law.proofs.LeastLemmas.{eighth_broken, eighth_of, nine_kept, ninth_broken, seventh_broken, sixth_broken, to_eighth, to_seventh, to_sixth}
use Rattle.run_law.proofs.judging.least_from_sixth.Goals as goal

pub returns-then-not-branch : goal.returns-then-not-branch
returns-then-not-branch c =
    let may = c.agrees.ensures.may.1 in
    sixth_broken c.later_rules_decided.ensures _ _ may.fitting may.formed c.requires _ c.if-not-branch.true
    c.in_ok-keeps_sixth.ensures

pub keeps_seventh-requires : goal.keeps_seventh-requires
keeps_seventh-requires c = to_sixth _ _ _ c.requires _ c.if-not-branch.false c.in_ok-keeps_sixth.ensures

pub returns-then-not-branch-2 : goal.returns-then-not-branch-2
returns-then-not-branch-2 c =
    let may = c.agrees.ensures.may.1 in
    seventh_broken c.later_rules_decided.ensures _ _ may.fitting may.formed
    (to_sixth _ _ _ c.requires _ c.if-not-branch.false c.in_ok-keeps_sixth.ensures) _ c.if-not-branch-2.true
    c.in_ok-keeps_seventh.ensures

pub returns-then-not-branch-3 : goal.returns-then-not-branch-3
returns-then-not-branch-3 c =
    let may = c.agrees.ensures.may.1 in
    let script = c.args.subject.now.script in
    let report = c.args.subject.now.report in
    eighth_broken c.later_rules_decided.ensures script report may.fitting may.formed
    (to_seventh script report (account_of script report (nodes_told script report)) c.requires _ c.if-not-branch.false c.in_ok-keeps_sixth.ensures
    _ c.if-not-branch-2.false c.in_ok-keeps_seventh.ensures)
    _ c.if-not-branch-3.true (eighth_of script c.script.result.now report c.report.result.now c.script.ensures c.report.ensures _
    (c.in_ok-keeps_eighth.ensures (nodes_told c.script.result.now c.report.result.now)))

pub keeps_ninth-requires : goal.keeps_ninth-requires
keeps_ninth-requires c =
    let script = c.args.subject.now.script in
    let report = c.args.subject.now.report in
    to_eighth script report (account_of script report (nodes_told script report)) c.requires _ c.if-not-branch.false c.in_ok-keeps_sixth.ensures
    _ c.if-not-branch-2.false c.in_ok-keeps_seventh.ensures
    _ c.if-not-branch-3.false (eighth_of script c.script.result.now report c.report.result.now c.script.ensures c.report.ensures _
    (c.in_ok-keeps_eighth.ensures (nodes_told c.script.result.now c.report.result.now)))

pub returns-then-not-branch-4 : goal.returns-then-not-branch-4
returns-then-not-branch-4 c =
    let may = c.agrees.ensures.may.1 in
    let script = c.args.subject.now.script in
    let report = c.args.subject.now.report in
    ninth_broken c.later_rules_decided.ensures script report may.fitting may.formed c.ninth_rule_decided.ensures
    (to_eighth script report (account_of script report (nodes_told script report)) c.requires _ c.if-not-branch.false c.in_ok-keeps_sixth.ensures
    _ c.if-not-branch-2.false c.in_ok-keeps_seventh.ensures
    _ c.if-not-branch-3.false (eighth_of script c.script.result.now report c.report.result.now c.script.ensures c.report.ensures _
    (c.in_ok-keeps_eighth.ensures (nodes_told c.script.result.now c.report.result.now))))
    _ c.if-not-branch-4.true c.in_ok-keeps_ninth.ensures

pub returns : goal.returns
returns c =
    let may = c.agrees.ensures.may.1 in
    let script = c.args.subject.now.script in
    let report = c.args.subject.now.report in
    nine_kept c.later_rules_decided.ensures script report may.fitting may.formed c.ninth_rule_decided.ensures
    (to_eighth script report (account_of script report (nodes_told script report)) c.requires _ c.if-not-branch.false c.in_ok-keeps_sixth.ensures
    _ c.if-not-branch-2.false c.in_ok-keeps_seventh.ensures
    _ c.if-not-branch-3.false (eighth_of script c.script.result.now report c.report.result.now c.script.ensures c.report.ensures _
    (c.in_ok-keeps_eighth.ensures (nodes_told c.script.result.now c.report.result.now))))
    _ c.if-not-branch-4.false c.in_ok-keeps_ninth.ensures
