use Rattle.std.proofs.Common.{arith}
use Rattle.run_law.proofs.JudgementLemmas.{eleventh_broken, eleventh_kept, shown_to, tenth_broken, tenth_kept, thirteenth_broken, thirteenth_kept, twelfth_broken, twelfth_kept}
use Rattle.run_law.proofs.judgement.least_shown.Goals as goal

pub returns-then-not-branch : goal.returns-then-not-branch
returns-then-not-branch c =
    let fits = c.agrees.ensures.may.1.fitting in
    tenth_broken c.rules_are_asked.ensures _ _ fits c.requires.differ c.requires.keeps _ c.in_ok-keeps_tenth.ensures
    c.if-not-branch.true

pub keeps_eleventh-requires : goal.keeps_eleventh-requires
keeps_eleventh-requires c =
    let fits = c.agrees.ensures.may.1.fitting in
    shown_to c.rules_stand.ensures c.args.subject.now.script c.args.subject.now.report fits 10 (omega arith) (omega arith)
    (tenth_kept c.rules_are_asked.ensures _ _ fits c.requires.differ c.requires.keeps c.requires.kept _ c.in_ok-keeps_tenth.ensures
    c.if-not-branch.false)

pub returns-then-not-branch-2 : goal.returns-then-not-branch-2
returns-then-not-branch-2 c =
    let fits = c.agrees.ensures.may.1.fitting in
    eleventh_broken c.rules_are_asked.ensures _ _ fits c.requires.differ
    (tenth_kept c.rules_are_asked.ensures _ _ fits c.requires.differ c.requires.keeps c.requires.kept _ c.in_ok-keeps_tenth.ensures
    c.if-not-branch.false)
    _ c.in_ok-keeps_eleventh.ensures c.if-not-branch-2.true

pub keeps_twelfth-requires : goal.keeps_twelfth-requires
keeps_twelfth-requires c =
    let fits = c.agrees.ensures.may.1.fitting in
    shown_to c.rules_stand.ensures c.args.subject.now.script c.args.subject.now.report fits 11 (omega arith) (omega arith)
    (eleventh_kept c.rules_are_asked.ensures _ _ fits c.requires.differ
    (tenth_kept c.rules_are_asked.ensures _ _ fits c.requires.differ c.requires.keeps c.requires.kept _ c.in_ok-keeps_tenth.ensures
    c.if-not-branch.false)
    _ c.in_ok-keeps_eleventh.ensures c.if-not-branch-2.false)

pub returns-then-not-branch-3 : goal.returns-then-not-branch-3
returns-then-not-branch-3 c =
    let fits = c.agrees.ensures.may.1.fitting in
    twelfth_broken c.rules_are_asked.ensures _ _ fits c.requires.differ
    (eleventh_kept c.rules_are_asked.ensures _ _ fits c.requires.differ
    (tenth_kept c.rules_are_asked.ensures _ _ fits c.requires.differ c.requires.keeps c.requires.kept _ c.in_ok-keeps_tenth.ensures
    c.if-not-branch.false)
    _ c.in_ok-keeps_eleventh.ensures c.if-not-branch-2.false)
    _ c.in_ok-keeps_twelfth.ensures c.if-not-branch-3.true

pub keeps_thirteenth-requires-clause-kept : goal.keeps_thirteenth-requires-clause-kept
keeps_thirteenth-requires-clause-kept c =
    let fits = c.agrees.ensures.may.1.fitting in
    shown_to c.rules_stand.ensures c.args.subject.now.script c.args.subject.now.report fits 12 (omega arith) (omega arith)
    (twelfth_kept c.rules_are_asked.ensures _ _ fits c.requires.differ
    (eleventh_kept c.rules_are_asked.ensures _ _ fits c.requires.differ
    (tenth_kept c.rules_are_asked.ensures _ _ fits c.requires.differ c.requires.keeps c.requires.kept _ c.in_ok-keeps_tenth.ensures
    c.if-not-branch.false)
    _ c.in_ok-keeps_eleventh.ensures c.if-not-branch-2.false)
    _ c.in_ok-keeps_twelfth.ensures c.if-not-branch-3.false)

pub returns-then-not-branch-4 : goal.returns-then-not-branch-4
returns-then-not-branch-4 c =
    let fits = c.agrees.ensures.may.1.fitting in
    thirteenth_broken c.rules_are_asked.ensures _ _ fits c.requires.differ
    (twelfth_kept c.rules_are_asked.ensures _ _ fits c.requires.differ
    (eleventh_kept c.rules_are_asked.ensures _ _ fits c.requires.differ
    (tenth_kept c.rules_are_asked.ensures _ _ fits c.requires.differ c.requires.keeps c.requires.kept _ c.in_ok-keeps_tenth.ensures
    c.if-not-branch.false)
    _ c.in_ok-keeps_eleventh.ensures c.if-not-branch-2.false)
    _ c.in_ok-keeps_twelfth.ensures c.if-not-branch-3.false)
    _ c.in_ok-keeps_thirteenth.ensures c.if-not-branch-4.true

pub returns : goal.returns
returns c =
    let fits = c.agrees.ensures.may.1.fitting in
    thirteenth_kept c.rules_are_asked.ensures c.args.subject.now.script c.args.subject.now.report fits c.requires.differ
    (twelfth_kept c.rules_are_asked.ensures _ _ fits c.requires.differ
    (eleventh_kept c.rules_are_asked.ensures _ _ fits c.requires.differ
    (tenth_kept c.rules_are_asked.ensures _ _ fits c.requires.differ c.requires.keeps c.requires.kept _ c.in_ok-keeps_tenth.ensures
    c.if-not-branch.false)
    _ c.in_ok-keeps_eleventh.ensures c.if-not-branch-2.false)
    _ c.in_ok-keeps_twelfth.ensures c.if-not-branch-3.false)
    _ c.in_ok-keeps_thirteenth.ensures c.if-not-branch-4.false
