use Rattle.std.proofs.Common.{◌∙◌, subst}
use Rattle.walk_law.specs.Journals.{AreTracksOf}
use Rattle.run_law.proofs.LeastLemmas.{first_kept, may_walk, second_broken, third_broken}
use Rattle.walk_law.proofs.CallerLemmas.{told_not, told_so}
use Rattle.run_law.proofs.judging.begin.Goals as goal

pub tracks_of-requires-clause-columns : goal.tracks_of-requires-clause-columns
tracks_of-requires-clause-columns c =
    (first_kept c.first_rules_decided.ensures c.args.script.now c.args.report.now c.requires
    (told_so _ c.in_ok-keeps_first.ensures c.if-not-branch.false)).1.columns

pub returns-in_default : goal.returns-in_default
returns-in_default c =
    let script = c.args.script.now in
    let report = c.args.report.now in
    second_broken c.first_rules_decided.ensures script report c.requires
    (told_so _ c.in_ok-keeps_first.ensures c.if-not-branch.false)
    (subst (AreTracksOf script report) c.in_default.is c.in_ok-tracks.ensures)

pub keeps_third-requires-clause-formed : goal.keeps_third-requires-clause-formed
keeps_third-requires-clause-formed c =
    (first_kept c.first_rules_decided.ensures c.args.script.now c.args.report.now c.requires
    (told_so _ c.in_ok-keeps_first.ensures c.if-not-branch.false)).0

pub keeps_third-requires-clause-tracked : goal.keeps_third-requires-clause-tracked
keeps_third-requires-clause-tracked c =
    let script = c.args.script.now in
    let report = c.args.report.now in
    record {
      numbers =
          (first_kept c.first_rules_decided.ensures script report c.requires
          (told_so _ c.in_ok-keeps_first.ensures c.if-not-branch.false)).1.columns;
      tracks_are = c.as_slice.ensures ∙ (subst (AreTracksOf script report) c.in-Some.is c.in_ok-tracks.ensures).0;
    }

pub returns-then-not-branch-2 : goal.returns-then-not-branch-2
returns-then-not-branch-2 c =
    let script = c.args.script.now in
    let report = c.args.report.now in
    third_broken c.first_rules_decided.ensures script report c.requires
    (told_so _ c.in_ok-keeps_first.ensures c.if-not-branch.false)
    (subst (AreTracksOf script report) c.in-Some.is c.in_ok-tracks.ensures).1
    (told_not _ c.in_ok-keeps_third.ensures c.if-not-branch-2.true)

pub returns : goal.returns
returns c =
    let script = c.args.script.now in
    let report = c.args.report.now in
    let are = subst (AreTracksOf script report) c.in-Some.is c.in_ok-tracks.ensures in
    may_walk c.first_rules_decided.ensures script report c.requires c.in-Some.tracks are.0
    (told_so _ c.in_ok-keeps_first.ensures c.if-not-branch.false) are.1
    (told_so _ c.in_ok-keeps_third.ensures c.if-not-branch-2.false)
