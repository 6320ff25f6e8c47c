use Rattle.std.proofs.Common.{subst, Bool, List}
use Rattle.report_text.specs.declared.report.ClientReport.{ClientReport}
use Rattle.column_track.specs.Tracks.{Tells}
use Rattle.run_rules.specs.Keeping.{Keeps}
use Rattle.run_rules.specs.Telling.{log_of, no_nodes, places_shown}
use Rattle.walk_law.specs.Lists.{HasLists}
use Rattle.walk_law.specs.Replies.{AreAllReplies}
use Rattle.walk_law.proofs.FirstLemmas.{callers_shown, first_told, lists_kept, low_objects}
use Rattle.walk_law.proofs.Members.{ok_as}
use Rattle.walk_law.proofs.first.keeps_first.Goals as goal

pub are_replies-requires-clause-low : goal.are_replies-requires-clause-low
are_replies-requires-clause-low c = low_objects c.args.script.now c.requires

pub are_replies-requires-clause-callers : goal.are_replies-requires-clause-callers
are_replies-requires-clause-callers c =
    callers_shown c.args.script.now c.args.report.now c.as_slice.result.now c.as_slice.ensures c.requires
    (subst (λ (b : Bool). Tells b (HasLists c.args.script.now c.args.report.now)) c.if-not-branch.false c.in_ok-is_listed.ensures)

pub returns-then-not-branch : goal.returns-then-not-branch
returns-then-not-branch c = λ keeps.
    subst (λ (b : Bool). Tells b (HasLists c.args.script.now c.args.report.now)) c.if-not-branch.true c.in_ok-is_listed.ensures
    (lists_kept c.args.script.now c.args.report.now c.requires keeps)

pub returns : goal.returns
returns c =
    let script = c.args.script.now in
    let report = c.args.report.now in
    let log = log_of report no_nodes in
    let shown = places_shown script report in
    ok_as c.are_replies.result (AreAllReplies log shown script c.as_slice.result.now) (Keeps script report 1)
    (λ b told. first_told script report c.requires
    (subst (λ (t : Bool). Tells t (HasLists script report)) c.if-not-branch.false c.in_ok-is_listed.ensures) b
    (subst (λ (l : List ClientReport). Tells b (AreAllReplies log shown script l)) c.as_slice.ensures told))
    (c.are_replies.ensures log shown)
