use Rattle.std.proofs.Common.{◌∙◌, subst, sym, ℕ}
use Rattle.std.proofs.lemmas.Bool.{true≢false}
use Rattle.lawful_run.specs.Callers.{caller_of}
use Rattle.run_rules.specs.Told.{is_several}
use Rattle.run_rules.specs.Naming.{NamesSteps}
use Rattle.walk_law.specs.Behind.{LeavesOutSteps}
use Rattle.walk_law.specs.Walking.{log_walked}
use Rattle.walk_law.proofs.FourthLemmas.{BegunTold, implied_told, ok_to}
use Rattle.walk_law.proofs.fourth.names_stamp_end.Goals as goal

pub returns-then-not-branch : goal.returns-then-not-branch
returns-then-not-branch c = λ kept untold is s left_out t.
    absurd (true≢false (sym t ∙ (sym (c.in_ok-is_several.ensures kept is) ∙ c.if-not-branch.true)))

pub returns : goal.returns
returns c = λ kept untold is s left_out.
    let walked = c.args.subject.now in
    let caller = caller_of walked.script c.args.client in
    ok_to c.names_begun.result _ _
    (λ b named. implied_told (NamesSteps (log_walked walked) caller kept untold.places) (is_several caller kept c.args.what.now) b
    (sym (c.in_ok-is_several.ensures kept is) ∙ c.if-not-branch.false) named)
    (subst (BegunTold walked c.ids.result c.args.seen.now c.names_begun.result) c.requires.client c.names_begun.ensures kept untold s
    (c.ids.ensures ∙ is.ids)
    (subst (λ (k : ℕ). LeavesOutSteps walked c.args.client k untold) (sym (c.ids.ensures ∙ is.ids)) left_out))
