use Rattle.std.proofs.Common.{◌∙◌, subst, sym}
use Rattle.lawful_run.specs.Appends.{kept_after_points}
use Rattle.lawful_run.specs.Callers.{caller_of}
use Rattle.walk_law.specs.Walking.{log_walked}
use Rattle.walk_law.proofs.FourthLemmas.{StepsTold, append_points, append_several, append_single}
use Rattle.walk_law.proofs.Lists.{told_not, told_so}
use Rattle.walk_law.proofs.own_seen.OwnSeen.names_append.Goals as goal

pub returns-then-not-names_points : goal.returns-then-not-names_points
returns-then-not-names_points c = λ kept untold stamp s ids left_out low names.
    let walked = c.args.subject.now in
    let caller = caller_of walked.script c.args.self.now.client in
    told_not c.names_points.result (c.names_points.ensures caller kept s low) c.if-not-names_points.true
    (append_points (log_walked walked) untold caller kept c.args.row c.args.points.now names)

pub returns-then-is_some : goal.returns-then-is_some
returns-then-is_some c = λ kept untold stamp s ids left_out low.
    let walked = c.args.subject.now in
    let caller = caller_of walked.script c.args.self.now.client in
    append_several (log_walked walked) untold caller kept stamp c.args.row c.args.points.now c.names_steps.new.behind
    c.in_ok-named.named (sym c.is_some.ensures ∙ c.if-is_some.true)
    (told_so c.names_points.result (c.names_points.ensures caller kept s low) c.if-not-names_points.false)
    (subst (StepsTold walked c.args.count c.points.new.self c.names_steps.new.behind c.in_ok-named.named) c.copied-before.ensures
    c.in_ok-named.ensures kept (kept_after_points kept caller.own c.args.points.now) untold s (c.points.ensures caller kept s) ids
    left_out)

pub returns : goal.returns
returns c = λ kept untold stamp s ids left_out low.
    let walked = c.args.subject.now in
    let caller = caller_of walked.script c.args.self.now.client in
    append_single (log_walked walked) untold caller kept stamp c.args.row c.args.points.now c.singles.new.self
    (sym c.is_some.ensures ∙ c.if-is_some.false)
    (told_so c.names_points.result (c.names_points.ensures caller kept s low) c.if-not-names_points.false)
    (c.singles.ensures caller kept untold stamp s)
