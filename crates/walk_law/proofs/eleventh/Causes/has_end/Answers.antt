use Rattle.std.proofs.Common.{◌∙◌, sym, subst, ap, ℕ, ◌<◌, ◌≤◌, length}
use Rattle.lawful_run.specs.Callers.{caller_of}
use Rattle.run_rules.specs.Told.{colours_asked}
use Rattle.walk_law.specs.Eleventh.{looks_in}
use Rattle.walk_law.proofs.CauseLemmas.{both_told, no_end, only_end, row_end}
use Rattle.walk_law.proofs.Lists.{told_not, told_so}
use Rattle.walk_law.proofs.eleventh.Causes.has_end.Goals as goal

pub returns-then-len-gt1 : goal.returns-then-len-gt1
returns-then-len-gt1 c = λ kept is low.
    both_told _ (sym c.tells_end.ensures ∙ c.if-not-tells_end.false) c.has_ended_row.result
    (row_end (looks_in c.args.self.now c.args.subject.now.report.rows) c.args.subject.now
    (caller_of c.args.subject.now.script c.args.client) kept c.args.colour
    (colours_asked (caller_of c.args.subject.now.script c.args.client) kept c.args.what.now)
    (subst (λ (l : ℕ). 1 < l) (c.len.ensures ∙ ap length (c.in_ok-asked.ensures kept is)) c.if-len-gt1.true)
    c.has_ended_row.result (c.has_ended_row.ensures kept is))

pub returns-then-not-is_only : goal.returns-then-not-is_only
returns-then-not-is_only c = λ kept is low two.
    no_end (looks_in c.args.self.now c.args.subject.now.report.rows) c.args.subject.now
    (caller_of c.args.subject.now.script c.args.client) kept c.args.colour
    (colours_asked (caller_of c.args.subject.now.script c.args.client) kept c.args.what.now)
    (subst (λ (l : ℕ). l ≤ 1) (c.len.ensures ∙ ap length (c.in_ok-asked.ensures kept is)) c.if-len-gt1.false)
    (λ e. told_not c.is_only.result c.is_only.ensures c.if-not-is_only.true
    (c.as_slice.ensures ∙ (c.in_ok-asked.ensures kept is ∙ e))) two.1

pub returns : goal.returns
returns c = λ kept is low.
    both_told _ (sym c.tells_end.ensures ∙ c.if-not-tells_end.false) c.had_no_stamp.result
    (only_end (looks_in c.args.self.now c.args.subject.now.report.rows) c.args.subject.now
    (caller_of c.args.subject.now.script c.args.client) kept c.args.colour
    (colours_asked (caller_of c.args.subject.now.script c.args.client) kept c.args.what.now)
    (sym (c.in_ok-asked.ensures kept is) ∙ (sym c.as_slice.ensures
    ∙ told_so c.is_only.result c.is_only.ensures c.if-not-is_only.false)) c.had_no_stamp.result (c.had_no_stamp.ensures kept is low))
