use Rattle.std.proofs.Common.{◌≡◌, ◌∙◌, ℕ, subst, sym}
use Rattle.std.specs.Prelude.{OnOk, Some, None}
use Rattle.log_node.specs.declared.ids.Id.{Id}
use Rattle.col_core.specs.Keeping.{with_made}
use Rattle.lawful_run.specs.Callers.{caller_of}
use Rattle.walk_law.specs.Behind.{steps_untold}
use Rattle.walk_law.specs.Keepings.{IsCounted}
use Rattle.walk_law.specs.PlaceTables.{row_with}
use Rattle.walk_law.proofs.RowSteps.{none_made}
use Rattle.walk_law.proofs.keeping.Keeping.make_steps.Goals as goal

pub make_steps_of-requires-clause-row : goal.make_steps_of-requires-clause-row
make_steps_of-requires-clause-row c =
    let walked = c.args.subject.now in
    let id : Id = record { client = c.args.client; count = c.ids-count.result } in (
      c.in-Some.row.now,
      subst (λ (n : ℕ). row_with n id walked.report.rows ≡ Some c.in-Some.row.now) c.own-own.ensures.own (sym c.in-Some.ensures),
      c.as_slice.ensures,
    )

pub returns-in-Some-clause-kept : goal.returns-in-Some-clause-kept
returns-in-Some-clause-kept c = λ replies kept s.
    let walked = c.args.subject.now in
    subst (λ (n : ℕ). OnOk c.make_steps_of.result (IsCounted replies (with_made kept (caller_of walked.script c.args.client).own
    (steps_untold walked c.args.client n)) c.make_steps_of.new.self)) (c.ids-count.ensures ∙ s.ids)
    (c.make_steps_of.ensures.kept replies kept s)

pub returns-in-None-clause-kept : goal.returns-in-None-clause-kept
returns-in-None-clause-kept c = λ replies kept s.
    let walked = c.args.subject.now in
    let may = c.agrees.ensures.may in
    let none = subst (λ (n : ℕ). row_with n (record { client = c.args.client; count = kept.ids }) walked.report.rows ≡ None)
    c.own-own.ensures.own
    (subst (λ (n : ℕ). row_with c.own-own.result (record { client = c.args.client; count = n }) walked.report.rows ≡ None)
    (c.ids-count.ensures ∙ s.ids) (sym c.in-None.ensures)) in
    none_made walked may.0 may.1 c.args.client c.requires kept.ids none replies kept c.args.self.now s
