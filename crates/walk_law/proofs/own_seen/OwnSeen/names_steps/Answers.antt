use Rattle.std.proofs.Common.{◌≡◌, ℕ, subst, sym}
use Rattle.std.specs.Prelude.{None, Some}
use Rattle.lawful_run.specs.Callers.{caller_of}
use Rattle.walk_law.specs.Fourth.{Sighted}
use Rattle.walk_law.specs.PlaceTables.{row_with}
use Rattle.walk_law.proofs.SeenSteps.{no_marks}
use Rattle.walk_law.proofs.own_seen.OwnSeen.names_steps.Goals as goal

pub names_steps_of-requires-clause-row : goal.names_steps_of-requires-clause-row
names_steps_of-requires-clause-row c =
    let walked = c.args.subject.now in (
      c.in-Some.row.now,
      subst (λ (o : Sighted). row_with (caller_of walked.script o.client).own (record { client = o.client; count = c.args.count })
          walked.report.rows ≡ Some c.in-Some.row.now) c.self.view_is
          (subst (λ (n : ℕ). row_with n (record { client = c.self.inside.client; count = c.args.count }) walked.report.rows
          ≡ Some c.in-Some.row.now) c.own-own.ensures.own (sym c.in-Some.ensures)),
      c.as_slice.ensures,
    )

pub returns-in-None : goal.returns-in-None
returns-in-None c = λ kept after untold s t ids left_out.
    let walked = c.args.subject.now in
    let may = c.agrees.ensures.may in
    no_marks walked may.0 may.1 c.args.count c.args.self.now c.args.behind.now c.requires
    (subst (λ (o : Sighted). row_with (caller_of walked.script o.client).own (record { client = o.client; count = c.args.count })
    walked.report.rows ≡ None) c.self.view_is
    (subst (λ (n : ℕ). row_with n (record { client = c.self.inside.client; count = c.args.count }) walked.report.rows ≡ None)
    c.own-own.ensures.own (sym c.in-None.ensures))) kept after untold s ids left_out t
