use Rattle.std.proofs.Common.{◌≡◌, ◌∙◌, ap, sym, ℕ, Option}
use Rattle.lawful_run.specs.Callers.{caller_of}
use Rattle.run_rules.specs.Told.{stamp_told}
use Rattle.run_rules.specs.Telling.{journal_among}
use Rattle.walk_law.specs.PlaceTables.{final_of, row_with}
use Rattle.walk_law.specs.Walking.{log_walked}
use Rattle.walk_law.proofs.BehindLemmas.{row_final}
use Rattle.walk_law.proofs.keeping.Keeping.stamp_told.Goals as goal

pub returns-in-Some : goal.returns-in-Some
returns-in-Some c replies kept s =
    let walked = c.args.subject.now in
    let count : c.ids-count.result ≡ kept.ids = c.ids-count.ensures ∙ s.ids in
    c.final_number.ensures
    ∙ (ap (λ (own : ℕ). final_of (row_with own (record { client = c.args.client; count = c.ids-count.result }) walked.report.rows)) c.own-own.ensures.own
    ∙ (ap (λ (n : ℕ). final_of (row_with (caller_of walked.script c.args.client).own (record { client = c.args.client; count = n }) walked.report.rows)) count
    ∙ (sym (row_final (journal_among walked.report.columns) (caller_of walked.script c.args.client).own
    (record { client = c.args.client; count = kept.ids }) walked.report.rows)
    ∙ ap (λ (row : Option ℕ). stamp_told (log_walked walked) (caller_of walked.script c.args.client) kept row c.args.points.now) (sym c.in-Some.is))))
