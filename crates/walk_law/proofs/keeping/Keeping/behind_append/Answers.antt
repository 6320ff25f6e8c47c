use Rattle.std.proofs.Common.{subst}
use Rattle.col_core.specs.Keeping.{Kept}
use Rattle.lawful_run.specs.Callers.{caller_of}
use Rattle.run_rules.specs.Telling.{replies_to}
use Rattle.walk_law.specs.Keepings.{IsCounted}
use Rattle.walk_law.specs.Walking.{log_walked}
use Rattle.walk_law.proofs.EnteringLemmas.{appending_same}
use Rattle.walk_law.proofs.keeping.Keeping.behind_append.Goals as goal

pub returns-in_default : goal.returns-in_default
returns-in_default c = record {
  kept = λ kept untold reply at is told counted.
      let walked = c.args.subject.now in
      c.answered.ensures.kept kept untold (record {
        reply = (reply, at, is);
        told = told;
        counts = subst (λ (k : Kept). IsCounted (replies_to walked.report c.args.client) k c.args.self.now)
            (appending_same (log_walked walked) (caller_of walked.script c.args.client) kept c.args.answer.now c.in_default.not-Decided)
            counted;
      });
  ids = c.answered.ensures.ids;
  rows = c.answered.ensures.rows;
}
