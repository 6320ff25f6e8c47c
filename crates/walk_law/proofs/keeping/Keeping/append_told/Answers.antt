use Rattle.std.proofs.Common.{ℕ, subst}
use Rattle.std.specs.Prelude.{OnOk}
use Rattle.lawful_run.specs.Callers.{caller_of}
use Rattle.run_rules.specs.Told.{kept_after_append}
use Rattle.walk_law.specs.Keepings.{IsCounted}
use Rattle.walk_law.proofs.keeping.Keeping.append_told.Goals as goal

pub returns-clause-kept : goal.returns-clause-kept
returns-clause-kept c replies kept untold leaves s =
    subst (λ (n : ℕ). OnOk c.append.result (IsCounted replies (kept_after_append untold
    (caller_of c.args.subject.now.script c.args.client) kept n c.args.row c.args.points.now) c.append.new.self))
    (c.stamp_told-stamp.ensures replies kept s) (c.append.ensures.kept replies kept untold leaves s)
