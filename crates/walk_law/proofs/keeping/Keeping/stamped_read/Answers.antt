use Rattle.std.proofs.Common.{ℕ, subst}
use Rattle.col_core.specs.Keeping.{Kept}
use Rattle.lawful_run.specs.Callers.{caller_of}
use Rattle.run_rules.specs.Told.{kept_after_raises, kept_after_syncs}
use Rattle.walk_law.specs.Keepings.{IsCounted, kept_raised}
use Rattle.walk_law.specs.Walking.{log_walked}
use Rattle.walk_law.proofs.keeping.Keeping.stamped_read.Goals as goal

pub returns-clause-kept : goal.returns-clause-kept
returns-clause-kept c replies kept s =
    let log = log_walked c.args.subject.now in
    let caller = caller_of c.args.subject.now.script c.args.client in
    let raised : Kept = kept_after_raises caller kept c.args.raises.now in
    let synced : Kept = kept_after_syncs log caller raised c.args.syncs.now in
    c.raise_floor.ensures.kept replies synced
    (c.syncs.ensures.kept replies raised
    (subst (λ (o : ℕ). IsCounted replies (kept_raised o kept c.args.raises.now) c.raises.new.self) c.own.ensures.own
    (c.in_ok-raises.ensures.kept replies kept s)))
