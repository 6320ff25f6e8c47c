use Rattle.std.proofs.Common.{subst, ℕ}
use Rattle.col_core.specs.Keeping.{kept_after_look, seen_after}
use Rattle.walk_law.specs.Keepings.{IsCounted}
use Rattle.walk_law.proofs.keeping.Keeping.point.Goals as goal

pub returns-clause-kept : goal.returns-clause-kept
returns-clause-kept c replies kept s =
    let p = c.args.point in
    let one = kept_after_look kept c.args.own p.colour (seen_after p.at) in
    c.know.ensures.kept replies one
    (subst (λ (n : ℕ). IsCounted replies (kept_after_look kept c.args.own p.colour n) c.see.new.self) c.seen_after.ensures
    (c.see.ensures.kept replies kept s))
