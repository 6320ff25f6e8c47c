use Rattle.std.proofs.Common.{sym, subst}
use Rattle.log_node.specs.declared.node.At.{At}
use Rattle.lawful_run.specs.Reads.{kept_after_place}
use Rattle.walk_law.specs.Keepings.{IsCounted}
use Rattle.walk_law.proofs.keeping.Keeping.place_at.Goals as goal

pub returns-in-Look-clause-kept : goal.returns-in-Look-clause-kept
returns-in-Look-clause-kept c replies kept s =
    subst (λ (a : At). IsCounted replies (kept_after_place kept c.args.region c.args.colour a) c.see.new.self) (sym c.in-Look.is)
    (c.see.ensures.kept replies kept s)
