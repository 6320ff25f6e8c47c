use Rattle.std.proofs.Common.{sym, subst}
use Rattle.log_node.specs.declared.node.At.{At}
use Rattle.col_core.specs.Keeping.{kept_after_look, seen_after}
use Rattle.walk_law.specs.Fourth.{Sees}
use Rattle.walk_law.proofs.own_seen.OwnSeen.place.Goals as goal

pub returns-in-Event : goal.returns-in-Event
returns-in-Event c = λ caller kept s.
    subst (λ (a : At). Sees caller (kept_after_look kept caller.own c.args.colour (seen_after a)) c.see.new.self) (sym c.in-Event.is)
    (c.see.ensures.kept caller kept s)

pub returns-in-Look : goal.returns-in-Look
returns-in-Look c = λ caller kept s.
    subst (λ (a : At). Sees caller (kept_after_look kept caller.own c.args.colour (seen_after a)) c.see-in-Look.new.self) (sym c.in-Look.is)
    (c.see-in-Look.ensures.kept caller kept s)
