use Rattle.col_core.specs.Keeping.{kept_after_look, seen_after}
use Rattle.walk_law.proofs.own_seen.OwnSeen.point.Goals as goal

pub returns : goal.returns
returns c = λ caller kept s.
    let p = c.args.point in
    c.know.ensures caller (kept_after_look kept caller.own p.colour (seen_after p.at)) (c.place.ensures caller kept s)
