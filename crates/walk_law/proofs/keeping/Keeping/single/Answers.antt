use Rattle.std.proofs.Common.{◌+◌}
use Rattle.col_core.specs.Keeping.{Kept, updated, kept_after_event, with_floor}
use Rattle.walk_law.proofs.keeping.Keeping.single.Goals as goal

pub returns-clause-kept : goal.returns-clause-kept
returns-clause-kept c replies kept s =
    let one = kept_after_event kept c.args.own c.args.colour c.args.place in
    let two = with_floor one c.args.stamp in
    let three : Kept = record two { known = updated two.known c.args.colour (c.args.position + 1) } in
    c.use_id.ensures.kept replies three
    (c.know.ensures.kept replies two
    (c.raise_floor.ensures.kept replies one (c.in_ok-event.ensures.kept replies kept s)))
