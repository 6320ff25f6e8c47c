use Rattle.log_client.proofs.Going.StandsLater.{stands_by}
use Rattle.log_client.proofs.appends.stand.Goals as goal

pub returns-in-Ok-clause-ok : goal.returns-in-Ok-clause-ok
returns-in-Ok-clause-ok g c =
    stands_by c.args.hold.now c.single.new.hold c.last-last.new.hold c.last-last.ensures.same.0
    c.last-last.ensures.seat.grows c.args.node.now.value c.args.colour c.in-Ok.stood c.in-Ok.ensures.ok
