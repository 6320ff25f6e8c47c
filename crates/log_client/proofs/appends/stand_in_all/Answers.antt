use Rattle.log_client.proofs.Going.StandsLater.{stands_in_all_by}
use Rattle.log_client.proofs.appends.stand_in_all.Goals as goal

pub returns-in-Ok-clause-ok : goal.returns-in-Ok-clause-ok
returns-in-Ok-clause-ok g c =
    stands_in_all_by c.args.hold.now c.multi.new.hold c.last-last.new.hold c.last-last.ensures.same.0
    c.last-last.ensures.seat.grows c.args.region.now c.args.node.now.value c.in-Ok.stood c.last-last.ensures.same.1
    c.last-last.ensures.seat.used c.in-Ok.ensures.ok
