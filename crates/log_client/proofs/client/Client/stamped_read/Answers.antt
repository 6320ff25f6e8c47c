use Rattle.std.proofs.Common.{None}
use Rattle.log_node.specs.Sets.{members}
use Rattle.log_client.specs.StampedReads.{ReadsOn, ReadsAll}
use Rattle.log_client.proofs.Read.ReadCalls.{all_answered}
use Rattle.log_client.proofs.Results.{ok_then}
use Rattle.log_client.proofs.client.Client.stamped_read.Goals as goal

pub returns-clause-ok : goal.returns-clause-ok
returns-clause-ok g c =
    let s = c.args.store.now in
    let old = c.args.self.now in
    let new = c.read_on.new.self in
    ok_then c.read_on.result (ReadsOn s old new (members c.args.colours) None) (ReadsAll s old new (members c.args.colours))
    (all_answered s old new (members c.args.colours)) c.read_on.ensures.ok
