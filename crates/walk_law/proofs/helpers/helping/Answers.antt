use Rattle.walk_law.proofs.FourthLemmas.{helping_more}
use Rattle.walk_law.proofs.helpers.helping.Goals as goal

pub loop-client-preserved : goal.loop-client-preserved
loop-client-preserved c =
    helping_more c.args.subject.now.script c.loop-client.helping.items c.push.new.self.items c.has_helping.result c.loop-client.client
    c.loop-client.invariant c.has_helping.ensures c.in_ok-push.ensures.items
