use Rattle.std.proofs.Common.{rules, refl, ◌<◌, length}
use Rattle.std.proofs.lemmas.Option.{slice_get_read}
use Rattle.log_client.proofs.End.Handing.{gathered_one}
use Rattle.log_client.proofs.closing.gather.Goals as goal

pub loop-i-preserved : goal.loop-i-preserved
loop-i-preserved c =
    let clients = c.loop-i.clients.items in
    let near : c.loop-i.i < length clients = search rules in
    let client = c.index_mut-client.result.now in
    gathered_one c.args.clients.now.items clients c.loop-i.holds.items c.push.new.self.items c.loop-i.i client
    (record { items = c.pop.new.self }) c.in-Some.hold c.loop-i.invariant (search rules)
    (slice_get_read clients (length clients) c.loop-i.i client refl near c.index_mut-client.ensures.value)
    c.in-Some.ensures.items c.in_ok-push-in-Some.ensures.items
