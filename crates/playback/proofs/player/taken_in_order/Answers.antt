use Rattle.std.proofs.Common.{List, subst, sym}
use Rattle.log_node.specs.Seen.{PlacedNode}
use Rattle.playback.specs.Inside.{AreInOrder}
use Rattle.playback.proofs.OneChain.{lone_in_order}
use Rattle.playback.proofs.player.taken_in_order.Goals as goal

pub returns-in-Some : goal.returns-in-Some
returns-in-Some c =
    let view = c.args.view in
    subst (λ (items : List PlacedNode). AreInOrder view c.args.from items) (sym c.taken_chain.ensures)
    (lone_in_order view c.args.from c.in-Some.region c.requires.from c.requires.start c.requires.cut
    c.in-Some.ensures.0 c.in-Some.ensures.1)
