use Rattle.std.proofs.Common.{List, ◌++◌, refl, sym, subst, map, take}
use Rattle.std.proofs.lemmas.List.{take_all}
use Rattle.log_node.specs.declared.ids.Key.{Key}
use Rattle.object_fold.specs.Nodes.{ObjectNode}
use Rattle.world_code.specs.WorldView.{world_of}
use Rattle.script_meaning.specs.Dequeues.{object_node_at}
use Rattle.script_in_order.proofs.ReadTold.{key_at, is_there, stands_at}
use Rattle.script_in_order.proofs.LinesFeeds.{its_text, none_behind, more_behind}
use Rattle.script_in_order.proofs.lines_fold.feed_all.Goals as goal

pub loop-key-init : goal.loop-key-init
loop-key-init g c = λ before is.
    subst (λ (l : List Key). g.F.NodeFold.Holds c.args.kept.now.state (map (object_node_at (world_of c.args.world.now)) l))
    (sym (none_behind before)) is

pub node_of-requires : goal.node_of-requires
node_of-requires g c =
    stands_at (world_of c.args.world.now) c.args.keys.now c.loop-key.key-index
    (key_at c.args.keys.now c.loop-key.key-index) c.loop-key-test.true
    (is_there c.args.keys.now c.loop-key.key-index c.loop-key-test.true) c.requires.stand

pub loop-key-preserved : goal.loop-key-preserved
loop-key-preserved g c = λ before is.
    let w = world_of c.args.world.now in
    let keys = c.args.keys.now in
    let i = c.loop-key.key-index in
    let key = key_at keys i in
    subst (λ (ns : List ObjectNode). g.F.NodeFold.Holds c.feed.new.self.state ns)
    (more_behind w before keys i key c.loop-key-test.true (is_there keys i c.loop-key-test.true))
    (c.in_ok-_told.ensures.ok (map (object_node_at w) (before ++ take i keys))
    (object_node_at w key) refl (its_text w key c.node_of.result.now c.node_of.ensures) (c.loop-key.invariant before is))

pub returns : goal.returns
returns g c = λ before is.
    subst
    (λ (ks : List Key). g.F.NodeFold.Holds c.loop-key.kept.state (map (object_node_at (world_of c.args.world.now)) (before ++ ks)))
    (take_all c.loop-key.key-index c.args.keys.now c.loop-key-test.false) (c.loop-key.invariant before is)
