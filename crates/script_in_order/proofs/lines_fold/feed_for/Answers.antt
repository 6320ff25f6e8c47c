use Rattle.std.proofs.Common.{◌∙◌, List, ◌++◌, refl, sym, subst, map, take}
use Rattle.std.proofs.lemmas.List.{take_all}
use Rattle.log_node.specs.declared.ids.Key.{Key}
use Rattle.object_fold.specs.Nodes.{ObjectNode}
use Rattle.world_code.specs.WorldView.{world_of}
use Rattle.script_meaning.specs.Dequeues.{object_node_at}
use Rattle.script_in_order.proofs.ReadTold.{key_at, is_there, no_others, stands_at}
use Rattle.script_in_order.proofs.LinesFeeds.{its_text, none_behind, more_behind, found_next, found_all}
use Rattle.script_in_order.proofs.lines_fold.feed_for.Goals as goal

pub loop-key-init : goal.loop-key-init
loop-key-init g c = record {
  folded = λ before is.
      subst (λ (l : List Key). g.F.NodeFold.Holds c.args.kept.now.state (map (object_node_at (world_of c.args.world.now)) l))
      (sym (none_behind before)) is;
  is_found = λ before is others. no_others c.args.own;
}

pub node_of-requires : goal.node_of-requires
node_of-requires g c =
    stands_at (world_of c.args.world.now) c.args.keys.now c.loop-key.key-index
    (key_at c.args.keys.now c.loop-key.key-index) c.loop-key-test.true
    (is_there c.args.keys.now c.loop-key.key-index c.loop-key-test.true) c.requires.stand

pub loop-key-preserved : goal.loop-key-preserved
loop-key-preserved g c =
    let w = world_of c.args.world.now in
    let keys = c.args.keys.now in
    let i = c.loop-key.key-index in
    let key = key_at keys i in
    let there = is_there keys i c.loop-key-test.true in record {
      folded = λ before is.
          subst (λ (ns : List ObjectNode). g.F.NodeFold.Holds c.feed.new.self.state ns)
          (more_behind w before keys i key c.loop-key-test.true there)
          (c.in_ok-told.ensures.ok (map (object_node_at w) (before ++ take i keys))
          (object_node_at w key) refl (its_text w key c.node_of.result.now c.node_of.ensures)
          (c.loop-key.invariant.folded before is));
      is_found = λ before is others.
          found_next g.F.NodeFold.told w c.args.own before keys others i key c.in_ok-told.told c.loop-key.found
          c.found_with-found.result c.loop-key-test.true there
          (c.in_ok-told.ensures.told (map (object_node_at w) (before ++ take i keys)) (object_node_at w key) refl
          (its_text w key c.node_of.result.now c.node_of.ensures) (c.loop-key.invariant.folded before is))
          c.found_with-found.ensures (c.loop-key.invariant.is_found before is others);
    }

pub returns-clause-told : goal.returns-clause-told
returns-clause-told g c = λ before is others.
    c.unwrap_or.ensures
    ∙ found_all g.F.NodeFold.told (world_of c.args.world.now) c.args.own before c.args.keys.now others
    c.loop-key.key-index c.loop-key.found
    (take_all c.loop-key.key-index c.args.keys.now c.loop-key-test.false)
    (c.loop-key.invariant.is_found before is others)

pub returns-clause-folded : goal.returns-clause-folded
returns-clause-folded g c = λ before is.
    subst
    (λ (ks : List Key). g.F.NodeFold.Holds c.loop-key.kept.state (map (object_node_at (world_of c.args.world.now)) (before ++ ks)))
    (take_all c.loop-key.key-index c.args.keys.now c.loop-key-test.false) (c.loop-key.invariant.folded before is)
