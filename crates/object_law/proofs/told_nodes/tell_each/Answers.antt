use Rattle.std.proofs.Common.{subst, sym, take}
use Rattle.object_law.specs.NodeTables.{nodes_under}
use Rattle.object_law.proofs.ToldOfLemmas.{nodes_more, told_more}
use Rattle.object_law.proofs.told_nodes.tell_each.Goals as goal

pub loop-key-preserved : goal.loop-key-preserved
loop-key-preserved g c =
    let table = c.args.nodes.now in
    let keys = c.args.keys.now in
    let n = c.loop-key.key-index in
    let lt = c.loop-key-test.true in
    let fed = nodes_under table (take n keys) in (
      subst (g.F.NodeFold.Holds c.tell.new.fold) (sym (nodes_more table keys c.requires n _ lt))
          (c.in_ok-tell.ensures.fed fed c.loop-key.invariant.0),
      told_more table keys c.requires n _ lt g.F.NodeFold.told c.in_ok-tell.field-0 c.loop-key.told.items c.push.new.self.items
          (c.in_ok-tell.ensures.told fed c.loop-key.invariant.0) c.in_ok-push.ensures.items c.loop-key.invariant.1,
    )
