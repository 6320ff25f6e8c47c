use Rattle.std.proofs.Common.{List, map, refl, sym, subst}
use Rattle.log_node.specs.declared.ids.Key.{Key}
use Rattle.log_node.specs.Sets.{members}
use Rattle.world_code.specs.WorldView.{world_of}
use Rattle.script_meaning.specs.Dequeues.{object_node_at}
use Rattle.script_meaning.specs.Stamped.{keys_read}
use Rattle.script_in_order.specs.Folds.{first_keys}
use Rattle.script_in_order.specs.Transacting.{AreOfLines}
use Rattle.script_in_order.proofs.ReadTold.{read_stand}
use Rattle.script_in_order.proofs.LinesFeeds.{behind_stand}
use Rattle.script_in_order.proofs.LinesFolds.{noted, with_slice}
use Rattle.script_in_order.proofs.lines_fold.LinesFold.fold_to.Goals as goal

pub feed_all-requires : goal.feed_all-requires
feed_all-requires g c =
    let w = world_of c.args.world.now in
    let read = c.args.read in
    let all = keys_read w read.client read.stamp (members read.colours) in record {
      stand = subst (AreOfLines w) (sym c.as_slice.ensures.value)
          (behind_stand w (first_keys w c.keys_to.new.self.firsts.items) c.in_ok-keys.keys.items all
          c.in_ok-keys.ensures.keys (read_stand w c.agrees.ensures read.client read.stamp (members read.colours)));
    }

pub returns-in-Ok-clause-folded : goal.returns-in-Ok-clause-folded
returns-in-Ok-clause-folded g c =
    let w = world_of c.args.world.now in
    let read = c.args.read in
    let before = first_keys w c.keys_to.new.self.firsts.items in
    noted w read.client read.stamp (members read.colours) c.in_ok-firsts.firsts.items c.in_ok-firsts.ensures
    g.F.NodeFold.Holds (record { kept = c.feed_all.new.kept; firsts = c.in_ok-firsts.firsts; stamp = read.stamp }) refl refl
    (subst (λ (ks : List Key). g.F.NodeFold.Holds c.feed_all.new.kept.state (map (object_node_at w) ks))
    (with_slice (keys_read w read.client read.stamp (members read.colours)) before c.in_ok-keys.keys.items
    c.as_slice.result.now c.in_ok-keys.ensures.keys c.as_slice.ensures.value)
    (c.in-Ok.ensures before c.in_ok-keys.ensures.folded.folded))

pub returns-in-Err-clause-folded : goal.returns-in-Err-clause-folded
returns-in-Err-clause-folded g c = c.clear.ensures.folded (world_of c.args.world.now)
