use Rattle.std.proofs.Common.{◌∙◌, ap, map}
use Rattle.std.specs.Prelude.{unwrap_or}
use Rattle.log_node.specs.Sets.{members}
use Rattle.object_fold.specs.Folds.{told_of}
use Rattle.world_code.specs.WorldView.{world_of}
use Rattle.script_meaning.specs.Dequeues.{object_node_at}
use Rattle.script_meaning.specs.Stamped.{keys_read}
use Rattle.script_in_order.proofs.told.told_at.Goals as goal

pub returns-clause-told : goal.returns-clause-told
returns-clause-told g c =
    let w = world_of c.args.world.now in
    let read = c.args.read in
    let nodes = map (object_node_at w) (keys_read w read.client read.stamp (members read.colours)) in
    c.unwrap_or.ensures
    ∙ (ap (λ told. unwrap_or told c.untold.result) c.in_ok-told.ensures.told
    ∙ ap (unwrap_or (told_of g.F.NodeFold.told nodes c.args.own)) c.untold.ensures)

pub returns-clause-points : goal.returns-clause-points
returns-clause-points g c = c.from.ensures ∙ (c.in_ok-points.ensures.items ∙ c.as_slice.ensures)
