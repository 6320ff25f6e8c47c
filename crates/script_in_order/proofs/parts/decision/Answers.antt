use Rattle.std.proofs.Common.{◌∙◌, Bool, false, Option, map, ap}
use Rattle.std.specs.Prelude.{unwrap_or}
use Rattle.log_node.specs.Sets.{members}
use Rattle.world_code.specs.WorldView.{world_of}
use Rattle.script_meaning.specs.Dequeues.{object_node_at}
use Rattle.script_meaning.specs.Stamped.{keys_read}
use Rattle.script_in_order.proofs.PartSteps.{told_apart}
use Rattle.script_in_order.proofs.parts.decision.Goals as goal

pub returns-clause-commits : goal.returns-clause-commits
returns-clause-commits c =
    let w = world_of c.args.world.now in
    let read = c.args.read in
    c.unwrap_or-commits.ensures
    ∙ ap (λ (o : Option Bool). unwrap_or o false)
    (c.outcome.ensures (map (object_node_at w) (keys_read w read.client read.stamp (members read.colours)))
    c.in_ok-fold_to.ensures.ok (told_apart w c.agrees.ensures read.client read.stamp (members read.colours)))
