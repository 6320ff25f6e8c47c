use Rattle.std.proofs.Common.{◌∙◌, sym}
use Rattle.world_code.specs.WorldView.{world_of}
use Rattle.script_meaning.proofs.CallerLemmas.{line_node}
use Rattle.col_core.proofs.CallerLemmas.{in_contains}
use Rattle.script_in_order.proofs.DequeueSteps.{none_some}
use Rattle.script_in_order.proofs.folds.node_of.Goals as goal

pub unreachable-requires : goal.unreachable-requires
unreachable-requires c =
    let w = world_of c.args.world.now in
    let n = line_node w c.is_whole.ensures.reached c.requires.0 c.requires.1 c.args.key
    (in_contains _ c.args.key c.requires.2) in
    none_some n.0 (sym (c.node.ensures.none c.in-None.is) ∙ n.1)
