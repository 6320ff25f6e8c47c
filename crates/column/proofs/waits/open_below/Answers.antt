use Rattle.std.proofs.Common.{List, length, ap, ◌∙◌}
use Rattle.std.specs.Prelude.{not}
use Rattle.std.specs.List.{filter}
use Rattle.log_node.specs.Order.{key_below}
use Rattle.skeen_core.specs.declared.waiting.Waiting.{Waiting}
use Rattle.column.specs.Entering.{EnteredNode}
use Rattle.column.proofs.Fronts.{filter_two}
use Rattle.column.proofs.waits.open_below.Goals as goal

pub returns : goal.returns
returns c =
    c.open_in.ensures
    ∙ (ap (λ (ws : List (Waiting EnteredNode)). length (filter (λ (w : Waiting EnteredNode). not w.settled) ws))
    c.all_below.ensures
    ∙ ap length (filter_two (λ (w : Waiting EnteredNode). not w.settled)
    (λ (w : Waiting EnteredNode). key_below w.key c.args.key) c.args.waiting.now))
