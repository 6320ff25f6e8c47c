use Rattle.std.proofs.Common.{List, ap, ◌∙◌}
use Rattle.std.specs.Prelude.{not}
use Rattle.std.specs.List.{find}
use Rattle.log_node.specs.Order.{key_below}
use Rattle.skeen_core.specs.declared.waiting.Waiting.{Waiting}
use Rattle.column.specs.Entering.{EnteredNode}
use Rattle.column.proofs.Fronts.{find_two}
use Rattle.column.proofs.waits.least_open.Goals as goal

pub returns : goal.returns
returns c =
    c.first_open.ensures
    ∙ (ap (λ (ws : List (Waiting EnteredNode)). find (λ (w : Waiting EnteredNode). not w.settled) ws)
    c.all_below.ensures
    ∙ find_two (λ (w : Waiting EnteredNode). not w.settled) (λ (w : Waiting EnteredNode). key_below w.key c.args.key)
    c.args.waiting.now)
