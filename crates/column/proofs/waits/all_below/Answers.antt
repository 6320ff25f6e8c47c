use Rattle.std.proofs.Common.{rules, of_calls, arith}
use Rattle.std.proofs.lemmas.Fn.{always_returns_same}
use Rattle.skeen_core.specs.declared.waiting.Waiting.{Waiting}
use Rattle.log_node.specs.Order.{key_below}
use Rattle.column.specs.Entering.{EnteredNode}
use Rattle.column.proofs.Fronts.{parted_below, before_point}
use Rattle.column.proofs.waits.all_below.Goals as goal

pub returns : goal.returns
returns c =
    let key = c.args.key in
    let ws = c.args.waiting.now in
    let point = c.partition_point-end.ensures.partitioned (λ (w : Waiting EnteredNode). key_below w.key key)
    (always_returns_same _ _ _ (λ a r f k. search (rules, of_calls))) (parted_below key ws c.requires) in
    before_point (λ (w : Waiting EnteredNode). key_below w.key key) ws c.partition_point-end.result
    (λ k d lt in_range. point.0 k d (omega arith) lt) (λ k d le lt. point.1 k d le lt)
