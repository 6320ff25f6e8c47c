use Rattle.std.proofs.Common.{rules, of_calls, arith}
use Rattle.std.specs.Prelude.{nat_le}
use Rattle.std.proofs.lemmas.Fn.{always_returns_same}
use Rattle.log_node.specs.Seen.{PlacedNode}
use Rattle.log_client.proofs.Read.LineParts.{front_is, parted}
use Rattle.log_client.proofs.merging.count_up_to.Goals as goal

pub returns-clause-taken : goal.returns-clause-taken
returns-clause-taken c =
    let line = c.args.line.now in
    let stamp = c.args.stamp in
    let point = c.partition_point.ensures.partitioned (λ (i : PlacedNode). nat_le i.head.key.stamp stamp)
    (always_returns_same _ _ _ (λ a r f k. search (rules, of_calls))) (parted line stamp c.requires) in
    front_is (λ (i : PlacedNode). nat_le i.head.key.stamp stamp) line c.partition_point.result
    (λ k d lt. point.0 k d (omega arith) lt) (λ k d low lt. point.1 k d low lt) c.partition_point.ensures.bound
