use Rattle.std.proofs.Common.{◌≡◌, Option, drop, rules, of_calls, arith, sym, subst}
use Rattle.std.specs.Prelude.{not}
use Rattle.std.specs.List.{filter}
use Rattle.std.proofs.lemmas.Fn.{always_returns_same}
use Rattle.log_node.specs.declared.ids.Key.{Key}
use Rattle.log_node.specs.Order.{key_below}
use Rattle.log_node.specs.Seen.{PlacedNode}
use Rattle.object_fold.specs.Folds.{is_behind}
use Rattle.log_client.proofs.Read.LineParts.{all_items, back_is, parted_behind}
use Rattle.log_client.proofs.merging.count_to.Goals as goal

pub returns-in-Some-clause-dropped : goal.returns-in-Some-clause-dropped
returns-in-Some-clause-dropped c =
    let line = c.args.line.now in
    let last = c.in-Some.last in
    let point = c.partition_point.ensures.partitioned (λ (i : PlacedNode). not (key_below last i.head.key))
    (always_returns_same _ _ _ (λ a r f k. search (rules, of_calls))) (parted_behind line last c.requires) in
    subst (λ (o : Option Key). drop c.partition_point.result line ≡ filter (λ (i : PlacedNode). is_behind o i.head.key) line)
    (sym c.in-Some.is)
    (back_is (λ (i : PlacedNode). key_below last i.head.key) line c.partition_point.result
    (λ k d lt. point.0 k d (omega arith) lt) (λ k d low lt. point.1 k d low lt) c.partition_point.ensures.bound)

pub returns-in-None-clause-dropped : goal.returns-in-None-clause-dropped
returns-in-None-clause-dropped c =
    subst (λ (o : Option Key). c.args.line.now ≡ filter (λ (i : PlacedNode). is_behind o i.head.key) c.args.line.now)
    (sym c.in-None.is) (all_items c.args.line.now)
