use Rattle.std.proofs.Common.{sym, ◌∙◌, rules, of_calls, arith}
use Rattle.std.proofs.lemmas.Fn.{always_returns_same}
use Rattle.log_node.specs.Order.{key_below}
use Rattle.object_law.proofs.ToldOfLemmas.{parted_below, place_none, place_other, place_there}
use Rattle.object_law.proofs.told_nodes.place_of.Goals as goal

pub returns-then-is_same : goal.returns-then-is_same
returns-then-is_same c =
    let keys = c.args.keys.now in
    let key = c.args.key in
    let point = c.partition_point-place.ensures.partitioned (λ other. key_below other key)
    (always_returns_same _ _ _ (λ a r f k. search (rules, of_calls))) (parted_below keys key c.requires) in
    place_there keys key c.requires c.partition_point-place.result
    (λ k d low lt. point.0 k d (omega arith) low) (λ k d over lt. point.1 k d over lt) c.in-Some.found.now
    c.in-Some.ensures.lookup.3.0 (sym (c.in-Some.ensures.lookup.3.1 _)) (sym c.is_same.ensures ∙ c.if-is_same.true)

pub returns-else-is_same : goal.returns-else-is_same
returns-else-is_same c =
    let keys = c.args.keys.now in
    let key = c.args.key in
    let point = c.partition_point-place.ensures.partitioned (λ other. key_below other key)
    (always_returns_same _ _ _ (λ a r f k. search (rules, of_calls))) (parted_below keys key c.requires) in
    place_other keys key c.requires c.partition_point-place.result
    (λ k d low lt. point.0 k d (omega arith) low) (λ k d over lt. point.1 k d over lt) c.in-Some.found.now
    c.in-Some.ensures.lookup.3.0 (sym (c.in-Some.ensures.lookup.3.1 _)) (sym c.is_same.ensures ∙ c.if-is_same.false)

pub returns-in-None : goal.returns-in-None
returns-in-None c =
    let keys = c.args.keys.now in
    let key = c.args.key in
    let point = c.partition_point-place.ensures.partitioned (λ other. key_below other key)
    (always_returns_same _ _ _ (λ a r f k. search (rules, of_calls))) (parted_below keys key c.requires) in
    place_none keys key c.requires c.partition_point-place.result
    (λ k d low lt. point.0 k d (omega arith) low) (λ k d over lt. point.1 k d over lt) c.in-None.ensures.lookup.3
