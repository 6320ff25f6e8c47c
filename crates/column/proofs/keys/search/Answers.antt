use Rattle.std.proofs.Common.{rules, of_calls, sym, ap, ◌∙◌, arith}
use Rattle.std.proofs.lemmas.Fn.{always_returns_same}
use Rattle.log_node.specs.declared.ids.Key.{Key}
use Rattle.log_node.specs.Order.{same_key, key_below}
use Rattle.column.proofs.Places.{parted, place-found, place-none}
use Rattle.column.proofs.keys.search.Goals as goal

pub returns-in_err-found : goal.returns-in_err-found
returns-in_err-found c =
    let keys = c.args.keys.now in
    let key = c.args.key in
    let place = c.partition_point-place.result in
    let point = c.partition_point-place.ensures.partitioned (λ k. key_below k key)
    (always_returns_same _ _ _ (λ a r f k. search (rules, of_calls))) (parted keys key c.requires) in
    let h = c.in_err-found.ensures.lookup in
    let over = h.3 in
    c.from_residual.ensures
    ∙ sym (place-none keys key c.requires place key c.partition_point-place.ensures.bound
    (λ k lt. point.0 k key (omega arith) lt) (λ lt. absurd (let f : ⊥ = omega (arith, lt, over) in f)))

pub returns-then-is_same : goal.returns-then-is_same
returns-then-is_same c =
    let keys = c.args.keys.now in
    let key = c.args.key in
    let place = c.partition_point-place.result in
    let point = c.partition_point-place.ensures.partitioned (λ k. key_below k key)
    (always_returns_same _ _ _ (λ a r f k. search (rules, of_calls))) (parted keys key c.requires) in
    let h = c.in_ok-found.ensures.lookup in
    sym (place-found keys key c.requires place key h.3.0 (λ k lt. point.0 k key (omega arith) lt)
    (ap (λ (k : Key). same_key k key) (sym (h.3.1 key)) ∙ sym c.if-is_same.ensures))

pub returns-else-is_same : goal.returns-else-is_same
returns-else-is_same c =
    let keys = c.args.keys.now in
    let key = c.args.key in
    let place = c.partition_point-place.result in
    let point = c.partition_point-place.ensures.partitioned (λ k. key_below k key)
    (always_returns_same _ _ _ (λ a r f k. search (rules, of_calls))) (parted keys key c.requires) in
    let h = c.in_ok-found.ensures.lookup in
    sym (place-none keys key c.requires place key c.partition_point-place.ensures.bound
    (λ k lt. point.0 k key (omega arith) lt)
    (λ lt. (
      point.1 place key (omega arith) lt,
      ap (λ (k : Key). same_key k key) (sym (h.3.1 key))
          ∙ sym c.if-is_same.ensures,
    )))
