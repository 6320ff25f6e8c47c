use Rattle.std.proofs.Common.{List, ap, sym, length, take, drop, ◌-◌, ◌∙◌, ◌++◌}
use Rattle.std.proofs.lemmas.List.{take_rest}
use Rattle.log_node.specs.Seen.{PlacedNode}
use Rattle.chain_store.specs.Kept.{Kept}
use Rattle.chain_store.proofs.Keeping.{dropped_parts}
use Rattle.chain_store.proofs.read_view.shown.Chain.shared_from.Goals as goal

pub returns : goal.returns
returns c =
    let s = c.as_slices.ensures in
    let k = c.min.result in
    let j = c.saturating_sub.result in
    let front = c.as_slices.result.0.now in
    let back = c.as_slices.result.1.now in
    c.from.ensures
    ∙ (c.in_ok-share_all-2.ensures
    ∙ (ap (λ (l : List PlacedNode). l ++ take (length back - j) (drop j back))
    (c.in_ok-share_all.ensures
    ∙ (ap (λ (l : List PlacedNode). l ++ take (length front - k) (drop k front)) c.in_ok-copies.ensures.items
    ∙ take_rest front k))
    ∙ (ap (λ (l : List PlacedNode). drop k front ++ l) (take_rest back j)
    ∙ (dropped_parts c.args.count c.min-count.result k j c.len.result front back c.self.inside.items.items
    c.min-count.ensures c.min.ensures c.saturating_sub.ensures (s.len ∙ sym c.len.ensures) s.items
    ∙ ap (λ (x : Kept). drop c.args.count x.items) c.self.view_is))))
