use Rattle.std.proofs.Common.{◌≡◌, ◌+◌, ◌-◌, ◌∷◌, ◌++◌, ℕ, List, [], length, take, drop, refl, ap, sym, ◌∙◌, arith}
use Rattle.std.specs.List.{prefix_len}
use Rattle.std.proofs.lemmas.List.{take_rest}
use Rattle.log_node.specs.declared.ids.Key.{Key}
use Rattle.log_node.specs.Order.{key_below}
use Rattle.log_node.specs.Seen.{PlacedNode}
use Rattle.log_client.proofs.Read.MergedItems.{count_before, taken_else, taken_then}
use Rattle.log_client.proofs.merging.take_to.Goals as goal

-- how many come before the key of those from a position on
counted : (key : Key) (xs : List PlacedNode) (start n : ℕ)
    → n ≡ prefix_len (λ (i : PlacedNode). key_below i.head.key key) (take (length xs - start) (drop start xs))
    → n ≡ count_before key (drop start xs)
counted key xs start n is = is ∙ ap (count_before key) (take_rest xs start)

-- what was taken in two parts
made : (item : PlacedNode) (old mid new xs part : List PlacedNode) (start count n : ℕ) → count ≡ n → mid ≡ old ++ part
    → part ≡ take (start + count - start) xs → new ≡ mid ++ item ∷ [] → new ≡ (old ++ take n xs) ++ item ∷ []
made item old mid new xs part start count n is first part_is last =
    let e : start + count - start ≡ count = omega arith in
    last ∙ ap (λ (l : List PlacedNode). l ++ item ∷ []) (first ∙ ap (λ (l : List PlacedNode). old ++ l)
    (part_is ∙ ap (λ (m : ℕ). take m xs) (e ∙ is)))

pub returns-then-is_there-clause-ok : goal.returns-then-is_there-clause-ok
returns-then-is_there-clause-ok c =
    let item = c.args.item in
    let others = c.args.others.now in
    let start = c.args.from in
    let n = count_before item.head.key (drop start others) in
    let value = counted item.head.key others start c.count_below.result c.count_below.ensures.value in
    taken_then item others c.args.all.now.items c.push.new.self.items start (start + c.count_below.result)
    (start + c.count_below.result + 1) (ap (λ (m : ℕ). start + m) value)
    (made item c.args.all.now.items c.share_all.new.all.items c.push.new.self.items (drop start others) _ start
    c.count_below.result n value c.in_ok-share_all.ensures refl c.in_ok-push.ensures.items)
    (sym c.stands_at-is_there.ensures ∙ c.if-is_there.true) refl

pub returns-else-is_there-clause-ok : goal.returns-else-is_there-clause-ok
returns-else-is_there-clause-ok c =
    let item = c.args.item in
    let others = c.args.others.now in
    let start = c.args.from in
    let n = count_before item.head.key (drop start others) in
    let value = counted item.head.key others start c.count_below.result c.count_below.ensures.value in
    taken_else item others c.args.all.now.items c.push.new.self.items start (start + c.count_below.result)
    (ap (λ (m : ℕ). start + m) value)
    (made item c.args.all.now.items c.share_all.new.all.items c.push.new.self.items (drop start others) _ start
    c.count_below.result n value c.in_ok-share_all.ensures refl c.in_ok-push.ensures.items)
    (sym c.stands_at-is_there.ensures ∙ c.if-is_there.false)
