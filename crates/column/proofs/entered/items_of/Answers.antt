use Rattle.std.proofs.Common.{◌≡◌, ◌+◌, rules, ◌∙◌, ◌++◌, ◌∷◌, [], List, take, get_or, ap, sym, arith}
use Rattle.std.proofs.lemmas.List.{take_all}
use Rattle.log_node.specs.declared.ids.Key.{Key}
use Rattle.log_node.specs.Seen.{PlacedNode}
use Rattle.column.specs.Entering.{EnteredNode}
use Rattle.column.specs.Columns.{placed, items_under}
use Rattle.column.proofs.Items.{under_more}
use Rattle.column.proofs.entered.items_of.Goals as goal

pub loop-at-preserved : goal.loop-at-preserved
loop-at-preserved c =
    let keys = c.args.keys.now in
    let nodes = c.args.nodes.now in
    let at = c.loop-at.at in
    let node = c.index-nodes-at.result in
    let none : Key = record { stamp = 0; id = record { client = 0; count = 0 } } in
    let more : c.push_reserved.new.self.items ≡ items_under (take (at + 1) keys) (take (at + 1) nodes) =
    c.push_reserved.ensures.items
    ∙ (ap (λ (is : List PlacedNode). is ++ c.in_ok-item.field-0 ∷ []) c.loop-at.invariant.0
    ∙ (ap (λ (i : PlacedNode). items_under (take at keys) (take at nodes) ++ i ∷ [])
    (c.in_ok-item.ensures ∙ ap (λ (e : EnteredNode). placed (get_or keys at none) e) c.index-nodes-at.is)
    ∙ sym (under_more keys nodes at none node c.requires c.loop-at-test.true))) in
    (more, search rules, search rules)

pub returns : goal.returns
returns c =
    let keys = c.args.keys.now in
    let nodes = c.args.nodes.now in
    let at = c.loop-at.at in
    let done = c.loop-at-test.false in
    let same = c.requires in
    c.from.ensures ∙ (c.loop-at.invariant.0
    ∙ (ap (λ (ks : List Key). items_under ks (take at nodes)) (take_all at keys (omega (arith, done)))
    ∙ ap (items_under keys) (take_all at nodes (omega (arith, done, same)))))
