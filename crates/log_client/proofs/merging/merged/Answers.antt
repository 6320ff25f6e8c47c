use Rattle.std.proofs.Common.{◌∙◌, ◌++◌, [], List, ap, subst, sym}
use Rattle.std.proofs.lemmas.List.{map-id, take_rest}
use Rattle.std.proofs.lemmas.Iterator.Adapters.{YieldsList-from_vec}
use Rattle.std.proofs.lemmas.Iterator.Consumers.{YieldsList-end}
use Rattle.log_node.specs.Seen.{PlacedNode}
use Rattle.log_client.specs.Items.{AreMerged}
use Rattle.log_client.proofs.Read.MergedItems.{MergedFirst, all_merged, merged_next, none_merged}
use Rattle.log_client.proofs.merging.merged.Goals as goal

pub loop-item-init : goal.loop-item-init
loop-item-init c =
    subst (λ (l : List PlacedNode). MergedFirst [] c.args.others.now l 0) (sym c.in_ok-all.ensures.items)
    (none_merged c.args.others.now)

pub take_to-requires : goal.take_to-requires
take_to-requires c = c.loop-item.invariant.within

pub loop-item-preserved : goal.loop-item-preserved
loop-item-preserved c =
    let l = c.loop-item in
    merged_next l.yielded c.args.others.now l.all.items c.take_to.new.all.items l.next c.in_ok-next.next c.in-Some.item
    c.in_ok-next.ensures.bound l.invariant c.in_ok-next.ensures.ok

pub returns : goal.returns
returns c =
    let l = c.loop-item in
    let gives = c.into_iter-item-iterator.ensures.into_iter_gives in
    let all = YieldsList-from_vec {s = c.into_iter-item-iterator.result} c.args.items.items gives.0 (gives.1 ∙ c.args.items.ok.0) in
    let t = YieldsList-end all l.yielded _ l.yielded_by _ c.next.new.self c.in-None.is c.next.ensures.steps in
    subst (λ (xs : List PlacedNode). AreMerged xs c.args.others.now c.share_all.new.all.items) (sym (map-id l.yielded) ∙ t.0)
    (all_merged l.yielded c.args.others.now l.all.items c.share_all.new.all.items l.next l.invariant
    (c.in_ok-share_all.ensures ∙ ap (λ (x : List PlacedNode). l.all.items ++ x) (take_rest c.args.others.now l.next)))
