use Rattle.std.proofs.Common.{◌+◌, ◌++◌, List, take, ap, sym, subst, ◌∙◌, arith}
use Rattle.std.proofs.lemmas.List.{take_all}
use Rattle.log_node.specs.Order.{same_key}
use Rattle.log_node.specs.Seen.{PlacedNode}
use Rattle.object_fold.specs.Nodes.{object_nodes}
use Rattle.object_fold.specs.Folds.{IsAbsent}
use Rattle.object_fold.proofs.FoldLemmas.{absent_more, absent_next, feeds_more, feeds_same, none_told, told_at}
use Rattle.object_fold.proofs.kept_fold.KeptFold.told.Goals as goal

pub returns-in_err-told-clause-first : goal.returns-in_err-told-clause-first
returns-in_err-told-clause-first g c =
    let lt = c.loop-item-test.true in
    feeds_same g.F.NodeFold.Holds c.args.self.now c.loop-item.self c.feed_item.new.self c.args.items.now c.loop-item.item-index
    (omega (arith, lt)) c.loop-item.invariant.feeds c.in_err-told.ensures.err

pub returns-then-is_same-clause-first : goal.returns-then-is_same-clause-first
returns-then-is_same-clause-first g c =
    let lt = c.loop-item-test.true in (
      c.loop-item.item-index + 1,
      omega (arith, lt),
      feeds_more g.F.NodeFold.Holds c.args.self.now c.loop-item.self c.feed_item.new.self c.args.items.now c.loop-item.item-index
          c.item-item.result c.item-item.result lt (sym c.item-item.is) c.loop-item.invariant.feeds c.in_ok-told.ensures.ok,
    )

pub returns-then-is_same-clause-ok : goal.returns-then-is_same-clause-ok
returns-then-is_same-clause-ok g c nodes is absent =
    let n = c.loop-item.item-index in
    let items = c.args.items.now in
    let item = c.item-item.result in
    c.in_ok-told.ensures.told (nodes ++ object_nodes (take n items)) (c.loop-item.invariant.feeds.1 nodes is)
    ∙ sym (told_at c.args.own g.F.NodeFold.told nodes items n item item c.loop-item-test.true (sym c.item-item.is) absent
    c.loop-item.invariant.others (sym (ap (λ (x : PlacedNode). same_key x.head.key c.args.own) c.item.view_is)
    ∙ (sym c.is_same.ensures ∙ c.if-is_same.true)))

pub loop-item-preserved : goal.loop-item-preserved
loop-item-preserved g c = record {
  feeds = feeds_more g.F.NodeFold.Holds c.args.self.now c.loop-item.self c.feed_item.new.self c.args.items.now
      c.loop-item.item-index c.item-item.result c.item-item.result c.loop-item-test.true (sym c.item-item.is)
      c.loop-item.invariant.feeds c.in_ok-told.ensures.ok;
  others = absent_next c.args.own c.args.items.now c.loop-item.item-index c.item-item.result c.item-item.result
      c.loop-item-test.true (sym c.item-item.is) c.loop-item.invariant.others
      (sym (ap (λ (x : PlacedNode). same_key x.head.key c.args.own) c.item.view_is)
      ∙ (sym c.is_same.ensures ∙ c.if-is_same.false));
}

pub returns-clause-ok : goal.returns-clause-ok
returns-clause-ok g c nodes is absent =
    let all : IsAbsent c.args.own (object_nodes c.args.items.now) =
    subst (λ (l : List PlacedNode). IsAbsent c.args.own (object_nodes l))
    (take_all c.loop-item.item-index c.args.items.now c.loop-item-test.false) c.loop-item.invariant.others in
    sym (none_told c.args.own g.F.NodeFold.told (nodes ++ object_nodes c.args.items.now)
    (absent_more c.args.own nodes (object_nodes c.args.items.now) absent all))
