use Rattle.std.proofs.Common.{sym, arith}
use Rattle.object_fold.proofs.FoldLemmas.{feeds_more, feeds_same}
use Rattle.object_fold.proofs.kept_fold.KeptFold.fold_on.Goals as goal

pub returns-in_err-_told-clause-first : goal.returns-in_err-_told-clause-first
returns-in_err-_told-clause-first g c =
    let lt = c.loop-item-test.true in
    feeds_same g.F.NodeFold.Holds c.args.self.now c.loop-item.self c.feed_item.new.self c.args.items.now c.loop-item.item-index
    (omega (arith, lt)) c.loop-item.invariant c.in_err-_told.ensures.err

pub loop-item-preserved : goal.loop-item-preserved
loop-item-preserved g c =
    feeds_more g.F.NodeFold.Holds c.args.self.now c.loop-item.self c.feed_item.new.self c.args.items.now c.loop-item.item-index
    c.item-item.result c.item-item.result c.loop-item-test.true (sym c.item-item.is) c.loop-item.invariant
    c.in_ok-_told.ensures.ok
