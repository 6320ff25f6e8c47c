use Rattle.std.proofs.Common.{ℕ, ◌+◌, ◌∙◌, ap, arith}
use Rattle.run_script.proofs.Dealing.{counted_all, counted_more, few_counted}
use Rattle.run_script.proofs.serving.served.count.Goals as goal

pub loop-piece-preserved : goal.loop-piece-preserved
loop-piece-preserved c =
    counted_more c.args.pieces.now c.loop-piece.piece-index c.loop-piece.count _ c.piece-item.result
    c.loop-piece-test.true c.piece-item.is c.loop-piece.invariant
    (ap (λ (k : ℕ). c.loop-piece.count + k) (c.len-count.ensures ∙ c.piece-item.result.ok.0))

pub overflow_add-count : goal.overflow_add-count
overflow_add-count c =
    let few = few_counted c.args.pieces.now c.loop-piece.piece-index c.loop-piece.count c.piece-item.result c.requires c.loop-piece-test.true
    c.piece-item.is c.loop-piece.invariant in
    let long = c.len-count.ensures ∙ c.piece-item.result.ok.0 in
    record { fits = omega (arith, few, long) }

pub returns : goal.returns
returns c =
    counted_all c.args.pieces.now c.loop-piece.piece-index c.loop-piece.count c.loop-piece-test.false c.loop-piece.invariant
