use Rattle.std.proofs.Common.{◌-◌, length, take, drop, arith}
use Rattle.object_form.specs.Forms.{pair_text}
use Rattle.walk_law.proofs.JoinedTexts.{one_more_piece, all_pieces}
use Rattle.walk_law.proofs.texts_written.put_pairs.Goals as goal

pub loop-pair-preserved : goal.loop-pair-preserved
loop-pair-preserved c =
    let pairs = c.args.pairs.now in
    one_more_piece pair_text (take (length pairs - 1) (drop 1 pairs)) c.loop-pair.pair-index c.pair-item.result c.put_pair.new.bytes.items _ _ _
    c.loop-pair-test.true c.pair-item.is c.loop-pair.invariant c.in_ok-push.ensures.items c.in_ok-put_pair-2.ensures

pub returns : goal.returns
returns c =
    all_pieces pair_text c.args.pairs.now c.loop-pair.pair-index c.first-item.result c.args.bytes.now.items _ _ (omega arith) c.first-item.is
    c.in_ok-put_pair.ensures c.loop-pair.invariant c.loop-pair-test.false
