use Rattle.std.proofs.Common.{length, ◌-◌, arith}
use Rattle.script_beside.proofs.PartLemmas.{lines_if_ended, lines_if_not}
use Rattle.script_beside.proofs.cutting.lines_in.Goals as goal

pub returns-then-bytes-eq10 : goal.returns-then-bytes-eq10
returns-then-bytes-eq10 c =
    let some = c.requires.some in
    lines_if_ended c.args.bytes.now (length c.args.bytes.now - 1) c.line_feeds-feeds.result (omega (arith, some)) c.if-bytes-eq10.true c.line_feeds-feeds.ensures.count

pub returns : goal.returns
returns c = lines_if_not c.args.bytes.now c.line_feeds-feeds.result c.line_feeds-feeds.ensures.count
