use Rattle.std.proofs.Common.{arith, length-take}
use Rattle.run_script.proofs.Fronts.{consumes_more, within_limit}
use Rattle.run_script.proofs.front.read_front.Goals as goal

-- What was read before, and this piece, are within the limit.
pub returns-then-is_err-clause-taken : goal.returns-then-is_err-clause-taken
returns-then-is_err-clause-taken g c =
    let asked = length-take c.next_room.result c.loop-piece.piece in (
      _,
      within_limit c.args.most c.in-Ok.count c.next_room.result c.loop-piece.bytes.items c.read.new.into c.in-Ok.ensures.bound.0
          (omega (arith, asked, c.read.auto.into)) (omega (arith, c.next_room.ensures.limit, c.loop-piece.bytes.ok.0)),
      consumes_more _ _ _ _ _ c.loop-piece.invariant.gone c.in-Ok.ensures.bytes.0,
    )
