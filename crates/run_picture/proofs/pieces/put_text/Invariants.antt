use Rattle.std.proofs.Common.{take}
use Rattle.run_picture.specs.Pieces.{text_shown}
use Rattle.report_text.specs.Output.{Adds}
use Rattle.run_picture.proofs.pieces.put_text.Given as goal

-- the bytes before this one are put out
abbrev pub invariant-loop-byte : goal.invariant-loop-byte
invariant-loop-byte g l =
    Adds (g.O.Output.state l.fn.out) (g.O.Output.state l.out)
    (text_shown (take l.byte-index l.bytes))
