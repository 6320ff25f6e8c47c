use Rattle.std.proofs.Common.{take}
use Rattle.std.specs.List.{flat_map}
use Rattle.run_picture.specs.Pieces.{piece_text}
use Rattle.report_text.specs.Output.{Adds}
use Rattle.run_picture.proofs.pieces.put_all.Given as goal

-- the pieces before this one are put out
abbrev pub invariant-loop-piece : goal.invariant-loop-piece
invariant-loop-piece g l =
    Adds (g.O.Output.state l.fn.out) (g.O.Output.state l.out)
    (flat_map piece_text (take l.piece-index l.pieces))
