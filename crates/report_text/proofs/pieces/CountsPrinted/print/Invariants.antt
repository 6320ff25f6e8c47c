use Rattle.std.proofs.Common.{map}
use Rattle.std.specs.Prelude.{decimal}
use Rattle.std.specs.List.{range_with_len, join_with_byte}
use Rattle.log_node.specs.Vectors.{at}
use Rattle.report_text.specs.Output.{Adds}
use Rattle.report_text.proofs.pieces.CountsPrinted.print.Given as goal

-- the numbers of the regions before this one are printed
abbrev pub invariant-loop-region : goal.invariant-loop-region
invariant-loop-region g l =
    Adds (g.O.Output.state l.fn.out) (g.O.Output.state l.out) (join_with_byte 44 (map (λ region. decimal (at l.self region)) (range_with_len 0 l.region)))
