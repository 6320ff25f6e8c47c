use Rattle.std.proofs.Common.{take}
use Rattle.run_picture.specs.Labels.{pairs_label}
use Rattle.report_text.specs.Output.{Adds}
use Rattle.run_picture.proofs.labels.put_pairs.Given as goal

-- the pairs before this one are put out
abbrev pub invariant-loop-pair : goal.invariant-loop-pair
invariant-loop-pair g l =
    Adds (g.O.Output.state l.fn.out) (g.O.Output.state l.out)
    (pairs_label (take l.pair-index l.pairs))
