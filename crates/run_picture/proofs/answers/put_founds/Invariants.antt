use Rattle.std.proofs.Common.{take}
use Rattle.std.specs.List.{flat_map}
use Rattle.run_picture.specs.Answers.{found_label}
use Rattle.report_text.specs.Output.{Adds}
use Rattle.run_picture.proofs.answers.put_founds.Given as goal

-- the keys before this one are put out
abbrev pub invariant-loop-found : goal.invariant-loop-found
invariant-loop-found g l =
    Adds (g.O.Output.state l.fn.out) (g.O.Output.state l.out)
    (flat_map found_label (take l.found-index l.founds))
