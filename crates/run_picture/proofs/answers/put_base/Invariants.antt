use Rattle.std.proofs.Common.{take}
use Rattle.std.specs.List.{flat_map, enumerate_from}
use Rattle.run_picture.specs.Answers.{region_label}
use Rattle.report_text.specs.Output.{Adds}
use Rattle.run_picture.proofs.answers.put_base.Given as goal

-- the numbers of the regions before this one are put out
abbrev pub invariant-loop-region : goal.invariant-loop-region
invariant-loop-region g l =
    Adds (g.O.Output.state l.fn.out) (g.O.Output.state l.out)
    (flat_map (region_label l.base) (enumerate_from 0 (take l.region l.regions)))
