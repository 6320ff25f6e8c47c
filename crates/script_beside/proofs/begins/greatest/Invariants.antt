use Rattle.std.proofs.Common.{take}
use Rattle.script_beside.specs.Begins.{IsGreatest}
use Rattle.script_beside.proofs.begins.greatest.Given as goal

-- the greatest of the counts so far
abbrev pub invariant-loop-count : goal.invariant-loop-count
invariant-loop-count l = IsGreatest (take l.count-index l.counts) l.most
