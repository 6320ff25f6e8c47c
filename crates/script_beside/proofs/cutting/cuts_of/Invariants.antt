use Rattle.script_beside.proofs.PartLemmas.{Cutting}
use Rattle.script_beside.proofs.cutting.cuts_of.Given as goal

-- the parts so far
abbrev pub invariant-loop : goal.invariant-loop
invariant-loop l = Cutting l.lines l.cuts.items l.rest l.before
