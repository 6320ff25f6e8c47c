use Rattle.std.proofs.Common.{◌≡◌, map, take, Vec, Global}
use Rattle.script_text.specs.declared.script.Command.{Command}
use Rattle.script_beside.specs.Begins.{begins_in}
use Rattle.script_beside.proofs.begins.counts_of.Given as goal

-- the counts of the lists so far
abbrev pub invariant-loop-list : goal.invariant-loop-list
invariant-loop-list l = l.counts.items ≡ map (λ (list : Vec Command Global). begins_in list.items) (take l.list-index l.lists)
