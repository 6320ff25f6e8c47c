use Rattle.std.proofs.Common.{◌≤◌, ◌+◌, ℕ, List, length}
use Rattle.log_node.specs.declared.ids.Colours.{Colours}
use Rattle.script_text.proofs.SetLaws.{IsRead}
use Rattle.script_text.proofs.names.colour_set.Given as goal

pub record Sets (names : List (List ℕ)) (cols rest : List ℕ) (set : Colours) (count : ℕ) : Type 0 where
  pub read : IsRead names cols rest set count
  pub fits : count + length rest ≤ length cols

abbrev pub invariant-loop-colour : goal.invariant-loop-colour
invariant-loop-colour l = Sets l.names l.cols l.rest l.set l.count

abbrev pub decreases-loop-colour : goal.decreases-loop-colour
decreases-loop-colour l = length l.rest
