use Rattle.std.proofs.Common.{◌≡◌}
use Rattle.log_node.specs.Vectors.{IsWithin}
use Rattle.object_fold.specs.CausalStates.{counts_of}
use Rattle.object_law.specs.CausalPlays.{IsCausalPlay}
use Rattle.object_law.proofs.CausalNodes.{left_of}
use Rattle.object_law.proofs.causal_plays.CausalPlay.go_on.Given as goal

-- what was fed is counted by the vector
abbrev pub invariant-loop-next : goal.invariant-loop-next
invariant-loop-next l =
    IsCausalPlay l.subject l.nodes l.self × IsWithin (counts_of l.self.map) l.to × (l.self.colour ≡ l.initial.self.colour)

abbrev pub decreases-loop-next : goal.decreases-loop-next
decreases-loop-next l = left_of l.to (counts_of l.self.map)
