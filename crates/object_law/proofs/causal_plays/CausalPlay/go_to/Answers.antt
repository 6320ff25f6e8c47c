use Rattle.std.proofs.Common.{subst, sym}
use Rattle.object_law.specs.declared.causal_plays.CausalPlay.{CausalPlay}
use Rattle.object_law.specs.CausalPlays.{IsCausalPlay}
use Rattle.object_law.proofs.CausalNodes.{fed_first}
use Rattle.object_law.proofs.causal_plays.CausalPlay.go_to.Goals as goal
use Rattle.object_law.proofs.causal_plays.CausalPlay.go_to.Goals.{then-not-is_within, else-not-is_within}

pub go_on-requires-clause-holds : goal.go_on-requires-clause-holds
go_on-requires-clause-holds c =
    let walked = c.args.subject.now in
    let table = c.args.nodes.now in
    elim c.if-not-is_within.branch [
      | then-not-is_within w ↦
          subst (λ (p : CausalPlay). IsCausalPlay walked table p) (sym w.self-is)
          (fed_first walked table c.args.self.now.colour w.new.result w.new.ensures)
      | else-not-is_within w ↦ subst (λ (p : CausalPlay). IsCausalPlay walked table p) (sym w.self-is) c.requires
    ]
