use Rattle.std.proofs.Common.{Bool, List, subst, sym, ℕ}
use Rattle.object_fold.specs.Causal.{IsCausalAnswer}
use Rattle.object_fold.specs.CausalStates.{counts_of}
use Rattle.object_law.specs.CausalPlays.{IsFed, IsFedTo}
use Rattle.object_law.proofs.CausalNodes.{values_told}
use Rattle.object_law.proofs.causal_plays.CausalPlay.has_values.Goals as goal

pub returns-clause-told : goal.returns-clause-told
returns-clause-told c = λ reached.
    let walked = c.args.subject.now in
    let table = c.args.nodes.now in
    let colour = c.args.self.now.colour in
    let m = c.go_to.new.self.map in
    values_told walked table colour m
    (subst (λ (k : ℕ). IsFed walked table k m) c.in_ok-go_to.ensures.colour c.in_ok-go_to.ensures.holds) c.args.to
    (subst (λ (b : Bool). IsFedTo walked table colour c.args.to (counts_of m) b) c.if-not-branch.false
    (c.in_ok-go_to.ensures.fed reached))
    c.args.key.now c.as_slice.result.now c.args.values.now c.are_same.result
    (λ played holds.
    subst (λ (key : List ℕ). IsCausalAnswer played key c.as_slice.result.now) c.as_bytes.ensures
    (subst (λ (found : List (List ℕ)). IsCausalAnswer played c.as_bytes.result.now found) (sym c.as_slice.ensures)
    (c.in_ok-found.ensures played holds)))
    c.are_same.ensures
