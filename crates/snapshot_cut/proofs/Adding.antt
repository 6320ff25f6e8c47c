-- What adding nodes one at a time comes to.
use Rattle.std.proofs.Common.{ℕ, zero, suc, ◌+◌, ◌<◌, length, arith}
use Rattle.std.specs.Prelude.{slice_get}
use Rattle.std.proofs.lemmas.Option.{slice_get_within}
use Rattle.log_node.specs.declared.ids.Counts.{Counts}
use Rattle.log_node.specs.Vectors.{at, one_more}
use Rattle.log_node.specs.Reach.{Chains, Reachable, next}
use Rattle.log_node.proofs.CallerLemmas.{covered}
use Rattle.snapshot_cut.specs.Stuck.{IsFree, left}

-- a free node can be added
pub more_reached : (chains : Chains) (v : Counts) (region : ℕ) → Reachable chains v → IsFree chains v region
    → Reachable chains (one_more v region)
more_reached chains v region reached free =
    let c = covered v (slice_get (chains region) (at v region)) free.covered in
    next region c.0 reached free.in_range c.1 c.2

-- each node more leaves less
pub less_left : (chains : Chains) (v : Counts) (region : ℕ) → region < 4 → at v region < length (chains region)
    → left chains (one_more v region) < left chains v
less_left chains v zero lt inside = omega (arith, inside)
less_left chains v (suc zero) lt inside = omega (arith, inside)
less_left chains v (suc (suc zero)) lt inside = omega (arith, inside)
less_left chains v (suc (suc (suc zero))) lt inside = omega (arith, inside)
less_left chains v (suc (suc (suc (suc r)))) lt inside = absurd (let f : ⊥ = omega (arith, lt) in f)

-- a free node is there
pub free_inside : (chains : Chains) (v : Counts) (region : ℕ) → IsFree chains v region
    → at v region < length (chains region)
free_inside chains v region free =
    let c = covered v (slice_get (chains region) (at v region)) free.covered in
    slice_get_within (chains region) (at v region) c.0 c.1
