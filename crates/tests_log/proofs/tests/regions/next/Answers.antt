use Rattle.std.proofs.Common.{◌<◌, ℕ, zero, suc, sym, subst, arith}
use Rattle.log_node.specs.declared.node.Node.{Node}
use Rattle.chain_store.specs.Histories.{FitsColumn}
use Rattle.tests_log.proofs.tests.regions.next.Goals as goal

-- what may stand in the colours 0 and 1 may stand in one of two
fits_two : (colour : ℕ) (x : Node) → colour < 2 → FitsColumn 0 0 x → FitsColumn 0 1 x → FitsColumn 0 colour x
fits_two zero x two first second = first
fits_two (suc zero) x two first second = second
fits_two (suc (suc c)) x two first second = absurd (let f : ⊥ = omega (arith, two) in f)

pub only-requires-clause-node : goal.only-requires-clause-node
only-requires-clause-node g c =
    let fits = c.in_ok-node.ensures.fits in
    subst (λ (r : ℕ). FitsColumn r c.args.colour c.in_ok-node.node.value) (sym c.requires.region.number_is)
    (fits_two c.args.colour c.in_ok-node.node.value c.requires.few.0 fits.0 fits.1)
