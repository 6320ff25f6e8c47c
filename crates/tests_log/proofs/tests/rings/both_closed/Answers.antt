use Rattle.std.proofs.Common.{rules, ◌≡◌, ◌∷◌, [], List, sym, subst}
use Rattle.chain_store.specs.declared.closed.ClosedRegion.{ClosedRegion}
use Rattle.chain_store.specs.Joined.{AreJoined, ends_in}
use Rattle.tests_log.proofs.Linked.{ends_joined}
use Rattle.tests_log.proofs.tests.rings.both_closed.Goals as goal

pub check_rings-requires-clause-joined : goal.check_rings-requires-clause-joined
check_rings-requires-clause-joined g c =
    let x = c.in_ok-closed.field-0 in
    let y = c.in_ok-closed-2.field-0 in
    let both : c.push-2.new.self.items ≡ x ∷ y ∷ [] = search rules in
    subst (λ (l : List ClosedRegion). AreJoined 2 2 (ends_in l)) (sym both)
    (ends_joined c.args.east c.args.west x y c.requires.regions.2 c.in_ok-closed.ensures c.in_ok-closed-2.ensures)
