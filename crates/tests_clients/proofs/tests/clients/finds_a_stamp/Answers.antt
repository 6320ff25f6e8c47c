use Rattle.std.proofs.Common.{ap, arith, subst, sym}
use Rattle.stamp_board.specs.declared.view.Size.{Size}
use Rattle.log_client.specs.Appends.{AreColoursOf}
use Rattle.log_client.proofs.CallerLemmas.{one_of_store}
use Rattle.tests_clients.proofs.tests.clients.finds_a_stamp.Goals as goal

pub append-requires-clause-colours : goal.append-requires-clause-colours
append-requires-clause-colours g c κs within =
    let two = ap (λ (z : Size). z.colours) c.requires.store.size in
    subst (AreColoursOf c.args.store.now) (sym c.of-second.ensures)
    (one_of_store c.args.store.now 1 (omega (arith, two)) (omega arith))
