use Rattle.std.proofs.Common.{◌<◌, [], ◌∷◌, ap, arith, subst, sym}
use Rattle.std.proofs.lemmas.List.Elements.{All-cons, All-nil}
use Rattle.log_node.specs.declared.limits.TheConstants.{MAX_COLOURS}
use Rattle.stamp_board.specs.declared.view.Size.{Size}
use Rattle.log_client.specs.Appends.{AreColoursOf}
use Rattle.log_client.proofs.CallerLemmas.{listed_of_store}
use Rattle.tests_clients.proofs.tests.parts.transacts.Goals as goal

pub append-requires-clause-colours : goal.append-requires-clause-colours
append-requires-clause-colours g c κs within =
    let s = c.args.store.now in
    let two = ap (λ (z : Size). z.colours) c.requires.store.size in
    subst (AreColoursOf s) (sym c.of-both.ensures)
    (listed_of_store s (0 ∷ 1 ∷ []) (omega arith)
    (All-cons (λ k. k < s.size.colours) 0 (1 ∷ []) (omega (arith, two))
    (All-cons (λ k. k < s.size.colours) 1 [] (omega (arith, two)) (All-nil (λ k. k < s.size.colours))))
    (All-cons (λ k. k < MAX_COLOURS) 0 (1 ∷ []) (omega arith)
    (All-cons (λ k. k < MAX_COLOURS) 1 [] (omega arith) (All-nil (λ k. k < MAX_COLOURS)))))
