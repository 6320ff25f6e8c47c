use Rattle.std.proofs.Common.{◌≤◌, List, ap, arith, length, subst, sym, ℕ, ◌∙◌}
use Rattle.std.specs.List.{Contains}
use Rattle.tests_clients.proofs.Small.{both_colours, one_of_both}
use Rattle.tests_clients.proofs.tests.parts.with_part.Goals as goal

pub open-part-requires-clause-colour : goal.open-part-requires-clause-colour
open-part-requires-clause-colour c =
    subst (λ (l : List ℕ). Contains l c.args.colour) (sym c.in_ok-colours.ensures) (one_of_both c.args.colour c.requires.colour)

pub open-part-requires-clause-few : goal.open-part-requires-clause-few
open-part-requires-clause-few c = let long = ap length c.in_ok-colours.ensures in omega (arith, long)

pub returns-clause-player : goal.returns-clause-player
returns-clause-player c =
    c.open-part.ensures.player c.args.client
    (both_colours c.args._store.now c.args.client c.in_ok-colours.colours c.requires.small c.requires.client
    c.in_ok-colours.ensures)

pub returns-clause-part : goal.returns-clause-part
returns-clause-part c = record {
  colours = c.open-part.ensures.of.1 ∙ c.in_ok-colours.ensures;
  own = c.open-part.ensures.of.2;
}
