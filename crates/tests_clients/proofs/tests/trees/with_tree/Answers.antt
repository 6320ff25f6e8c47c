use Rattle.tests_clients.proofs.Small.{both_colours}
use Rattle.tests_clients.proofs.tests.trees.with_tree.Goals as goal

pub returns-clause-tree : goal.returns-clause-tree
returns-clause-tree c =
    c.open-tree.ensures.tree c.args.client
    (both_colours c.args._store.now c.args.client c.in_ok-colours.colours c.requires.small c.requires.client
    c.in_ok-colours.ensures)
