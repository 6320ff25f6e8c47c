use Rattle.std.proofs.Common.{sym, subst}
use Rattle.log_node.specs.declared.node.Node.{Node}
use Rattle.stamp_board.specs.Rows.{AreColours}
use Rattle.stamp_board.proofs.CallerLemmas.{two_colours}
use Rattle.tests_log.proofs.tests.made.pair.Goals as goal

pub returns-clause-both : goal.returns-clause-both
returns-clause-both c size two = subst (λ (z : Node). AreColours size z.colours) (sym c.in_ok-new.ensures.ok)
    (subst (AreColours size) (sym c.of.ensures) (two_colours size two))
