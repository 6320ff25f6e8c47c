use Rattle.run_rules.proofs.CallerLemmas.{computed_decisions_decide}
use Rattle.object_law.proofs.ShowingLaws.{fourteenth_is_decided}
use Rattle.object_law.proofs.object_laws.fourteenth_is_decided.Goals as goal

pub returns : goal.returns
returns c =
    fourteenth_is_decided c.finds_tell.ensures c.computed_finds_decide.ensures
    (computed_decisions_decide c.region_order_is_unique.ensures c.region_order_is_lawful.ensures c.decisions_are_plain.ensures)
