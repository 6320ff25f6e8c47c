use Rattle.run_rules.proofs.CallerLemmas.{shown_finds_decide}
use Rattle.run_law.proofs.JudgingLaws.{are_asked}
use Rattle.run_law.proofs.judging_laws.rules_are_asked.Goals as goal

pub returns : goal.returns
returns c = λ script report fits differ.
    are_asked c.first_rules_decided.ensures c.later_rules_decided.ensures
    (shown_finds_decide c.region_order_is_unique.ensures c.region_order_is_lawful.ensures c.decisions_are_plain.ensures)
    script report fits c.ninth_rule_decided.ensures c.fourteenth_is_decided.ensures differ
