use Rattle.run_law.proofs.JudgingLaws.{judged_is_lawful}
use Rattle.run_law.proofs.judging_laws.judged_is_lawful.Goals as goal

pub returns : goal.returns
returns c =
    judged_is_lawful c.lawful_runs_keep_rules.ensures c.rules_make_lawful.ensures c.broken_is_unlawful.ensures
