use Rattle.run_law.proofs.JudgementLemmas.{showing_broken}
use Rattle.run_law.proofs.judgement.least_found.Goals as goal

pub returns-then-not-keeps_showing : goal.returns-then-not-keeps_showing
returns-then-not-keeps_showing c =
    showing_broken c.rules_are_asked.ensures _ _ c.agrees.ensures.may.1.fitting c.requires.differ c.requires.keeps
    c.keeps_showing.result c.keeps_showing.ensures c.if-not-keeps_showing.true
