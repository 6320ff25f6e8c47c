use Rattle.run_law.proofs.JudgementLemmas.{last_broken}
use Rattle.run_law.proofs.judgement.judged_by_last.Goals as goal

pub returns : goal.returns
returns c =
    last_broken c.args.subject.now.script c.args.subject.now.report c.requires.keeps _ c.in_ok-keeps_fourteenth.ensures
    c.if-branch.false
