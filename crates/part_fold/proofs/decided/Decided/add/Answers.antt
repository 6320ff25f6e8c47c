use Rattle.std.proofs.Common.{◌∙◌, sym}
use Rattle.part_fold.proofs.DecidedLemmas.{one_more}
use Rattle.part_fold.proofs.decided.Decided.add.Goals as goal

pub returns-in_ok-insert-in-None-clause-ok : goal.returns-in_ok-insert-in-None-clause-ok
returns-in_ok-insert-in-None-clause-ok c =
    one_more c.args.self.now (record { outcomes = c.insert.new.self }) c.args.decision (sym c.get.ensures ∙ c.in-None.is) c.in_ok-insert-in-None.ensures.updates.0
