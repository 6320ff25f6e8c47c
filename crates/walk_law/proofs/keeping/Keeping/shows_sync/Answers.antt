use Rattle.run_rules.specs.Telling.{replies_to}
use Rattle.walk_law.proofs.Lists.{told_so}
use Rattle.walk_law.proofs.keeping.Keeping.shows_sync.Goals as goal

pub returns-clause-kept : goal.returns-clause-kept
returns-clause-kept c = λ told kept low is. (
  told_so c.is_sync.result (c.is_sync.ensures told kept low is) c.if-not-is_sync.false,
  c.sync.ensures.kept (replies_to c.args.subject.now.report c.args.client) kept is,
)
