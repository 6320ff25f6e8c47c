use Rattle.run_rules.specs.Telling.{replies_to}
use Rattle.walk_law.proofs.Lists.{told_so}
use Rattle.walk_law.proofs.keeping.Keeping.shows_played.Goals as goal

pub returns : goal.returns
returns c = λ told kept low is. (
  told_so c.is_played.result (c.is_played.ensures told kept low is) c.if-not-is_played.false,
  c.sync.ensures.kept (replies_to c.args.subject.now.report c.args.client) kept is,
)
