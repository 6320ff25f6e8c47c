use Rattle.walk_law.proofs.PrintLemmas.{PrintsTo}
use Rattle.walk_law.proofs.printed.Printed.of_report.Given as goal

-- what replies to the clients so far print
abbrev pub invariant-loop-client : goal.invariant-loop-client
invariant-loop-client l = PrintsTo l.script l.report l.client l.printed
