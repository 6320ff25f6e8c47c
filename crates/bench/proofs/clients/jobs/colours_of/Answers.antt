use Rattle.std.proofs.Common.{sym, subst}
use Rattle.log_client.specs.Appends.{AreColoursOf}
use Rattle.bench.proofs.Colours.{both_of_store, first_of_store}
use Rattle.bench.proofs.clients.jobs.colours_of.Goals as goal

pub returns-then-both : goal.returns-then-both
returns-then-both c = λ s bench. subst (AreColoursOf s) (sym c.of.ensures) (both_of_store s bench.colours)

pub returns : goal.returns
returns c = λ s bench. subst (AreColoursOf s) (sym c.of-2.ensures) (first_of_store s bench.colours)
