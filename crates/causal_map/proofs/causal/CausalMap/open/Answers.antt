use Rattle.std.proofs.Common.{arith}
use Rattle.causal_map.proofs.causal.CausalMap.open.Goals as goal

pub returns-clause-map : goal.returns-clause-map
returns-clause-map c = λ client lt few. record { colour = lt; few = few; folds = (0, omega arith, c.new.ensures) }
