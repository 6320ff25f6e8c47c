use Rattle.std.proofs.Common.{refl, rules}
use Rattle.std.specs.Prelude.{nat_eq}
use Rattle.walk_law.proofs.MovingLemmas.{asks_told}
use Rattle.walk_law.proofs.subject.Subject.asks_for.Goals as goal

pub returns : goal.returns
returns c = λ told caller e.
    asks_told c.args.self.now c.args.own c.args.colour c.args.region (search rules) told caller e c.args.seen c.args.until c.args.place
    c.args.from (search rules) c.min-least.result c.min.result (search rules) (search rules) c.first_holding-looked.result
    c.first_holding-looked.ensures c.min-2.result (search rules) (nat_eq c.args.from c.min-2.result) refl
