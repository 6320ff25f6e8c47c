use Rattle.std.proofs.lemmas.Bool.{eq-eqb, eqb-true}
use Rattle.std.proofs.lemmas.Slice.Eq.{strip_prefix_is}
use Rattle.walk_law.proofs.FrontLemmas.{stripped}
use Rattle.walk_law.proofs.fronts.behind.Goals as goal

pub returns : goal.returns
returns c =
    stripped c.args.front.now c.args.bytes.now c.strip_prefix.result
    (strip_prefix_is (λ a b. (eqb-true a b, eq-eqb a b)) c.args.bytes.now c.args.front.now c.strip_prefix.result
    c.strip_prefix.ensures.cases)
