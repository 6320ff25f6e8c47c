use Rattle.std.proofs.lemmas.Result.{IfOk-weaker}
use Rattle.tests_log.specs.Clients.{EndsSmall}
use Rattle.tests_log.proofs.Linked.{ends_small}
use Rattle.tests_log.proofs.tests.rings.closed.Goals as goal

pub returns : goal.returns
returns g c =
    IfOk-weaker c.close.result _ (EndsSmall c.args.region)
    (λ x e. ends_small c.args.region _ x c.requires.region.0 c.requires.region.1 e) c.close.ensures
