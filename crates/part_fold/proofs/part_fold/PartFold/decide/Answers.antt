use Rattle.std.proofs.Common.{refl, ◌++◌, ◌∷◌, []}
use Rattle.part_fold.proofs.RestLemmas.{decided_more}
use Rattle.part_fold.proofs.part_fold.PartFold.decide.Goals as goal

pub returns-clause-ok : goal.returns-clause-ok
returns-clause-ok c = λ said txs stands.
    c.go_on.ensures.stands (said ++ c.args.decision ∷ []) txs
    (decided_more c.args.self.now _ said txs c.args.decision stands.holds refl refl c.in_ok-reserve.ensures.entries c.in_ok-add.ensures.ok)
