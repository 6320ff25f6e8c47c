use Rattle.std.proofs.Common.{refl, arith, ◌++◌, ◌∷◌, []}
use Rattle.part_fold.proofs.WaitingLemmas.{pairs_in-push}
use Rattle.part_fold.proofs.RestLemmas.{waits_more}
use Rattle.part_fold.proofs.part_fold.PartFold.add.Goals as goal

pub go_on-requires : goal.go_on-requires
go_on-requires c =
    rw c.in_ok-push-in-Some.ensures.ok (omega (arith, pairs_in-push c.args.self.now.waiting c.args.transaction, c.in_ok-reserve-in-Some.ensures.room, c.in-Some.ensures, c.pairs.ensures, c.len.ensures))

pub returns-in_ok-push-in-Some-clause-ok : goal.returns-in_ok-push-in-Some-clause-ok
returns-in_ok-push-in-Some-clause-ok c = λ said txs stands.
    c.go_on.ensures.stands said (txs ++ c.args.transaction ∷ [])
    (waits_more c.args.self.now _ said txs c.args.transaction stands.holds refl c.in_ok-push-in-Some.ensures.ok c.in_ok-reserve-in-Some.ensures.entries refl)
