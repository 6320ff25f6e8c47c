use Rattle.std.proofs.Common.{arith}
use Rattle.part_fold.proofs.WaitingLemmas.{pairs_in-push}
use Rattle.part_fold.proofs.transaction.Waiting.push.Goals as goal

pub invariant_of-self-2 : goal.invariant_of-self-2
invariant_of-self-2 c =
    rw c.in_ok-push_back.ensures.items (omega (arith, pairs_in-push c.self.inside.transactions.items c.args.transaction, c.self.invariant, c.len.ensures))
