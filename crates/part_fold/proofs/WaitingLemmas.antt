-- Transactions that wait.
use Rattle.std.proofs.Common.{◌≡◌, ◌+◌, List, [], ◌∷◌, ◌++◌, length, arith}
use Rattle.part_fold.specs.declared.transaction.Transaction.{Transaction}
use Rattle.part_fold.specs.Waits.{pairs_in}

pub pairs_in-push : (txs : List Transaction) (tx : Transaction) → pairs_in (txs ++ tx ∷ []) ≡ pairs_in txs + length tx.pairs
pairs_in-push [] tx = omega arith
pairs_in-push (first ∷ txs) tx = let later = pairs_in-push txs tx in omega arith
