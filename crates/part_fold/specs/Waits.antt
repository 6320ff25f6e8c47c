-- Transactions that wait, in the order of their line.
use Rattle.std.specs.Prelude.{ℕ, ◌+◌, List, [], ◌∷◌, length, Option, Some, None}
use Rattle.log_node.specs.declared.ids.Key.{Key}
use Rattle.part_fold.specs.declared.transaction.Transaction.{Transaction}

-- the first of them
abbrev pub front_of : List Transaction → Option Transaction
front_of [] = None
front_of (tx ∷ txs) = Some tx

-- its key
abbrev pub front_key : List Transaction → Option Key
front_key [] = None
front_key (tx ∷ txs) = Some tx.key

-- all but the first
abbrev pub behind : List Transaction → List Transaction
behind [] = []
behind (tx ∷ txs) = txs

-- how many pairs they write
abbrev pub pairs_in : List Transaction → ℕ
pairs_in [] = 0
pairs_in (tx ∷ txs) = length tx.pairs + pairs_in txs
