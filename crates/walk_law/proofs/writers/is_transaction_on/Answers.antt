use Rattle.std.specs.Option.{option_copied}
use Rattle.walk_law.specs.Asking.{keys_shown}
use Rattle.walk_law.specs.TextsSaid.{IsTransactionOn}
use Rattle.walk_law.proofs.FrontLemmas.{whole_told}
use Rattle.walk_law.proofs.writers.is_transaction_on.Goals as goal

pub returns : goal.returns
returns c =
    whole_told (IsTransactionOn (keys_shown c.args.shown.now) c.args.pairs.now) c.args.text.now
    (option_copied c.behind_transaction.result) c.is_whole.result c.behind_transaction.ensures c.is_whole.ensures
