use Rattle.col_core.proofs.Orders.{same_order}
use Rattle.col_core.proofs.laws.play_order_is_unique.Goals as goal

pub returns : goal.returns
returns c = λ chains from to one other reached a b. same_order chains from to reached one other a b
