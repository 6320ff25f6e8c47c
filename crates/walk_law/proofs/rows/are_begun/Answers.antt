use Rattle.std.proofs.Common.{[]}
use Rattle.log_node.proofs.CallerLemmas.{ok_then}
use Rattle.walk_law.proofs.Lists.{told_not, told_so}
use Rattle.walk_law.proofs.RowLemmas.{begun_told}
use Rattle.walk_law.proofs.rows.are_begun.Goals as goal

pub returns-then-not-are_alone : goal.returns-then-not-are_alone
returns-then-not-are_alone c = λ both. told_not c.are_alone.result c.are_alone.ensures c.if-not-are_alone.true both.0

pub returns : goal.returns
returns c =
    ok_then c.are_in_order.result _ _
    (λ b told. begun_told c.args.script.now c.args.region [] c.args.rows.now
    (told_so c.are_alone.result c.are_alone.ensures c.if-not-are_alone.false) b told) c.are_in_order.ensures
