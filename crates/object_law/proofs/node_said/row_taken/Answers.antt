use Rattle.std.proofs.Common.{◌<◌, ◌≤◌, sym, subst, length, ℕ}
use Rattle.std.specs.Prelude.{nat_lt}
use Rattle.std.proofs.lemmas.Bool.{le-ltb, lt-ltb}
use Rattle.col_core.proofs.CallerLemmas.{if_false, if_true}
use Rattle.walk_law.specs.Asking.{colours_in}
use Rattle.object_law.proofs.node_said.row_taken.Goals as goal

pub returns-then-count-gt1 : goal.returns-then-count-gt1
unfolding colours_in
returns-then-count-gt1 c =
    sym (if_true (nat_lt 1 (length (colours_in c.args.colours))) _ _
    (lt-ltb 1 (length (colours_in c.args.colours)) (subst (λ (n : ℕ). 1 < n) c.count.ensures c.if-count-gt1.true)))

pub returns-else-count-gt1 : goal.returns-else-count-gt1
unfolding colours_in
returns-else-count-gt1 c =
    sym (if_false (nat_lt 1 (length (colours_in c.args.colours))) _ _
    (le-ltb 1 (length (colours_in c.args.colours)) (subst (λ (n : ℕ). n ≤ 1) c.count.ensures c.if-count-gt1.false)))
