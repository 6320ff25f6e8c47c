use Rattle.std.proofs.Common.{List, ℕ, take, get_or, sym, subst}
use Rattle.std.specs.Ordering.{nat_cmp, ord_max}
use Rattle.std.proofs.lemmas.List.{take_more}
use Rattle.script_beside.specs.Begins.{IsGreatest}
use Rattle.script_beside.proofs.BeginLemmas.{greatest_more}
use Rattle.script_beside.proofs.begins.greatest.Goals as goal

pub loop-count-preserved : goal.loop-count-preserved
loop-count-preserved c =
    let counts = c.args.counts.now in
    let i = c.loop-count.count-index in
    let most = c.loop-count.most in
    rw c.max-most.ensures
    (subst (λ (l : List ℕ). IsGreatest l (ord_max nat_cmp most (get_or counts i 0))) (sym (take_more counts i 0 c.loop-count-test.true))
    (greatest_more (take i counts) most (get_or counts i 0) c.loop-count.invariant))
