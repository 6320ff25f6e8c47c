use Rattle.std.proofs.Common.{ap, ◌+◌, sym}
use Rattle.fork_join.proofs.Places.{accepts_others, changes_both}
use Rattle.fork_join.proofs.items.+shares.Goals as goal

pub in_shares-first_beside_others-requires-clause-others :
    goal.in_shares-first_beside_others-requires-clause-others
in_shares-first_beside_others-requires-clause-others g t c κs within =
    let cut = c.split_at_mut-first in
    accepts_others g.F.Fn c.args.f.now c.args.base _ _ _ _ cut.ensures.value (ap (λ n. c.args.base + n) (sym cut.ensures.front_len)) c.requires.accepts

pub in_shares-returns : goal.in_shares-returns
in_shares-returns g t c =
    let cut = c.split_at_mut-first in
    changes_both g.F.Fn c.args.f.now c.args.base _ _ _ _ _ _ cut.ensures.value (ap (λ n. c.args.base + n) (sym cut.ensures.front_len))
    c.first_beside_others.ensures.first c.first_beside_others.ensures.others
