use Rattle.tree_fold.proofs.CallerLemmas.{make_fits, move_fits}
use Rattle.walk_law.proofs.SayingLemmas.{may_be}
use Rattle.walk_law.proofs.could_say.can_say.Goals as goal

pub changes_as-requires : goal.changes_as-requires
changes_as-requires c =
    may_be c.in_ok-change-in-Mk.change _ c.in_ok-change-in-Mk.ensures
    (make_fits c.as_bytes-in-Mk.result.now c.as_bytes-in-Mk-2.result.now)

pub changes_as-requires-in-Mv : goal.changes_as-requires-in-Mv
changes_as-requires-in-Mv c =
    may_be c.in_ok-change-in-Mv.change _ c.in_ok-change-in-Mv.ensures
    (move_fits c.as_bytes-in-Mv.result.now c.as_bytes-in-Mv-2.result.now)
