use Rattle.tree_fold.proofs.CallerLemmas.{make_fits, move_fits}
use Rattle.walk_law.proofs.SayingLemmas.{may_be}
use Rattle.walk_law.proofs.texts_written.text_said.Goals as goal

pub text_of_change-requires : goal.text_of_change-requires
text_of_change-requires c =
    may_be c.in_ok-change-in-Mk.change _ c.in_ok-change-in-Mk.ensures
    (make_fits c.as_bytes-in-Mk.result.now c.as_bytes-in-Mk-2.result.now)

pub text_of_change-requires-in-Mv : goal.text_of_change-requires-in-Mv
text_of_change-requires-in-Mv c =
    may_be c.in_ok-change-in-Mv.change _ c.in_ok-change-in-Mv.ensures
    (move_fits c.as_bytes-in-Mv.result.now c.as_bytes-in-Mv-2.result.now)
