use Rattle.std.proofs.Common.{sym, ◌∙◌}
use Rattle.stamp_board.proofs.CallerLemmas.{last_two}
use Rattle.tests_log.proofs.tests.boards.two_columns.Goals as goal

pub returns : goal.returns
returns c =
    let s = c.in-Some-Some in let all = c.args.columns in
    let at = last_two all c.pop.new.self.items c.pop-2.new.self.items s.y s.x c.requires.1
    (sym c.into_vec-columns.ensures ∙ s.ensures.items) s.ensures'.items in
    (c.requires.0 0 s.x at.0, c.requires.0 1 s.y at.1)
