use Rattle.std.proofs.Common.{sym, ◌∙◌}
use Rattle.stamp_board.proofs.CallerLemmas.{last_two}
use Rattle.tests_log.proofs.tests.boards.two_clients.Goals as goal

pub returns : goal.returns
returns c =
    let s = c.in-Some-Some in let all = c.args.seats in
    let at = last_two all c.pop.new.self.items c.pop-2.new.self.items s.two s.one c.requires.1
    (sym c.into_vec-seats.ensures ∙ s.ensures.items) s.ensures'.items in
    (c.requires.0 0 s.one at.0, c.requires.0 1 s.two at.1)
