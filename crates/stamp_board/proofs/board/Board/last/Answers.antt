use Rattle.std.proofs.Common.{◌+◌, sym, ◌∙◌, ap}
use Rattle.stamp_board.specs.Words.{outcome_from}
use Rattle.stamp_board.proofs.Possible.{found_word, found_outcome}
use Rattle.stamp_board.proofs.board.Board.last.Goals as goal

pub returns-clause-value : goal.returns-clause-value
returns-clause-value c = let k = c.args.self.now.size in let t = c.load in
    let f = found_word k c.args.seat.now.inner.me.0 t.new.seat.me.0 c.args.row c.word-word.result t.result
    (k.colours + 1) c.requires.seat.1 c.word-word.ensures.word t.ensures.view t.ensures.told in
    (f.0, f.1, ap outcome_from f.2 ∙ sym c.outcome_of_word.ensures)

pub returns-clause-stamp : goal.returns-clause-stamp
returns-clause-stamp c = found_outcome c.args.self.now.size c.args.seat.now.inner.me.0 c.word-word.result
    c.load.result c.requires.seat.1 c.load.ensures.told c.args.row c.outcome_of_word.result c.word-word.ensures.word
    c.outcome_of_word.ensures
