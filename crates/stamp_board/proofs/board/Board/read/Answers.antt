use Rattle.std.proofs.Common.{◌+◌, sym, ◌∙◌, ap}
use Rattle.stamp_board.specs.Words.{mark_from}
use Rattle.stamp_board.proofs.Possible.{found_word, found_mark}
use Rattle.stamp_board.proofs.board.Board.read.Goals as goal

pub returns-clause-value : goal.returns-clause-value
returns-clause-value c = let k = c.args.self.now.size in let t = c.load in
    let f = found_word k c.args.seat.now.inner.me.0 t.new.seat.me.0 c.args.row c.word-word.result t.result
    (1 + c.args.colour) c.requires.seat.1 c.word-word.ensures.word t.ensures.view t.ensures.told in
    (f.0, f.1, ap mark_from f.2 ∙ sym c.mark_of.ensures)

pub returns-clause-stamp : goal.returns-clause-stamp
returns-clause-stamp c = found_mark c.args.self.now.size c.args.seat.now.inner.me.0 c.word-word.result c.load.result
    c.requires.seat.1 c.load.ensures.told c.args.row c.args.colour c.mark_of.result c.word-word.ensures.word
    c.requires.colour c.mark_of.ensures
