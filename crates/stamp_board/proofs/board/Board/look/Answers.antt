use Rattle.std.proofs.Common.{sym, ◌∙◌, ◌+◌, ◌<◌, ap, subst}
use Rattle.stamp_board.specs.Words.{mark_from, word_at, row_at}
use Rattle.stamp_board.specs.declared.view.Size.{Size}
use Rattle.stamp_board.specs.declared.view.View.{View}
use Rattle.stamp_board.specs.Law.{Told}
use Rattle.stamp_board.proofs.Knowing.{heard_mine, heard_size}
use Rattle.stamp_board.proofs.Keeps.{column_set}
use Rattle.stamp_board.proofs.Marking.{same_own}
use Rattle.stamp_board.proofs.Possible.{found_mark, found_word}
use Rattle.stamp_board.proofs.board.Board.look.Goals as goal

pub returns-clause-none : goal.returns-clause-none
returns-clause-none c row = let s = c.args.seat.now in let v = s.inner.me.0 in let t = c.load in
    let i = c.word-word.result in
    same_own v t.new.seat.me.0 (ap (λ (z : View). z.mine) t.ensures.view
    ∙ heard_mine v i t.result) (ap (λ (z : View). z.size) t.ensures.view ∙ heard_size v i t.result) row s.colour

pub returns-clause-mark : goal.returns-clause-mark
returns-clause-mark c = let k = c.args.self.now.size in let s = c.args.seat.now in let n = c.load.result in
    let t : Told s.inner.me.0 (word_at k (row_at k c.args.row) (1 + s.colour)) n = subst (λ z. Told s.inner.me.0 z n)
    c.word-word.ensures.word c.load.ensures.told in
    c.mark_of.ensures ∙ ap mark_from (sym (column_set k s.inner.me.0 c.args.row s.colour n c.requires.seat.1 s.inside
    s.low s.high t))

pub returns-clause-value : goal.returns-clause-value
returns-clause-value c = let k = c.args.self.now.size in let s = c.args.seat.now in let t = c.load in
    let f = found_word k s.inner.me.0 t.new.seat.me.0 c.args.row c.word-word.result t.result
    (1 + s.colour) c.requires.seat.1 c.word-word.ensures.word t.ensures.view t.ensures.told in
    (f.0, f.1, ap mark_from f.2 ∙ sym c.mark_of.ensures)

pub returns-clause-stamp : goal.returns-clause-stamp
returns-clause-stamp c = found_mark c.args.self.now.size c.args.seat.now.inner.me.0 c.word-word.result c.load.result
    c.requires.seat.1 c.load.ensures.told c.args.row c.args.seat.now.colour c.mark_of.result c.word-word.ensures.word
    (subst (λ (z : Size). c.args.seat.now.colour < z.colours) c.requires.seat.1 c.args.seat.now.inside) c.mark_of.ensures
