use Rattle.std.proofs.Common.{◌+◌, ◌<◌, refl, sym, ◌∙◌, subst}
use Rattle.stamp_board.specs.declared.view.Size.{Size}
use Rattle.stamp_board.specs.Words.{word_at, row_at}
use Rattle.stamp_board.specs.Views.{KnowsMark}
use Rattle.stamp_board.proofs.Keeps.{column_set}
use Rattle.stamp_board.proofs.Marking as m
use Rattle.stamp_board.proofs.Possible.{found_mark}
use Rattle.stamp_board.proofs.board.Board.fence.Goals as goal

pub returns-then-found-eq0-clause-set : goal.returns-then-found-eq0-clause-set
returns-then-found-eq0-clause-set c _ = let k = c.args.self.now.size in let s = c.args.seat.now in
    let v = s.inner.me.0 in let t = c.set_mark-found in let w = t.new.seat.me.0 in let n = c.word_of_why-new.result in
    let e = c.if-found-eq0.true in
    let own = column_set k v c.args.row s.colour t.result c.requires.seat.1 s.inside s.low s.high t.ensures.told in
    record {
      unset = m.was_unset k v w c.args.row s.colour n t.result c.requires.seat.1 t.ensures.view own e;
      set = m.set_now k v w c.args.row s.colour n t.result c.requires.seat.1 t.ensures.view own e
          ∙ c.word_of_why-new.ensures.word;
      others = m.others_stay k v w c.args.row s.colour n t.result c.requires.seat.1 t.ensures.view own e s.inside;
    }

pub returns-then-found-eq0-clause-already : goal.returns-then-found-eq0-clause-already
returns-then-found-eq0-clause-already c ne = let k = c.args.self.now.size in let s = c.args.seat.now in
    let v = s.inner.me.0 in let t = c.set_mark-found in
    let own = column_set k v c.args.row s.colour t.result c.requires.seat.1 s.inside s.low s.high t.ensures.told in
    absurd (ne (m.was_unset k v t.new.seat.me.0 c.args.row s.colour c.word_of_why-new.result t.result
    c.requires.seat.1 t.ensures.view own c.if-found-eq0.true))

pub returns-then-found-eq0-clause-known : goal.returns-then-found-eq0-clause-known
returns-then-found-eq0-clause-known c = let k = c.args.self.now.size in let s = c.args.seat.now in
    let v = s.inner.me.0 in let t = c.set_mark-found in let w = t.new.seat.me.0 in let n = c.word_of_why-new.result in
    let own = column_set k v c.args.row s.colour t.result c.requires.seat.1 s.inside s.low s.high t.ensures.told in
    subst (KnowsMark w c.args.row s.colour) (m.set_now k v w c.args.row s.colour n t.result c.requires.seat.1
    t.ensures.view own c.if-found-eq0.true ∙ c.word_of_why-new.ensures.word)
    (m.knows_own k v w c.args.row s.colour n t.result c.requires.seat.1 t.ensures.view own)

pub returns-else-found-eq0-clause-set : goal.returns-else-found-eq0-clause-set
returns-else-found-eq0-clause-set c e = let k = c.args.self.now.size in let s = c.args.seat.now in
    let v = s.inner.me.0 in let t = c.set_mark-found in
    let own = column_set k v c.args.row s.colour t.result c.requires.seat.1 s.inside s.low s.high t.ensures.told in
    absurd (m.was_set k v t.new.seat.me.0 c.args.row s.colour c.word_of_why-new.result t.result c.requires.seat.1
    t.ensures.view own c.if-found-eq0.false e)

pub returns-else-found-eq0-clause-fenced : goal.returns-else-found-eq0-clause-fenced
returns-else-found-eq0-clause-fenced c e = let k = c.args.self.now.size in let s = c.args.seat.now in
    let v = s.inner.me.0 in let t = c.set_mark-found in
    let own = column_set k v c.args.row s.colour t.result c.requires.seat.1 s.inside s.low s.high t.ensures.told in
    absurd (m.was_set k v t.new.seat.me.0 c.args.row s.colour c.word_of_why-new.result t.result c.requires.seat.1
    t.ensures.view own c.if-found-eq0.false e)

pub returns-else-found-eq0-clause-already : goal.returns-else-found-eq0-clause-already
returns-else-found-eq0-clause-already c _ = let k = c.args.self.now.size in let s = c.args.seat.now in
    let v = s.inner.me.0 in let t = c.set_mark-found in let w = t.new.seat.me.0 in let n = c.word_of_why-new.result in
    let ne = c.if-found-eq0.false in
    let own = column_set k v c.args.row s.colour t.result c.requires.seat.1 s.inside s.low s.high t.ensures.told in
    record {
      was_set = m.was_set k v w c.args.row s.colour n t.result c.requires.seat.1 t.ensures.view own ne;
      is = c.mark_of.ensures ∙ sym (m.was k v w c.args.row s.colour n t.result c.requires.seat.1 t.ensures.view own);
      stamp = found_mark k v (word_at k (row_at k c.args.row) (1 + s.colour)) t.result c.requires.seat.1
          t.ensures.told c.args.row s.colour c.mark_of.result refl
          (subst (λ (z : Size). s.colour < z.colours) c.requires.seat.1 s.inside) c.mark_of.ensures;
      none = m.all_stay k v w c.args.row s.colour n t.result c.requires.seat.1 t.ensures.view own ne;
    }
