use Rattle.std.proofs.Common.{◌+◌, ◌<◌, refl, sym, ◌∙◌, subst}
use Rattle.stamp_board.specs.declared.view.Size.{Size}
use Rattle.stamp_board.specs.Words.{word_at, row_at}
use Rattle.stamp_board.proofs.Keeps.{column_set}
use Rattle.stamp_board.proofs.Marking as m
use Rattle.stamp_board.proofs.Possible.{found_mark}
use Rattle.stamp_board.proofs.board.Board.mark.Goals as goal

pub returns-then-found-eq0-clause-value : goal.returns-then-found-eq0-clause-value
returns-then-found-eq0-clause-value c = let k = c.args.self.now.size in let s = c.args.seat.now in
    let v = s.inner.me.0 in let t = c.set_mark-found in let w = t.new.seat.me.0 in let n = c.args.number + 2 in
    let e = c.if-found-eq0.true in
    let own = column_set k v c.args.row s.colour t.result c.requires.seat.1 s.inside s.low s.high t.ensures.told in
    record {
      unset = m.was_unset k v w c.args.row s.colour n t.result c.requires.seat.1 t.ensures.view own e;
      set = m.set_now k v w c.args.row s.colour n t.result c.requires.seat.1 t.ensures.view own e
          ∙ m.number_word c.args.number c.requires.number.0;
      others = m.others_stay k v w c.args.row s.colour n t.result c.requires.seat.1 t.ensures.view own e s.inside;
    }

pub returns-then-found-eq0-clause-known : goal.returns-then-found-eq0-clause-known
returns-then-found-eq0-clause-known c = let k = c.args.self.now.size in let s = c.args.seat.now in
    let v = s.inner.me.0 in let t = c.set_mark-found in
    let own = column_set k v c.args.row s.colour t.result c.requires.seat.1 s.inside s.low s.high t.ensures.told in
    m.knows_own k v t.new.seat.me.0 c.args.row s.colour (c.args.number + 2) t.result c.requires.seat.1 t.ensures.view
    own

pub returns-else-found-eq0-clause-value : goal.returns-else-found-eq0-clause-value
returns-else-found-eq0-clause-value c = let k = c.args.self.now.size in let s = c.args.seat.now in
    let v = s.inner.me.0 in let t = c.set_mark-found in let w = t.new.seat.me.0 in let n = c.args.number + 2 in
    let ne = c.if-found-eq0.false in
    let own = column_set k v c.args.row s.colour t.result c.requires.seat.1 s.inside s.low s.high t.ensures.told in
    record {
      was_set = m.was_set k v w c.args.row s.colour n t.result c.requires.seat.1 t.ensures.view own ne;
      is = c.mark_of.ensures ∙ sym (m.was k v w c.args.row s.colour n t.result c.requires.seat.1 t.ensures.view own);
      stamp = found_mark k v (word_at k (row_at k c.args.row) (1 + s.colour)) t.result c.requires.seat.1
          t.ensures.told c.args.row s.colour c.mark_of.result refl
          (subst (λ (z : Size). s.colour < z.colours) c.requires.seat.1 s.inside) c.mark_of.ensures;
      none = m.all_stay k v w c.args.row s.colour n t.result c.requires.seat.1 t.ensures.view own ne;
    }

pub returns-else-found-eq0-clause-known : goal.returns-else-found-eq0-clause-known
returns-else-found-eq0-clause-known c = let k = c.args.self.now.size in let s = c.args.seat.now in
    let v = s.inner.me.0 in let t = c.set_mark-found in
    let own = column_set k v c.args.row s.colour t.result c.requires.seat.1 s.inside s.low s.high t.ensures.told in
    m.knows_own k v t.new.seat.me.0 c.args.row s.colour (c.args.number + 2) t.result c.requires.seat.1 t.ensures.view
    own
