use Rattle.std.proofs.Common.{sym, ◌<◌, subst}
use Rattle.stamp_board.proofs.Keeps.{begins_at, began_view}
use Rattle.stamp_board.specs.Words.{row_at}
use Rattle.stamp_board.proofs.board.Board.set_row.Goals as goal

pub compare_exchange_with-requires : goal.compare_exchange_with-requires
compare_exchange_with-requires c = let b = c.args.self.now in let s = c.args.seat.now in (
  c.requires.seat.0,
  subst (λ n. c.word-word.result < n) (sym b.words_are) c.word-word.ensures.inside,
  begins_at b.size b.table.shared.key b.key_is b.table.shared.table_id.slots s.id s.me c.requires.seat.1
      c.word-word.result c.bits_of-bits.result c.args.row c.args.node.now
      c.word-word.ensures.word c.word-word.ensures.inside c.requires.row.1 c.requires.part.0 c.requires.part.1
      c.bits_of-bits.ensures c.requires.node c.requires.client c.requires.new,
)

pub returns-clause-view : goal.returns-clause-view
returns-clause-view c = let b = c.args.self.now in let s = c.args.seat.now in
    began_view b.size b.table.shared.table_id.slots s.me c.compare_exchange_with.new.seat.me c.word-word.result
    c.bits_of-bits.result c.compare_exchange_with.result (row_at b.size c.args.row) c.args.node.now
    c.requires.seat.1 c.word-word.ensures.word c.bits_of-bits.ensures c.compare_exchange_with.ensures.2.0
