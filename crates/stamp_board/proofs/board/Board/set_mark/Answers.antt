use Rattle.std.proofs.Common.{sym, ◌<◌, subst}
use Rattle.stamp_board.proofs.Keeps.{sets_mark}
use Rattle.stamp_board.specs.Words.{row_at}
use Rattle.stamp_board.proofs.board.Board.set_mark.Goals as goal

pub compare_exchange-requires : goal.compare_exchange-requires
compare_exchange-requires c = let b = c.args.self.now in let s = c.args.seat.now in (
  c.requires.seat.0,
  subst (λ n. c.word-word.result < n) (sym b.words_are) c.word-word.ensures.inside,
  sets_mark b.size b.table.shared.key b.key_is b.table.shared.table_id.slots s.id s.me c.requires.seat.1
      c.word-word.result (row_at b.size c.args.row) c.args.colour c.args.new c.requires.begun.0
      c.word-word.ensures.word c.word-word.ensures.inside c.requires.colour c.requires.part.0 c.requires.part.1
      c.requires.begun.1 c.requires.begun.2 c.requires.new.0 c.requires.new.1
      b.is_size.few_colours,
)
