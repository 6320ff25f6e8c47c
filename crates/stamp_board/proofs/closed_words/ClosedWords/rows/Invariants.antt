use Rattle.std.proofs.Common.{◌≡◌, map, take}
use Rattle.std.specs.Mem.Slots.{slots_items}
use Rattle.stamp_board.specs.Closing.{closed_row}
use Rattle.stamp_board.proofs.closed_words.ClosedWords.rows.Given as goal

abbrev pub invariant-loop-i : goal.invariant-loop-i
invariant-loop-i l = l.closed ≡ map (closed_row l.self.size (slots_items l.self.closed.words)) (take l.i l.rows)
