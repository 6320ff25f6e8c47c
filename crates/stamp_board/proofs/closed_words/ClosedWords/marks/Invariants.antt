use Rattle.std.proofs.Common.{◌≡◌}
use Rattle.std.specs.Mem.Slots.{slots_items}
use Rattle.stamp_board.proofs.Colours.{below}
use Rattle.stamp_board.proofs.Ending.{marked}
use Rattle.stamp_board.proofs.closed_words.ClosedWords.marks.Given as goal

abbrev pub invariant-loop-colour : goal.invariant-loop-colour
invariant-loop-colour l = l.marks ≡ below (marked l.self.size (slots_items l.self.closed.words) l.row) l.bits l.colour
