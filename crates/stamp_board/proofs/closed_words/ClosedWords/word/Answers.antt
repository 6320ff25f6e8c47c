use Rattle.std.proofs.Common.{ℕ, get_or, ap, sym, ◌∙◌}
use Rattle.std.specs.Mem.Slots.{slots_items}
use Rattle.stamp_board.proofs.Ending.{found_at}
use Rattle.stamp_board.proofs.closed_words.ClosedWords.word.Goals as goal

pub returns : goal.returns
returns c = let ws = slots_items c.args.self.now.closed.words in
    sym (found_at ws c.index.result c.word.result c.word.ensures)
    ∙ ap (λ (i : ℕ). get_or ws i 0) c.index.ensures.word
