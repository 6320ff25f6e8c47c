use Rattle.std.proofs.Common.{ℕ, ◌+◌, List, [], refl, sym, subst}
use Rattle.atomic_table.specs.Table.{opening}
use Rattle.log_node.specs.declared.node.Node.{Node}
use Rattle.stamp_board.specs.Words.{words_of}
use Rattle.stamp_board.specs.Law.{IsLawfulState, newcomer}
use Rattle.stamp_board.proofs.Keeps.{opens}
use Rattle.stamp_board.proofs.board.Board.over.Goals as goal

pub of_words-requires : goal.of_words-requires
of_words-requires c = let k = c.args.size in let high : ℕ = 1 + k.clients + k.colours in
    subst (λ (ws : List ℕ). IsLawfulState k (opening {S = Node} ws [] (newcomer k high))) (sym c.requires.blank)
    (opens k (words_of k) high refl)
