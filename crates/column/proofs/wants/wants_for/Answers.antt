use Rattle.std.proofs.Common.{ℕ, Option, ap, sym, ◌∙◌}
use Rattle.std.specs.Prelude.{unwrap_or, slice_get}
use Rattle.log_node.specs.declared.ids.Counts.{Counts}
use Rattle.log_node.specs.Vectors.{zeros}
use Rattle.column.proofs.Ranks.{wants_by_rank}
use Rattle.column.proofs.wants.wants_for.Goals as goal

pub returns-in-Some : goal.returns-in-Some
returns-in-Some c =
    let node = c.args.node.now in
    let there = ap (λ (n : ℕ). slice_get node.wants n) c.rank.ensures in
    let got = c.in-Some.ensures in
    sym (wants_by_rank node c.args.colour c.requires.in_range c.requires.in_set
    ∙ ap (λ (o : Option Counts). unwrap_or o zeros) (sym there ∙ sym got))

pub returns-in-None : goal.returns-in-None
returns-in-None c =
    let node = c.args.node.now in
    let there = ap (λ (n : ℕ). slice_get node.wants n) c.rank.ensures in
    let got = c.in-None.ensures in
    sym (wants_by_rank node c.args.colour c.requires.in_range c.requires.in_set
    ∙ ap (λ (o : Option Counts). unwrap_or o zeros) (sym there ∙ sym got))
