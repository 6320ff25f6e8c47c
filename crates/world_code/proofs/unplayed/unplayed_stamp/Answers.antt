use Rattle.std.proofs.Common.{◌∙◌, ℕ, ap, max}
use Rattle.column.specs.Columns.{chains_of, cut_of}
use Rattle.world_code.proofs.GreatestStamps.{between_all}
use Rattle.world_code.proofs.unplayed.unplayed_stamp.Goals as goal

pub returns : goal.returns
returns c =
    let column = c.args.column.now in
    c.max-3.ensures
    ∙ (ap (λ (m : ℕ). max m c.greatest_of-4.result)
    (c.max-2.ensures ∙ ap (λ (m : ℕ). max m c.greatest_of-3.result) c.max.ensures)
    ∙ between_all (chains_of column) c.args.played (cut_of column) c.greatest_of.result c.greatest_of-2.result
    c.greatest_of-3.result c.greatest_of-4.result c.greatest_of.ensures c.greatest_of-2.ensures c.greatest_of-3.ensures
    c.greatest_of-4.ensures)
