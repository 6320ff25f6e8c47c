use Rattle.std.proofs.Common.{◌∙◌, ap, ℕ, length}
use Rattle.column.specs.Columns.{ColumnState}
use Rattle.world_code.specs.WorldView.{column_at}
use Rattle.world_code.specs.Looks.{open_below}
use Rattle.script_in_order.proofs.clears.open_count.Goals as goal

pub returns : goal.returns
returns c =
    let is = c.column.ensures ∙ ap (λ (r : ℕ). column_at c.args.world.now.columns r c.args.colour)
    c.home.ensures.home in
    c.below.ensures.count ∙ ap (λ (x : ColumnState). length (open_below c.args.key x.journal)) is
