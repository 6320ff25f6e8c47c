use Rattle.std.proofs.Common.{subst}
use Rattle.column.specs.Columns.{ColumnState}
use Rattle.column.specs.Views.{IsBelow}
use Rattle.world_code.specs.WorldView.{IsWhole}
use Rattle.world_code.proofs.LooksShown.{row_below, no_row_below}
use Rattle.world_code.proofs.world.World.open_row_below.Goals as goal

pub returns-clause-some : goal.returns-clause-some
returns-clause-some c =
    row_below c.args.self.now (subst IsWhole c.self.view_is c.self.invariant) c.args.region c.args.colour c.args.key
    c.below-below.result
    (subst (λ (q : ColumnState). IsBelow q c.args.key c.below-below.result) c.column.ensures c.below-below.ensures)
    c.row_of.result c.row_of.ensures

pub returns-clause-none : goal.returns-clause-none
returns-clause-none c =
    no_row_below c.args.self.now (subst IsWhole c.self.view_is c.self.invariant) c.args.region c.args.colour c.args.key
    c.below-below.result
    (subst (λ (q : ColumnState). IsBelow q c.args.key c.below-below.result) c.column.ensures c.below-below.ensures)
    c.row_of.result c.row_of.ensures
