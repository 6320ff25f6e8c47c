use Rattle.std.proofs.Common.{◌≤◌, sym, subst}
use Rattle.log_node.specs.Vectors.{at}
use Rattle.column.specs.Columns.{ColumnState, base_of}
use Rattle.column.proofs.column.Column.own_entered.Goals as goal

pub own_entered-requires-clause-base : goal.own_entered-requires-clause-base
own_entered-requires-clause-base c =
    subst (λ (q : ColumnState). at (base_of q) q.region ≤ c.args.place) (sym c.self.view_is) c.requires.base
