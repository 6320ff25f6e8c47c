use Rattle.std.proofs.Common.{◌≡◌, OnOk, subst}
use Rattle.column.specs.Columns.{ColumnState, after_trim}
use Rattle.column.proofs.column.Column.trim.Goals as goal

pub returns-clause-column : goal.returns-clause-column
returns-clause-column c =
    subst (λ (q : ColumnState). OnOk c.trim.result (c.trim.new.self ≡ after_trim q c.args.by c.args.counts)) c.self.view_is
    c.trim.ensures.column
