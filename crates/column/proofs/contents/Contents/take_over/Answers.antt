use Rattle.std.proofs.Common.{subst}
use Rattle.column.specs.Columns.{ColumnState}
use Rattle.column.specs.Inside.{IsStillReached}
use Rattle.column.proofs.Steps.{reached_yet}
use Rattle.column.proofs.contents.Contents.take_over.Goals as goal

pub returns-then-is_empty-clause-cut : goal.returns-then-is_empty-clause-cut
returns-then-is_empty-clause-cut c =
    let i = c.self.inside in
    let old : ColumnState = record {
      region = i.region;
      colour = i.colour;
      regions = i.regions;
      journal = i.journal.items;
      queue = i.queue;
      copies = i.copies;
    } in
    subst (λ (q : ColumnState). IsStillReached q q) c.self.view_is (reached_yet old c.self.invariant.column_is)
