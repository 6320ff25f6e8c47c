use Rattle.std.proofs.Common.{length, ap, sym, ◌∙◌}
use Rattle.col_core.specs.Cuts.{held}
use Rattle.column.specs.Columns.{ColumnState, history_of}
use Rattle.column.proofs.Moving.{counted_is, line_is}
use Rattle.column.proofs.contents.Contents.held.Goals as goal

pub returns : goal.returns
returns c =
    let i = c.self.inside in
    let old : ColumnState = record {
      region = i.region;
      colour = i.colour;
      regions = i.regions;
      journal = i.journal.items;
      queue = i.queue;
      copies = i.copies;
    } in
    c.with_number.ensures
    ∙ (counted_is old c.self.invariant.column_is i.carried i.notes i.base (length c.line.result.now)
    c.self.invariant.numbers_are (ap length (c.line.ensures ∙ sym (line_is old c.self.invariant.column_is)))
    ∙ ap (λ (q : ColumnState). held q.region (history_of q)) c.self.view_is)
