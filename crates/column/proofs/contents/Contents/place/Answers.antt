use Rattle.std.proofs.Common.{ap, sym, subst, ◌∙◌}
use Rattle.log_node.specs.Standings.{line_of}
use Rattle.col_core.specs.History.{line}
use Rattle.col_core.proofs.CallerLemmas.{line_rises}
use Rattle.column.specs.Columns.{ColumnState, AreRising, history_of}
use Rattle.column.proofs.Histories.{same_entries}
use Rattle.column.proofs.contents.Contents.place.Goals as goal

pub place_of-requires : goal.place_of-requires
place_of-requires c =
    let i = c.self.inside in
    let k = c.self.invariant.column_is in
    let old : ColumnState = record {
      region = i.region;
      colour = i.colour;
      regions = i.regions;
      journal = i.journal.items;
      queue = i.queue;
      copies = i.copies;
    } in
    subst AreRising (sym (c.line.ensures
    ∙ (ap line_of k.entries_are ∙ ap line (sym (same_entries i.region i.journal.items)))))
    (line_rises i.region i.regions (history_of old) k.lawful)
