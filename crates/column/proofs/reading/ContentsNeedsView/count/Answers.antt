use Rattle.std.proofs.Common.{◌≡◌, length, ap, sym, ◌∙◌}
use Rattle.column.specs.Columns.{ColumnState, held_of}
use Rattle.column.proofs.Moving.{own_held, line_is}
use Rattle.column.proofs.reading.ContentsNeedsView.count.Goals as goal

pub returns-then-region-self : goal.returns-then-region-self
returns-then-region-self c =
    let i = c.self.inside in
    let old : ColumnState = record {
      region = i.region;
      colour = i.colour;
      regions = i.regions;
      journal = i.journal.items;
      queue = i.queue;
      copies = i.copies;
    } in
    ap length (c.line.ensures ∙ sym (line_is old c.self.invariant.column_is))
    ∙ (sym (own_held old c.self.invariant.column_is)
    ∙ (ap (held_of old) (sym c.if-region-self.true)
    ∙ ap (λ (q : ColumnState). held_of q c.args.region) c.self.view_is))

pub returns-else-region-self : goal.returns-else-region-self
returns-else-region-self c =
    c.of_region.ensures
    ∙ (c.self.invariant.numbers_are.carried_are c.args.region c.requires c.if-region-self.false
    ∙ ap (λ (q : ColumnState). held_of q c.args.region) c.self.view_is)
