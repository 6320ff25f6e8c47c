use Rattle.std.proofs.Common.{ℕ, List, [], length, get_or, ap, sym, subst, ◌∙◌}
use Rattle.log_node.specs.declared.ids.Counts.{Counts}
use Rattle.log_node.specs.Vectors.{at}
use Rattle.column.specs.Columns.{ColumnState, base_of, cut_of, greater, AreItems}
use Rattle.column.proofs.column.Column.look.Goals as goal

pub returns : goal.returns
returns c =
    let base = c.base-base.ensures ∙ ap base_of c.self.view_is in
    let cut = c.self.invariant ∙ ap cut_of c.self.view_is in
    record {
      region = c.own_region.ensures ∙ ap (λ (q : ColumnState). q.region) c.self.view_is;
      colour = c.own_colour.ensures ∙ ap (λ (q : ColumnState). q.colour) c.self.view_is;
      events = ap length c.journal.ensures ∙ ap (λ (q : ColumnState). length q.journal) c.self.view_is;
      cut = cut;
      base = base;
      start = c.greater-start.ensures ∙ ap (greater c.args.from) base;
      chains = c.in_ok-items.ensures.so_many;
      items = λ region lt.
          subst (λ (v : Counts). AreItems c.args.self.now region (at c.greater-start.result region) (at v region)
          (get_or c.in_ok-items.items region [])) (sym cut)
          (c.in_ok-items.ensures.items region lt);
    }
