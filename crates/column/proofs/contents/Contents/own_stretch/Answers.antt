use Rattle.std.proofs.Common.{◌≡◌, ◌≤◌, ◌+◌, ℕ, List, take, drop, ap, sym, subst, ◌∙◌, ◌-◌, length, arith}
use Rattle.log_node.specs.declared.ids.Key.{Key}
use Rattle.log_node.specs.Seen.{PlacedNode}
use Rattle.log_node.specs.Vectors.{at}
use Rattle.log_node.specs.Standings.{line_of}
use Rattle.column.specs.Entering.{EnteredNode}
use Rattle.column.specs.Columns.{ColumnState, base_of, items_under, AreItems}
use Rattle.column.proofs.Items.{own_items, kept_length}
use Rattle.column.proofs.contents.Contents.own_stretch.Goals as goal

pub entered_between-requires-clause-base : goal.entered_between-requires-clause-base
entered_between-requires-clause-base c =
    let a = c.kept-base.ensures.base in
    let b = c.self.invariant.column_is.dropped in
    let d = subst (λ (q : ColumnState). at (base_of q) q.region ≤ c.args.from) (sym c.self.view_is) c.requires.base in
    omega (arith, a, b, d)

pub entered_between-requires-clause-kept : goal.entered_between-requires-clause-kept
entered_between-requires-clause-kept c =
    let i = c.self.inside in
    let old : ColumnState = record {
      region = i.region;
      colour = i.colour;
      regions = i.regions;
      journal = i.journal.items;
      queue = i.queue;
      copies = i.copies;
    } in
    let a = kept_length old c.self.invariant.column_is c.kept-base.ensures.keys in
    let b = c.kept-base.ensures.base in
    let d = ap length c.kept-base.ensures.things in
    let e = ap length c.line-keys.ensures in
    omega (arith, a, b, d, e)

pub returns : goal.returns
returns c =
    let i = c.self.inside in
    let old : ColumnState = record {
      region = i.region;
      colour = i.colour;
      regions = i.regions;
      journal = i.journal.items;
      queue = i.queue;
      copies = i.copies;
    } in
    let from = c.args.from in
    let to = c.args.to in
    let first = c.args.from - c.kept-base.result.0 in
    let low : first + i.queue.base ≡ from =
    let a = c.kept-base.ensures.base in
    let b = c.self.invariant.column_is.dropped in
    let d = subst (λ (q : ColumnState). at (base_of q) q.region ≤ c.args.from) (sym c.self.view_is) c.requires.base in
    omega (arith, a, b, d) in
    subst (λ (q : ColumnState). AreItems q q.region from to c.in_ok-items.items) c.self.view_is
    (subst (λ (items : List PlacedNode). AreItems old old.region from to items)
    (sym (c.in_ok-items.ensures
    ∙ (ap (λ (ks : List Key). items_under (take (to - from) (drop from ks))
    (take (to - from) (drop first c.kept-base.result.1.now))) c.line-keys.ensures
    ∙ ap (λ (ts : List EnteredNode). items_under (take (to - from) (drop from (line_of i.queue.entries)))
    (take (to - from) (drop first ts))) c.kept-base.ensures.things)))
    (own_items old c.self.invariant.column_is c.kept-base.ensures.keys from to first low))
