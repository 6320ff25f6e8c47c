use Rattle.std.proofs.Common.{◌≡◌, ◌≢◌, ◌≤◌, ◌+◌, ◌-◌, List, take, drop, length, ap, sym, subst, ◌∙◌, arith}
use Rattle.log_node.specs.declared.ids.Counts.{Counts}
use Rattle.log_node.specs.Seen.{PlacedNode}
use Rattle.log_node.specs.Vectors.{at}
use Rattle.column.specs.Columns.{ColumnState, copy_of, base_of, held_of, AreItems}
use Rattle.column.proofs.Items.{carried_items, copy_length}
use Rattle.column.proofs.contents.Contents.carried_stretch.Goals as goal

pub overflow_sub-from : goal.overflow_sub-from
overflow_sub-from c =
    let a = c.of_region-base.ensures in
    let b = ap (λ (v : Counts). at v c.args.region) (c.self.invariant.numbers_are.base_is ∙ ap base_of c.self.view_is) in
    let d = c.requires.base in
    omega (arith, a, b, d)

pub overflow_sub-to : goal.overflow_sub-to
overflow_sub-to c =
    let a = c.of_region-base.ensures in
    let b = ap (λ (v : Counts). at v c.args.region) (c.self.invariant.numbers_are.base_is ∙ ap base_of c.self.view_is) in
    let d = c.requires.base in
    let e = c.requires.order in
    omega (arith, a, b, d, e)

pub shared_between-requires-clause-end : goal.shared_between-requires-clause-end
shared_between-requires-clause-end c =
    let i = c.self.inside in
    let old : ColumnState = record {
      region = i.region;
      colour = i.colour;
      regions = i.regions;
      journal = i.journal.items;
      queue = i.queue;
      copies = i.copies;
    } in
    let back = sym c.self.view_is in
    let other = subst (λ (q : ColumnState). c.args.region ≢ q.region) back c.requires.other in
    let e = copy_length old c.self.invariant.column_is c.args.region c.requires.region other in
    let f = ap length c.of.ensures in
    let g = subst (λ (q : ColumnState). c.args.to ≤ held_of q c.args.region) back c.requires.held in
    let a = c.of_region-base.ensures in
    let b = ap (λ (v : Counts). at v c.args.region) c.self.invariant.numbers_are.base_is in
    omega (arith, a, b, e, f, g)

pub returns : goal.returns
returns c =
    let i = c.self.inside in
    let old : ColumnState = record {
      region = i.region;
      colour = i.colour;
      regions = i.regions;
      journal = i.journal.items;
      queue = i.queue;
      copies = i.copies;
    } in
    let from = c.args.from in
    let to = c.args.to in
    let base = c.of_region-base.result in
    let other = subst (λ (q : ColumnState). c.args.region ≢ q.region) (sym c.self.view_is) c.requires.other in
    let low : (from - base) + at (base_of old) c.args.region ≡ from =
    let a = c.of_region-base.ensures in
    let b = ap (λ (v : Counts). at v c.args.region) c.self.invariant.numbers_are.base_is in
    let d = subst (λ (q : ColumnState). at (base_of q) c.args.region ≤ from) (sym c.self.view_is) c.requires.base in
    omega (arith, a, b, d) in
    let span : (to - base) - (from - base) ≡ to - from =
    let a = c.of_region-base.ensures in
    let b = ap (λ (v : Counts). at v c.args.region) c.self.invariant.numbers_are.base_is in
    let d = subst (λ (q : ColumnState). at (base_of q) c.args.region ≤ from) (sym c.self.view_is) c.requires.base in
    omega (arith, a, b, d) in
    subst (λ (q : ColumnState). AreItems q c.args.region from to c.in_ok-items.items) c.self.view_is
    (subst (λ (items : List PlacedNode). AreItems old c.args.region from to items)
    (sym (c.in_ok-items.ensures
    ∙ (ap (λ (l : List PlacedNode). take ((to - base) - (from - base)) (drop (from - base) l)) c.of.ensures
    ∙ ap (λ n. take n (drop (from - base) (copy_of old c.args.region))) span)))
    (carried_items old c.self.invariant.column_is c.args.region c.requires.region other from to (from - base) low))
