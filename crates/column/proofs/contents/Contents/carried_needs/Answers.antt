use Rattle.std.proofs.Common.{◌≡◌, ◌≢◌, ◌≤◌, ◌<◌, ◌+◌, ◌-◌, List, Some, length, ap, sym, subst, ◌∙◌, arith}
use Rattle.std.specs.Prelude.{slice_get}
use Rattle.log_node.specs.declared.ids.Counts.{Counts}
use Rattle.log_node.specs.declared.node.Head.{Head}
use Rattle.log_node.specs.Seen.{PlacedNode}
use Rattle.log_node.specs.Vectors.{at}
use Rattle.column.specs.Columns.{ColumnState, base_of, held_of, chains_of}
use Rattle.column.proofs.Items.{carried_need, copy_length}
use Rattle.column.proofs.Lists.{item_there}
use Rattle.column.proofs.contents.Contents.carried_needs.Goals as goal

pub overflow_sub-position : goal.overflow_sub-position
overflow_sub-position c =
    let a = c.of_region-base.ensures in
    let b = ap (λ (v : Counts). at v c.args.region) (c.self.invariant.numbers_are.base_is ∙ ap base_of c.self.view_is) in
    let d = c.requires.base in
    omega (arith, a, b, d)

pub item_needs-requires : goal.item_needs-requires
item_needs-requires c =
    let i = c.self.inside in
    let old : ColumnState = record {
      region = i.region;
      colour = i.colour;
      regions = i.regions;
      journal = i.journal.items;
      queue = i.queue;
      copies = i.copies;
    } in
    let back = sym c.self.view_is in
    let other = subst (λ (q : ColumnState). c.args.region ≢ q.region) back c.requires.other in
    let e = copy_length old c.self.invariant.column_is c.args.region c.requires.region other in
    let f = ap length c.of.ensures in
    let g = subst (λ (q : ColumnState). c.args.position < held_of q c.args.region) back c.requires.held in
    let a = c.of_region-base.ensures in
    let b = ap (λ (v : Counts). at v c.args.region) c.self.invariant.numbers_are.base_is in
    let d = subst (λ (q : ColumnState). at (base_of q) c.args.region ≤ c.args.position) back c.requires.base in
    omega (arith, a, b, d, e, f, g)

pub returns : goal.returns
returns c =
    λ head at_position.
    let i = c.self.inside in
    let old : ColumnState = record {
      region = i.region;
      colour = i.colour;
      regions = i.regions;
      journal = i.journal.items;
      queue = i.queue;
      copies = i.copies;
    } in
    let back = sym c.self.view_is in
    let other = subst (λ (q : ColumnState). c.args.region ≢ q.region) back c.requires.other in
    let k = c.args.position - c.of_region-base.result in
    let here : k + at (base_of old) c.args.region ≡ c.args.position =
    let a = c.of_region-base.ensures in
    let b = ap (λ (v : Counts). at v c.args.region) c.self.invariant.numbers_are.base_is in
    let d = subst (λ (q : ColumnState). at (base_of q) c.args.region ≤ c.args.position) back c.requires.base in
    omega (arith, a, b, d) in
    let inside : k < length c.of.result.now =
    let e = copy_length old c.self.invariant.column_is c.args.region c.requires.region other in
    let f = ap length c.of.ensures in
    let g = subst (λ (q : ColumnState). c.args.position < held_of q c.args.region) back c.requires.held in
    omega (arith, e, f, g, here) in
    let t = item_there c.of.result.now k inside in
    c.item_needs.ensures t.0 t.1
    ∙ carried_need old c.self.invariant.column_is c.args.region c.requires.region other c.args.position k t.0 head here
    (ap (λ (is : List PlacedNode). slice_get is k) (sym c.of.ensures) ∙ t.1)
    (subst (λ (q : ColumnState). slice_get (chains_of q c.args.region) c.args.position ≡ Some head) back at_position)
