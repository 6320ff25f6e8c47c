use Rattle.std.proofs.Common.{◌≡◌, ◌≤◌, ◌<◌, ◌+◌, ◌-◌, List, Some, length, ap, sym, subst, ◌∙◌, arith}
use Rattle.std.specs.Prelude.{slice_get}
use Rattle.log_node.specs.declared.node.Head.{Head}
use Rattle.log_node.specs.Vectors.{at}
use Rattle.log_node.specs.Standings.{line_of}
use Rattle.col_core.specs.History.{line}
use Rattle.column.specs.Entering.{EnteredNode}
use Rattle.column.specs.Columns.{ColumnState, base_of, chains_of}
use Rattle.column.proofs.Items.{kept_needs, kept_length}
use Rattle.column.proofs.Lists.{item_there}
use Rattle.column.proofs.Moving.{line_is}
use Rattle.column.proofs.contents.Contents.own_needs.Goals as goal

pub overflow_sub-position : goal.overflow_sub-position
overflow_sub-position c =
    let a = c.kept-base.ensures.base in
    let b = c.self.invariant.column_is.dropped in
    let d = subst (λ (q : ColumnState). at (base_of q) q.region ≤ c.args.position) (sym c.self.view_is) c.requires.base in
    omega (arith, a, b, d)

pub entered_needs-requires : goal.entered_needs-requires
entered_needs-requires c =
    let i = c.self.inside in
    let old : ColumnState = record {
      region = i.region;
      colour = i.colour;
      regions = i.regions;
      journal = i.journal.items;
      queue = i.queue;
      copies = i.copies;
    } in
    let a = kept_length old c.self.invariant.column_is c.kept-base.ensures.keys in
    let b = c.kept-base.ensures.base in
    let d = ap length c.kept-base.ensures.things in
    let e = subst (λ (q : ColumnState). c.args.position < length (line q.journal)) (sym c.self.view_is) c.requires.held in
    let f = ap length (line_is old c.self.invariant.column_is) in
    let g = c.self.invariant.column_is.dropped in
    let j = subst (λ (q : ColumnState). at (base_of q) q.region ≤ c.args.position) (sym c.self.view_is) c.requires.base in
    omega (arith, a, b, d, e, f, g, j)

pub returns : goal.returns
returns c =
    λ head at_position.
    let i = c.self.inside in
    let old : ColumnState = record {
      region = i.region;
      colour = i.colour;
      regions = i.regions;
      journal = i.journal.items;
      queue = i.queue;
      copies = i.copies;
    } in
    let k = c.args.position - c.kept-base.result.0 in
    let here : k + i.queue.base ≡ c.args.position =
    let a = c.kept-base.ensures.base in
    let b = c.self.invariant.column_is.dropped in
    let d = subst (λ (q : ColumnState). at (base_of q) q.region ≤ c.args.position) (sym c.self.view_is) c.requires.base in
    omega (arith, a, b, d) in
    let inside : k < length c.kept-base.result.1.now =
    let a = kept_length old c.self.invariant.column_is c.kept-base.ensures.keys in
    let b = c.kept-base.ensures.base in
    let d = ap length c.kept-base.ensures.things in
    let e = subst (λ (q : ColumnState). c.args.position < length (line q.journal)) (sym c.self.view_is) c.requires.held in
    let f = ap length (line_is old c.self.invariant.column_is) in
    omega (arith, a, b, d, e, f, here) in
    let t = item_there c.kept-base.result.1.now k inside in
    c.entered_needs.ensures t.0 t.1
    ∙ kept_needs old c.self.invariant.column_is c.kept-base.ensures.keys c.args.position k t.0 head here
    (ap (λ (ts : List EnteredNode). slice_get ts k) (sym c.kept-base.ensures.things) ∙ t.1)
    (subst (λ (q : ColumnState). slice_get (chains_of q q.region) c.args.position ≡ Some head) (sym c.self.view_is)
    at_position)
