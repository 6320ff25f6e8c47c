use Rattle.std.proofs.Common.{◌≤◌, ap, sym, subst, ◌∙◌, arith}
use Rattle.log_node.specs.declared.ids.Counts.{Counts}
use Rattle.log_node.specs.Vectors.{at}
use Rattle.column.specs.Columns.{ColumnState, base_of}
use Rattle.column.proofs.Moving.{cut_held}
use Rattle.column.proofs.column.Column.items.Goals as goal

pub stretch-requires-clause-base : goal.stretch-requires-clause-base
stretch-requires-clause-base c =
    subst (λ (q : ColumnState). at (base_of q) c.args.region ≤ c.args.from) (sym c.self.view_is) c.requires.base

pub stretch-requires-clause-held : goal.stretch-requires-clause-held
stretch-requires-clause-held c =
    let k = c.self.inside.contents in
    let a = cut_held k c.agrees.ensures c.args.region c.requires.region in
    let b = c.of_region.ensures in
    let d = ap (λ (v : Counts). at v c.args.region) c.self.invariant in
    omega (arith, a, b, d)
