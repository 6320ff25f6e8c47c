use Rattle.std.proofs.Common.{◌+◌, ◌≤◌, length, ap, sym, subst, arith}
use Rattle.log_node.specs.Vectors.{at}
use Rattle.col_core.specs.History.{line}
use Rattle.column.specs.Columns.{ColumnState, held_of, base_of}
use Rattle.column.proofs.Moving.{own_held}
use Rattle.column.proofs.column.Column.stretch.Goals as goal

pub stretch-requires-clause-base : goal.stretch-requires-clause-base
stretch-requires-clause-base c =
    let k = c.self.inside.contents in
    let a = ap (at (base_of k)) c.own_region.ensures in
    let b = subst (λ (q : ColumnState). at (base_of q) q.region ≤ c.args.start) (sym c.self.view_is) c.requires.base in
    omega (arith, a, b)

pub stretch-requires-clause-held : goal.stretch-requires-clause-held
stretch-requires-clause-held c =
    let k = c.self.inside.contents in
    let a = ap (held_of k) c.own_region.ensures in
    let b = own_held k c.agrees.ensures in
    let d = subst (λ (q : ColumnState). c.args.start + c.args.count ≤ length (line q.journal)) (sym c.self.view_is)
    c.requires.end in
    omega (arith, a, b, d)
