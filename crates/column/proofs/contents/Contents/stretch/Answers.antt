use Rattle.std.proofs.Common.{◌≤◌, length, ap, sym, subst, arith}
use Rattle.col_core.specs.History.{line}
use Rattle.column.specs.Columns.{ColumnState, held_of}
use Rattle.column.proofs.Moving.{own_held}
use Rattle.column.proofs.contents.Contents.stretch.Goals as goal

pub own_stretch-requires-clause-held : goal.own_stretch-requires-clause-held
own_stretch-requires-clause-held c =
    let i = c.self.inside in
    let old : ColumnState = record {
      region = i.region;
      colour = i.colour;
      regions = i.regions;
      journal = i.journal.items;
      queue = i.queue;
      copies = i.copies;
    } in
    let a = ap (held_of old) c.if-region-self.true in
    let b = own_held old c.self.invariant.column_is in
    let d = subst (λ (q : ColumnState). c.args.to ≤ held_of q c.args.region) (sym c.self.view_is) c.requires.held in
    subst (λ (q : ColumnState). c.args.to ≤ length (line q.journal)) c.self.view_is (omega (arith, a, b, d))
