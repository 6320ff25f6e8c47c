use Rattle.std.proofs.Common.{rules, ℕ, subst, sym, ◌≡◌, ◌+◌, ◌∷◌, [], length, slice_get, ap, ◌∙◌, arith, length-append}
use Rattle.chain_store.specs.Passes.{tag_in}
use Rattle.chain_store.specs.Ends.{EndsAs}
use Rattle.chain_store.specs.Closings.{IsClosed}
use Rattle.chain_store.proofs.Entering.{get_last, get_old}
use Rattle.chain_store.proofs.Gathering.{one_more, shrinks, of_last, are_holders, closed_more}
use Rattle.chain_store.proofs.closing.close_columns.Goals as goal

pub gather-requires : goal.gather-requires
gather-requires g c =
    let rest = c.pop.new.self.items in
    let long = ap length c.in-Some.ensures.items ∙ length-append rest (c.in-Some.cell ∷ []) in
    one_more c.args.clients.items c.loop-cell.clients.items (length c.loop-cell.cells.items) (length rest)
    c.loop-cell.invariant.passes long

pub close_column-requires-clause-holders : goal.close_column-requires-clause-holders
close_column-requires-clause-holders g c =
    let rest = c.pop.new.self.items in
    let items = c.in-Some.ensures.items in
    let long = ap length items ∙ length-append rest (c.in-Some.cell ∷ []) in
    let at = c.loop-cell.invariant.cells (length rest) c.in-Some.cell
    (ap (λ l. slice_get l (length rest)) items ∙ get_last rest c.in-Some.cell) in
    let of = of_last c.args.clients.items c.loop-cell.clients.items (length c.loop-cell.cells.items) (length rest)
    c.loop-cell.invariant.passes long c.gather.new.clients.items c.in_ok-passes.passes.items c.in_ok-passes.ensures in
    λ n p pat. are_holders c.args.cells.items c.args.clients.items (length rest) c.in-Some.cell c.in_ok-passes.passes.items
    c.requires.passes at of n p (ap (λ l. slice_get l n) (sym c.into.ensures) ∙ pat)

pub loop-cell-preserved : goal.loop-cell-preserved
loop-cell-preserved g c =
    let i = c.loop-cell.invariant in
    let rest = c.pop.new.self.items in
    let items = c.in-Some.ensures.items in
    let long : length c.loop-cell.cells.items ≡ length rest + 1 =
    ap length items ∙ length-append rest (c.in-Some.cell ∷ []) in
    let at = i.cells (length rest) c.in-Some.cell (ap (λ l. slice_get l (length rest)) items ∙ get_last rest c.in-Some.cell) in
    let of = of_last c.args.clients.items c.loop-cell.clients.items (length c.loop-cell.cells.items) (length rest)
    i.passes long c.gather.new.clients.items c.in_ok-passes.passes.items c.in_ok-passes.ensures in
    let new = c.in_ok-insert.ensures.items in
    let more = ap length new in
    let count = i.count in
    record {
      cells = λ k d e. i.cells k d (ap (λ l. slice_get l k) items ∙ get_old rest (c.in-Some.cell ∷ []) k d e);
      count = omega (arith, more, count, long);
      passes = shrinks c.args.clients.items c.loop-cell.clients.items (length c.loop-cell.cells.items) (length rest)
          i.passes long c.gather.new.clients.items c.in_ok-passes.passes.items c.in_ok-passes.ensures;
      closed = closed_more c.args.cells.items c.args.clients.items (length rest) (length c.loop-cell.cells.items)
          c.in-Some.cell c.close_column.result c.loop-cell.closed.items c.insert.new.self.items long new at
          (record {
            passes = c.in_ok-passes.passes.items;
            of_colour = of;
            ends = subst (λ ps. EndsAs (tag_in c.in-Some.cell) ps c.close_column.result) c.into.ensures c.close_column.ensures;
          })
          i.closed;
    }

pub returns-clause-closed : goal.returns-clause-closed
returns-clause-closed g c =
    let i = c.loop-cell.invariant in
    let none : length c.loop-cell.cells.items ≡ 0 = search rules in
    λ k d s at sat.
    let z : length c.loop-cell.cells.items + k ≡ k = omega (arith, none) in
    subst (λ (n : ℕ). IsClosed d c.args.clients.items n s) z (i.closed k d s (ap (slice_get c.args.cells.items) z ∙ at) sat)
