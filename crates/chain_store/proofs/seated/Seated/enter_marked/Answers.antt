use Rattle.std.proofs.Common.{◌≡◌, ◌≤◌, ◌++◌, ◌∷◌, [], sym, subst, arith}
use Rattle.log_node.specs.declared.marks.Mark.TheVariants as marks
use Rattle.col_core.specs.History.{last_stamp}
use Rattle.stamp_board.specs.declared.seats.ColumnSeat.{ColumnSeat}
use Rattle.stamp_board.specs.Seats.{IsLaterColumn, SetsMark, column_seen}
use Rattle.ring_ends.specs.declared.rings.Rings.{Rings}
use Rattle.ring_ends.specs.Rings.{names_of}
use Rattle.chain_store.specs.Tags.{tag}
use Rattle.chain_store.specs.Columns.{tag_of, told_propose}
use Rattle.chain_store.proofs.Moving.{StandsIn}
use Rattle.chain_store.proofs.Proposals.{proposed}
use Rattle.chain_store.proofs.seated.Seated.enter_marked.Goals as goal

pub returns-in-Set-clause-step : goal.returns-in-Set-clause-step
returns-in-Set-clause-step c =
    let s = c.args.self.now in
    let x = c.args.node.now.value in
    let n = c.in-Ok.stamp in
    let s3 = c.mark.new.seat in
    let e = c.in-Ok.ensures.ok in
    let new = c.enter_open.new.self.column in
    let same : tag new.region new.colour new.regions (column_seen s.seat).size s.seat.inner.table_id (names_of s.rings)
    ≡ tag_of s =
    subst (λ (z : ColumnSeat). tag new.region new.colour new.regions (column_seen z).size z.inner.table_id (names_of s.rings)
    ≡ tag_of s) c.enter_open.ensures.seat
    (subst (λ (r : Rings). tag new.region new.colour new.regions (column_seen c.enter_open.new.self.seat).size
    c.enter_open.new.self.seat.inner.table_id (names_of r) ≡ tag_of s) c.enter_open.ensures.rings c.enter_open.ensures.tag) in
    let small : n ≤ last_stamp = let st = c.in-Ok.ensures.stamp.1 in omega (arith, st) in (
      e.0,
      e.1,
      λ log h.
          subst (λ (r : Rings). StandsIn new s3 r (log ++ told_propose s.column.colour c.args.by x n ∷ []))
          (sym c.enter_open.ensures.rings)
          (proposed s s3 new c.args.row x c.args.by n
          (subst (λ (z : ColumnSeat). IsLaterColumn z s3) c.enter_open.ensures.seat c.mark.ensures.seat)
          (subst (λ (z : ColumnSeat). SetsMark z s3 c.args.row (marks.Number n)) c.enter_open.ensures.seat
          c.in-Set.ensures.value)
          c.requires.row.0 small same e log h),
    )

pub returns-in-Set-clause-mark : goal.returns-in-Set-clause-mark
returns-in-Set-clause-mark c = c.in-Set.ensures.value.set
