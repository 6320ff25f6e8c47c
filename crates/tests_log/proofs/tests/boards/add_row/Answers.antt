use Rattle.std.proofs.Common.{◌≡◌, ℕ, ◌+◌, ap, sym, subst, ◌∙◌, arith}
use Rattle.log_node.specs.declared.ids.Id.{Id}
use Rattle.stamp_board.specs.declared.seats.Seat.{Seat}
use Rattle.stamp_board.specs.Seats.{AreRowsBelow}
use Rattle.stamp_board.proofs.CallerLemmas.{rows_below_later}
use Rattle.tests_log.proofs.tests.boards.add_row.Goals as goal

-- rows below a count are below the next one
more : (s : Seat) (count : ℕ) → AreRowsBelow s count → AreRowsBelow s (count + 1)
more s count all j lt = let y = all j lt in let less = y.2 in (y.0, y.1, omega (arith, less))

pub returns-in_default-clause-below : goal.returns-in_default-clause-below
returns-in_default-clause-below c = more c.args.one.now c.args.count c.requires.below

pub begin-requires-clause-node : goal.begin-requires-clause-node
begin-requires-clause-node c = c.in-Ok.ensures.both c.args.board.now.size c.requires.size

pub begin-requires-clause-next : goal.begin-requires-clause-next
begin-requires-clause-next c left =
    let id = c.in-Ok.ensures.id in (
      ap (λ (i : Id). i.client) id ∙ sym c.requires.one.2,
      subst (λ (n : ℕ). AreRowsBelow c.args.one.now n) (sym (ap (λ (i : Id). i.count) id)) c.requires.below,
    )

pub returns-in_default-begin-clause-below : goal.returns-in_default-begin-clause-below
returns-in_default-begin-clause-below c =
    subst (λ (s : Seat). AreRowsBelow s (c.args.count + 1)) (sym c.in_default-begin.ensures.begun)
    (more c.args.one.now c.args.count c.requires.below)

pub returns-then-decides-clause-below : goal.returns-then-decides-clause-below
returns-then-decides-clause-below c =
    let n = c.args.count + 1 in
    let same = ap (λ (i : Id). i.count) c.in-Ok.ensures.id in
    rows_below_later c.teach-2.new.seat c.decide.new.seat n n c.decide.ensures.seat (omega arith)
    (rows_below_later c.teach.new.seat c.teach-2.new.seat n n c.teach-2.ensures.seat (omega arith)
    (rows_below_later c.begin.new.seat c.teach.new.seat (c.in-Ok.node.value.id.count + 1) n c.teach.ensures.seat
    (omega (arith, same)) c.in-Ok-begin.ensures.counts))

pub returns-clause-below : goal.returns-clause-below
returns-clause-below c =
    let n = c.args.count + 1 in
    let same = ap (λ (i : Id). i.count) c.in-Ok.ensures.id in
    rows_below_later c.teach.new.seat c.teach-2.new.seat n n c.teach-2.ensures.seat (omega arith)
    (rows_below_later c.begin.new.seat c.teach.new.seat (c.in-Ok.node.value.id.count + 1) n c.teach.ensures.seat
    (omega (arith, same)) c.in-Ok-begin.ensures.counts)
