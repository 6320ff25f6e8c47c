use Rattle.std.proofs.Common.{ap, sym, subst}
use Rattle.log_node.specs.Seen.{BegunAppend}
use Rattle.stamp_board.specs.Rows.{IsRow}
use Rattle.tests_log.proofs.Knowing.{append_later}
use Rattle.tests_log.proofs.tests.regions.decide.Goals as goal

pub decide-requires-clause-row : goal.decide-requires-clause-row
decide-requires-clause-row c =
    subst (λ (b : BegunAppend). IsRow c.args.region.now.board.size b.row) (sym c.begun.view_is)
    c.requires.hold.1.knows.1.row

pub returns-clause-hold : goal.returns-clause-hold
returns-clause-hold c =
    let e = c.decide.ensures in (
      e.hold,
      append_later c.args.region.now c.args.hold.now c.decide.new.hold c.args.begun.now e.seat
          (ap (λ p. p.number) e.same.0) c.requires.hold.1,
    )
