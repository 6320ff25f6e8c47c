use Rattle.std.proofs.Common.{◌∙◌, arith}
use Rattle.col_core.specs.Ids.{open_below}
use Rattle.chain_store.specs.Holds.{entries_seen}
use Rattle.chain_store.proofs.CallerLemmas.{later_then}
use Rattle.append_core.proofs.Helped.{helps_then}
use Rattle.append_core.proofs.Cleared.{under_later, empty}
use Rattle.append_core.proofs.clearing.clear.Goals as goal

pub loop-turn-init : goal.loop-turn-init
loop-turn-init g c =
    let e = c.help_first-count.ensures in
    let h = c.help_first-count.new.hold in record {
      hold = e.hold;
      seat = e.seat;
      next = e.next;
      under = under_later c.args.region.now c.args.hold.now h c.args.colour c.args.key e.hold c.requires.colour
          (e.goes.more c.args.colour) c.requires.under;
      goes = e.goes;
      few = e.fewer;
    }

pub loop-turn-preserved : goal.loop-turn-preserved
loop-turn-preserved g c =
    let l = c.loop-turn in
    let i = l.invariant in
    let e = c.help_first-found.ensures in
    let h = c.help_first-found.new.hold in record {
      hold = e.hold;
      seat = later_then c.args.hold.now.seat l.hold.seat h.seat i.seat e.seat;
      next = e.next ∙ i.next;
      under = under_later c.args.region.now l.hold h c.args.colour c.args.key e.hold c.requires.colour
          (e.goes.more c.args.colour) i.under;
      goes = helps_then c.args.hold.now l.hold h i.goes i.seat.grows e.goes e.seat.grows;
      few = omega (arith, e.fewer, e.count, i.few);
    }

pub returns-clause-none : goal.returns-clause-none
returns-clause-none g c =
    let l = c.loop-turn in
    empty (open_below c.args.key (entries_seen l.hold c.args.colour))
    (omega (arith, l.invariant.few, c.loop-turn-test.false))

pub returns-then-found-le1-clause-seat : goal.returns-then-found-le1-clause-seat
returns-then-found-le1-clause-seat g c =
    let l = c.loop-turn in
    later_then c.args.hold.now.seat l.hold.seat c.help_first-found.new.hold.seat l.invariant.seat
    c.help_first-found.ensures.seat

pub returns-then-found-le1-clause-goes : goal.returns-then-found-le1-clause-goes
returns-then-found-le1-clause-goes g c =
    let l = c.loop-turn in
    helps_then c.args.hold.now l.hold c.help_first-found.new.hold l.invariant.goes l.invariant.seat.grows
    c.help_first-found.ensures.goes c.help_first-found.ensures.seat.grows

pub returns-then-found-le1-clause-none : goal.returns-then-found-le1-clause-none
returns-then-found-le1-clause-none g c =
    let e = c.help_first-found.ensures in
    empty (open_below c.args.key (entries_seen c.help_first-found.new.hold c.args.colour))
    (omega (arith, e.fewer, c.if-found-le1.true))
