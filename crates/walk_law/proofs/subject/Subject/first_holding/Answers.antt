use Rattle.std.proofs.Common.{◌+◌, ◌-◌, ◌/◌, arith, rules}
use Rattle.walk_law.proofs.MovingLemmas.{go_up}
use Rattle.walk_law.proofs.subject.Subject.first_holding.Goals as goal

pub loop-low-preserved-then-held_of-count : goal.loop-low-preserved-then-held_of-count
loop-low-preserved-then-held_of-count c =
    let less = c.loop-low-test.true in
    let held = c.held_of.ensures in
    let few = c.if-held_of-count.true in
    go_up c.args.self.now c.args.own c.args.colour c.args.of (search rules) c.args.from c.args.to c.args.count c.loop-low.low
    c.loop-low.high c.loop-low.invariant (c.loop-low.low + (c.loop-low.high - c.loop-low.low) / 2) (omega (arith, less))
    (omega (arith, less)) (omega (arith, held, few))
