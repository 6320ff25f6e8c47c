use Rattle.std.proofs.Common.{sym, subst, rules, ℕ, ◌+◌, List, length}
use Rattle.ring_ends.specs.declared.rings.Rings.{Rings}
use Rattle.ring_ends.specs.NewRings.{AreNewRings}
use Rattle.ring_ends.specs.Making.{Dealt}
use Rattle.ring_ends.proofs.Dealing.{new_rings_more}
use Rattle.ring_ends.proofs.Lists.{given_back}
use Rattle.ring_ends.proofs.make.make_rings.Goals as goal

-- src/make.rt:27:5
pub loop-preserved : goal.loop-preserved
loop-preserved c =
    let old = c.loop.all.items in
    let new = c.deal.new.all in
    let column = c.in_ok-column.column.items in
    let dealt : Dealt column (length column) old new =
    subst (λ (l : List (List Rings)). Dealt column (length column) l new) c.as_mut_slice.ensures.value
    c.in_ok-deal.ensures in
    let back = given_back c.loop.all.len new old (search rules) dealt.lengths in
    subst (AreNewRings c.args.shape.now.regions (c.loop.counter + 1)) (sym back)
    (new_rings_more c.args.shape.now.regions c.loop.counter column old new c.loop.invariant c.in_ok-column.ensures dealt)

-- src/make.rt:23:1
pub returns : goal.returns
returns c =
    subst (AreNewRings c.args.shape.now.regions c.args.shape.now.colours) (search rules)
    (subst (λ (n : ℕ). AreNewRings c.args.shape.now.regions n c.loop.all.items) (search rules) c.loop.invariant)
