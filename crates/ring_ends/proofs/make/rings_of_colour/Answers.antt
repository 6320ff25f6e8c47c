use Rattle.std.proofs.Common.{ap, sym, subst, rules, ◌+◌, ◌∙◌, List, length, ◌++◌, ◌∷◌, []}
use Rattle.ring_ends.specs.declared.rings.Rings.{Rings}
use Rattle.ring_ends.specs.Making.{AreJoined, Grows}
use Rattle.ring_ends.proofs.Joining.{joined_more}
use Rattle.ring_ends.proofs.Lists.{given_back}
use Rattle.ring_ends.proofs.make.rings_of_colour.Goals as goal

-- src/make.rt:61:5
pub loop-preserved : goal.loop-preserved
loop-preserved c =
    let old = c.loop.all.items in
    let new = c.joined_with.new.others in
    let newcomer = c.in_ok-newcomer.newcomer in
    let grows : Grows (length old) newcomer old new =
    subst (λ (l : List Rings). Grows (length l) newcomer l new) c.as_mut_slice.ensures.value c.in_ok-newcomer.ensures in
    let back = given_back c.loop.all.len new old (search rules) grows.lengths in
    subst (AreJoined (c.loop.counter + 1)) (ap (λ l. l ++ newcomer ∷ []) (sym back) ∙ sym c.in_ok-push.ensures.items)
    (joined_more c.loop.counter newcomer old new c.loop.invariant grows)
