use borrow.Author.Count.{below_more}
use Rattle.std.proofs.Common.{ℕ, ◌+◌, ◌<◌, ◌∙◌, sym, subst, length}
use native.Mathlib.Omega.{arith}
use lib.ListN.{get_or, set, length-set}
use Rattle.std.proofs.lemmas.List.{get_or-set_same, get_or-set_other, get_or_default}
use Rattle.std.specs.Fork.{ChangesAt}
use Rattle.fork_join.proofs.items.in_turn.Goals as goal

pub loop-place-preserved : goal.loop-place-preserved
loop-place-preserved g c =
    let n = c.loop-place.place in let xs = c.args.items.now in let ys = c.loop-place.items in let y = c.at_one.new.item in
    let R : ℕ → g.row.T.Denot → g.row.T.Denot → Type 0 = λ k. ChangesAt g.F.Fn c.args.f.now (c.args.base + k) in
    let inside : n < length ys = omega (arith, c.loop-place.invariant.0) in (
      length-set ys n y ∙ c.loop-place.invariant.0,
      λ k d h. get_or-set_other ys n k y d (λ e. omega arith) ∙ c.loop-place.invariant.1 k d (omega arith),
      λ k d h. below_more (λ i. R i (get_or xs i d) (get_or (set ys n y) i d)) n
          (λ i u. subst (R i (get_or xs i d)) (sym (get_or-set_other ys n i y d (λ e. omega arith))) (c.loop-place.invariant.2 i d u))
          (subst (R n (get_or xs n d)) (sym (get_or-set_same ys n y d inside))
          (subst (λ x. R n x y) (get_or_default ys n _ d inside ∙ c.loop-place.invariant.1 n d (omega arith)) c.at_one.ensures))
          k h,
    )
