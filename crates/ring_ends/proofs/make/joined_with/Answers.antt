use Rattle.std.proofs.Common.{ℕ, ◌<◌, sym, subst}
use Rattle.std.proofs.lemmas.Option.{slice_get-get_or}
use Rattle.ring_ends.proofs.Making.{grows_more}
use Rattle.ring_ends.proofs.make.joined_with.Goals as goal

-- src/make.rt:76:5
pub loop-other-preserved : goal.loop-other-preserved
loop-other-preserved c =
    let within =
    subst (λ (n : ℕ). c.loop-other.other-index < n) (sym c.loop-other.invariant.lengths) c.loop-other-test.true in
    grows_more _ _ _ _ _ _ _ c.loop-other.invariant (slice_get-get_or _ _ _ within) within c.in_ok-join.ensures
