use Rattle.std.proofs.Common.{[], ◌∷◌, refl}
use Rattle.walk_law.proofs.subject.Subject.next.Goals as goal

pub returns : goal.returns
returns c =
    c.with_region.ensures (1 ∷ 2 ∷ 3 ∷ []) (c.with_region-second.ensures (2 ∷ 3 ∷ [])
    (c.with_region-third.ensures (3 ∷ []) (c.with_region-last.ensures [] refl)))
