-- What holds of a world that is reached.
use Rattle.std.proofs.Common.{subst}
use Rattle.world_laws.specs.Worlds.{World}
use Rattle.world_laws.specs.Laws.{IsReached, StaysWithinCuts, TrimmedIsHeld}
use Rattle.world_laws.proofs.CallerLemmas.{trimmed_is_held, Held, Listed, listed, held, told, Told, wanted}
use Rattle.world_laws.proofs.CallerLemmas.{stays_within_cuts}

pub held_of : (w : World) → IsReached w → Held w
held_of w r = subst Held r.is (held r.shape r.steps)

pub told_of : (w : World) → IsReached w → Told w
told_of w r = subst Told r.is (told r.shape r.steps)

pub listed_of : (w : World) → IsReached w → Listed w
listed_of w r = subst Listed r.is (listed r.shape r.steps)

pub cuts_of : (w : World) → IsReached w → StaysWithinCuts w
cuts_of w r = subst StaysWithinCuts r.is (stays_within_cuts _ (held r.shape r.steps) (wanted r.shape r.steps))

pub trimmed_of : (w : World) → IsReached w → TrimmedIsHeld w
trimmed_of w r = trimmed_is_held w (held_of w r)
