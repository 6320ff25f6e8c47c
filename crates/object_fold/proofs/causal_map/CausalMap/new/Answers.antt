use Rattle.object_fold.proofs.LatestLemmas.{no_pasts, no_writes}
use Rattle.object_fold.proofs.causal_map.CausalMap.new.Goals as goal

pub returns : goal.returns
returns c =
    rw (c.new.ensures, c.new-2.ensures, c.new-3.ensures, c.new-4.ensures) (record { pasts = no_pasts; latest = λ key. rw c.new-5.ensures (no_writes key) })
