use Rattle.std.proofs.Common.{◌≡◌, take}
use Rattle.log_client.proofs.pairs.copied_pairs.Given as goal

-- the pairs so far
abbrev pub invariant-loop-pair : goal.invariant-loop-pair
invariant-loop-pair l = l.copy ≡ take l.pair-index l.pairs
