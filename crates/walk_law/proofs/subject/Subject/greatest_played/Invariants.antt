use Rattle.std.proofs.Common.{◌≡◌}
use Rattle.walk_law.specs.Behind.{greatest_of}
use Rattle.walk_law.proofs.PlayedLemmas.{greatest_first}
use Rattle.walk_law.proofs.subject.Subject.greatest_played.Given as goal

-- the greatest of the regions so far
abbrev pub invariant-loop-region : goal.invariant-loop-region
invariant-loop-region l =
    l.greatest ≡ greatest_first (λ r. greatest_of l.self l.own l.sync.colour l.sync.events l.start l.sync.counts r) l.region
