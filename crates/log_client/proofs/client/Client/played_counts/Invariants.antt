use Rattle.log_client.proofs.Append.Wanting.{AreWanted}
use Rattle.log_client.proofs.client.Client.played_counts.Given as goal

-- what was played of the first colours is there
abbrev pub invariant-loop-colour : goal.invariant-loop-colour
invariant-loop-colour l = AreWanted l.self l.fn.colours l.wants l.colour-iterator
