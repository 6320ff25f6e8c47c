use Rattle.std.proofs.Common.{◌≡◌, length, map}
use Rattle.chain_store.specs.Joined.{ended_past}
use Rattle.chain_store.proofs.RingsChecked.{AlongBelow}
use Rattle.chain_store.proofs.ring_check.check_below.Given as goal

-- what is known of the regions is as it was, and both ends of the rings to and from those so far were at hand
abbrev pub invariant-loop-a : goal.invariant-loop-a
invariant-loop-a l = record {
  low : map ended_past l.low ≡ map ended_past l.initial.low;
  last : ended_past l.last ≡ ended_past l.initial.last;
  along : AlongBelow l.a l.initial.low l.initial.last (length l.initial.low);
}
