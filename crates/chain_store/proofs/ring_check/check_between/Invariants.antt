use Rattle.std.proofs.Common.{◌≡◌, map}
use Rattle.chain_store.specs.Joined.{BothAlong, past_of}
use Rattle.chain_store.proofs.ring_check.check_between.Given as goal

-- what is known of the ends is as it was, and both ends of the colours' rings so far were at hand
abbrev pub invariant-loop-colour : goal.invariant-loop-colour
invariant-loop-colour l = record {
  first : map past_of l.xs.items ≡ map past_of l.initial.xs.items;
  second : map past_of l.ys.items ≡ map past_of l.initial.ys.items;
  along : BothAlong l.colour l.a l.b l.initial.xs.items l.initial.ys.items;
}
