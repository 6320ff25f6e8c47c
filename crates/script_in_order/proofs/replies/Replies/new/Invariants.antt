use Rattle.std.proofs.Common.{◌≡◌, None, map}
use Rattle.std.specs.List.{range_with_len}
use Rattle.script_in_order.proofs.replies.Replies.new.Given as goal

-- the places so far
abbrev pub invariant-loop : goal.invariant-loop
invariant-loop l = l.reads.items ≡ map (λ _. None) (range_with_len 0 l.counter)
