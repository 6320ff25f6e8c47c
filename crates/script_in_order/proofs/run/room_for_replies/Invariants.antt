use Rattle.std.proofs.Common.{◌≡◌, length, map}
use Rattle.std.specs.List.{range_with_len}
use Rattle.script_in_order.specs.Runs.{no_replies, asks}
use Rattle.script_in_order.proofs.run.room_for_replies.Given as goal

-- the rooms so far
abbrev pub invariant-loop-client : goal.invariant-loop-client
invariant-loop-client l = l.replies.items ≡ map (λ client. no_replies (asks client l.script.commands) (length l.script.objects))
    (range_with_len 0 l.client)
