use Rattle.std.proofs.Common.{refl, sym, ◌∙◌}
use Rattle.script_text.specs.CommandReadings.{caller_at}
use Rattle.script_text.proofs.command.caller.Goals as goal

pub returns-then-is_stopped : goal.returns-then-is_stopped
unfolding caller_at
returns-then-is_stopped c =
    let found = c.in_ok-client.ensures in
    let stops = rw c.as_slice.ensures at (sym c.is_stopped.ensures ∙ c.if-is_stopped.true) in
    rw (found, stops) refl

pub returns : goal.returns
unfolding caller_at
returns c =
    let found = c.in_ok-client.ensures in
    let goes_on = rw c.as_slice.ensures at (sym c.is_stopped.ensures ∙ c.if-is_stopped.false) in
    rw (found, goes_on) refl
