use Rattle.std.proofs.Common.{◌≡◌, ◌++◌, drop}
use Rattle.report_reading.specs.Known.{many_of}
use Rattle.report_reading.proofs.replies.many_of.Given as goal

-- what was told so far, and what is told of the commands that are left
abbrev pub invariant-loop-command : goal.invariant-loop-command
invariant-loop-command l =
    l.many.items ++ many_of l.script.objects l.client (drop l.command-index l.script.commands) ≡ many_of l.script.objects l.client l.script.commands
