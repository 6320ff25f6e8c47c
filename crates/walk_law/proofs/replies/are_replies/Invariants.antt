use Rattle.std.proofs.Common.{◌≡◌, drop, length}
use Rattle.walk_law.specs.Replies.{HaveCome}
use Rattle.walk_law.proofs.replies.are_replies.Given as goal

-- each client has come so far
abbrev pub invariant-loop-command : goal.invariant-loop-command
invariant-loop-command l = record {
  come : HaveCome l.script l.clients (drop l.command-index l.script.commands) l.progress.items;
  len : length l.progress.items ≡ length l.clients;
}
