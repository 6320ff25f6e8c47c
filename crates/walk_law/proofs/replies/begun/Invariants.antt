use Rattle.std.proofs.Common.{◌≡◌, length}
use Rattle.std.specs.List.{All}
use Rattle.walk_law.specs.Replies.{IsBegun}
use Rattle.walk_law.proofs.replies.begun.Given as goal

abbrev pub invariant-loop : goal.invariant-loop
invariant-loop l = record {
  each : All IsBegun l.progress.items;
  len : length l.progress.items ≡ l.counter;
}
