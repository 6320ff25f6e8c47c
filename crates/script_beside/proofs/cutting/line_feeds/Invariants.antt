use Rattle.std.proofs.Common.{◌≡◌, ◌≤◌, take}
use Rattle.script_beside.specs.Parts.{line_feeds}
use Rattle.script_beside.proofs.cutting.line_feeds.Given as goal

-- the line feeds so far
abbrev pub invariant-loop-b : goal.invariant-loop-b
invariant-loop-b l = record {
  counted : l.count ≡ line_feeds (take l.b-index l.bytes);
  few : l.count ≤ l.b-index;
}
