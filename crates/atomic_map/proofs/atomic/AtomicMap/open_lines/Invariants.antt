use Rattle.std.proofs.Common.{◌≤◌, length}
use Rattle.atomic_map.specs.Several.{Opens}
use Rattle.atomic_map.proofs.atomic.AtomicMap.open_lines.Given as goal

-- the lines so far
abbrev pub invariant-loop-place : goal.invariant-loop-place
invariant-loop-place l = record {
  opens : Opens l.fn.self l.self;
  many : l._place ≤ length l.self.lines.items;
}
