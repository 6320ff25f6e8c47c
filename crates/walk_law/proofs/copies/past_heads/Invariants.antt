use Rattle.std.proofs.Common.{◌≡◌, ◌+◌, take}
use Rattle.walk_law.specs.Proposals.{StandFrom, line_heads}
use Rattle.walk_law.proofs.copies.past_heads.Given as goal

-- the heads so far stand there
abbrev pub invariant-loop-head : goal.invariant-loop-head
invariant-loop-head l =
    (l.at ≡ l.from + l.head-index) × StandFrom (line_heads l.track.region l.journal) l.from (take l.head-index l.heads)
