use Rattle.object_law.proofs.TenthSteps.{ReadFirst}
use Rattle.object_law.proofs.tenth.colours_read.Given as goal

-- the colours so far
abbrev pub invariant-loop-sync : goal.invariant-loop-sync
invariant-loop-sync l = ReadFirst l.colours l.syncs l.sync-index l.read
