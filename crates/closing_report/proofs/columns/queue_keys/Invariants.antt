use Rattle.std.proofs.Common.{◌≡◌, ◌-◌, length, map, take}
use Rattle.log_node.specs.Standings.{queue_of}
use Rattle.col_core.specs.History.{entries}
use Rattle.closing_report.specs.Columns.{waiting_shown}
use Rattle.closing_report.proofs.columns.queue_keys.Given as goal

-- the keys so far
abbrev pub invariant-loop-key : goal.invariant-loop-key
invariant-loop-key l =
    l.keys ≡ map waiting_shown (take (length l.keys) (queue_of (entries l.column.journal)))

abbrev pub decreases-loop-key : goal.decreases-loop-key
decreases-loop-key l = length (queue_of (entries l.column.journal)) - length l.keys
