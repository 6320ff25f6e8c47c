use Rattle.std.proofs.Common.{take}
use Rattle.std.specs.List.{flat_map, enumerate_from}
use Rattle.report_text.specs.Columns.{journal_line}
use Rattle.report_text.specs.Output.{Adds}
use Rattle.report_text.proofs.columns.print_journal.Given as goal

-- the entries before this place are printed
abbrev pub invariant-loop-place : goal.invariant-loop-place
invariant-loop-place g l =
    Adds (g.O.Output.state l.fn.out) (g.O.Output.state l.out) (flat_map (journal_line l.names) (enumerate_from 0 (take l.place l.journal)))
