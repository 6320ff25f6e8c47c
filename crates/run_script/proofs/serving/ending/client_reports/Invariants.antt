use Rattle.std.proofs.Common.{◌≡◌, ℕ, ◌≤◌, [], length, map, take}
use Rattle.std.specs.Prelude.{slice_index_or}
use Rattle.std.specs.List.{enumerate_from}
use Rattle.run_script.specs.EndReports.{replies_shown}
use Rattle.run_script.proofs.serving.ending.client_reports.Given as goal

-- the reports of the clients so far; the others are as they were
abbrev pub invariant-loop-number : goal.invariant-loop-number
invariant-loop-number l = record {
  reports_are : l.reports ≡ map (replies_shown l.initial.replies.items) (enumerate_from 0 (take l.number l.names));
  count : length l.replies.items ≡ length l.initial.replies.items;
  others : (m : ℕ) → l.number ≤ m → slice_index_or l.replies.items m [] ≡ slice_index_or l.initial.replies.items m [];
}
