use Rattle.std.proofs.Common.{◌≡◌, ℕ, ◌≤◌, length, map, take}
use Rattle.std.specs.List.{enumerate_from}
use Rattle.script_in_order.specs.Runs.{replies_at}
use Rattle.script_in_order.specs.Reports.{client_shown}
use Rattle.script_in_order.proofs.reports.client_reports.Given as goal

-- the reports of the clients so far; the others are as they were
abbrev pub invariant-loop-number : goal.invariant-loop-number
invariant-loop-number l = record {
  reports_are : l.reports ≡ map (client_shown l.initial.replies.items) (enumerate_from 0 (take l.number l.names));
  count : length l.replies.items ≡ length l.initial.replies.items;
  others : (m : ℕ) → l.number ≤ m → replies_at l.replies.items m ≡ replies_at l.initial.replies.items m;
}
