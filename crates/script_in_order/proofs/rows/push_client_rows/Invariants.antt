use Rattle.std.proofs.Common.{◌≡◌, ◌≤◌, ◌++◌, map}
use Rattle.std.specs.List.{range_with_len}
use Rattle.lawful_run.specs.Columns.{row_report}
use Rattle.world_laws.specs.Laws.{begun_row}
use Rattle.world_code.specs.WorldView.{world_of}
use Rattle.script_in_order.proofs.rows.push_client_rows.Given as goal

-- the rows so far
abbrev pub invariant-loop-number : goal.invariant-loop-number
invariant-loop-number l = record {
  few : l.number ≤ ((world_of l.world).clients l.client).used;
  rows : l.reports ≡ l.initial.reports
      ++ map (λ n. row_report l.region (begun_row (world_of l.world) (record { client = l.client; number = n })))
      (range_with_len 0 l.number);
}
