use Rattle.std.proofs.Common.{◌≡◌}
use Rattle.std.specs.List.{flat_map, range_with_len}
use Rattle.world_code.specs.WorldView.{world_of}
use Rattle.script_in_order.specs.Reports.{region_rows_shown}
use Rattle.script_in_order.proofs.rows.row_reports.Given as goal

-- the rows of the regions so far
abbrev pub invariant-loop-region : goal.invariant-loop-region
invariant-loop-region l = l.reports ≡ flat_map (region_rows_shown (world_of l.world)) (range_with_len 0 l.region)
