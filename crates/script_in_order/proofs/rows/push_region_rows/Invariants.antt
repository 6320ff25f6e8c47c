use Rattle.std.proofs.Common.{◌≡◌, ◌++◌}
use Rattle.world_code.specs.WorldView.{world_of}
use Rattle.script_in_order.proofs.RowsShown.{rows_of_first}
use Rattle.script_in_order.proofs.rows.push_region_rows.Given as goal

-- the rows of the clients so far
abbrev pub invariant-loop-client : goal.invariant-loop-client
invariant-loop-client l = l.reports ≡ l.initial.reports ++ rows_of_first (world_of l.world) l.region l.client
