use Rattle.std.proofs.Common.{drop}
use Rattle.walk_law.specs.Listed.{ClientsRise}
use Rattle.walk_law.proofs.listing.are_by_client.Given as goal

-- the clients rise where those of the rows that are left do
abbrev pub invariant-loop-row : goal.invariant-loop-row
invariant-loop-row l = record {
  to : ClientsRise l.region l.last (drop l.row-index l.rows) → ClientsRise l.region 0 l.rows;
  from : ClientsRise l.region 0 l.rows → ClientsRise l.region l.last (drop l.row-index l.rows);
}
