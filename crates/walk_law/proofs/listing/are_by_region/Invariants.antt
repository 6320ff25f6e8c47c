use Rattle.std.proofs.Common.{drop}
use Rattle.walk_law.specs.Listed.{RisesFrom}
use Rattle.walk_law.proofs.listing.are_by_region.Given as goal

-- the rows rise where those that are left do
abbrev pub invariant-loop-row : goal.invariant-loop-row
invariant-loop-row l = record {
  to : RisesFrom l.last l.regions (drop l.row-index l.rows) → RisesFrom 0 l.regions l.rows;
  from : RisesFrom 0 l.regions l.rows → RisesFrom l.last l.regions (drop l.row-index l.rows);
}
