use Rattle.std.proofs.Common.{◌≡◌, ◌≤◌, ◌==◌, length, drop}
use Rattle.std.specs.List.{count_by}
use Rattle.report_text.specs.Index.{IsIndex}
use Rattle.report_text.proofs.names.NameIndex.of.Given as goal

-- the tables are those of the columns that were read, the last ones
abbrev pub invariant-loop-at : goal.invariant-loop-at
invariant-loop-at l = record {
  within : l.at ≤ length l.columns;
  region : IsIndex (λ c. c.region) (λ c. c.region_name) (drop l.at l.columns) l.columns l.region_at;
  colour : IsIndex (λ c. c.colour) (λ c. c.colour_name) (drop l.at l.columns) l.columns l.colour_at;
  count : l.regions ≡ count_by (λ c. c.colour == 0) (drop l.at l.columns);
}

abbrev pub decreases-loop-at : goal.decreases-loop-at
decreases-loop-at l = l.at
