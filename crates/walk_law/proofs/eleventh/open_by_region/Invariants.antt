use Rattle.walk_law.specs.Eleventh.{AreOpenIds}
use Rattle.walk_law.proofs.eleventh.open_by_region.Given as goal

-- those of the regions so far
abbrev pub invariant-loop-region : goal.invariant-loop-region
invariant-loop-region l = AreOpenIds l.region l.columns l.tables.items
