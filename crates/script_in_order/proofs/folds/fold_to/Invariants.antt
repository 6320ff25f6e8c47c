use Rattle.std.proofs.Common.{◌≡◌}
use Rattle.world_code.specs.WorldView.{world_of}
use Rattle.script_in_order.specs.Folds.{IsKeptLine}
use Rattle.script_in_order.proofs.folds.fold_to.Given as goal

-- the fold of the nodes so far
abbrev pub invariant-loop-place : goal.invariant-loop-place
invariant-loop-place g l = record {
  here : l.kept.count ≡ l.place;
  opened : g.F.LineFold.opened l.kept.state ≡ g.F.LineFold.opened l.fn.kept.state;
  folded : IsKeptLine g.F.LineFold.Holds (world_of l.world) l.fn.first.region l.fn.first.colour l.kept;
}
