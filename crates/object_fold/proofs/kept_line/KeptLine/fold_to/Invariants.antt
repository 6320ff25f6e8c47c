use Rattle.std.proofs.Common.{◌≡◌, ◌≤◌, max}
use Rattle.object_fold.specs.Folds.{FoldsFirst}
use Rattle.object_fold.proofs.kept_line.KeptLine.fold_to.Given as goal

-- the fold of the nodes so far
abbrev pub invariant-loop-place : goal.invariant-loop-place
invariant-loop-place g l = record {
  here : l.self.count ≡ l.place;
  opened : g.F.LineFold.opened l.self.state ≡ g.F.LineFold.opened l.fn.self.state;
  low : l.fn.self.count ≤ l.place;
  high : l.place ≤ max l.fn.self.count l.end-2;
  folds : FoldsFirst l.line l.self.count (g.F.LineFold.Holds l.self.state);
}
