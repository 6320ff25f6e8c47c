-- The points that an append's answer holds.
use Rattle.std.specs.Prelude.{List, [], ◌∷◌}
use Rattle.report_text.specs.declared.report.PointPiece.{PointPiece}
use Rattle.report_text.specs.declared.points.Held.{Held}
use Rattle.report_text.specs.declared.points.Held.TheVariants.{One, Many}

-- one point, or several in their order
abbrev pub points_held : Held → List PointPiece
points_held (One point) = point ∷ []
points_held (Many points) = points
