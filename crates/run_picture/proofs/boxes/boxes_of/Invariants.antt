use Rattle.std.proofs.Common.{◌≡◌, take}
use Rattle.std.specs.List.{flat_map}
use Rattle.run_picture.specs.Boxes.{column_boxes}
use Rattle.run_picture.proofs.boxes.boxes_of.Given as goal

-- the boxes of the columns so far
abbrev pub invariant-loop-column : goal.invariant-loop-column
invariant-loop-column l =
    l.made ≡ flat_map (column_boxes l.script l.last) (take l.column-index l.report.columns)
