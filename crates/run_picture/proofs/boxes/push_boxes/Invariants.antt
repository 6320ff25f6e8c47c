use Rattle.std.proofs.Common.{◌≡◌, ◌++◌, map, take}
use Rattle.run_picture.specs.Boxes.{box_of}
use Rattle.run_picture.proofs.boxes.push_boxes.Given as goal

-- the boxes so far
abbrev pub invariant-loop-mark : goal.invariant-loop-mark
invariant-loop-mark l =
    l.boxes ≡ l.initial.boxes ++ map (box_of l.script l.column l.last l.those) (take l.mark-index l.those)
