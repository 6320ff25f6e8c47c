use Rattle.std.proofs.Common.{◌≡◌, take}
use Rattle.std.specs.List.{list_all}
use Rattle.script_text.specs.Pieces.{is_between}
use Rattle.script_text.proofs.pieces.are_visible.Given as goal

abbrev pub invariant-loop-b : goal.invariant-loop-b
invariant-loop-b l = l.all ≡ list_all (is_between 33 126) (take l.b-index l.bytes)
