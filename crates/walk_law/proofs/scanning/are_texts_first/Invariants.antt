use Rattle.std.proofs.Common.{take}
use Rattle.std.specs.List.{All}
use Rattle.walk_law.specs.Ninth.{IsTextFirst}
use Rattle.walk_law.proofs.scanning.are_texts_first.Given as goal

-- all so far
abbrev pub invariant-loop-item : goal.invariant-loop-item
invariant-loop-item l = All (IsTextFirst l.texts) (take l.item-index l.nodes)
