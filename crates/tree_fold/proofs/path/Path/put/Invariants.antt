use Rattle.std.proofs.Common.{◌≡◌, ◌++◌, ◌∷◌, take}
use Rattle.std.specs.List.{flat_map}
use Rattle.tree_fold.specs.Paths.{slash}
use Rattle.tree_fold.proofs.path.Path.put.Given as goal

abbrev pub invariant-loop-name : goal.invariant-loop-name
invariant-loop-name l = l.bytes.items ≡ l.initial.bytes.items ++ flat_map (λ n. slash ∷ n) (take l.name-index l.name-items)
