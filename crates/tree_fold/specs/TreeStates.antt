-- For which nodes the state of the tree's fold stands.
use Rattle.std.specs.Prelude.{◌≡◌, List}
use Rattle.object_fold.specs.Nodes.{ObjectNode}
use Rattle.tree_fold.specs.declared.fold.TreeFold.{TreeFold}
use Rattle.tree_fold.specs.Paths.{Path}
use Rattle.tree_fold.specs.Trees.{Tree, value_in, tree_after}

-- the trees have the same paths with the same values
abbrev pub SameTree : Tree → Tree → Type 0
SameTree tree other = (path : Path) → value_in tree path ≡ value_in other path

-- the fold has the tree that these nodes leave
abbrev pub IsTree : TreeFold → List ObjectNode → Type 0
IsTree fold nodes = SameTree fold (tree_after nodes)
