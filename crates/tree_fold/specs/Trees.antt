-- The tree: which paths are there and with what values after nodes in rising key, and what is told of each change.
use Rattle.std.specs.Prelude.{◌≡◌, Bool, IsTrue, true, false, not, ℕ, nat_lt, ◌&&◌, List, [], ◌∷◌, ◌++◌, length, drop, map, filter, Option, Some, None, if◌then◌else◌}
use Rattle.std.specs.List.{fold, find, list_any, AllByRecursion}
use Rattle.std.specs.Option.{option_map, is_some}
use Rattle.std.specs.Ordering.{nat_cmp}
use Rattle.std.specs.Cmp.Lexicographic.{slice_cmp}
use Rattle.std.specs.declared.cmp.Ordering.{Ordering}
use Rattle.std.specs.declared.cmp.Ordering.TheVariants.{Less, Equal, Greater}
use Rattle.std.specs.Str.{bytes_eq}
use Rattle.object_fold.specs.Nodes.{ObjectNode}
use Rattle.object_fold.specs.Maps.{Value}
use Rattle.tree_fold.specs.declared.change.Change.{Change}
use Rattle.tree_fold.specs.declared.change.Change.TheVariants.{Make, Remove, Move}
use Rattle.object_form.specs.declared.tree_why.TreeWhy.{TreeWhy}
use Rattle.object_form.specs.declared.tree_why.TreeWhy.TheVariants.{Exists, NoParent, Missing, NotEmpty, Inside, Deep}
use Rattle.tree_fold.specs.declared.told.Told.{Told}
use Rattle.tree_fold.specs.declared.told.Told.TheVariants.{Done, Failed}
use Rattle.tree_fold.specs.declared.entries.Entry.{Entry}
use Rattle.tree_fold.specs.Paths.{Path, begins_with, goes_on_from, is_same, next_name, parent_of}
use Rattle.tree_fold.specs.Readings.{change_of}

-- the paths that are there, each with its value; the root is always there, and is not among them
abbrev pub Tree : Type 0
Tree = List Entry

-- the value of a path, if it is there and not the root
abbrev pub value_in : Tree → Path → Value
value_in tree path = option_map (λ e. e.value) (find (λ e. is_same path e.path) tree)

-- the path is there
abbrev pub is_there : Tree → Path → Bool
is_there tree [] = true
is_there tree (name ∷ names) = is_some (value_in tree (name ∷ names))

-- a path that is there goes on from this one
abbrev pub has_more : Tree → Path → Bool
has_more tree path = list_any (λ e. goes_on_from path e.path) tree

-- the path after a move: the target in the place of the source at its front, if it begins with the source
abbrev pub moved_path : Path → Path → Path → Path
moved_path source target path = if begins_with source path then target ++ drop (length source) path else path

-- a path that is there and moves would have more than 4 names
abbrev pub is_too_deep : Tree → Path → Path → Bool
is_too_deep tree source target =
    list_any (λ e. begins_with source e.path && nat_lt 4 (length (moved_path source target e.path))) tree

-- Why a change fails over a tree: the first reason that holds, or none where the change is done.
abbrev pub why : Tree → Change → Option TreeWhy
why tree (Make path value) =
    if is_there tree path then Some Exists
    else (if not (is_there tree (parent_of path)) then Some NoParent
    else None)
why tree (Remove path) =
    if not (is_there tree path) then Some Missing
    else (if has_more tree path then Some NotEmpty
    else None)
why tree (Move source target) =
    if not (is_there tree source) then Some Missing
    else (if begins_with source target then Some Inside
    else (if is_there tree target then Some Exists
    else (if not (is_there tree (parent_of target)) then Some NoParent
    else (if is_too_deep tree source target then Some Deep
    else None))))

-- the tree after a change that is done
abbrev pub changed : Tree → Change → Tree
changed tree (Make path value) = record { path = path; value = value } ∷ tree
changed tree (Remove path) = filter (λ e. not (is_same path e.path)) tree
changed tree (Move source target) =
    map (λ e. record { path = moved_path source target e.path; value = e.value }) tree

-- the tree after a change that fails for this reason, or is done
abbrev pub tree_by : Tree → Change → Option TreeWhy → Tree
tree_by tree change None = changed tree change
tree_by tree change (Some reason) = tree

-- the tree after one more node's change, if it has one
abbrev pub tree_with : Tree → Option Change → Tree
tree_with tree None = tree
tree_with tree (Some change) = tree_by tree change (why tree change)

-- the tree after nodes, the first of them first
abbrev pub tree_after : List ObjectNode → Tree
tree_after nodes = fold (λ tree node. tree_with tree (change_of node.text)) [] nodes

-- what is told of a change under a stamp that fails for this reason, or is done
abbrev pub told_under : ℕ → Option TreeWhy → Told
told_under stamp None = Done stamp
told_under stamp (Some reason) = Failed stamp reason

-- what is told of one more node under a stamp, if it has a change
abbrev pub told_of_change : ℕ → Tree → Option Change → Option Told
told_of_change stamp tree None = None
told_of_change stamp tree (Some change) = Some (told_under stamp (why tree change))

-- what a node behind these is told, if it has a change
abbrev pub telling : List ObjectNode → ObjectNode → Option Told
telling nodes node = told_of_change node.key.stamp (tree_after nodes) (change_of node.text)

-- the names rise strictly in their bytes
abbrev pub NamesRise : List (List ℕ) → Type 0
NamesRise [] = Unit {0}
NamesRise (name ∷ names) = AllByRecursion (λ other. slice_cmp nat_cmp name other ≡ Less) names × NamesRise names

-- the names in a path that is there: those that come next after it in the tree, each once, by their bytes
pub record AreNamesIn (tree : Tree) (path : Path) (names : List (List ℕ)) : Type 0 where
  pub there : IsTrue (is_there tree path)
  pub exactly : (name : List ℕ) → list_any (bytes_eq name) names ≡ is_there tree (path ++ name ∷ [])
  pub rise : NamesRise names

-- what is answered of a path: its names, or nothing where it is not there
abbrev pub IsNamesAnswer : Tree → Path → Option (List (List ℕ)) → Type 0
IsNamesAnswer tree path None = is_there tree path ≡ false
IsNamesAnswer tree path (Some names) = AreNamesIn tree path names

-- rising names with one name more, by how it stands to the first of them: in front of it, the same, or among the later ones
abbrev pub put_by : Ordering → List ℕ → List ℕ → List (List ℕ) → List (List ℕ) → List (List ℕ)
put_by Less name first names later = name ∷ first ∷ names
put_by Equal name first names later = first ∷ names
put_by Greater name first names later = first ∷ later

-- rising names with one name more at its place, equal ones once
abbrev pub put_name : List ℕ → List (List ℕ) → List (List ℕ)
put_name name [] = name ∷ []
put_name name (first ∷ names) = put_by (slice_cmp nat_cmp name first) name first names (put_name name names)

-- the same, if there is one name more
abbrev pub put_some : Option (List ℕ) → List (List ℕ) → List (List ℕ)
put_some None names = names
put_some (Some name) names = put_name name names

-- the names that come next after a path, each once, by their bytes
abbrev pub listed : Tree → Path → List (List ℕ)
listed [] path = []
listed (entry ∷ entries) path = put_some (next_name path entry.path) (listed entries path)

-- the same, or nothing where the path is not there
abbrev pub names_after : Tree → Path → Option (List (List ℕ))
names_after tree path = if is_there tree path then Some (listed tree path) else None

-- these are the names in the path after nodes, or it is not there
abbrev pub NamesAfter : Path → Option (List (List ℕ)) → List ObjectNode → Type 0
NamesAfter path names nodes = IsNamesAnswer (tree_after nodes) path names

-- this is the path's value after nodes
abbrev pub ValueAfter : Path → Value → List ObjectNode → Type 0
ValueAfter path value nodes = value ≡ value_in (tree_after nodes) path
