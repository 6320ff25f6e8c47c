-- The entries of a tree as the code keeps them: by the names of their parents, and those with one parent by their own names.
-- So the entries that come next after a path lie together, and so do all that go on from it.
use Rattle.std.specs.Prelude.{◌≡◌, IsTrue, ℕ, zero, suc, ◌+◌, ◌*◌, ◌^◌, Bool, true, List, [], ◌∷◌, ◌++◌, drop, map}
use Rattle.std.specs.List.{AllByRecursion, list_any}
use Rattle.std.specs.Ordering.{nat_cmp, ordering_then, is_eq}
use Rattle.std.specs.Cmp.Lexicographic.{slice_cmp}
use Rattle.std.specs.declared.cmp.Ordering.{Ordering}
use Rattle.std.specs.List.Sorted.{IsStrictlySortedBy}
use Rattle.std.specs.Map.{keys_of, values_of}
use Rattle.tree_fold.specs.declared.entries.Entry.{Entry}
use Rattle.tree_fold.specs.declared.places.Place.{Place}
use Rattle.tree_fold.specs.declared.moving.Moved.{Moved}
use Rattle.tree_fold.specs.declared.change.Change.{Change}
use Rattle.tree_fold.specs.Paths.{Path, begins_with, is_same, is_below_root, parent_of}
use Rattle.tree_fold.specs.Trees.{value_in, is_there, changed}

-- so many bytes of a name as the digits of a number, the first the highest; behind the name they are zeros
abbrev pub name_number : ℕ → List ℕ → ℕ
name_number zero name = 0
name_number (suc count) [] = 0
name_number (suc count) (byte ∷ bytes) = byte * 256 ^ count + name_number count bytes

-- so many names of a path as numbers; behind the path they are this one
abbrev pub name_numbers : ℕ → ℕ → Path → List ℕ
name_numbers zero fill path = []
name_numbers (suc count) fill [] = fill ∷ name_numbers count fill []
name_numbers (suc count) fill (name ∷ names) = name_number 8 name ∷ name_numbers count fill names

-- the last name of a path; of the root, no bytes
abbrev pub own_name : Path → List ℕ
own_name [] = []
own_name (name ∷ []) = name
own_name (name ∷ other ∷ names) = own_name (other ∷ names)

-- where the entry of a path stands
abbrev pub place_of : Path → Place
place_of path = record { parent = name_numbers 3 0 (parent_of path); name = name_number 8 (own_name path) }

-- how two places stand: by the parents, then by the names
abbrev pub place_cmp : Place → Place → Ordering
place_cmp a b = ordering_then (slice_cmp nat_cmp a.parent b.parent) (nat_cmp a.name b.name)

-- the place is among these
abbrev pub has_place : Place → List Place → Bool
has_place place places = list_any (λ other. is_eq (place_cmp other place)) places

-- the path has one name more than the other, with which it begins
abbrev pub is_child : Path → Path → Bool
is_child front path = is_same front (parent_of path)

-- an entry at the place of its path, which is below the root
abbrev pub IsPlaced : Place × Entry → Type 0
IsPlaced kept = IsTrue (is_below_root kept.1.path) × (kept.0 ≡ place_of kept.1.path)

-- what the entries of a tree always are
pub record AreTreeEntries (entries : List (Place × Entry)) : Type 0 where
  pub ordered : IsStrictlySortedBy place_cmp (keys_of entries)
  pub placed : AllByRecursion IsPlaced entries
  -- where a path is there, so is each beginning of it
  pub closed : (path rest : Path) → IsTrue (is_there (values_of entries) (path ++ rest)) → IsTrue (is_there (values_of entries) path)

-- the entry with the target in the place of this many first names
abbrev pub renamed : ℕ → Path → Entry → Entry
renamed count target entry = record { path = target ++ drop count entry.path; value = entry.value }

-- entries of a branch, where they stand and under their new paths
pub record AreMoved (count : ℕ) (target : Path) (branch : List Entry) (moved : Moved) : Type 0 where
  pub places : moved.places.items ≡ map (λ e. place_of e.path) branch
  pub entries : moved.entries.items ≡ map (renamed count target) branch

-- these are the entries of the branch that begins with the source
pub record IsBranch (source : Path) (tree branch : List Entry) : Type 0 where
  pub paths : AllByRecursion (λ e. IsTrue (is_below_root e.path)) branch
  pub begin : AllByRecursion (λ e. begins_with source e.path ≡ true) branch
  pub values : (path : Path) → IsTrue (begins_with source path) → value_in branch path ≡ value_in tree path

-- the one entries have the values that a change makes of the other ones, and are kept
pub record MakesChange (old new : List (Place × Entry)) (change : Change) : Type 0 where
  pub kept : AreTreeEntries new
  pub values : (path : Path) → value_in (values_of new) path ≡ value_in (changed (values_of old) change) path
