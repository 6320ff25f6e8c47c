-- Paths of a tree: a path is the list of its names, the root is the path with none.
use Rattle.std.specs.Prelude.{◌≡◌, Bool, IsTrue, ℕ, ◌-◌, ◌==◌, nat_le, nat_lt, ◌&&◌, List, [], ◌∷◌, length, take, drop, Option, Some, None, true, false, if◌then◌else◌}
use Rattle.std.specs.List.{list_all, flat_map}
use Rattle.std.specs.Str.{bytes_eq}
use Rattle.object_form.specs.Forms.{is_letter_or_digit}
use Rattle.tree_fold.specs.declared.path.PathFault.{PathFault}
use Rattle.tree_fold.specs.declared.path.PathFault.TheVariants.{BadPath, NoMemory}

-- the names from the root on; the root has none
abbrev pub Path : Type 0
Path = List (List ℕ)

-- the byte between two names
abbrev pub slash : ℕ
slash = 47

-- a name: 1 to 8 small letters and digits
abbrev pub is_name : List ℕ → Bool
is_name bytes = nat_le 1 (length bytes) && nat_le (length bytes) 8 && list_all is_letter_or_digit bytes

-- a path: at most 4 names
abbrev pub is_path : Path → Bool
is_path path = nat_le (length path) 4 && list_all is_name path

-- a path other than the root
abbrev pub is_below_root : Path → Bool
is_below_root path = nat_le 1 (length path) && is_path path

-- the names, each with a slash before it; the root is a slash
abbrev pub path_text : Path → List ℕ
path_text [] = slash ∷ []
path_text (name ∷ names) = flat_map (λ n. slash ∷ n) (name ∷ names)

-- the bytes are the text of this path
abbrev pub HasPathText : Path → List ℕ → Type 0
HasPathText path bytes = IsTrue (is_path path) × (path_text path ≡ bytes)

-- bytes are refused where no path has this text, and their number is told; memory may be refused always
abbrev pub HasPathCause : List ℕ → PathFault → Type 0
HasPathCause bytes (BadPath len) = (len ≡ length bytes) × ((path : Path) → HasPathText path bytes → ⊥)
HasPathCause bytes NoMemory = Unit {0}

-- the path begins with all names of the other
abbrev pub begins_with : Path → Path → Bool
begins_with [] path = true
begins_with (name ∷ names) [] = false
begins_with (name ∷ names) (other ∷ others) = bytes_eq name other && begins_with names others

-- the path goes on from the other: it begins with it and has more names
abbrev pub goes_on_from : Path → Path → Bool
goes_on_from front path = begins_with front path && nat_lt (length front) (length path)

-- the same path: it begins with the other and is as long
abbrev pub is_same : Path → Path → Bool
is_same front path = begins_with front path && (length front == length path)

-- the path without its last name
abbrev pub parent_of : Path → Path
parent_of path = take (length path - 1) path

-- its first name; of the root, none
abbrev pub first_name : Path → List (List ℕ)
first_name path = take 1 path

-- the name of a path that has just one
abbrev pub sole : Path → Option (List ℕ)
sole [] = None
sole (name ∷ []) = Some name
sole (name ∷ other ∷ names) = None

-- the name that a path has behind a front, if it is the front and just one name more
abbrev pub next_name : Path → Path → Option (List ℕ)
next_name front path = if begins_with front path then sole (drop (length front) path) else None
