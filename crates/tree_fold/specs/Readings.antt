-- The path and the change of a text, computed: the text is cut at its signs, and the pieces are tested.
use Rattle.std.specs.Prelude.{ℕ, ◌==◌, List, [], ◌∷◌, Option, Some, None, if◌then◌else◌}
use Rattle.std.specs.List.{slice_split}
use Rattle.object_form.specs.Forms.{equals, is_word}
use Rattle.object_form.specs.Readings.{before, after}
use Rattle.tree_fold.specs.declared.change.Change.{Change}
use Rattle.tree_fold.specs.declared.change.Change.TheVariants.{Make, Remove, Move}
use Rattle.tree_fold.specs.Paths.{Path, slash, is_path}
use Rattle.tree_fold.specs.Changes.{arrow}

-- the pieces between slashes, at least one
abbrev pub names_in : List ℕ → Path
names_in bytes = slice_split (λ b. b == slash) bytes

-- the path of the names behind the first slash; of none, the root
abbrev pub path_behind : List ℕ → Option Path
path_behind [] = Some []
path_behind (b ∷ bs) = if is_path (names_in (b ∷ bs)) then Some (names_in (b ∷ bs)) else None

-- the path of a text, if there is one
abbrev pub path_of : List ℕ → Option Path
path_of [] = None
path_of (b ∷ bs) = if b == slash then path_behind bs else None

-- the path of a text, if there is one and it is not the root
abbrev pub below_root : Option Path → Option Path
below_root None = None
below_root (Some []) = None
below_root (Some (name ∷ names)) = Some (name ∷ names)

-- the path that bytes say, if they say one below the root
abbrev pub below_root_of : List ℕ → Option Path
below_root_of bytes = below_root (path_of bytes)

-- the changes with these paths, if there are such
abbrev pub make_of : Option Path → List ℕ → Option Change
make_of None value = None
make_of (Some path) value = if is_word value then Some (Make path value) else None

-- the removal of a path, if there is one
abbrev pub remove_of : Option Path → Option Change
remove_of None = None
remove_of (Some path) = Some (Remove path)

-- the move from one path to another, if both are there
abbrev pub move_of : Option Path → Option Path → Option Change
move_of None target = None
move_of (Some source) None = None
move_of (Some source) (Some target) = Some (Move source target)

-- by the letter, as `k` for a make, and the bytes after its colon
abbrev pub change_after : ℕ → List ℕ → Option Change
change_after letter bytes =
    if letter == 107 then make_of (below_root_of (before equals bytes)) (after equals bytes)
    else (if letter == 120 then remove_of (below_root_of bytes)
    else (if letter == 118 then move_of (below_root_of (before arrow bytes)) (below_root_of (after arrow bytes))
    else None))

-- the change of a text: a letter and a colon stand before the rest
abbrev pub change_of : List ℕ → Option Change
change_of [] = None
change_of (letter ∷ []) = None
change_of (letter ∷ sign ∷ bytes) = if sign == 58 then change_after letter bytes else None
