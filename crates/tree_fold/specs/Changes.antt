-- The text of each change of a tree, which changes may be, and the change of a text.
use Rattle.std.specs.Prelude.{◌≡◌, IsTrue, ℕ, List, ◌∷◌, ◌++◌, Option, Some, None, codes}
use Rattle.object_form.specs.Forms.{equals, is_word}
use Rattle.tree_fold.specs.declared.change.Change.{Change}
use Rattle.tree_fold.specs.declared.change.Change.TheVariants.{Make, Remove, Move}
use Rattle.tree_fold.specs.Paths.{first_name, is_below_root, path_text}

-- the sign between source and target, `>`
abbrev pub arrow : ℕ
arrow = 62

-- the text that a node with this change has
abbrev pub change_text : Change → List ℕ
change_text (Make path value) = codes "k:" ++ path_text path ++ equals ∷ value
change_text (Remove path) = codes "x:" ++ path_text path
change_text (Move source target) = codes "v:" ++ path_text source ++ arrow ∷ path_text target

-- the change is one that a text can have: its value is a word, and none of its paths is the root
abbrev pub IsChange : Change → Type 0
IsChange (Make path value) = IsTrue (is_below_root path) × IsTrue (is_word value)
IsChange (Remove path) = IsTrue (is_below_root path)
IsChange (Move source target) = IsTrue (is_below_root source) × IsTrue (is_below_root target)

-- the change may be, and this is its text
abbrev pub IsWrittenAs : Change → List ℕ → Type 0
IsWrittenAs change text = IsChange change × (change_text change ≡ text)

-- the text is read as the change that has it, or as none where none has it
abbrev pub IsReadAs : List ℕ → Option Change → Type 0
IsReadAs text (Some change) = IsWrittenAs change text
IsReadAs text None = (change : Change) → IsWrittenAs change text → ⊥

-- the keys by which the shards of a change are told: the first names of its paths
abbrev pub change_keys : Change → List (List ℕ)
change_keys (Make path value) = first_name path
change_keys (Remove path) = first_name path
change_keys (Move source target) = first_name source ++ first_name target
