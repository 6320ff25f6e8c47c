-- What the texts of changes have for consequences, on which the tree rests; and what is answered of a path, which is one.
use Rattle.std.specs.Prelude.{◌≡◌, ◌↔◌, ℕ, List, length, Option, Some, None}
use Rattle.log_node.specs.declared.forms.Form.{Form}
use Rattle.log_node.specs.declared.forms.Form.TheVariants.{Plain}
use Rattle.log_node.specs.Texts.{IsTextLength}
use Rattle.object_form.specs.Forms.{IsForm, form_text}
use Rattle.object_form.specs.Readings.{form_of}
use Rattle.tree_fold.specs.declared.change.Change.{Change}
use Rattle.tree_fold.specs.Paths.{Path, HasPathText}
use Rattle.tree_fold.specs.Changes.{IsChange, change_text, IsWrittenAs, IsReadAs}
use Rattle.tree_fold.specs.Readings.{path_of, change_of}
use Rattle.tree_fold.specs.Trees.{Tree, IsNamesAnswer, names_after}

-- a text is that of one path: of the one that is computed of it, and of no other
abbrev pub PathsReadAsOne : Type 0
PathsReadAsOne = (bytes : List ℕ) (path : Path) → HasPathText path bytes ↔ (path_of bytes ≡ Some path)

-- no two changes have one text
abbrev pub ChangeTextsDiffer : Type 0
ChangeTextsDiffer = (change other : Change) (text : List ℕ) → IsWrittenAs change text → IsWrittenAs other text → change ≡ other

-- a text is read as one change or none: as the one that is computed of it, and as no other
abbrev pub ReadsAsOneChange : Type 0
ReadsAsOneChange = (text : List ℕ) (change : Option Change) → IsReadAs text change ↔ (change_of text ≡ change)

-- what is written of a change is read as this change
abbrev pub ChangesReadBack : Type 0
ChangesReadBack = (change : Change) → IsChange change → change_of (change_text change) ≡ Some change

-- the text of a change is one that a node may have
abbrev pub ChangesFit : Type 0
ChangesFit = (change : Change) → IsChange change → IsTextLength (length (change_text change))

-- the text of a change is a plain one to all other objects
abbrev pub ChangesArePlain : Type 0
ChangesArePlain = (change : Change) → form_of (change_text change) ≡ Plain

-- and the text of each form of theirs is no change
abbrev pub FormsAreNoChanges : Type 0
FormsAreNoChanges = (form : Form) → IsForm form → change_of (form_text form) ≡ None

-- what is computed of a path is what is answered of it
abbrev pub NamesAreAnswered : Type 0
NamesAreAnswered = (tree : Tree) (path : Path) → IsNamesAnswer tree path (names_after tree path)

-- and nothing else is
abbrev pub NamesAreOne : Type 0
NamesAreOne = (tree : Tree) (path : Path) (names other : Option (List (List ℕ))) → IsNamesAnswer tree path names
    → IsNamesAnswer tree path other → names ≡ other
