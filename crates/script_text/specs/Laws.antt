-- What a line tells after others, and how many rows a script may ask for.
use Rattle.std.specs.Prelude.{◌≤◌, IsTrue, IsFalse, ℕ, List, Option, Some, None}
use Rattle.script_text.specs.declared.item.Item.{Item}
use Rattle.script_text.specs.declared.script.Script.{Script}
use Rattle.script_text.specs.Pieces.{fields_of, is_ascii_line}
use Rattle.script_text.specs.Versions.{limits_in}
use Rattle.script_text.specs.Grammar.{is_passed_over, Says, may_follow, IsScript}

-- the line says the item, which may follow
pub record Follows (before : List Item) (number : ℕ) (fields : List (List ℕ)) (item : Item) : Type 0 where
  pub says : Says before number fields item
  pub may : IsTrue (may_follow before item)

-- the line is passed over, and tells nothing, or it says an item that may follow
abbrev pub Tells : List Item → ℕ → List ℕ → Option Item → Type 0
Tells before number line None = IsTrue (is_passed_over (number, line))
Tells before number line (Some item) = IsFalse (is_passed_over (number, line)) × Follows before number (fields_of line) item

-- the line, of ASCII, tells something or is passed over
pub record IsSound (before : List Item) (number : ℕ) (line : List ℕ) : Type 0 where
  pub ascii : IsTrue (is_ascii_line line)
  pub said : Option Item
  pub tells : Tells before number line said

-- What is read as a script has at most as many rows for each client as its version allows.
abbrev pub RowsAreWithinLimits : Type 0
RowsAreWithinLimits = (bytes : List ℕ) (script : Script) → IsScript bytes script → script.shape.rows ≤ (limits_in script.version).rows
