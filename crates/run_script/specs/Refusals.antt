-- Bytes that are done.
use Rattle.std.specs.Prelude.{◌≡◌, ℕ, List, Option, Some}
use Rattle.script_text.specs.declared.script.Script.{Script}
use Rattle.script_text.specs.Grammar.{IsScript}

-- what is left to read is told, and it is a script
abbrev pub IsAScript : Option (List ℕ) → Type 0
IsAScript left = (bytes : List ℕ) × (script : Script) × (left ≡ Some bytes) × IsScript bytes script
