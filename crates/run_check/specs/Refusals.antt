-- Which script bytes are, or why they are none.
use Rattle.std.specs.Prelude.{◌≡◌, ℕ, List}
use Rattle.script_text.specs.declared.script.Script.{Script}
use Rattle.script_text.specs.declared.script.Reason.{Reason}
use Rattle.script_text.specs.Grammar.{IsScript}
use Rattle.script_text.specs.Faults.{IsRefused}

-- the bytes are this script, and no other
pub record IsTheScript (bytes : List ℕ) (script : Script) : Type 0 where
  pub is : IsScript bytes script
  pub only : (other : Script) → IsScript bytes other → script ≡ other

-- The bytes are no script, and this is the first faulty line with its reason.
pub record IsRefusedFor (bytes : List ℕ) (line : ℕ) (why : Reason) : Type 0 where
  pub refused : IsRefused bytes line why
  pub none : (script : Script) → IsScript bytes script → ⊥
