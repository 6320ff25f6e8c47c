-- What it is to read a script's commands in pieces, each behind the header.
use Rattle.std.specs.Prelude.{◌≡◌, ◌⊎◌, false, ℕ, ◌+◌, List, [], ◌∷◌, ◌++◌, codes}
use Rattle.std.specs.List.{All}
use Rattle.script_text.specs.declared.script.Command.{Command}
use Rattle.script_text.specs.declared.script.Script.{Script}
use Rattle.script_text.specs.Items.{is_stop}
use Rattle.script_text.specs.Grammar.{IsScript}

-- the command, so many lines further down
abbrev pub later : ℕ → Command → Command
later k c = record c { line = c.line + k }

-- no bytes, or bytes that end with a line feed
abbrev pub EndsALine : List ℕ → Type 0
EndsALine bytes = (bytes ≡ []) ⊎ ((front : List ℕ) × (bytes ≡ front ++ 10 ∷ []))

-- The bytes are a header up to the line that ends it, and nothing else: this script, which has no commands, and no other.
pub record IsHeader (h : List ℕ) (s : Script) : Type 0 where
  pub ends : (front : List ℕ) × (h ≡ front ++ 10 ∷ (codes "begin" ++ 10 ∷ []))
  pub idle : s.commands ≡ []
  pub only : (other : Script) → IsScript h other → other ≡ s

-- none of the commands stops its client
abbrev pub NoneStops : List Command → Type 0
NoneStops commands = All (λ (c : Command). is_stop c.what ≡ false) commands
