-- What the grammar makes sure of where an object keeps its colours to itself.
use Rattle.std.specs.Prelude.{◌≡◌, ◌≢◌, IsTrue, ◌||◌, false, ℕ, List}
use Rattle.std.specs.List.{All, AllPairs}
use Rattle.script_text.specs.declared.script.Command.{Command}
use Rattle.script_text.specs.declared.script.Object.{Object}
use Rattle.script_text.specs.declared.script.Script.{Script}
use Rattle.script_text.specs.Apart.{colours_of, has_colour, is_parts, is_reserved}
use Rattle.script_text.specs.Commands.{content_of}
use Rattle.script_text.specs.Contents.{Said, SaysText}

-- if one of the two keeps its colours to itself, no colour is of both
abbrev pub ShareNone : Object → Object → Type 0
ShareNone a b = IsTrue (is_parts a.kind || is_parts b.kind) → (colour : ℕ) → IsTrue (has_colour a.kind colour)
    → IsTrue (has_colour b.kind colour) → ⊥

-- no object that keeps its colours to itself shares one with another
abbrev pub AreApart : List Object → Type 0
AreApart objects = AllPairs ShareNone objects

-- if a text is said, no object reserves it
abbrev pub IsFree : List Object → Said → Type 0
IsFree objects (SaysText text) = is_reserved objects text ≡ false
IsFree objects _ = Unit {0}

-- the texts of commands are none that a transaction's or a decision's node has, where an object reserves these
abbrev pub AreTextsFree : Script → Type 0
AreTextsFree script = All (λ (c : Command). IsFree script.objects (content_of c.what)) script.commands

-- each colour of an object is there once
abbrev pub ColoursDiffer : List Object → Type 0
ColoursDiffer objects = All (λ (o : Object). AllPairs (λ (a b : ℕ). a ≢ b) (colours_of o.kind)) objects
