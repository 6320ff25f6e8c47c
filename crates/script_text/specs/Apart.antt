-- What an object that keeps its colours to itself takes from others: its colours, and the texts of its nodes.
use Rattle.std.specs.Prelude.{Bool, ℕ, ◌==◌, ◌&&◌, ◌||◌, List, [], ◌∷◌}
use Rattle.std.specs.List.{list_any}
use Rattle.script_text.specs.declared.script.Kind.{Kind}
use Rattle.script_text.specs.declared.script.Kind.TheVariants as kinds
use Rattle.script_text.specs.declared.script.Object.{Object}
use Rattle.script_text.specs.declared.table.TheConstants.{PARTS}
use Rattle.script_text.specs.Pieces.{is_transactional}
use Rattle.script_text.specs.Table.{is_of}

-- an object that keeps its colours to itself, since each may be played alone
abbrev pub is_parts : Kind → Bool
is_parts = is_of PARTS

-- the colours of an object, in their order
abbrev pub colours_of : Kind → List ℕ
colours_of (kinds.Map home colours) = colours
colours_of (kinds.Tx home colours) = colours
colours_of (kinds.Causal colour) = colour ∷ []
colours_of (kinds.Queue home colour) = colour ∷ []
colours_of (kinds.Tree home colours) = colours
colours_of (kinds.Parts home colours) = colours

-- the object has this colour
abbrev pub has_colour : Kind → ℕ → Bool
has_colour kind colour = list_any (λ c. c == colour) (colours_of kind)

-- one of the objects has this colour, and that object or the new one keeps its colours to itself
abbrev pub is_taken : List Object → Bool → ℕ → Bool
is_taken objects alone colour = list_any (λ (o : Object). (alone || is_parts o.kind) && has_colour o.kind colour) objects

-- an object keeps its colours to itself
abbrev pub has_parts : List Object → Bool
has_parts objects = list_any (λ (o : Object). is_parts o.kind) objects

-- the text is one that a transaction's or a decision's node has, and such an object reserves
abbrev pub is_reserved : List Object → List ℕ → Bool
is_reserved objects text = is_transactional text && has_parts objects
