-- What the parts of a transactional map answer that are played from answer to answer.
use Rattle.std.specs.Prelude.{◌≡◌, ℕ, List, Option, Some, None, slice_get}
use Rattle.std.specs.List.{All}
use Rattle.log_node.specs.declared.ids.Key.{Key}
use Rattle.log_node.specs.declared.node.Node.{Node}
use Rattle.object_fold.specs.Maps.{Value}
use Rattle.object_fold.specs.Nodes.{ObjectNode}
use Rattle.part_fold.specs.Agreement.{part_at}
use Rattle.part_fold.specs.PartStates.{IsPart}
use Rattle.part_fold.specs.Parts.{Part}
use Rattle.part_fold.specs.Ruled.{IsRuled}
use Rattle.col_core.specs.History.{line}
use Rattle.script_text.specs.declared.commands.What.{What}
use Rattle.script_text.specs.declared.commands.What.TheVariants as whats
use Rattle.script_text.specs.declared.script.Kind.{Kind}
use Rattle.script_text.specs.declared.script.Kind.TheVariants as kinds
use Rattle.lawful_run.specs.Parts.{HasPartValue, OfPart, WaitsFor}
use Rattle.run_rules.specs.Deciding.{ColoursDiffer}
use Rattle.object_law.specs.declared.fourteenth.PartPlays.{PartPlays}
use Rattle.object_law.specs.declared.part_plays.PartPlay.{PartPlay}
use Rattle.object_law.specs.declared.ruled_plays.RuledPlay.{RuledPlay}
use Rattle.object_law.specs.ObjectAnswers.{IsKeyOrder}
use Rattle.object_law.specs.ObjectPlays.{HoldsKeys, HoldsLine}
use Rattle.object_law.specs.Tenth.{line_nodes}
use Rattle.walk_law.specs.Walking.{Walked, journal_walked}

-- PLAYS

-- the part of a shard is played over the own line of its colour
pub record IsPartPlay (walked : Walked) (table : List (List Node)) (p : PartPlay) : Type 0 where
  pub holds : HoldsLine IsPart table (line (journal_walked walked p.shard.region p.shard.colour)) p.play
  pub part : p.play.fold.part ≡ record { place = p.shard.place; colours = p.shard.colours }

-- and what became of transactions over the nodes of these keys
pub record IsRuledPlay (walked : Walked) (table : List (List Node)) (p : RuledPlay) : Type 0 where
  pub order : IsKeyOrder walked p.order
  pub holds : HoldsKeys IsRuled table p.order.keys.items p.play

-- if there is a play, it stands so
abbrev pub IfThere : {A : Type 0} → (A → Type 0) → Option A → Type 0
IfThere P None = Unit {0}
IfThere P (Some a) = P a

-- all plays that are there stand so
pub record ArePartPlays (walked : Walked) (table : List (List Node)) (p : PartPlays) : Type 0 where
  pub parts : All (IfThere (IsPartPlay walked table)) p.parts.items
  pub ruled : All (IfThere (IsRuledPlay walked table)) p.ruled.items

-- and each colour of an object is there once
pub record StandSo (plays : PartPlays) (walked : Walked) (table : List (List Node)) : Type 0 where
  pub plays_are : ArePartPlays walked table plays
  pub differ : ColoursDiffer walked.script

-- WHAT A PART SAYS

-- the colour stands in this place, or in none
abbrev pub IsPlaceOf : List ℕ → ℕ → Option ℕ → Type 0
IsPlaceOf own colour None = (place : ℕ) → slice_get own place ≡ Some colour → ⊥
IsPlaceOf own colour (Some place) = slice_get own place ≡ Some colour

-- What a command asks of a part has this value: that of its key; or none, as nothing waits for the decision for which it asks.
abbrev pub IsValueOfPart : What → Value → Part → List ObjectNode → Type 0
IsValueOfPart (whats.Get object key) value part nodes = HasPartValue key value part nodes
IsValueOfPart (whats.Peek object key) value part nodes = HasPartValue key value part nodes
IsValueOfPart (whats.Decide object key) value part nodes = (value ≡ None) × WaitsFor None part nodes
IsValueOfPart _ value part nodes = ⊥

-- the colours of a map that is played by its parts
abbrev pub part_colours : Option Kind → Option (List ℕ)
part_colours (Some (kinds.Parts home colours)) = Some colours
part_colours _ = None

-- the part of a colour waits for a decision on this transaction alone, or for none
abbrev pub IsWaitedFor : List ℕ → ℕ → List ObjectNode → Option Key → Type 0
IsWaitedFor own colour nodes None = (key : Key) → OfPart own colour (WaitsFor (Some key)) nodes → ⊥
IsWaitedFor own colour nodes (Some key) =
    OfPart own colour (WaitsFor (Some key)) nodes
    × ((other : Key) → OfPart own colour (WaitsFor (Some other)) nodes → other ≡ key)

-- The play is that of a colour's part, behind so many nodes of its line in a region; or the object does not have the colour.
abbrev pub IsPlayOf : Walked → List (List Node) → ℕ → List ℕ → ℕ → ℕ → Option PartPlay → Type 0
IsPlayOf walked table region own colour count None = (place : ℕ) → slice_get own place ≡ Some colour → ⊥
IsPlayOf walked table region own colour count (Some p) =
    IsPartPlay walked table p × (place : ℕ) × (slice_get own place ≡ Some colour) × (p.play.fold.part ≡ part_at own place)
    × IsPart p.play.fold (line_nodes walked table region colour count)
