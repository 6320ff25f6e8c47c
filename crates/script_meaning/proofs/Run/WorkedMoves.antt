-- Runs over several regions that were worked out by hand, computed: pulls, syncs of carried nodes and trims.
use Rattle.std.proofs.Common.{◌≡◌, ℕ, List, [], ◌∷◌, None, false, refl}
use Rattle.std.specs.Prelude.{codes, map}
use Rattle.std.specs.List.{fold}
use Rattle.log_node.specs.declared.ids.Id.{Id}
use Rattle.log_node.specs.declared.ids.Key.{Key}
use Rattle.log_node.specs.declared.ids.Colours.{Colours}
use Rattle.log_node.specs.declared.ids.Counts.{Counts}
use Rattle.log_node.specs.declared.node.At.TheVariants.{Event, Look}
use Rattle.log_node.specs.Seen.{PlacedNode}
use Rattle.col_core.specs.declared.Event.TheVariants as events
use Rattle.col_core.specs.History.{clock, line, entry_key}
use Rattle.world_laws.specs.Worlds.{cut_after, base_after}
use Rattle.script_text.specs.declared.commands.What.{What}
use Rattle.script_text.specs.declared.commands.What.TheVariants.{Append, Sync, Pull, Trim}
use Rattle.script_text.specs.declared.script.Command.{Command}
use Rattle.script_text.specs.declared.script.Script.{Script}
use Rattle.report_text.specs.declared.report.Answer.{Answer}
use Rattle.report_text.specs.declared.report.Answer.TheVariants.{Stood, Synced, Trimmed, Pulled, SameRegion, Based, NoMemory}
use Rattle.report_text.specs.declared.report.PointPiece.{PointPiece}
use Rattle.report_text.specs.declared.report.ReplyLine.{ReplyLine}
use Rattle.script_meaning.specs.States.{State, opening, all_granted}
use Rattle.script_meaning.specs.Meaning.{done}

-- the clients a and d in the region e, and b in the region w, with the colour x
abbrev two_regions : List Command → Script
two_regions commands = record {
  version = 1;
  shape = record { regions = 2; colours = 1; homes = 0 ∷ 1 ∷ 0 ∷ []; rows = 4 };
  regions = codes "e" ∷ codes "w" ∷ [];
  colours = codes "x" ∷ [];
  clients = codes "a" ∷ codes "b" ∷ codes "d" ∷ [];
  objects = [];
  commands = commands;
}

-- the clients a, b and c, each in a region of its own
abbrev three_regions : List Command → Script
three_regions commands = record {
  version = 1;
  shape = record { regions = 3; colours = 1; homes = 0 ∷ 1 ∷ 2 ∷ []; rows = 4 };
  regions = codes "e" ∷ codes "w" ∷ codes "n" ∷ [];
  colours = codes "x" ∷ [];
  clients = codes "a" ∷ codes "b" ∷ codes "c" ∷ [];
  objects = [];
  commands = commands;
}

abbrev a : ℕ
a = 0

abbrev b : ℕ
b = 1

abbrev c : ℕ
c = 2

abbrev d : ℕ
d = 2

abbrev e : ℕ
e = 0

abbrev w : ℕ
w = 1

abbrev x : ℕ
x = 0

abbrev on_x : Colours
on_x = record { 0 = 1 }

abbrev asks : ℕ → ℕ → What → Command
asks line client what = record { line = line; client = client; what = what }

abbrev in_end : Script → State
in_end script = fold (done script.objects all_granted) (opening script) script.commands

abbrev answers_to : State → ℕ → List Answer
answers_to state client = map (λ (r : ReplyLine). r.answer) (state.replies client)

abbrev nodes_to : State → ℕ → List (List (Key × List ℕ))
nodes_to state client = map (λ (r : ReplyLine). map {B = Key × List ℕ} (λ (item : PlacedNode).
    (item.head.key, item.node.text)) r.nodes) (state.replies client)

abbrev counts : ℕ → ℕ → ℕ → Counts
counts first second third = record { 0 = first ∷ second ∷ third ∷ 0 ∷ [] }

abbrev point : ℕ → ℕ → PointPiece
point place position = record { colour = x; at = Event place; position = position }

abbrev synced : ℕ → Counts → ℕ → Answer
synced events snapshot plays = Synced (record { colour = x; events = events; counts = snapshot }) plays

abbrev id : ℕ → ℕ → Id
id client count = record { client = client; count = count }

abbrev one : Key × List ℕ
one = (entry_key 1 (id a 0), codes "one")

abbrev two : Key × List ℕ
two = (entry_key 2 (id b 0), codes "two")

-- nodes go to and fro between two regions
abbrev to_and_fro : State
to_and_fro = in_end (two_regions (asks 8 a (Append on_x (codes "one")) ∷ asks 9 b (Pull e x) ∷ asks 10 b (Sync x)
    ∷ asks 11 b (Append on_x (codes "two")) ∷ asks 12 a (Pull w x) ∷ asks 13 a (Sync x) ∷ []))

to_and_fro-a : answers_to to_and_fro a
    ≡ Stood 1 None (point 0 0 ∷ []) ∷ Pulled 1 (Event 2) (Event 2) ∷ synced 3 (counts 1 1 0) 2 ∷ []
to_and_fro-a = refl

to_and_fro-b : answers_to to_and_fro b
    ≡ Pulled 1 (Event 1) (Event 0) ∷ synced 1 (counts 1 0 0) 1 ∷ Stood 2 None (point 1 0 ∷ []) ∷ []
to_and_fro-b = refl

to_and_fro-nodes_a : nodes_to to_and_fro a ≡ [] ∷ [] ∷ (one ∷ two ∷ []) ∷ []
to_and_fro-nodes_a = refl

to_and_fro-nodes_b : nodes_to to_and_fro b ≡ [] ∷ (one ∷ []) ∷ [] ∷ []
to_and_fro-nodes_b = refl

to_and_fro-w : to_and_fro.world.histories w x
    ≡ record {
      by = b;
      event = events.Carry e 0 (record { key = entry_key 1 (id a 0); needs = counts 0 0 0 } ∷ []);
      stamp = 0;
    }
    ∷ record { by = b; event = events.Single (id b 0) 1 (counts 1 0 0); stamp = 2 }
    ∷ record { by = a; event = events.Give e 0; stamp = 0 } ∷ []
to_and_fro-w = refl

to_and_fro-clock : clock (to_and_fro.world.histories w x) ≡ 2
to_and_fro-clock = refl

to_and_fro-line : line (to_and_fro.world.histories w x) ≡ entry_key 2 (id b 0) ∷ []
to_and_fro-line = refl

to_and_fro-cut : cut_after w (to_and_fro.world.histories w x) ≡ counts 1 1 0
to_and_fro-cut = refl

to_and_fro-base : base_after 2 w (to_and_fro.world.histories w x) ≡ counts 0 0 0
to_and_fro-base = refl

-- a carried node is not played before what it needs is there
abbrev needs_more : State
needs_more = in_end (three_regions (asks 8 a (Append on_x (codes "one")) ∷ asks 9 b (Pull e x) ∷ asks 10 b (Sync x)
    ∷ asks 11 b (Append on_x (codes "two")) ∷ asks 12 c (Pull w x) ∷ asks 13 c (Sync x) ∷ asks 14 c (Pull e x)
    ∷ asks 15 c (Sync x) ∷ []))

needs_more-c : answers_to needs_more c
    ≡ Pulled 1 (Event 2) (Event 0) ∷ synced 1 (counts 0 0 0) 0 ∷ Pulled 1 (Event 2) (Event 1)
    ∷ synced 2 (counts 1 1 0) 2 ∷ []
needs_more-c = refl

needs_more-nodes : nodes_to needs_more c ≡ [] ∷ [] ∷ [] ∷ (one ∷ two ∷ []) ∷ []
needs_more-nodes = refl

-- a node is trimmed once the other region has asked past it; then who has not played it is refused
abbrev trimmed_once : State
trimmed_once = in_end (two_regions (asks 8 a (Append on_x (codes "one")) ∷ asks 9 a (Sync x) ∷ asks 10 a (Trim x)
    ∷ asks 11 b (Pull e x) ∷ asks 12 b (Pull e x) ∷ asks 13 a (Trim x) ∷ asks 14 d (Sync x) ∷ []))

trimmed_once-a : answers_to trimmed_once a
    ≡ Stood 1 None (point 0 0 ∷ []) ∷ synced 1 (counts 1 0 0) 1 ∷ Based (Event 1) (counts 0 0 0)
    ∷ Based (Event 4) (counts 1 0 0) ∷ []
trimmed_once-a = refl

trimmed_once-b : answers_to trimmed_once b ≡ Pulled 1 (Event 2) (Event 0) ∷ Pulled 0 (Event 3) (Look 1) ∷ []
trimmed_once-b = refl

trimmed_once-d : answers_to trimmed_once d ≡ Trimmed x (counts 1 0 0) ∷ []
trimmed_once-d = refl

-- a pull that finds no memory has given and carries nothing; one from the own region does nothing
abbrev gave_alone : State
gave_alone = fold (done [] all_granted) (done [] (record all_granted { carry = false })
    (in_end (two_regions (asks 8 a (Append on_x (codes "one")) ∷ []))) (asks 9 b (Pull e x)))
    (asks 10 b (Pull w x) ∷ asks 11 b (Pull e x) ∷ [])

gave_alone-b : answers_to gave_alone b ≡ NoMemory ∷ SameRegion ∷ Pulled 1 (Event 2) (Event 0) ∷ []
gave_alone-b = refl
