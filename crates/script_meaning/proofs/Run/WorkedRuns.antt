-- Runs that were worked out by hand, computed: each command does what it says.
use Rattle.std.proofs.Common.{◌≡◌, ℕ, List, [], ◌∷◌, Some, None, refl}
use Rattle.std.specs.Prelude.{codes, map, ◌==◌}
use Rattle.std.specs.List.{fold}
use Rattle.log_node.specs.declared.ids.Id.{Id}
use Rattle.log_node.specs.declared.ids.Key.{Key}
use Rattle.log_node.specs.declared.ids.Row.{Row}
use Rattle.log_node.specs.declared.ids.Colours.{Colours}
use Rattle.log_node.specs.declared.node.At.TheVariants.{Event}
use Rattle.log_node.specs.Seen.{PlacedNode}
use Rattle.log_node.specs.declared.marks.Why.TheVariants as whys
use Rattle.log_node.specs.declared.marks.Why.TheVariants.{Memory}
use Rattle.log_node.specs.declared.marks.Mark.{Mark}
use Rattle.log_node.specs.declared.marks.Mark.TheVariants.{Number}
use Rattle.log_node.specs.declared.marks.Mark.TheVariants as marks
use Rattle.log_node.specs.declared.marks.Outcome.TheVariants.{Open, Gone, Final}
use Rattle.log_node.specs.Standings.{queue_of}
use Rattle.col_core.specs.declared.Event.TheVariants as events
use Rattle.col_core.specs.History.{line, entries, entry_key, last_stamp}
use Rattle.world_laws.specs.declared.steps.Step.TheVariants.{Raise}
use Rattle.world_laws.specs.Worlds.{opened, row_of, run_steps}
use Rattle.script_text.specs.declared.commands.What.{What}
use Rattle.script_text.specs.declared.commands.What.TheVariants.{Append, Stop, Sync}
use Rattle.script_text.specs.declared.script.Command.{Command}
use Rattle.script_text.specs.declared.script.Script.{Script}
use Rattle.report_text.specs.declared.report.Answer.{Answer}
use Rattle.report_text.specs.declared.report.Answer.TheVariants.{Stood, StampEnd, Full, Stopped, Synced, NoMemory}
use Rattle.report_text.specs.declared.report.PointPiece.{PointPiece}
use Rattle.report_text.specs.declared.report.ReplyLine.{ReplyLine}
use Rattle.script_meaning.specs.States.{State, opening, no_reads, all_granted}
use Rattle.script_meaning.specs.Meaning.{done}

-- the clients a, b and c in the region r, with the colours x and y
abbrev script : ℕ → List Command → Script
script rows commands = record {
  version = 1;
  shape = record { regions = 1; colours = 2; homes = 0 ∷ 0 ∷ 0 ∷ []; rows = rows };
  regions = codes "r" ∷ [];
  colours = codes "x" ∷ codes "y" ∷ [];
  clients = codes "a" ∷ codes "b" ∷ codes "c" ∷ [];
  objects = [];
  commands = commands;
}

abbrev a : ℕ
a = 0

abbrev b : ℕ
b = 1

abbrev c : ℕ
c = 2

abbrev x : ℕ
x = 0

abbrev y : ℕ
y = 1

abbrev on_x : Colours
on_x = record { 0 = 1 }

abbrev on_y : Colours
on_y = record { 0 = 2 }

abbrev on_both : Colours
on_both = record { 0 = 3 }

abbrev asks : ℕ → ℕ → What → Command
asks line client what = record { line = line; client = client; what = what }

abbrev in_end : ℕ → List Command → State
in_end rows commands = fold (done [] all_granted) (opening (script rows commands)) commands

-- what a client was answered
abbrev answers_to : State → ℕ → List Answer
answers_to state client = map (λ (r : ReplyLine). r.answer) (state.replies client)

abbrev point : ℕ → ℕ → ℕ → PointPiece
point colour place position = record { colour = colour; at = Event place; position = position }

abbrev id : ℕ → ℕ → Id
id client count = record { client = client; count = count }

abbrev row : ℕ → ℕ → Row
row client number = record { client = client; number = number }

abbrev line_in : State → ℕ → List Key
line_in state colour = line (state.world.histories 0 colour)

abbrev mark_in : State → Row → ℕ → Mark
mark_in state r colour = (row_of state.world r).marks colour

-- an append to both colours stands under the greatest mark
abbrev greatest_mark : State
greatest_mark = in_end 4 (asks 8 b (Append on_y (codes "p")) ∷ asks 9 a (Append on_both (codes "q")) ∷ [])

greatest_mark-b : answers_to greatest_mark b ≡ Stood 1 None (point y 0 0 ∷ []) ∷ []
greatest_mark-b = refl

greatest_mark-a : answers_to greatest_mark a ≡ Stood 2 (Some 0) (point x 0 0 ∷ point y 1 1 ∷ []) ∷ []
greatest_mark-a = refl

greatest_mark-x : greatest_mark.world.histories 0 x
    ≡ record { by = a; event = events.Propose (id a 0) 0 (record { 0 = 0 ∷ 0 ∷ 0 ∷ 0 ∷ [] }); stamp = 1 }
    ∷ record { by = a; event = events.Settle (id a 0) (Final 2); stamp = 0 } ∷ []
greatest_mark-x = refl

greatest_mark-line : line_in greatest_mark y ≡ entry_key 1 (id b 0) ∷ entry_key 2 (id a 0) ∷ []
greatest_mark-line = refl

greatest_mark-row : map (mark_in greatest_mark (row a 0)) (x ∷ y ∷ []) ≡ Number 1 ∷ Number 2 ∷ []
greatest_mark-row = refl

-- an append to one colour completes the append that stopped before it
abbrev completed : State
completed = in_end 4 (asks 8 a (Stop 2 on_both (codes "one")) ∷ asks 9 b (Append on_x (codes "two")) ∷ [])

completed-a : answers_to completed a ≡ Stopped 2 ∷ []
completed-a = refl

completed-b : answers_to completed b ≡ Stood 2 None (point x 1 1 ∷ []) ∷ []
completed-b = refl

completed-x : completed.world.histories 0 x
    ≡ record { by = a; event = events.Propose (id a 0) 0 (record { 0 = 0 ∷ 0 ∷ 0 ∷ 0 ∷ [] }); stamp = 1 }
    ∷ record { by = b; event = events.Single (id b 0) 0 (record { 0 = 0 ∷ 0 ∷ 0 ∷ 0 ∷ [] }); stamp = 2 }
    ∷ record { by = b; event = events.Settle (id a 0) (Final 1); stamp = 0 } ∷ []
completed-x = refl

completed-y : completed.world.histories 0 y
    ≡ record { by = b; event = events.Propose (id a 0) 0 (record { 0 = 0 ∷ 0 ∷ 0 ∷ 0 ∷ [] }); stamp = 1 }
    ∷ record { by = b; event = events.Settle (id a 0) (Final 1); stamp = 0 } ∷ []
completed-y = refl

completed-line : line_in completed x ≡ entry_key 1 (id a 0) ∷ entry_key 2 (id b 0) ∷ []
completed-line = refl

-- of two nodes under one stamp that of the lesser client stands first
abbrev tied : State
tied = in_end 4 (asks 8 c (Append on_y (codes "p")) ∷ asks 9 a (Stop 3 on_both (codes "q"))
    ∷ asks 10 b (Append on_x (codes "s")) ∷ [])

tied-c : answers_to tied c ≡ Stood 1 None (point y 0 0 ∷ []) ∷ []
tied-c = refl

tied-a : answers_to tied a ≡ Stopped 3 ∷ []
tied-a = refl

tied-b : answers_to tied b ≡ Stood 2 None (point x 1 1 ∷ []) ∷ []
tied-b = refl

tied-x : line_in tied x ≡ entry_key 2 (id a 0) ∷ entry_key 2 (id b 0) ∷ []
tied-x = refl

tied-y : line_in tied y ≡ entry_key 1 (id c 0) ∷ entry_key 2 (id a 0) ∷ []
tied-y = refl

tied-row : (row_of tied.world (row a 0)).last ≡ Final 2
tied-row = refl

-- both ends of a stop
abbrev stopped_so : State
stopped_so = in_end 4 (asks 8 a (Stop 0 on_both (codes "q")) ∷ asks 9 c (Stop 1 on_both (codes "q"))
    ∷ asks 10 b (Stop 6 on_both (codes "q")) ∷ [])

stopped_so-a : answers_to stopped_so a ≡ Stopped 0 ∷ []
stopped_so-a = refl

stopped_so-b : answers_to stopped_so b ≡ Stopped 6 ∷ []
stopped_so-b = refl

stopped_so-c : answers_to stopped_so c ≡ Stopped 1 ∷ []
stopped_so-c = refl

stopped_so-begun : map (λ client. (stopped_so.world.clients client).used) (a ∷ b ∷ c ∷ []) ≡ 0 ∷ 1 ∷ 1 ∷ []
stopped_so-begun = refl

stopped_so-marks : map (mark_in stopped_so (row b 0)) (x ∷ y ∷ []) ≡ Number 1 ∷ Number 1 ∷ []
stopped_so-marks = refl

stopped_so-none : map (mark_in stopped_so (row c 0)) (x ∷ y ∷ []) ≡ marks.None ∷ marks.None ∷ []
stopped_so-none = refl

stopped_so-final : (row_of stopped_so.world (row b 0)).last ≡ Final 1
stopped_so-final = refl

stopped_so-open : (row_of stopped_so.world (row c 0)).last ≡ Open
stopped_so-open = refl

stopped_so-lines : map (line_in stopped_so) (x ∷ y ∷ []) ≡ (entry_key 1 (id b 0) ∷ []) ∷
    (entry_key 1 (id b 0) ∷ []) ∷ []
stopped_so-lines = refl

stopped_so-queue : queue_of (entries (stopped_so.world.histories 0 x)) ≡ []
stopped_so-queue = refl

-- the order in which colours are named does not matter
abbrev named : State
named = in_end 4 (asks 8 a (Append on_both (codes "p")) ∷ asks 9 b (Append on_both (codes "q")) ∷ [])

named-a : answers_to named a ≡ Stood 1 (Some 0) (point x 0 0 ∷ point y 0 0 ∷ []) ∷ []
named-a = refl

named-b : answers_to named b ≡ Stood 2 (Some 0) (point x 2 1 ∷ point y 2 1 ∷ []) ∷ []
named-b = refl

named-lines : map (line_in named) (x ∷ y ∷ [])
    ≡ (entry_key 1 (id a 0) ∷ entry_key 2 (id b 0) ∷ []) ∷ (entry_key 1 (id a 0) ∷ entry_key 2 (id b 0) ∷ []) ∷ []
named-lines = refl

-- a client that has begun all its rows still appends to one colour
abbrev filled : State
filled = in_end 1 (asks 9 a (Append on_both (codes "p")) ∷ asks 10 a (Append on_both (codes "q"))
    ∷ asks 11 a (Append on_x (codes "s")) ∷ [])

filled-a : answers_to filled a
    ≡ Stood 1 (Some 0) (point x 0 0 ∷ point y 0 0 ∷ []) ∷ Full 1 ∷ Stood 2 None (point x 2 1 ∷ []) ∷ []
filled-a = refl

filled-x : line_in filled x ≡ entry_key 1 (id a 0) ∷ entry_key 2 (id a 1) ∷ []
filled-x = refl

-- a repeated sync plays nothing more
abbrev synced_twice : State
synced_twice = in_end 4 (asks 8 a (Append on_x (codes "hi")) ∷ asks 9 a (Sync x) ∷ asks 10 a (Sync x) ∷ [])

synced_twice-a : answers_to synced_twice a
    ≡ Stood 1 None (point x 0 0 ∷ [])
    ∷ Synced (record { colour = x; events = 1; counts = record { 0 = 1 ∷ 0 ∷ 0 ∷ 0 ∷ [] } }) 1
    ∷ Synced (record { colour = x; events = 1; counts = record { 0 = 1 ∷ 0 ∷ 0 ∷ 0 ∷ [] } }) 0 ∷ []
synced_twice-a = refl

synced_twice-texts :
    map (λ (r : ReplyLine). map {B = Key × List ℕ} (λ (item : PlacedNode). (item.head.key, item.node.text)) r.nodes)
    (synced_twice.replies a) ≡ [] ∷ ((entry_key 1 (id a 0), codes "hi") ∷ []) ∷ [] ∷ []
synced_twice-texts = refl

-- an append to both colours whose second proposal finds no memory is gone
abbrev forgotten : State
forgotten = done [] (record all_granted { marks = λ colour. colour == x }) (opening (script 4 []))
    (asks 8 a (Append on_both (codes "p")))

forgotten-a : answers_to forgotten a ≡ NoMemory ∷ []
forgotten-a = refl

forgotten-row : (row_of forgotten.world (row a 0)).last ≡ Gone Memory
forgotten-row = refl

-- where a colour's clock stands at the last stamp, an append to both is gone, and stands in neither
abbrev ended : State
ended = done [] all_granted (record {
  world = run_steps (opened (script 4 []).shape) (Raise b 0 x last_stamp ∷ []);
  replies = λ _. [];
  reads = λ _. no_reads;
}) (asks 8 a (Append on_both (codes "p")))

ended-a : answers_to ended a ≡ StampEnd x ∷ []
ended-a = refl

ended-marks : map (mark_in ended (row a 0)) (x ∷ y ∷ []) ≡ marks.Fenced whys.StampEnd ∷ Number 1 ∷ []
ended-marks = refl

ended-line : line_in ended y ≡ []
ended-line = refl
