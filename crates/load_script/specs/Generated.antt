-- The script of a load, in which eight clients of two regions append, sync and pull by a simple rule.
use Rattle.std.specs.Prelude.{ℕ, ◌+◌, ◌*◌, ◌%◌, ◌==◌, List, [], ◌∷◌, ◌++◌, map, Option, Some, None, decimal, codes, slice_get, if◌then◌else◌}
use Rattle.std.specs.List.{flat_map, range_with_len}
use Rattle.log_node.specs.declared.ids.Colours.{Colours}
use Rattle.log_node.specs.Sets.{set_of}
use Rattle.script_text.specs.declared.commands.What.{What}
use Rattle.script_text.specs.declared.commands.What.TheVariants as whats
use Rattle.script_text.specs.declared.script.Command.{Command}
use Rattle.script_text.specs.declared.script.Script.{Script}
use Rattle.load_script.specs.declared.script.TheConstants.{CLIENTS, FIRST_LINE}

-- even clients are in the first region, the others in the second
abbrev pub home_by_turns : ℕ → ℕ
home_by_turns client = client % 2

-- the number by which a client's command of a round is chosen, in a load of so many rounds
abbrev pub choice_of : ℕ → ℕ → ℕ → ℕ
choice_of count client round = (7 * client + 3 * round + count) % 8

-- the sets of colours to which the choices 0 to 5 append: each colour alone, the first two, the middle two
abbrev pub sets : List Colours
sets = set_of (0 ∷ []) ∷ set_of (1 ∷ []) ∷ set_of (2 ∷ []) ∷ set_of (3 ∷ []) ∷ set_of (0 ∷ 1 ∷ []) ∷ set_of (1 ∷ 2 ∷ []) ∷ []

-- the text of a client's node of a round
abbrev pub node_text : ℕ → ℕ → List ℕ
node_text client round = codes "t" ++ decimal client ++ codes "-" ++ decimal round

-- an append to the set of a choice; a sync at choice 6, and a pull from the other region at choice 7
abbrev pub asked_by : Option Colours → ℕ → ℕ → ℕ → What
asked_by (Some set) choice client round = whats.Append set (node_text client round)
asked_by None choice client round =
    if choice == 6 then whats.Sync (round % 4) else whats.Pull (home_by_turns (client + 1)) (round % 4)

-- what a client asks in a round, by the number of its choice
abbrev pub what_asked : ℕ → ℕ → ℕ → What
what_asked choice client round = asked_by (slice_get sets choice) choice client round

-- a client's command of a round, at its line
abbrev pub command_of : ℕ → ℕ → ℕ → Command
command_of count round client = record {
  line = FIRST_LINE + CLIENTS * round + client;
  client = client;
  what = what_asked (choice_of count client round) client round;
}

-- the commands of a round, by client
abbrev pub round_of : ℕ → ℕ → List Command
round_of count round = map (command_of count round) (range_with_len 0 CLIENTS)

-- the commands of so many rounds of a load
abbrev pub rounds_of : ℕ → ℕ → List Command
rounds_of count rounds = flat_map (round_of count) (range_with_len 0 rounds)

-- a letter and each of so many digits
abbrev pub numbered : ℕ → ℕ → List (List ℕ)
numbered letter count = map (λ n. letter ∷ (48 + n) ∷ []) (range_with_len 0 count)

-- a load's script: as many rounds as its number says
abbrev pub load_script : ℕ → Script
load_script count = record {
  version = 1;
  shape = record { regions = 2; colours = 4; homes = map home_by_turns (range_with_len 0 CLIENTS); rows = 4096 };
  regions = codes "east" ∷ codes "west" ∷ [];
  colours = numbered 99 4;
  clients = numbered 107 CLIENTS;
  objects = [];
  commands = rounds_of count count;
}
