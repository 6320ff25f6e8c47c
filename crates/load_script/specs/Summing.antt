-- What the commands of a load come to, and what a report shows of that.
use Rattle.std.specs.Prelude.{Bool, true, false, ℕ, ◌+◌, ◌==◌, nat_lt, ◌&&◌, List, [], ◌∷◌, ◌++◌, length, map, slice_index, Option, Some, None, decimal, codes}
use Rattle.std.specs.List.{filter, flat_map}
use Rattle.log_node.specs.declared.ids.Colours.{Colours}
use Rattle.log_node.specs.Sets.{has, members}
use Rattle.script_text.specs.declared.commands.What.{What}
use Rattle.script_text.specs.declared.commands.What.TheVariants as whats
use Rattle.script_text.specs.declared.script.Command.{Command}
use Rattle.report_text.specs.declared.report.ReplyLine.{ReplyLine}
use Rattle.report_text.specs.declared.report.ClientReport.{ClientReport}
use Rattle.report_text.specs.declared.report.ColumnReport.{ColumnReport}
use Rattle.report_text.specs.declared.report.Report.{Report}
use Rattle.lawful_run.specs.Columns.{column_numbers}
use Rattle.lawful_run.specs.Readings.{NodeTold, Nowhere, UnderAt, StoodAt, Under, Perhaps, told}
use Rattle.load_script.specs.declared.summary.Summary.{Summary}
use Rattle.load_script.specs.Generated.{home_by_turns, rounds_of}

-- the colours to which a command appends a node, where it is a plain append
abbrev pub appended : What → Option Colours
appended (whats.Append colours text) = Some colours
appended _ = None

-- a node is appended
abbrev pub is_node : Option Colours → Bool
is_node None = false
is_node (Some set) = true

-- a node of this colour is
abbrev pub is_of_colour : ℕ → Option Colours → Bool
is_of_colour colour None = false
is_of_colour colour (Some set) = has set colour

-- a node of several colours is, for which a row is begun
abbrev pub is_of_row : Option Colours → Bool
is_of_row None = false
is_of_row (Some set) = nat_lt 1 (length (members set))

-- the command appends a node
abbrev pub appends : Command → Bool
appends command = is_node (appended command.what)

-- the command begins a row
abbrev pub begins_row : Command → Bool
begins_row command = is_of_row (appended command.what)

-- a client of the region appends to the colour
abbrev pub goes_to : ℕ → ℕ → Command → Bool
goes_to region colour command = (home_by_turns command.client == region) && is_of_colour colour (appended command.what)

-- how many commands append to the colour in the region
abbrev pub length_of : List Command → ℕ × ℕ → ℕ
length_of commands column = length (filter (goes_to column.0 column.1) commands)

-- What the commands of a load of so many rounds come to: how long the own lines are, by region and then colour, how
-- many nodes are appended, and how many rows are begun.
abbrev pub summary_of : ℕ → List Command → Summary
summary_of count commands = record {
  count = count;
  lengths = map (length_of commands) (column_numbers 2 4);
  nodes = length (filter appends commands);
  rows = length (filter begins_row commands);
}

-- four lengths, with a space between two
abbrev pub lengths_text : List ℕ → List ℕ
lengths_text lengths =
    decimal (slice_index lengths 0) ++ 32 ∷ decimal (slice_index lengths 1) ++ 32 ∷ decimal (slice_index lengths 2)
    ++ 32 ∷ decimal (slice_index lengths 3)

-- four of some lengths, from a place on
abbrev pub four_from : List ℕ → ℕ → List ℕ
four_from lengths from =
    slice_index lengths from ∷ slice_index lengths (from + 1) ∷ slice_index lengths (from + 2)
    ∷ slice_index lengths (from + 3) ∷ []

-- the four lines that are printed
abbrev pub summary_text : Summary → List ℕ
summary_text s =
    codes "load " ++ decimal s.count
    ++ codes "\neast " ++ lengths_text (four_from s.lengths 0) ++ codes "\nwest " ++ lengths_text
    (four_from s.lengths 4)
    ++ codes "\nnodes " ++ decimal s.nodes ++ codes " rows " ++ decimal s.rows ++ codes "\n"

-- the summary of a load of so many rounds
abbrev pub load_summary : ℕ → Summary
load_summary count = summary_of count (rounds_of count count)

-- an answer tells that a node stands
abbrev pub tells_node : NodeTold → Bool
tells_node Nowhere = false
tells_node (UnderAt stamp points) = true
tells_node (StoodAt points) = true
tells_node (Under stamp) = true
tells_node Perhaps = false

-- how many replies tell that a node stands
abbrev pub nodes_told : Report → ℕ
nodes_told report = length (filter (λ (r : ReplyLine). tells_node (told r.answer))
    (flat_map (λ (c : ClientReport). c.replies) report.clients))

-- What the report of a load of so many rounds shows: how long its closing lines are, how many replies tell of a node, and
-- how many rows were begun.
abbrev pub shown_summary : ℕ → Report → Summary
shown_summary count report = record {
  count = count;
  lengths = map (λ (c : ColumnReport). length c.line) report.columns;
  nodes = nodes_told report;
  rows = length report.rows;
}
