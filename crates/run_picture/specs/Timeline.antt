-- The text of a timeline, in SVG: a lane for each client, its commands in the order of the file, and who read what.
use Rattle.std.specs.Prelude.{true, ℕ, ◌+◌, ◌-◌, ◌==◌, min, max, List, [], ◌∷◌, ◌++◌, length, take, Option, Some, None, decimal, codes, if◌then◌else◌}
use Rattle.std.specs.List.{flat_map, enumerate_from}
use Rattle.script_text.specs.declared.commands.What.{What}
use Rattle.script_text.specs.declared.script.Command.{Command}
use Rattle.script_text.specs.declared.script.Script.{Script}
use Rattle.script_text.specs.declared.uses.NodeOf.{NodeOf}
use Rattle.script_text.specs.declared.uses.NodeOf.TheVariants.{NoNode}
use Rattle.script_text.specs.declared.uses.Use.{Use}
use Rattle.script_text.specs.declared.uses.Use.TheVariants.{OfLog}
use Rattle.script_text.specs.Contents.{Said, Nothing}
use Rattle.script_text.specs.Commands.{content_of, node_of, use_of}
use Rattle.report_text.specs.declared.report.Answer.{Answer}
use Rattle.report_text.specs.declared.report.ClientReport.{ClientReport}
use Rattle.report_text.specs.declared.report.Report.{Report}
use Rattle.run_picture.specs.declared.look.TheConstants.{TIMELINE_LEGEND}
use Rattle.run_picture.specs.declared.timeline.TheConstants.{COMMANDS_SHOWN}
use Rattle.run_picture.specs.Pieces.{text_shown, texts_joined}
use Rattle.run_picture.specs.Look.{start_text}
use Rattle.run_picture.specs.Places.{x_of, top_of}
use Rattle.run_picture.specs.Labels.{name_among, heading_label, content_label}
use Rattle.run_picture.specs.Answers.{home_of, answer_label}
use Rattle.run_picture.specs.Arrows.{answer_to, arrows}

-- the commands that are shown: the first ones
abbrev pub shown_of : Script → List Command
shown_of script = take COMMANDS_SHOWN script.commands

-- the number of a command's line, above the lanes
abbrev pub line_text : ℕ × Command → List ℕ
line_text placed =
    texts_joined (codes "<text class='axis' x='" ∷ decimal (x_of placed.0 + 8) ∷ codes "' y='70'>line "
    ∷ decimal placed.1.line ∷ codes "</text>\n" ∷ [])

-- the lane of a client
abbrev pub client_text : Script → ℕ × ClientReport → List ℕ
client_text script placed =
    let region = home_of script (min placed.0 255) in
    texts_joined (codes "<g transform='translate(0," ∷ decimal (top_of placed.0) ∷ codes ")' class='lane r" ∷ decimal region
    ∷ codes "'><use href='#l'/><path class='time' d='M130 30H9999'/><text x='18' y='28'>" ∷ text_shown placed.1.name
    ∷ codes "</text><text x='18' y='46'>in " ∷ text_shown (name_among script.regions region)
    ∷ codes "</text></g>\n" ∷ [])

-- the form of a command's box, by the node that it appends: one that only asks, one that stops halfway, and one that adds a
-- node
abbrev pub form_by : NodeOf → Use → List ℕ
form_by NoNode _ = codes "asks'><use href='#o'/>"
form_by _ (OfLog true) = codes "stops'><use href='#b'/>"
form_by _ _ = codes "adds'><use href='#b'/>"

abbrev pub form_of : What → List ℕ
form_of what = form_by (node_of what) (use_of what)

-- how low its heading stands: higher where content is below
abbrev pub heading_by : Said → ℕ
heading_by Nothing = 22
heading_by _ = 15

abbrev pub heading_y : What → ℕ
heading_y what = heading_by (content_of what)

-- the beginning of a command's box
abbrev pub box_start : Script → ℕ → Command → List ℕ
box_start script place command =
    texts_joined (codes "<svg x='" ∷ decimal (x_of place) ∷ codes "' y='" ∷ decimal (top_of command.client + 12)
    ∷ codes "' width='130' height='36' class='box r" ∷ decimal (home_of script command.client) ∷ codes " "
    ∷ form_of command.what ∷ codes "<svg width='123' height='36'><text x='12' y='" ∷ decimal (heading_y command.what)
    ∷ codes "'>" ∷ [])

-- what a command says
abbrev pub said_text : Script → What → List ℕ
said_text script what =
    heading_label script what ++ texts_joined (codes "</text><text x='12' y='29'>" ∷ []) ++ content_label what

-- the beginning of an answer, below the box
abbrev pub note_start : ℕ → Command → List ℕ
note_start place command =
    texts_joined (codes "</text></svg></svg><svg x='" ∷ decimal (x_of place) ∷ codes "' y='" ∷ decimal (top_of command.client + 50)
    ∷ codes "' width='148' height='18'><text class='note' x='12' y='12'>" ∷ [])

-- how a command was answered; nothing where it was not
abbrev pub answer_text : Script → Report → Command → Option Answer → List ℕ
answer_text script report command None = []
answer_text script report command (Some answer) = answer_label script report (home_of script command.client) answer

-- what it was answered; nothing where there is no answer
abbrev pub told_text : Script → Report → Command → List ℕ
told_text script report command = answer_text script report command (answer_to report command)

-- the box of a command, and below it the answer
abbrev pub point_text : Script → Report → ℕ × Command → List ℕ
point_text script report placed =
    box_start script placed.0 placed.1 ++ said_text script placed.1.what ++ note_start placed.0 placed.1
    ++ told_text script report placed.1 ++ texts_joined (codes "</text></svg>\n" ∷ [])

-- how many commands are left out, below the lanes, and the end
abbrev pub end_text : ℕ → ℕ → List ℕ
end_text lanes more =
    texts_joined (codes "<text x='18' y='" ∷ decimal (top_of lanes + 8) ∷ codes "'>" ∷ decimal more
    ∷ codes " more commands are not shown</text>\n</svg>\n" ∷ [])

-- the same where any are left out
abbrev pub more_text : ℕ → ℕ → List ℕ
more_text lanes more = if more == 0 then texts_joined (codes "</svg>\n" ∷ []) else end_text lanes more

-- the beginning, for these commands and clients
abbrev pub head_text : List Command → List ClientReport → List ℕ
head_text commands clients =
    start_text (max (x_of (length commands)) 640) (top_of (length clients) + 16) TIMELINE_LEGEND.now

-- how many commands of the script are left out where these are shown, and the end
abbrev pub tail_text : Script → List Command → List ClientReport → List ℕ
tail_text script commands clients = more_text (length clients) (length script.commands - length commands)

-- The text with these commands and clients: the lines' numbers, the lanes, the arrows, the boxes over them, and how many
-- commands are left out.
abbrev pub parts_text : Script → Report → List Command → List ClientReport → List ℕ
parts_text script report commands clients =
    head_text commands clients
    ++ flat_map line_text (enumerate_from 0 commands)
    ++ flat_map (client_text script) (enumerate_from 0 clients)
    ++ arrows script report commands
    ++ flat_map (point_text script report) (enumerate_from 0 commands)
    ++ tail_text script commands clients

-- the whole text
abbrev pub timeline_text : Script → Report → List ℕ
timeline_text script report = parts_text script report (shown_of script) report.clients
