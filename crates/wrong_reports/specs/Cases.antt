-- The small scripts, and the pieces of their reports. Reports are written above each as they print.
use Rattle.std.specs.Prelude.{ℕ, List, [], ◌∷◌, length, take, codes, if◌then◌else◌, ◌==◌}
use Rattle.log_node.specs.declared.ids.Id.{Id}
use Rattle.log_node.specs.declared.ids.Key.{Key}
use Rattle.log_node.specs.declared.ids.Counts.{Counts}
use Rattle.log_node.specs.declared.ids.Colours.{Colours}
use Rattle.log_node.specs.declared.node.At.TheVariants.{Event}
use Rattle.col_core.specs.declared.Event as events
use Rattle.col_core.specs.declared.Event.TheVariants as made
use Rattle.col_core.specs.declared.Entry.{Entry}
use Rattle.script_text.specs.declared.script.Object.{Object}
use Rattle.script_text.specs.declared.commands.What.{What}
use Rattle.script_text.specs.declared.commands.Word.{Word}
use Rattle.script_text.specs.declared.script.Command.{Command}
use Rattle.script_text.specs.declared.script.Script.{Script}
use Rattle.report_text.specs.declared.report.Answer.{Answer}
use Rattle.report_text.specs.declared.report.PointPiece.{PointPiece}
use Rattle.report_text.specs.declared.report.SyncPiece.{SyncPiece}
use Rattle.report_text.specs.declared.report.QueueKey.{QueueKey}
use Rattle.report_text.specs.declared.report.ReplyLine.{ReplyLine}
use Rattle.report_text.specs.declared.report.ClientReport.{ClientReport}
use Rattle.report_text.specs.declared.report.RowReport.{RowReport}
use Rattle.report_text.specs.declared.report.ColumnReport.{ColumnReport}
use Rattle.report_text.specs.declared.report.Report.{Report}
use Rattle.lawful_run.specs.Lawful.{LawfulRun}

-- a script and a report
pub record Case : Type 0 where
  pub script : Script
  pub report : Report

-- the report is that of no lawful run of the script
abbrev pub IsUnlawful : Case → Type 0
IsUnlawful case = LawfulRun case.script case.report → ⊥

-- THINGS, in the order in which every script here names them
abbrev pub a : ℕ
a = 0

-- the client b
abbrev pub b : ℕ
b = 1

-- the region e
abbrev pub e : ℕ
e = 0

-- the region w
abbrev pub w : ℕ
w = 1

-- the colour x
abbrev pub x : ℕ
x = 0

-- the colour y
abbrev pub y : ℕ
y = 1

-- the colour x alone
abbrev pub on_x : Colours
on_x = record { 0 = 1 }

-- the colour y alone
abbrev pub on_y : Colours
on_y = record { 0 = 2 }

-- both colours
abbrev pub on_both : Colours
on_both = record { 0 = 3 }

-- the id of a client's node
abbrev pub id : ℕ → ℕ → Id
id client count = record { client = client; count = count }

-- the key of an id under a stamp
abbrev pub key : ℕ → Id → Key
key stamp id = record { stamp = stamp; id = id }

-- counts of e and of w
abbrev pub counts : ℕ → ℕ → Counts
counts of_e of_w = record { 0 = of_e ∷ of_w ∷ 0 ∷ 0 ∷ [] }

-- SCRIPTS: so many regions and colours, each client's region, objects and commands; a client may begin one row
abbrev pub script : ℕ → ℕ → List ℕ → List Object → List Command → Script
script regions colours homes objects commands = record {
  version = 1;
  shape = record { regions = regions; colours = colours; homes = homes; rows = 1 };
  regions = take regions (codes "e" ∷ codes "w" ∷ []);
  colours = take colours (codes "x" ∷ codes "y" ∷ []);
  clients = take (length homes) (codes "a" ∷ codes "b" ∷ []);
  objects = objects;
  commands = commands;
}

-- the client a of the region e, with the colour x
abbrev pub alone : List Command → Script
alone commands = script 1 1 (e ∷ []) [] commands

-- the clients a and b of the region e, with the colours x and y
abbrev pub together : List Command → Script
together commands = script 1 2 (e ∷ e ∷ []) [] commands

-- the clients a of the region e and b of the region w, with the colour x
abbrev pub apart : List Command → Script
apart commands = script 2 1 (e ∷ w ∷ []) [] commands

-- a command in a line
abbrev pub asks : ℕ → ℕ → What → Command
asks line client what = record { line = line; client = client; what = what }

-- REPLIES
abbrev pub replies : ℕ → Word → Answer → ReplyLine
replies line word answer = record { line = line; word = word; answer = answer; nodes = [] }

-- replies to the client a, who is alone
abbrev pub to_a : List ReplyLine → List ClientReport
to_a lines = record { name = codes "a"; replies = lines } ∷ []

-- replies to the clients a and b
abbrev pub to_both : List ReplyLine → List ReplyLine → List ClientReport
to_both of_a of_b = record { name = codes "a"; replies = of_a } ∷ record { name = codes "b"; replies = of_b } ∷ []

-- the event at the place entered the node, which stands at the position
abbrev pub point : ℕ → ℕ → ℕ → PointPiece
point colour place position = record { colour = colour; at = Event place; position = position }

-- after so many events the snapshot is this
abbrev pub look : ℕ → ℕ → Counts → SyncPiece
look colour events snapshot = record { colour = colour; events = events; counts = snapshot }

-- EVENTS
abbrev pub by : ℕ → events.Event → ℕ → Entry
by client event stamp = record { by = client; event = event; stamp = stamp }

-- the client enters the node of one colour over the floor, with no wants
abbrev pub enters : ℕ → Id → ℕ → ℕ → Entry
enters client id floor stamp = by client (made.Single id floor (counts 0 0)) stamp

-- the client proposes a node of several colours over the floor, with no wants
abbrev pub proposes : ℕ → Id → ℕ → ℕ → Entry
proposes client id floor stamp = by client (made.Propose id floor (counts 0 0)) stamp

-- the client trims below these counts
abbrev pub trims : ℕ → Counts → Entry
trims client below = by client (made.Trim below) 0

-- COLUMNS: the column, its events, and its closing line
abbrev pub column : ℕ → ℕ → List Entry → ℕ → List Key → List QueueKey → Counts → Counts → ColumnReport
column region colour journal clock line queue cut base = record {
  region = region;
  colour = colour;
  region_name = if region == e then codes "e" else codes "w";
  colour_name = if colour == x then codes "x" else codes "y";
  journal = journal;
  clock = clock;
  line = line;
  queue = queue;
  cut = cut;
  base = base;
}

-- a column of no events
abbrev pub empty : ℕ → ℕ → ColumnReport
empty region colour = column region colour [] 0 [] [] (counts 0 0) (counts 0 0)

-- a report of clients, rows and columns
abbrev pub shows : List ClientReport → List RowReport → List ColumnReport → Report
shows clients rows columns = record { version = 1; clients = clients; rows = rows; columns = columns }
