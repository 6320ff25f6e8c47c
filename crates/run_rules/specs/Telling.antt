-- The account that a report tells, computed; what it leaves free are the nodes and what reads found.
use Rattle.std.specs.Prelude.{◌≡◌, ◌≢◌, Bool, false, ℕ, suc, ◌==◌, ◌&&◌, not, nat_le, nat_lt, List, [], ◌∷◌, length, map, Option, Some, None, slice_get, if◌then◌else◌}
use Rattle.std.specs.List.{AllPairs, filter, flat_map, list_any, range_with_len}
use Rattle.log_node.specs.declared.ids.Counts.{Counts}
use Rattle.log_node.specs.declared.ids.Id.{Id}
use Rattle.log_node.specs.declared.node.Node.{Node}
use Rattle.log_node.specs.declared.forms.Version.{Version}
use Rattle.log_node.specs.declared.marks.ColourMark.{ColourMark}
use Rattle.log_node.specs.Order.{same_id}
use Rattle.col_core.specs.declared.Event.{Event}
use Rattle.col_core.specs.declared.Event.TheVariants.{Propose, Settle}
use Rattle.col_core.specs.declared.Entry.{Entry}
use Rattle.col_core.specs.History.{last_stamp}
use Rattle.col_core.specs.Log.{Log, places_of}
use Rattle.col_core.specs.Rows.{BegunRow}
use Rattle.col_core.specs.Keeping.{Kept, nothing_kept, seen_past}
use Rattle.script_text.specs.declared.commands.What.{What}
use Rattle.script_text.specs.declared.commands.What.TheVariants as whats
use Rattle.script_text.specs.declared.script.Command.{Command}
use Rattle.script_text.specs.declared.script.Script.{Script}
use Rattle.log_node.specs.Sets.{set_of}
use Rattle.log_node.specs.Vectors.{zeros}
use Rattle.report_text.specs.declared.report.Answer.{Answer}
use Rattle.report_text.specs.declared.report.Answer.TheVariants as answers
use Rattle.report_text.specs.declared.report.KeyAnswer.{KeyAnswer}
use Rattle.report_text.specs.declared.report.ReplyLine.{ReplyLine}
use Rattle.report_text.specs.declared.report.ClientReport.{ClientReport}
use Rattle.report_text.specs.declared.report.RowReport.{RowReport}
use Rattle.report_text.specs.declared.report.ColumnReport.{ColumnReport}
use Rattle.report_text.specs.declared.report.Report.{Report}
use Rattle.lawful_run.specs.Callers.{Caller, caller_of, commands_of}
use Rattle.lawful_run.specs.Reads.{events_until}
use Rattle.run_rules.specs.Told.{Untold, Step, Account, AreKeysFound, kept_past}
use Rattle.run_rules.specs.Printed.{printed_all}
use Rattle.lawful_run.specs.Refusals.{kept_before}

-- the journal of the first column with these numbers; nothing where there is none
abbrev pub journal_among : List ColumnReport → ℕ → ℕ → List Entry
journal_among [] region colour = []
journal_among (c ∷ cs) region colour =
    if (c.region == region) && (c.colour == colour) then c.journal else journal_among cs region colour

-- the event proposes or settles the id
abbrev pub is_step_of : Id → Event → Bool
is_step_of id (Propose other _ _) = same_id id other
is_step_of id (Settle other _) = same_id id other
is_step_of id _ = false

-- such an event is there
abbrev pub is_step_at : Id → Option Entry → Bool
is_step_at id None = false
is_step_at id (Some e) = is_step_of id e.event

-- it is one of them
abbrev pub is_among : ℕ → List ℕ → Bool
is_among place places = list_any (λ p. p == place) places

-- the places of a client's own steps of an id, but for those that it shows
abbrev pub step_places : ℕ → Id → List ℕ → List Entry → List ℕ
step_places client id shown history =
    filter (λ p. is_step_at id (slice_get history p) && not (is_among p shown)) (places_of client history)

-- the places of a client's own events of a column that no command made before, up to one
abbrev pub made_between : Log → Caller → Kept → ℕ → ℕ → ℕ → List ℕ
made_between log caller kept region colour place =
    filter (λ p. nat_le (seen_past 0 (kept.made region colour)) p && nat_lt p place)
    (places_of caller.client (log.histories region colour))

-- what a pull gave too low: all that it made before its give
abbrev pub low_told : Log → Caller → Kept → What → Answer → List ℕ
low_told log caller kept (whats.Pull region colour) (answers.Pulled count give carry) =
    made_between log caller kept region colour (events_until give)
low_told log caller kept _ _ = []

-- the keys that an answer shows, of which nobody is named as the writer
abbrev pub unnamed : Answer → List Version
unnamed (answers.GotKeys stamp shown raises syncs) = map (λ (k : KeyAnswer). record { key = k.key; writer = None }) shown
unnamed _ = []

-- What a report tells of what a reply leaves out, but for who wrote what reads found. A place that one of the client's replies
-- prints, as these do by column, is that reply's, and of no append's own steps.
abbrev pub untold_told : Log → Caller → (ℕ → ℕ → List ℕ) → Kept → What → Answer → Untold
untold_told log caller shown kept what answer = record {
  places = λ colour. step_places caller.client (record { client = caller.client; count = kept.ids })
      (shown caller.own colour) (log.histories caller.own colour);
  too_low = low_told log caller kept what answer;
  found = unnamed answer;
}

-- a step of a client that kept this before it
abbrev pub step_of : Log → Caller → (ℕ → ℕ → List ℕ) → Kept → Command → ReplyLine → Step
step_of log caller shown kept command reply = record {
  command = command;
  reply = reply;
  kept = kept;
  untold = untold_told log caller shown (kept_before command.what kept) command.what reply.answer;
}

-- the steps of commands with their replies, one after another
abbrev pub steps_of : Log → Caller → (ℕ → ℕ → List ℕ) → Kept → List Command → List ReplyLine → List Step
steps_of log caller shown kept [] replies = []
steps_of log caller shown kept (c ∷ cs) [] = []
steps_of log caller shown kept (c ∷ cs) (r ∷ rs) =
    let step = step_of log caller shown kept c r in step ∷ steps_of log caller shown (kept_past log caller step) cs rs

-- what is kept behind them
abbrev pub last_of_steps : Log → Caller → (ℕ → ℕ → List ℕ) → Kept → List Command → List ReplyLine → Kept
last_of_steps log caller shown kept [] replies = kept
last_of_steps log caller shown kept (c ∷ cs) [] = kept
last_of_steps log caller shown kept (c ∷ cs) (r ∷ rs) =
    last_of_steps log caller shown (kept_past log caller (step_of log caller shown kept c r)) cs rs

-- what an event that proposes an id tells of its node: the floor, and the wants of the column's colour
abbrev pub proposal_or : Id → Event → Option (ℕ × Counts) → Option (ℕ × Counts)
proposal_or id (Propose other floor wants) later = if same_id id other then Some (floor, wants) else later
proposal_or id _ later = later

-- the first such event of a column
abbrev pub proposal_in : Id → List Entry → Option (ℕ × Counts)
proposal_in id [] = None
proposal_in id (e ∷ es) = proposal_or id e.event (proposal_in id es)

abbrev pub floor_or : Option (ℕ × Counts) → ℕ → ℕ
floor_or None later = later
floor_or (Some told) later = told.0

-- the floor that the proposals of an id in these columns of a region tell; where there is none, one that leaves no stamp
abbrev pub floor_told : Id → (ℕ → List Entry) → List ℕ → ℕ
floor_told id histories [] = last_stamp
floor_told id histories (c ∷ cs) = floor_or (proposal_in id (histories c)) (floor_told id histories cs)

abbrev pub wants_or : Option (ℕ × Counts) → Counts
wants_or None = zeros
wants_or (Some told) = told.1

abbrev pub marked_colours : List ColourMark → List ℕ
marked_colours marks = map (λ (m : ColourMark). m.colour) marks

-- a node with what a row shows and proposals of its id tell, and no text
abbrev pub bare_node : (ℕ → ℕ → List Entry) → RowReport → Node
bare_node histories r = record {
  id = r.id;
  region = r.region;
  colours = set_of (marked_colours r.marks);
  text = [];
  floor = floor_told r.id (histories r.region) (marked_colours r.marks);
  wants = map (λ c. wants_or (proposal_in r.id (histories r.region c))) (marked_colours r.marks);
  row = Some r.row;
}

-- the node with a row's id, where there is one
abbrev pub node_or : (ℕ → ℕ → List Entry) → RowReport → Option Node → Node
node_or histories r None = bare_node histories r
node_or histories r (Some node) = if same_id node.id r.id then node else bare_node histories r

-- a row, with its node among those of its client
abbrev pub row_of : (ℕ → ℕ → List Entry) → (ℕ → List Node) → RowReport → BegunRow
row_of histories nodes r = record {
  row = r.row;
  node = node_or histories r (slice_get (nodes r.id.client) r.id.count);
  marks = r.marks;
  last = r.last;
}

abbrev pub is_in : ℕ → RowReport → Bool
is_in region r = r.region == region

-- the log of a report, where clients appended these nodes
abbrev pub log_of : Report → (ℕ → List Node) → Log
log_of report nodes = record {
  histories = journal_among report.columns;
  nodes = nodes;
  rows = λ region. map (row_of (journal_among report.columns) nodes) (filter (is_in region) report.rows);
}

abbrev pub replies_in : Option ClientReport → List ReplyLine
replies_in None = []
replies_in (Some shown) = shown.replies

abbrev pub replies_to : Report → ℕ → List ReplyLine
replies_to report client = replies_in (slice_get report.clients client)

-- the places that a client's replies print, by column
abbrev pub places_shown : Script → Report → ℕ → ℕ → ℕ → List ℕ
places_shown script report client =
    printed_all (caller_of script client).own (commands_of script client) (replies_to report client)

-- no nodes of any client: a row then has its bare node
abbrev pub no_nodes : ℕ → List Node
no_nodes client = []

-- the account that script and report tell, where clients appended these nodes
abbrev pub account_of : Script → Report → (ℕ → List Node) → Account
account_of script report nodes = record {
  log = log_of report nodes;
  steps = λ n. steps_of (log_of report nodes) (caller_of script n) (places_shown script report n) nothing_kept
      (commands_of script n) (replies_to report n);
  last = λ n. last_of_steps (log_of report nodes) (caller_of script n) (places_shown script report n) nothing_kept
      (commands_of script n) (replies_to report n);
}

-- WITH WHAT READS FOUND

-- a step by which a read found this
abbrev pub step_finding : Log → Caller → (ℕ → ℕ → List ℕ) → List Version → Kept → Command → ReplyLine → Step
step_finding log caller shown found kept command reply = record {
  command = command;
  reply = reply;
  kept = kept;
  untold = record (untold_told log caller shown (kept_before command.what kept) command.what reply.answer) { found = found };
}

-- the steps of commands with their replies, where the reads of these, by their number, found this
abbrev pub steps_finding : Log → Caller → (ℕ → ℕ → List ℕ) → (ℕ → List Version) → Kept → List Command → List ReplyLine
    → List Step
steps_finding log caller shown found kept [] replies = []
steps_finding log caller shown found kept (c ∷ cs) [] = []
steps_finding log caller shown found kept (c ∷ cs) (r ∷ rs) =
    let step = step_finding log caller shown (found 0) kept c r in
    step ∷ steps_finding log caller shown (λ k. found (suc k)) (kept_past log caller step) cs rs

-- what is kept behind them
abbrev pub last_finding : Log → Caller → (ℕ → ℕ → List ℕ) → (ℕ → List Version) → Kept → List Command → List ReplyLine → Kept
last_finding log caller shown found kept [] replies = kept
last_finding log caller shown found kept (c ∷ cs) [] = kept
last_finding log caller shown found kept (c ∷ cs) (r ∷ rs) =
    last_finding log caller shown (λ k. found (suc k))
    (kept_past log caller (step_finding log caller shown (found 0) kept c r)) cs rs

-- The account that script and report tell, where clients appended these nodes, and reads found this, by the client and the
-- number of its command.
abbrev pub account_with : Script → Report → (ℕ → List Node) → (ℕ → ℕ → List Version) → Account
account_with script report nodes found = record {
  log = log_of report nodes;
  steps = λ n. steps_finding (log_of report nodes) (caller_of script n) (places_shown script report n) (found n) nothing_kept
      (commands_of script n) (replies_to report n);
  last = λ n. last_finding (log_of report nodes) (caller_of script n) (places_shown script report n) (found n) nothing_kept
      (commands_of script n) (replies_to report n);
}

-- what these replies show of keys is what their reads found, whoever wrote there
abbrev pub FindKeys : (ℕ → List Version) → List ReplyLine → Type 0
FindKeys found [] = Unit {0}
FindKeys found (r ∷ rs) = AreKeysFound (found 0) r.answer × FindKeys (λ k. found (suc k)) rs

-- Each command has a reply, no two columns have the same numbers, and rows stand by region.
pub record IsWellFormed (script : Script) (report : Report) : Type 0 where
  pub replied : (n : ℕ) (c : ClientReport) → slice_get report.clients n ≡ Some c
      → length (commands_of script n) ≡ length c.replies
  pub apart : AllPairs (λ (c d : ColumnReport). c.region ≡ d.region → c.colour ≢ d.colour) report.columns
  pub rows : report.rows ≡ flat_map (λ region. filter (is_in region) report.rows) (range_with_len 0 script.shape.regions)
