-- What it means to do a script's commands in the order of the file, over the world of core steps.
use Rattle.std.specs.Prelude.{◌≡◌, ◌≢◌, Bool, ℕ, List, [], ◌∷◌, ◌++◌, map, Option, Some, None, unwrap_or, slice_get, if◌then◌else◌}
use Rattle.std.specs.List.{All, fold, flat_map, range_with_len, enumerate_from}
use Rattle.log_node.specs.Sets.{members}
use Rattle.log_node.specs.declared.marks.Why.TheVariants.{Memory}
use Rattle.log_node.specs.declared.marks.Mark.TheVariants as marks
use Rattle.log_node.specs.declared.marks.ColourMark.{ColourMark}
use Rattle.log_node.specs.Standings.{Standing, queue_of}
use Rattle.tree_fold.specs.Readings.{below_root_of, make_of, remove_of, move_of}
use Rattle.col_core.specs.History.{clock, entries, line}
use Rattle.world_laws.specs.Worlds.{World, cut_after, base_after}
use Rattle.world_laws.specs.Laws.{rows_of_region}
use Rattle.script_text.specs.declared.script.Object.{Object}
use Rattle.script_text.specs.declared.commands.What.{What}
use Rattle.script_text.specs.declared.commands.What.TheVariants as whats
use Rattle.script_text.specs.declared.script.Command.{Command}
use Rattle.script_text.specs.declared.script.Script.{Script}
use Rattle.report_text.specs.declared.report.Answer.{Answer}
use Rattle.report_text.specs.declared.report.Answer.TheVariants as answers
use Rattle.report_text.specs.declared.report.Ended.TheVariants as ends
use Rattle.report_text.specs.declared.report.RaisePiece.{RaisePiece}
use Rattle.report_text.specs.declared.report.SyncPiece.{SyncPiece}
use Rattle.report_text.specs.declared.report.ReplyLine.{ReplyLine}
use Rattle.report_text.specs.declared.report.ClientReport.{ClientReport}
use Rattle.report_text.specs.declared.report.RowReport.{RowReport}
use Rattle.report_text.specs.declared.report.ColumnReport.{ColumnReport}
use Rattle.report_text.specs.declared.report.Report.{Report}
use Rattle.lawful_run.specs.Columns.{row_report}
use Rattle.script_meaning.specs.States.{State, opening, Grants, all_granted, answered, kind_in}
use Rattle.script_meaning.specs.Appends.{stopped}
use Rattle.script_meaning.specs.Moves.{synced, pulled, trimmed}
use Rattle.script_meaning.specs.Stamped.{scanned}
use Rattle.script_meaning.specs.Objects.{caller_in, refusing_home, appended_said}
use Rattle.script_meaning.specs.Dequeues.{dequeued}
use Rattle.script_meaning.specs.Gets.{got, got_keys}
use Rattle.script_meaning.specs.Transactions.{read_in, committed}
use Rattle.script_meaning.specs.Guards.{appended_next}
use Rattle.script_meaning.specs.Parts.{decided}
use Rattle.script_meaning.specs.Trees.{changed, names_listed}

-- The state after a command that was granted memory before it did anything. The last row is that of all commands which append
-- and are answered by where their node stands.
abbrev pub done_one : List Object → Grants → State → Command → What → State
done_one objects grants state command (whats.Stop steps colours text) = stopped grants state command colours text steps
done_one objects grants state command (whats.Sync colour) = synced state command colour
done_one objects grants state command (whats.Scan colours) = scanned grants state command (members colours)
done_one objects grants state command (whats.Pull region colour) = pulled grants state command region colour
done_one objects grants state command (whats.Trim colour) = trimmed state command colour
done_one objects grants state command (whats.Get object key) = got grants state command (kind_in objects object) key
done_one objects grants state command (whats.GetAll object keys) =
    got_keys objects grants state command object keys
done_one objects grants state command (whats.Read object keys) = read_in objects grants state command object keys
done_one objects grants state command (whats.Commit object pairs) =
    committed objects grants state command object pairs
done_one objects grants state command (whats.Deq object) = dequeued objects grants state command object
done_one objects grants state command (whats.Only colour text) = appended_next state command colour text
done_one objects grants state command (whats.Mk object path value) =
    changed objects grants state command object (make_of (below_root_of path) value)
done_one objects grants state command (whats.Rm object path) =
    changed objects grants state command object (remove_of (below_root_of path))
done_one objects grants state command (whats.Mv object source target) =
    changed objects grants state command object (move_of (below_root_of source) (below_root_of target))
done_one objects grants state command (whats.Ls object path) = names_listed objects grants state command object path
done_one objects grants state command (whats.Peek object key) = got grants state command (kind_in objects object) key
done_one objects grants state command (whats.Decide object key) = decided objects grants state command object key
done_one objects grants state command what = appended_said objects grants state command what

-- the same, unless the home of the command's object refuses it
abbrev pub done_from : Option ℕ → List Object → Grants → State → Command → State
done_from None objects grants state command = done_one objects grants state command command.what
done_from (Some home) objects grants state command = answered state command state.world (answers.NotHome home) []

-- The state after a command, by where it finds memory: where it finds none before it does anything it is answered so,
-- and nothing else changes.
abbrev pub done : List Object → Grants → State → Command → State
done objects grants state command =
    if grants.start then done_from (refusing_home (caller_in state.world objects command.client) command.what) objects
    grants state command
    else answered state command state.world answers.NoMemory []

-- the states to which the first commands lead, wherever each finds memory
pub data LeadTo (script : Script) : List Command → State → Type 0 where
  nothing : LeadTo script [] (opening script)
  next : {commands : List Command} {state : State} (command : Command) (grants : Grants)
      → LeadTo script commands state → LeadTo script (commands ++ command ∷ []) (done script.objects grants state command)

-- the column in the end
abbrev pub column_report : Script → World → ℕ → ℕ → ColumnReport
column_report script w region colour =
    let history = w.histories region colour in
    record {
      region = region;
      colour = colour;
      region_name = unwrap_or (slice_get script.regions region) [];
      colour_name = unwrap_or (slice_get script.colours colour) [];
      journal = history;
      clock = clock history;
      line = line history;
      queue = map (λ (s : Standing). record { key = s.key; settled = s.settled }) (queue_of (entries history));
      cut = cut_after region history;
      base = base_after script.shape.regions region history;
    }

-- The report of a state: the replies to each client, the rows that the clients of each region began, and all columns by
-- region and colour.
abbrev pub report_of : Script → State → Report
report_of script state = record {
  version = script.version;
  clients = map (λ (c : ℕ × List ℕ). record { name = c.1; replies = state.replies c.0 })
      (enumerate_from 0 script.clients);
  rows = flat_map (λ region. map (row_report region) (rows_of_region state.world region))
      (range_with_len 0 script.shape.regions);
  columns = flat_map (λ region. map (column_report script state.world region)
      (range_with_len 0 script.shape.colours)) (range_with_len 0 script.shape.regions);
}

-- the report of the commands done one after another, with memory granted everywhere
abbrev pub step_report : Script → Report
step_report script = report_of script (fold (done script.objects all_granted) (opening script) script.commands)

-- the report is that of a state to which the commands lead
pub record IsStepReport (script : Script) (report : Report) : Type 0 where
  pub state : State
  pub leads : LeadTo script script.commands state
  pub shown : report ≡ report_of script state

-- the answer does not tell of want of memory
pub record TellsNoWant (answer : Answer) : Type 0 where
  pub refused : answer ≢ answers.NoMemory
  pub unread : (stamp : ℕ) → answer ≢ answers.UnreadNoMemory stamp
  pub decided : (commits : Bool) (stamp : ℕ) (sync : SyncPiece) (read_stamp : ℕ) (raises : List RaisePiece)
      (syncs : List SyncPiece) → answer ≢ answers.Decided commits stamp sync read_stamp raises syncs ends.NoMemory

-- no reply and no mark tells of want of memory
pub record FindsMemory (report : Report) : Type 0 where
  pub replies : All (λ (c : ClientReport). All (λ (r : ReplyLine). TellsNoWant r.answer) c.replies) report.clients
  pub marks : All (λ (r : RowReport). All (λ (m : ColourMark). m.mark ≢ marks.Fenced Memory) r.marks) report.rows
