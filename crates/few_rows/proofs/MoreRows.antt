-- A lawful run of a script whose clients may begin fewer rows is a lawful run of the script itself, where no client has
-- more commands that may begin a row than those.
use Rattle.std.proofs.Common.{◌≡◌, ℕ, ◌≤◌, List, inl, inr, ap, subst}
use Rattle.col_core.specs.Log.{Log}
use Rattle.script_text.specs.declared.script.Script.{Script}
use Rattle.report_text.specs.declared.report.ReplyLine.{ReplyLine}
use Rattle.report_text.specs.declared.report.ColumnReport.{ColumnReport}
use Rattle.report_text.specs.declared.report.RowReport.{RowReport}
use Rattle.report_text.specs.declared.report.Report.{Report}
use Rattle.lawful_run.specs.Callers.{caller_of, commands_of}
use Rattle.lawful_run.specs.Columns.{IsColumnReport, AreColumns, AreRowReports}
use Rattle.lawful_run.specs.Lawful.{IsClientRun, LeavesOpen, LawfulRun}
use Rattle.script_beside.specs.Begins.{begins_in}
use Rattle.few_rows.specs.Needs.{with_rows, AreEnough}
use Rattle.few_rows.proofs.MoreReplies.{explained_more}

module _ (script : Script) (rows : ℕ) where
  client_more : rows ≤ script.shape.rows → (log : Log) (client : ℕ) (replies : List ReplyLine)
      → begins_in (commands_of script client) ≤ rows → IsClientRun log (with_rows script rows) client replies
      → IsClientRun log script client replies
  client_more few log client replies enough c = record {
    kept = c.kept;
    explained = explained_more log (caller_of script client) rows few enough c.explained;
    made = c.made;
    nodes = c.nodes;
    rows = c.rows;
    row_nodes = c.row_nodes;
  }

  column_more : (log : Log) (column : ColumnReport) → IsColumnReport log (with_rows script rows) column
      → IsColumnReport log script column
  column_more log column c = record {
    history = c.history;
    legal = c.legal;
    makers = c.makers;
    closing = c.closing;
    region_named = c.region_named;
    colour_named = c.colour_named;
  }

  columns_more : (log : Log) (columns : List ColumnReport) → AreColumns log (with_rows script rows) columns
      → AreColumns log script columns
  columns_more log columns c = record { all = c.all; each = λ k d lt. column_more log _ (c.each k d lt) }

  rows_more : (log : Log) (reports : List RowReport) → AreRowReports log (with_rows script rows) reports
      → AreRowReports log script reports
  rows_more log reports r = record {
    all = r.all;
    by_client = r.by_client;
    of_clients = r.of_clients;
    lawful = r.lawful;
  }

  left_more : (log : Log) (report : Report) → LeavesOpen log (with_rows script rows) report
      → LeavesOpen log script report
  left_more log report l = record { ids = l.ids; rows = l.rows }

  run_more : (report : Report) → rows ≤ script.shape.rows
      → ((client : ℕ) → begins_in (commands_of script client) ≤ rows) → LawfulRun (with_rows script rows) report
      → LawfulRun script report
  run_more report few enough run = record {
    log = run.log;
    version = run.version;
    names = run.names;
    clients = λ n c there. client_more few run.log n c.replies (enough n) (run.clients n c there);
    columns = columns_more run.log report.columns run.columns;
    begun = rows_more run.log report.rows run.begun;
    copies = run.copies;
    helpers = run.helpers;
    helped = λ region colour e r in_region in_colour among helps begun step.
        let c = run.helped region colour e r in_region in_colour among helps begun step in
        record { decided = c.decided; open_nowhere = c.open_nowhere };
    left_open = left_more run.log report run.left_open;
  }

-- with as many rows as the script's it is the script
same_script : (script : Script) (rows : ℕ) → rows ≡ script.shape.rows → with_rows script rows ≡ script
same_script script rows same = ap (with_rows script) same

-- a lawful run with fewer rows, which are enough, is one of the script
pub fewer_rows : (script : Script) (rows : ℕ) (report : Report) → AreEnough script rows
    → LawfulRun (with_rows script rows) report → LawfulRun script report
fewer_rows script rows report enough run = elim enough.enough [
  | inl same ↦ subst (λ (s : Script). LawfulRun s report) (same_script script rows same) run
  | inr counts ↦ run_more script rows report enough.few counts run
]
