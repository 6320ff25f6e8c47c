-- A whole report as it is read.
use Rattle.std.specs.Prelude.{Bool, ◌==◌, ◌&&◌, ◌*◌, ℕ, List, [], length, drop, Option, Some, None, if◌then◌else◌}
use Rattle.std.specs.Str.{bytes_eq}
use Rattle.script_text.specs.declared.script.Script.{Script}
use Rattle.report_text.specs.declared.report.ClientReport.{ClientReport}
use Rattle.report_text.specs.declared.report.Report.{Report}
use Rattle.report_text.specs.ReportText.{report_bytes}
use Rattle.report_reading.specs.Known.{Known}
use Rattle.report_reading.specs.Lists.{◌>>=◌, each_at}
use Rattle.report_reading.specs.Pieces.{number_at}
use Rattle.report_reading.specs.ReplyReadings.{client_begins, client_at}
use Rattle.report_reading.specs.RowReadings.{row_begins, row_at}
use Rattle.report_reading.specs.ColumnReadings.{column_begins, column_at}

-- what is known of a report as a whole
abbrev pub known_in : Script → Known
known_in script = record { script = script; many = [] }

-- the report that has these clients, and rows and columns from the bytes
unfoldable pub behind_clients_at : Known → List ClientReport → List ℕ → Option Report
behind_clients_at known clients bytes =
    each_at (λ _ b. row_begins b) (λ _ b. row_at known b) bytes >>= λ rows.
    each_at (λ n _. column_begins known n) (column_at known) rows.1 >>= λ columns.
    Some (record { version = known.script.version; clients = clients; rows = rows.0; columns = columns.0 })

-- the report that the bytes are, if they are one
unfoldable pub candidate_at : Known → List ℕ → Option Report
candidate_at known bytes =
    let version = number_at (drop 7 bytes) in
    each_at (λ n _. client_begins known n) (client_at known) (drop 1 version.1) >>= λ clients.
    behind_clients_at known clients.0 clients.1

-- all clients and all columns of the script are there
abbrev pub has_all : Script → Report → Bool
has_all script report =
    (length report.clients == length script.clients)
    && (length report.columns == length script.regions * length script.colours)

-- the report that the bytes are
unfoldable pub report_at : Script → List ℕ → Option Report
report_at script bytes =
    candidate_at (known_in script) bytes >>= λ report.
    if has_all script report && bytes_eq (report_bytes report) bytes then Some report else None
