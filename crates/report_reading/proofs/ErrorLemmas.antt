-- Where columns are lacking, no report stands there.
use Rattle.std.proofs.Common.{◌≡◌, ℕ, List, Some, refl}
use Rattle.report_text.specs.declared.report.ClientReport.{ClientReport}
use Rattle.report_text.specs.declared.report.RowReport.{RowReport}
use Rattle.report_reading.specs.declared.fault.ReadFault.{ReadFault}
use Rattle.report_reading.specs.declared.fault.ReadFault.TheVariants.{Memory, Form}
use Rattle.report_reading.specs.Known.{Known}
use Rattle.report_reading.specs.Lists.{Lacks, each_at}
use Rattle.report_reading.specs.RowReadings.{row_begins, row_at}
use Rattle.report_reading.specs.ColumnReadings.{column_begins, column_at}
use Rattle.report_reading.specs.ReportReadings.{behind_clients_at}

pub lacks_columns : (known : Known) (clients : List ClientReport) (bytes : List ℕ) (rows : List RowReport) (rest : List ℕ) (e : ReadFault)
    → each_at (λ _ b. row_begins b) (λ _ b. row_at known b) bytes ≡ Some (rows, rest) → Lacks e (each_at (λ n _. column_begins known n) (column_at known) rest)
    → Lacks e (behind_clients_at known clients bytes)
unfolding behind_clients_at
lacks_columns known clients bytes rows rest Memory h lacks = tt
lacks_columns known clients bytes rows rest Form h lacks = rw (h, lacks) refl
