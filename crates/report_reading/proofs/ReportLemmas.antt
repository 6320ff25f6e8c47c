-- A whole report: what is printed is read again.
use Rattle.std.proofs.Common.{◌≡◌, ℕ, suc, ◌+◌, ◌*◌, ◌<◌, false, List, [], ◌∷◌, ◌++◌, length, Option, Some, refl, sym, ap, ◌∙◌, append-nil, arith}
use Rattle.std.specs.Prelude.{decimal, codes}
use Rattle.std.specs.List.{flat_map}
use Rattle.std.proofs.lemmas.Bool.{lt-ltb, le-ltb, eq-eqb}
use Rattle.std.proofs.lemmas.Slice.Eq.{bytes_eq-Decides}
use Rattle.script_text.specs.declared.script.Script.{Script}
use Rattle.report_text.specs.declared.report.ColumnReport.{ColumnReport}
use Rattle.report_text.specs.declared.report.RowReport.{RowReport}
use Rattle.report_text.specs.declared.report.Report.{Report}
use Rattle.report_text.specs.Pieces.{line_end}
use Rattle.report_text.specs.Replies.{client_lines}
use Rattle.report_text.specs.Rows.{row_line}
use Rattle.report_text.specs.Columns.{column_lines}
use Rattle.report_text.specs.ReportText.{version_line, report_bytes}
use Rattle.report_reading.specs.Apart.{AreApart}
use Rattle.report_reading.specs.Known.{Known}
use Rattle.report_reading.specs.Meant.{IsRow, IsColumn, IsClientReport, IsReportOf, AllFrom}
use Rattle.report_reading.specs.RowReadings.{row_begins, row_at}
use Rattle.report_reading.specs.ColumnReadings.{column_begins, column_at}
use Rattle.report_reading.specs.ReportReadings.{known_in, behind_clients_at, candidate_at, report_at}
use Rattle.report_reading.proofs.WordLemmas.{number_again}
use Rattle.report_reading.proofs.Joins.{join3, join4}
use Rattle.report_reading.proofs.PieceLemmas.{AreNamed}
use Rattle.report_reading.proofs.RowLemmas.{row_again}
use Rattle.report_reading.proofs.ColumnLemmas.{column_again}
use Rattle.report_reading.proofs.ReplyLemmas.{EndsClient, clients_again}
use Rattle.report_reading.proofs.NamedLemmas.{named_in}
use Rattle.report_reading.proofs.ListAgain.{IsReadAgain, all_again, in_places}

rows_again : (known : Known) (report : Report) → AreNamed known.script report → IsReadAgain (λ _ b. row_begins b) (λ _ b. row_at known b) (λ _ (r : RowReport). row_line report r) (λ _. IsRow known.script) (λ b. Unit {0})
rows_again known report named = record {
  some = λ n r is. omega arith;
  begin = λ n r rest is e. refl;
  again = λ n r rest is e. row_again known report r rest named is;
  end = λ n r rest is e. tt;
}

columns_again : (known : Known) (report : Report) → AreNamed known.script report
    → IsReadAgain (λ n _. column_begins known n) (column_at known) (λ _ (c : ColumnReport). column_lines report c) (λ n c. (n < length known.script.regions * length known.script.colours) × IsColumn known.script n c) (λ b. Unit {0})
columns_again known report named = record {
  some = λ n c is. omega arith;
  begin = λ n c rest is e. lt-ltb n (length known.script.regions * length known.script.colours) is.0;
  again = λ n c rest is e. column_again known report n c rest named is.1;
  end = λ n c rest is e. tt;
}

-- each place is below the number of all
places_below : {X : Type 0} (P : ℕ → X → Type 0) (most k : ℕ) (xs : List X) → k + length xs ≡ most → AllFrom P k xs → AllFrom (λ n x. (n < most) × P n x) k xs
places_below P most k [] whole all = tt
places_below P most k (x ∷ xs) whole all = ((omega (arith, whole), all.0), places_below P most (suc k) xs (omega (arith, whole)) all.1)

-- behind the clients stands no reply
clients_end : (report : Report) (rows : List RowReport) (columns : List ColumnReport) → EndsClient (flat_map (row_line report) rows ++ (flat_map (column_lines report) columns ++ []))
clients_end report [] [] = (refl, refl)
clients_end report [] (c ∷ columns) = (refl, refl)
clients_end report (r ∷ rows) columns = (refl, refl)

-- behind the rows stands no row
rows_end : (report : Report) (columns : List ColumnReport) → row_begins (flat_map (column_lines report) columns ++ []) ≡ false
rows_end report [] = refl
rows_end report (c ∷ columns) = refl

-- a report, part by part
report_parts : (report : Report) → report_bytes report
    ≡ codes "report " ++ (decimal report.version ++ (10 ∷ (flat_map (client_lines report) report.clients ++ (flat_map (row_line report) report.rows ++ (flat_map (column_lines report) report.columns ++ [])))))
report_parts report =
    let clients = flat_map (client_lines report) report.clients in
    let rows = flat_map (row_line report) report.rows in
    let columns = flat_map (column_lines report) report.columns in
    sym (append-nil (report_bytes report)) ∙ join4 (version_line report.version) clients rows columns []
    ∙ join3 (codes "report ") (decimal report.version) line_end (clients ++ (rows ++ (columns ++ [])))

pub candidate_again : (script : Script) (report : Report) → AreApart script → IsReportOf script report → candidate_at (known_in script) (report_bytes report) ≡ Some report
unfolding candidate_at behind_clients_at
candidate_again script report apart is =
    let known = known_in script in
    let named = named_in script report apart is in
    let columns = flat_map (column_lines report) report.columns ++ [] in
    let rows = flat_map (row_line report) report.rows ++ columns in
    let clients = flat_map (client_lines report) report.clients ++ rows in
    let version = is.version in
    let byte = apart.version in
    let all_clients = is.all_clients in
    let all_columns = is.all_columns in
    ap (candidate_at known) (report_parts report)
    ∙ rw (
      number_again report.version (10 ∷ clients) (omega (arith, version, byte)) refl,
      all_again _ _ _ _ _ (clients_again known report named) report.clients rows (places_below (IsClientReport script) (length script.clients) 0 report.clients (omega (arith, all_clients)) is.clients)
          (clients_end report report.rows report.columns) (le-ltb (length report.clients) (length script.clients) (omega (arith, all_clients))),
      all_again _ _ _ _ _ (rows_again known report named) report.rows columns (in_places (IsRow script) 0 report.rows is.rows) tt (rows_end report report.columns),
      all_again _ _ _ _ _ (columns_again known report named) report.columns [] (places_below (IsColumn script) (length script.regions * length script.colours) 0 report.columns (omega (arith, all_columns)) is.columns)
          tt (le-ltb (length report.columns) (length script.regions * length script.colours) (omega (arith, all_columns))),
    ) (ap (λ n. Some (record { version = n; clients = report.clients; rows = report.rows; columns = report.columns })) (sym is.version))

-- what is printed of a report of the script is read as that report
pub report_again : (script : Script) (report : Report) → AreApart script → IsReportOf script report → report_at script (report_bytes report) ≡ Some report
unfolding report_at
report_again script report apart is = rw (
  candidate_again script report apart is,
  eq-eqb (length report.clients) (length script.clients) is.all_clients,
  eq-eqb (length report.columns) (length script.regions * length script.colours) is.all_columns,
  (bytes_eq-Decides (report_bytes report) (report_bytes report)).1 refl,
) refl

-- a value that was read
abbrev told : Report → Option Report
told report = Some report

same_told : (r s : Report) → told r ≡ told s → r ≡ s
same_told r s e = cc

-- a text is that of one report of a script at most
pub only_report : (script : Script) (r s : Report) → AreApart script → IsReportOf script r → IsReportOf script s → report_bytes r ≡ report_bytes s → r ≡ s
only_report script r s apart is so e = same_told r s (sym (report_again script r apart is) ∙ ap (report_at script) e ∙ report_again script s apart so)
