-- The lines of rows: what is printed is read again, and what is read fits.
use Rattle.std.proofs.Common.{◌≡◌, ℕ, true, false, eqb, List, ◌∷◌, ◌++◌, drop, Some, refl, ap, ◌∙◌, append_assoc, arith}
use Rattle.std.specs.Prelude.{decimal, codes}
use Rattle.std.specs.List.{flat_map}
use Rattle.log_node.specs.declared.ids.Row.{Row}
use Rattle.log_node.specs.declared.marks.Why.{Why}
use Rattle.log_node.specs.declared.marks.Why.TheVariants.{Memory, StampEnd}
use Rattle.log_node.specs.declared.marks.Mark.{Mark}
use Rattle.log_node.specs.declared.marks.Mark.TheVariants as marks
use Rattle.log_node.specs.declared.marks.ColourMark.{ColourMark}
use Rattle.log_node.specs.declared.marks.Outcome.{Outcome}
use Rattle.log_node.specs.declared.marks.Outcome.TheVariants.{Open, Gone, Final}
use Rattle.script_text.specs.declared.script.Script.{Script}
use Rattle.report_text.specs.declared.report.RowReport.{RowReport}
use Rattle.report_text.specs.declared.report.Report.{Report}
use Rattle.report_text.specs.Names.{region_name, colour_name, client_name}
use Rattle.report_text.specs.Pieces.{line_end, id_text}
use Rattle.report_text.specs.Rows.{why_text, mark_text, colour_mark_text, outcome_text, row_number_text, row_line}
use Rattle.report_reading.specs.Known.{Known}
use Rattle.report_reading.specs.Meant.{IsSmall, IsClient, IsMark, IsColourMark, IsOutcome, IsRow}
use Rattle.report_reading.specs.Pieces.{word_at}
use Rattle.report_reading.specs.RowReadings.{why_at, mark_at, mark_begins, colour_mark_at, outcome_at, row_number_at, row_at}
use Rattle.report_reading.proofs.WordLemmas.{ends, number_again, small_again, decimal_front, digit_unlike, behind_word_is}
use Rattle.report_reading.proofs.PieceLemmas.{AreNamed, said_again, id_again}
use Rattle.report_reading.proofs.Joins.{join7}
use Rattle.report_reading.proofs.ListAgain.{IsReadAgain, all_end, all_again, in_places}

pub why_again : (why : Why) (rest : List ℕ) → why_at (why_text why ++ rest) ≡ (why, rest)
unfolding why_at
why_again Memory rest = refl
why_again StampEnd rest = refl

mark_again : (mark : Mark) (rest : List ℕ) → IsMark mark → ends rest ≡ true → mark_at (mark_text mark ++ rest) ≡ (mark, rest)
unfolding mark_at why_at
mark_again marks.None rest is e = refl
mark_again (marks.Number n) rest is e =
    let digit = decimal_front n rest is in
    rw (digit_unlike _ 45 digit refl, digit, number_again n rest is e) refl
mark_again (marks.Fenced Memory) rest is e = refl
mark_again (marks.Fenced StampEnd) rest is e = refl

colour_mark_again : (script : Script) (report : Report) (m : ColourMark) (rest : List ℕ) → AreNamed script report → IsColourMark script m → ends rest ≡ true → colour_mark_at script (colour_mark_text report m ++ rest) ≡ (m, rest)
unfolding colour_mark_at
colour_mark_again script report m rest named is e =
    ap (colour_mark_at script) (append_assoc (colour_name report m.colour) (61 ∷ mark_text m.mark) rest)
    ∙ rw (said_again script.colours (colour_name report) m.colour (61 ∷ (mark_text m.mark ++ rest)) named.colours is.colour refl, mark_again m.mark rest is.mark e) refl

mark_begins_so : (script : Script) (report : Report) (m : ColourMark) (rest : List ℕ) → AreNamed script report → IsColourMark script m → mark_begins (32 ∷ (colour_mark_text report m ++ rest)) ≡ true
mark_begins_so script report m rest named is =
    let name : colour_name report m.colour ≡ _ = named.colours.said_so m.colour is.colour in
    ap (λ w. mark_begins (32 ∷ w)) (append_assoc (colour_name report m.colour) (61 ∷ mark_text m.mark) rest ∙ ap (λ w. w ++ (61 ∷ (mark_text m.mark ++ rest))) name)
    ∙ ap (λ b. eqb b 61) (behind_word_is _ 61 (mark_text m.mark ++ rest) (named.colours.words m.colour is.colour) refl)

-- marks, each behind a space
marks_again : (script : Script) (report : Report) → AreNamed script report → IsReadAgain (λ _ b. mark_begins b) (λ _ b. Some (colour_mark_at script (drop 1 b))) (λ _ (m : ColourMark). 32 ∷ colour_mark_text report m) (λ _. IsColourMark script) (λ b. ends b ≡ true)
marks_again script report named = record {
  some = λ n m is. omega arith;
  begin = λ n m rest is e. mark_begins_so script report m rest named is;
  again = λ n m rest is e. ap Some (colour_mark_again script report m rest named is e);
  end = λ n m rest is e. refl;
}

pub outcome_again : (outcome : Outcome) (rest : List ℕ) → IsOutcome outcome → ends rest ≡ true → outcome_at (outcome_text outcome ++ rest) ≡ (outcome, rest)
unfolding outcome_at
outcome_again Open rest is e = refl
outcome_again (Final n) rest is e = rw (number_again n rest is e) refl
outcome_again (Gone why) rest is e = rw (why_again why rest) refl

row_number_again : (script : Script) (report : Report) (row : Row) (rest : List ℕ) → AreNamed script report → IsClient script row.client → IsSmall row.number → ends rest ≡ true → row_number_at script (row_number_text report row ++ rest) ≡ (row, rest)
unfolding row_number_at
row_number_again script report row rest named client number e =
    ap (row_number_at script) (append_assoc (client_name report row.client) (46 ∷ decimal row.number) rest)
    ∙ rw (said_again script.clients (client_name report) row.client (46 ∷ (decimal row.number ++ rest)) named.clients client refl, small_again row.number rest number e) refl

-- behind the marks stands the outcome, which is no mark
outcome_stops : (outcome : Outcome) (rest : List ℕ) → mark_begins (32 ∷ (outcome_text outcome ++ (10 ∷ rest))) ≡ false
unfolding word_at
outcome_stops Open rest = refl
outcome_stops (Final n) rest = refl
outcome_stops (Gone Memory) rest = refl
outcome_stops (Gone StampEnd) rest = refl

pub row_again : (known : Known) (report : Report) (r : RowReport) (rest : List ℕ) → AreNamed known.script report → IsRow known.script r → row_at known (row_line report r ++ rest) ≡ Some (r, rest)
unfolding row_at
row_again known report r rest named is =
    let last = 32 ∷ (outcome_text r.last ++ (10 ∷ rest)) in
    let marks = flat_map (λ (m : ColourMark). 32 ∷ colour_mark_text report m) r.marks in
    let regrouped : row_line report r ++ rest ≡ codes "row " ++ (region_name report r.region ++ (32 ∷ (row_number_text report r.row ++ (32 ∷ (id_text report r.id ++ (marks ++ last)))))) =
    join7 (codes "row ") (region_name report r.region) (32 ∷ row_number_text report r.row) (32 ∷ id_text report r.id) marks (32 ∷ outcome_text r.last) line_end rest in
    let read = all_again _ _ _ _ _ (marks_again known.script report named) r.marks last (in_places (IsColourMark known.script) 0 r.marks is.marks) refl (outcome_stops r.last rest) in
    ap (row_at known) regrouped
    ∙ rw (
      said_again known.script.regions (region_name report) r.region (32 ∷ (row_number_text report r.row ++ (32 ∷ (id_text report r.id ++ (marks ++ last))))) named.regions is.region refl,
      row_number_again known.script report r.row (32 ∷ (id_text report r.id ++ (marks ++ last))) named is.client is.number refl,
      id_again known.script report r.id (marks ++ last) named is.id (all_end _ _ _ _ _ (marks_again known.script report named) r.marks last (in_places (IsColourMark known.script) 1 r.marks is.marks) refl),
      read,
      outcome_again r.last (10 ∷ rest) is.last refl,
    ) refl
