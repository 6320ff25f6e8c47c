-- What is read is a report of the script, and its text is the bytes.
use Rattle.std.proofs.Common.{◌≡◌, ℕ, ◌*◌, ◌≤◌, Bool, true, false, cond, eqb, ◌&&◌, List, length, take, drop, Option, Some, None, refl, sym, ap, ◌∙◌}
use Rattle.std.specs.Prelude.{IfSome}
use Rattle.std.specs.List.{AllByRecursion}
use Rattle.std.specs.Str.{bytes_eq}
use Rattle.std.proofs.lemmas.Bool.{and_parts, eqb-true}
use Rattle.std.proofs.lemmas.Slice.Eq.{bytes_eq-Decides}
use Rattle.script_text.specs.declared.script.Script.{Script}
use Rattle.script_text.specs.declared.commands.Word.{Word}
use Rattle.script_text.specs.Pieces.{is_digit, is_text, name_of}
use Rattle.report_text.specs.declared.report.Answer.{Answer}
use Rattle.report_text.specs.declared.report.Report.{Report}
use Rattle.report_text.specs.ReportText.{report_bytes}
use Rattle.report_reading.specs.Apart.{AreApart}
use Rattle.report_reading.specs.Answers.{has_answer}
use Rattle.report_reading.specs.Known.{Known, known_of, is_many}
use Rattle.report_reading.specs.Lists.{◌>>=◌, each_at}
use Rattle.report_reading.specs.Meant.{IsRow, IsColumn, IsAnswer, IsShown, IsReply, IsClientReport, IsReportOf, AllFrom}
use Rattle.report_reading.specs.Pieces.{first_of, word_at, number_at, small_at, id_at}
use Rattle.report_reading.specs.RowReadings.{row_begins, row_at}
use Rattle.report_reading.specs.ColumnReadings.{column_begins, column_at}
use Rattle.report_reading.specs.AnswerReadings.{answer_at}
use Rattle.report_reading.specs.ReplyReadings.{line_len, text_at, shown_at, nodes_at, word_named, fitting_answer_at, reply_at, replies_at, client_begins, client_at}
use Rattle.report_reading.specs.ReportReadings.{known_in, behind_clients_at, candidate_at, has_all, report_at}
use Rattle.report_reading.proofs.FitLemmas.{number_fits, small_fits, id_fits}
use Rattle.report_reading.proofs.ListAgain.{Fits, fits_then, each_fits}
use Rattle.report_reading.proofs.FitLaws.{all_fits, row_fits, column_fits}
use Rattle.report_reading.proofs.FitAnswers.{answer_fits}
use Rattle.report_reading.proofs.ReportLemmas.{report_again}

-- what is read behind a value that was found
found_then : {A B : Type 0} (Q : B → Type 0) (found : Option A) (f : A → Option (B × List ℕ)) → ((x : A) → Fits Q (f x)) → Fits Q (found >>= f)
found_then Q None f q = tt
found_then Q (Some x) f q = q x

-- what was tested and passed
tested : {A : Type 0} (P : A → Type 0) (b : Bool) (read : A × List ℕ) → (b ≡ true → P read.0) → Fits P (cond b (Some read) None)
tested P true read p = p refl
tested P false read p = tt

-- ---- replies

text_fits : (bytes : List ℕ) → Fits (λ t. is_text t ≡ true) (text_at bytes)
unfolding text_at
text_fits bytes = tested (λ t. is_text t ≡ true) (is_text (take (line_len bytes) bytes)) (take (line_len bytes) bytes, drop (line_len bytes) bytes) (λ e. e)

shown_fits : (known : Known) (bytes : List ℕ) → AreApart known.script → Fits (IsShown known.script) (shown_at known bytes)
unfolding shown_at
shown_fits known bytes apart =
    let id = id_at known.script (drop 2 bytes) in
    let stamp = number_at (drop 1 id.1) in
    fits_then (λ t. is_text t ≡ true) (IsShown known.script) (text_at (drop 1 stamp.1)) _ (text_fits (drop 1 stamp.1))
    (λ text is. record { key = record { id = id_fits known.script (drop 2 bytes) apart; stamp = number_fits (drop 1 id.1) }; needs = refl; text = is; bare = refl })

-- an answer that the word has
abbrev FitsWord : Known → Bool → Word → Answer → Type 0
FitsWord known many word answer = (has_answer many word answer ≡ true) × IsAnswer known.script answer

fitting_fits : (known : Known) (many : Bool) (word : Word) (bytes : List ℕ) → AreApart known.script → Fits (FitsWord known many word) (fitting_answer_at known many word bytes)
unfolding fitting_answer_at
fitting_fits known many word bytes apart =
    fits_then (IsAnswer known.script) (FitsWord known many word) (answer_at known many word bytes) _ (answer_fits known many word bytes apart)
    (λ answer is. tested (FitsWord known many word) (has_answer many word answer.0) answer (λ has. (has, is)))

reply_fits : (known : Known) (place : ℕ) (bytes : List ℕ) → AreApart known.script → Fits (IsReply known place) (reply_at known place bytes)
unfolding reply_at
reply_fits known place bytes apart =
    let line = small_at bytes in
    let word = word_at (drop 1 line.1) in
    found_then (IsReply known place) (word_named word.0) _ (λ named.
    fits_then (FitsWord known (is_many known place) named) (IsReply known place) (fitting_answer_at known (is_many known place) named (drop 1 word.1)) _ (fitting_fits known (is_many known place) named (drop 1 word.1) apart)
    (λ answer is. fits_then (AllByRecursion (IsShown known.script)) (IsReply known place) (nodes_at known (drop 1 answer.1)) _
    (all_fits (λ _ b. eqb (first_of b) 43) (λ _ b. shown_at known b) (IsShown known.script) (λ n b. shown_fits known b apart) (drop 1 answer.1))
    (λ nodes all. record { line = small_fits bytes; has = is.0; answer = is.1; nodes = all })))

client_fits : (known : Known) (place : ℕ) (bytes : List ℕ) → AreApart known.script → Fits (IsClientReport known.script place) (client_at known place bytes)
unfolding client_at
client_fits known place bytes apart =
    let own = known_of known.script place in
    let name = name_of known.script.clients place in
    let rest = drop 1 (drop (length name) (drop 7 bytes)) in
    fits_then (λ rs. AllFrom (IsReply own) 0 rs × (length rs ≤ length rest)) (IsClientReport known.script place) (replies_at own rest) _
    (each_fits (λ _ b. is_digit (first_of b)) (reply_at own) (IsReply own) (λ n b here. reply_fits own n b apart) rest)
    (λ replies all. record { name = refl; replies = all.0 })

-- ---- the whole

-- what is read fits but for how many clients and columns there are
record FitsAll (script : Script) (report : Report) : Type 0 where
  version : report.version ≡ script.version
  clients : AllFrom (IsClientReport script) 0 report.clients
  rows : AllByRecursion (IsRow script) report.rows
  columns : AllFrom (IsColumn script) 0 report.columns

-- what is read behind something that fits, at the end
ends_then : {A B : Type 0} (P : A → Type 0) (Q : B → Type 0) (read : Option (A × List ℕ)) (f : A × List ℕ → Option B) → Fits P read → ((x : A × List ℕ) → P x.0 → IfSome (f x) Q) → IfSome (read >>= f) Q
ends_then P Q None f p q = tt
ends_then P Q (Some x) f p q = q x p

candidate_fits : (known : Known) (bytes : List ℕ) → AreApart known.script → IfSome (candidate_at known bytes) (FitsAll known.script)
unfolding candidate_at behind_clients_at
candidate_fits known bytes apart =
    let start = drop 1 (number_at (drop 7 bytes)).1 in
    ends_then (λ cs. AllFrom (IsClientReport known.script) 0 cs × (length cs ≤ length start)) (FitsAll known.script) (each_at (λ n _. client_begins known n) (client_at known) start) _
    (each_fits (λ n _. client_begins known n) (client_at known) (IsClientReport known.script) (λ n b here. client_fits known n b apart) start)
    (λ clients first. ends_then (AllByRecursion (IsRow known.script)) (FitsAll known.script) (each_at (λ _ b. row_begins b) (λ _ b. row_at known b) clients.1) _
    (all_fits (λ _ b. row_begins b) (λ _ b. row_at known b) (IsRow known.script) (λ n b. row_fits known b apart) clients.1)
    (λ rows second. ends_then (λ cs. AllFrom (IsColumn known.script) 0 cs × (length cs ≤ length rows.1)) (FitsAll known.script) (each_at (λ n _. column_begins known n) (column_at known) rows.1) _
    (each_fits (λ n _. column_begins known n) (column_at known) (IsColumn known.script) (λ n b here. column_fits known n b apart) rows.1)
    (λ columns third. record { version = refl; clients = first.0; rows = second; columns = third.0 })))

-- what stands in a test that was passed
passed : (b : Bool) (candidate r : Report) → cond b (Some candidate) None ≡ Some r → (b ≡ true) × (candidate ≡ r)
passed true candidate r e = (refl, cc)
passed false candidate r e = absurd cc

judged : (script : Script) (bytes : List ℕ) (read : Option Report) (r : Report) → IfSome read (FitsAll script) → (read >>= λ report. cond (has_all script report && bytes_eq (report_bytes report) bytes) (Some report) None) ≡ Some r
    → IsReportOf script r × (report_bytes r ≡ bytes)
judged script bytes None r fits e = absurd cc
judged script bytes (Some candidate) r fits e =
    let p = passed (has_all script candidate && bytes_eq (report_bytes candidate) bytes) candidate r e in
    let q = and_parts (has_all script candidate) (bytes_eq (report_bytes candidate) bytes) p.0 in
    let n = and_parts (eqb (length candidate.clients) (length script.clients)) (eqb (length candidate.columns) (length script.regions * length script.colours)) q.0 in
    rw (← p.1) (
      record {
        version = fits.version;
        all_clients = eqb-true (length candidate.clients) (length script.clients) n.0;
        clients = fits.clients;
        rows = fits.rows;
        all_columns = eqb-true (length candidate.columns) (length script.regions * length script.colours) n.1;
        columns = fits.columns;
      },
      (bytes_eq-Decides (report_bytes candidate) bytes).0 q.1,
    )

pub is_read : (script : Script) (bytes : List ℕ) (r : Report) → AreApart script → report_at script bytes ≡ Some r → IsReportOf script r × (report_bytes r ≡ bytes)
unfolding report_at
is_read script bytes r apart e = judged script bytes (candidate_at (known_in script) bytes) r (candidate_fits (known_in script) bytes apart) e

-- nothing is some report
nothing : (o : Option Report) (r : Report) → o ≡ None → o ≡ Some r → ⊥
nothing None r e f = absurd cc
nothing (Some x) r e f = absurd cc

pub none_read : (script : Script) (bytes : List ℕ) → AreApart script → report_at script bytes ≡ None → (r : Report) → IsReportOf script r → report_bytes r ≡ bytes → ⊥
none_read script bytes apart none r is e = nothing (report_at script bytes) r none (ap (report_at script) (sym e) ∙ report_again script r apart is)
