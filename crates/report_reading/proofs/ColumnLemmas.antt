-- The lines of columns: what is printed is read again.
use Rattle.std.proofs.Common.{◌≡◌, ℕ, zero, suc, ◌+◌, ◌^◌, ◌-◌, ◌<◌, Bool, true, false, cond, eqb, ltb, List, [], ◌∷◌, ◌++◌, length, drop, Some, refl, ap, ◌∙◌, append_assoc, length-append, arith}
use Rattle.std.specs.Prelude.{decimal, codes}
use Rattle.std.specs.List.{AllByRecursion, flat_map, enumerate_from}
use Rattle.std.proofs.Math.Bool.{or-true, and-false}
use Rattle.std.proofs.lemmas.Bool.{lt-ltb}
use Rattle.std.proofs.lemmas.List.{drop_at}
use Rattle.log_node.specs.declared.ids.Id.{Id}
use Rattle.log_node.specs.declared.ids.Key.{Key}
use Rattle.log_node.specs.declared.ids.Counts.{Counts}
use Rattle.log_node.specs.declared.node.Head.{Head}
use Rattle.col_core.specs.declared.Event.{Event}
use Rattle.col_core.specs.declared.Event.TheVariants.{Single, Propose, Settle, Raise, Give, Carry, Trim}
use Rattle.col_core.specs.declared.Entry.{Entry}
use Rattle.script_text.specs.declared.script.Script.{Script}
use Rattle.script_text.specs.Pieces.{is_digit, is_letter_or_digit}
use Rattle.report_text.specs.declared.report.QueueKey.{QueueKey}
use Rattle.report_text.specs.declared.report.ColumnReport.{ColumnReport}
use Rattle.report_text.specs.declared.report.Report.{Report}
use Rattle.report_text.specs.Names.{region_name, client_name}
use Rattle.report_text.specs.Pieces.{line_end, listed, id_text, key_text, counts_text}
use Rattle.report_text.specs.Rows.{outcome_text}
use Rattle.report_text.specs.Columns.{entering_text, head_text, event_text, journal_line, queue_key_text, closing_line, column_lines}
use Rattle.report_reading.specs.Known.{Known}
use Rattle.report_reading.specs.Lists.{list_at}
use Rattle.report_reading.specs.Meant.{IsWord, IsKey, IsHead, Enters, IsEvent, IsEntry, IsColumn, AllFrom}
use Rattle.report_reading.specs.Pieces.{first_of, key_at}
use Rattle.report_reading.specs.ColumnReadings.{head_at, entering_at, settle_at, give_at, carry_at, event_at, entry_begins, entry_at, journal_at, listed_begins, behind_comma, queue_key_at, line_at, queue_at, closing_at, behind_names, column_at}
use Rattle.report_reading.proofs.WordLemmas.{cons_on, nil_on, line_some, ends, number_again, decimal_front, word_front, letter_unlike}
use Rattle.report_reading.proofs.PieceLemmas.{AreNamed, said_again, id_again, key_again, counts_again}
use Rattle.report_reading.proofs.RowLemmas.{outcome_again}
use Rattle.report_reading.proofs.Joins.{join4, join6, join11}
use Rattle.report_reading.proofs.ListAgain.{IsReadAgain, comma, listed_texts, texts_placed, each_again, all_again, all_end, in_places}

head_again : (script : Script) (report : Report) (head : Head) (rest : List ℕ) → AreNamed script report → IsHead script head → ends rest ≡ true → head_at script (head_text report head ++ rest) ≡ (head, rest)
unfolding head_at
head_again script report head rest named is e =
    ap (head_at script) (append_assoc (key_text report head.key) (47 ∷ counts_text report head.needs) rest)
    ∙ rw (key_again script report head.key (47 ∷ (counts_text report head.needs ++ rest)) named is.key refl, counts_again script report head.needs rest named is.needs e) refl

-- carried nodes, each behind a space
heads_again : (script : Script) (report : Report) → AreNamed script report → IsReadAgain (λ _ b. eqb (first_of b) 32) (λ _ b. Some (head_at script (drop 1 b))) (λ _ (h : Head). 32 ∷ head_text report h) (λ _. IsHead script) (λ b. ends b ≡ true)
heads_again script report named = record {
  some = λ n h is. omega arith;
  begin = λ n h rest is e. refl;
  again = λ n h rest is e. ap Some (head_again script report h rest named is e);
  end = λ n h rest is e. refl;
}

entering_again : (script : Script) (report : Report) (id : Id) (floor : ℕ) (wants : Counts) (stamp : ℕ) (rest : List ℕ) → AreNamed script report → Enters script id floor wants stamp → ends rest ≡ true
    → entering_at script ((entering_text report id floor wants ++ codes " stamp " ++ decimal stamp) ++ rest) ≡ (record { id = id; floor = floor; wants = wants; stamp = stamp }, rest)
unfolding entering_at
entering_again script report id floor wants stamp rest named is e =
    let last = codes " stamp " ++ (decimal stamp ++ rest) in
    let third = codes " wants " ++ (counts_text report wants ++ last) in
    let second = codes " floor " ++ (decimal floor ++ third) in
    let regrouped : (entering_text report id floor wants ++ codes " stamp " ++ decimal stamp) ++ rest ≡ id_text report id ++ second = simp (append_assoc, cons_on, nil_on) in
    ap (entering_at script) regrouped
    ∙ rw (id_again script report id second named is.id refl, number_again floor third is.floor refl, counts_again script report wants last named is.wants refl, number_again stamp rest is.stamp e) refl

-- what is carried, part by part
carry_parts : (report : Report) (region start : ℕ) (heads : List Head) (stamp : ℕ) (rest : List ℕ) → event_text report (Carry region start heads) stamp ++ (10 ∷ rest)
    ≡ codes "carry " ++ (region_name report region ++ (32 ∷ (decimal start ++ (flat_map (λ (h : Head). 32 ∷ head_text report h) heads ++ (10 ∷ rest)))))
carry_parts report region start heads stamp rest = join4 (codes "carry ") (region_name report region) (32 ∷ decimal start) (flat_map (λ (h : Head). 32 ∷ head_text report h) heads) (10 ∷ rest)

pub event_again : (known : Known) (report : Report) (by stamp : ℕ) (event : Event) (rest : List ℕ) → AreNamed known.script report → IsEvent known.script event stamp
    → event_at known by (event_text report event stamp ++ (10 ∷ rest)) ≡ Some (record { by = by; event = event; stamp = stamp }, 10 ∷ rest)
unfolding event_at settle_at give_at carry_at
event_again known report by stamp (Single id floor wants) rest named is =
    rw (entering_again known.script report id floor wants stamp (10 ∷ rest) named is refl) refl
event_again known report by stamp (Propose id floor wants) rest named is =
    rw (entering_again known.script report id floor wants stamp (10 ∷ rest) named is refl) refl
event_again known report by stamp (Settle id outcome) rest named is =
    rw (append_assoc (id_text report id) (32 ∷ outcome_text outcome) (10 ∷ rest), id_again known.script report id (32 ∷ (outcome_text outcome ++ (10 ∷ rest))) named is.0 refl, outcome_again outcome (10 ∷ rest) is.1 refl, is.2) refl
event_again known report by stamp (Raise to) rest named is = rw (number_again to (10 ∷ rest) is.0 refl, is.1) refl
event_again known report by stamp (Give region from) rest named is =
    rw (append_assoc (region_name report region) (32 ∷ decimal from) (10 ∷ rest), said_again known.script.regions (region_name report) region (32 ∷ (decimal from ++ (10 ∷ rest))) named.regions is.0 refl, number_again from (10 ∷ rest) is.1 refl, is.2) refl
event_again known report by stamp (Carry region start heads) rest named is =
    let all = in_places (IsHead known.script) 0 heads is.2 in
    let text = flat_map (λ (h : Head). 32 ∷ head_text report h) heads in
    ap (event_at known by) (carry_parts report region start heads stamp rest)
    ∙ rw (
      said_again known.script.regions (region_name report) region (32 ∷ (decimal start ++ (text ++ (10 ∷ rest)))) named.regions is.0 refl,
      number_again start (text ++ (10 ∷ rest)) is.1 (all_end _ _ _ _ _ (heads_again known.script report named) heads (10 ∷ rest) (in_places (IsHead known.script) 1 heads is.2) refl),
      all_again _ _ _ _ _ (heads_again known.script report named) heads (10 ∷ rest) all refl refl,
      is.3,
    ) refl
event_again known report by stamp (Trim counts) rest named is = rw (counts_again known.script report counts (10 ∷ rest) named is.0 refl, is.1) refl

-- a line of a journal, part by part
entry_parts : (report : Report) (place : ℕ) (entry : Entry) (rest : List ℕ) → journal_line report (place, entry) ++ rest ≡ decimal place ++ (32 ∷ (client_name report entry.by ++ (32 ∷ (event_text report entry.event entry.stamp ++ (10 ∷ rest)))))
entry_parts report place entry rest = simp (append_assoc, cons_on, nil_on)

entry_again : (known : Known) (report : Report) (place : ℕ) (entry : Entry) (rest : List ℕ) → AreNamed known.script report → IsWord place → IsEntry known.script entry
    → entry_at known (journal_line report (place, entry) ++ rest) ≡ Some (entry, rest)
unfolding entry_at
entry_again known report place entry rest named small is =
    let third = event_text report entry.event entry.stamp ++ (10 ∷ rest) in
    let second = client_name report entry.by ++ (32 ∷ third) in
    ap (entry_at known) (entry_parts report place entry rest)
    ∙ rw (number_again place (32 ∷ second) small refl, said_again known.script.clients (client_name report) entry.by (32 ∷ third) named.clients is.by refl, event_again known report entry.by entry.stamp entry.event rest named is.event) refl

-- an entry in its place
abbrev InPlace : Script → ℕ → Entry → Type 0
InPlace script place entry = (suc place < 2 ^ 64) × IsEntry script entry

journals_again : (known : Known) (report : Report) → AreNamed known.script report → IsReadAgain entry_begins (λ _ b. entry_at known b) (λ n (e : Entry). journal_line report (n, e)) (InPlace known.script) (λ b. Unit {0})
journals_again known report named = record {
  some = λ n entry is. line_some _;
  begin = λ n entry rest is e. rw (lt-ltb n (2 ^ 64 - 1) (let lt = is.0 in omega (arith, lt)), ap (λ w. is_digit (first_of w)) (entry_parts report n entry rest) ∙ decimal_front n _ (let lt = is.0 in omega (arith, lt))) refl;
  again = λ n entry rest is e. entry_again known report n entry rest named (let lt = is.0 in omega (arith, lt)) is.1;
  end = λ n entry rest is e. tt;
}

-- each entry of a journal is in its place
placed : (script : Script) (n : ℕ) (journal : List Entry) → n + length journal < 2 ^ 64 → AllByRecursion (IsEntry script) journal → AllFrom (InPlace script) n journal
placed script n [] few all = tt
placed script n (entry ∷ journal) few all = ((omega (arith, few), all.0), placed script (suc n) journal (omega (arith, few)) all.1)

journal_again : (known : Known) (report : Report) (journal : List Entry) (rest : List ℕ) → AreNamed known.script report → IsWord (length journal) → AllByRecursion (IsEntry known.script) journal → is_digit (first_of rest) ≡ false
    → journal_at known (flat_map (journal_line report) (enumerate_from 0 journal) ++ rest) ≡ Some (journal, rest)
journal_again known report journal rest named few all stop =
    rw (texts_placed (journal_line report) 0 journal)
    (each_again _ _ _ _ _ (journals_again known report named) journal rest (placed known.script 0 journal (omega (arith, few)) all) tt (rw (stop) (and-false (ltb (length journal) (2 ^ 64 - 1)))))

-- ---- lists with commas

-- an id begins with a letter or a digit
id_front : (script : Script) (report : Report) (id : Id) (rest : List ℕ) → AreNamed script report → id.client < length script.clients → is_letter_or_digit (first_of (id_text report id ++ rest)) ≡ true
id_front script report id rest named lt =
    rw (append_assoc (client_name report id.client) (46 ∷ decimal id.count) rest, named.clients.said_so id.client lt)
    (word_front _ (46 ∷ (decimal id.count ++ rest)) (named.clients.words id.client lt) (named.clients.some id.client lt))

-- a text that begins with a letter or a digit stands behind its comma, if it has one
pub no_comma : (n : ℕ) (text : List ℕ) → is_letter_or_digit (first_of text) ≡ true → behind_comma (comma n text) ≡ text
no_comma zero text letter = rw (letter_unlike (first_of text) 44 letter refl) refl
no_comma (suc n) text letter = refl

pub comma_begins : (n : ℕ) (text : List ℕ) → is_letter_or_digit (first_of text) ≡ true → listed_begins (comma n text) ≡ true
comma_begins zero text letter = rw (letter) (or-true (eqb (first_of text) 44))
comma_begins (suc n) text letter = refl

pub comma_append : (n : ℕ) (text rest : List ℕ) → comma n text ++ rest ≡ comma n (text ++ rest)
comma_append zero text rest = refl
comma_append (suc n) text rest = refl

pub comma_some : (n : ℕ) (text : List ℕ) → 0 < length text → 0 < length (comma n text)
comma_some zero text some = some
comma_some (suc n) text some = omega arith

key_front : (script : Script) (report : Report) (key : Key) (rest : List ℕ) → AreNamed script report → IsKey script key → is_letter_or_digit (first_of (key_text report key ++ rest)) ≡ true
key_front script report key rest named is =
    rw (append_assoc (id_text report key.id) (58 ∷ decimal key.stamp) rest) (id_front script report key.id (58 ∷ (decimal key.stamp ++ rest)) named is.id.client)

key_some : (report : Report) (key : Key) → 0 < length (key_text report key)
key_some report key = omega (arith, length-append (id_text report key.id) (58 ∷ decimal key.stamp))

keys_again : (script : Script) (report : Report) → AreNamed script report
    → IsReadAgain (λ _ b. listed_begins b) (λ _ b. Some (key_at script (behind_comma b))) (λ n (k : Key). comma n (key_text report k)) (λ _. IsKey script) (λ b. ends b ≡ true)
keys_again script report named = record {
  some = λ n k is. comma_some n (key_text report k) (key_some report k);
  begin = λ n k rest is e. rw (comma_append n (key_text report k) rest) (comma_begins n (key_text report k ++ rest) (key_front script report k rest named is));
  again = λ n k rest is e. rw (comma_append n (key_text report k) rest, no_comma n (key_text report k ++ rest) (key_front script report k rest named is)) (ap Some (key_again script report k rest named is e));
  end = λ n k rest is e. refl;
}

-- a key of the queue, whether settled or not
queue_key_of : (script : Script) (report : Report) (key : Key) (settled : Bool) (rest : List ℕ) → AreNamed script report → IsKey script key → ends rest ≡ true → eqb (first_of rest) 63 ≡ false
    → queue_key_at script (queue_key_text report (record { key = key; settled = settled }) ++ rest) ≡ (record { key = key; settled = settled }, rest)
unfolding queue_key_at
queue_key_of script report key true rest named is e other =
    rw (append_assoc (key_text report key) [] rest, key_again script report key rest named is e, other) refl
queue_key_of script report key false rest named is e other =
    rw (append_assoc (key_text report key) (63 ∷ []) rest, key_again script report key (63 ∷ rest) named is refl) refl

queue_key_again : (script : Script) (report : Report) (q : QueueKey) (rest : List ℕ) → AreNamed script report → IsKey script q.key → ends rest ≡ true → eqb (first_of rest) 63 ≡ false → queue_key_at script (queue_key_text report q ++ rest) ≡ (q, rest)
queue_key_again script report q rest named is e other = queue_key_of script report q.key q.settled rest named is e other

-- a list of keys is read again before a space
line_again : (known : Known) (report : Report) (keys : List Key) (rest : List ℕ) → AreNamed known.script report → AllByRecursion (IsKey known.script) keys
    → line_at known (listed (key_text report) keys ++ (32 ∷ rest)) ≡ Some (keys, 32 ∷ rest)
unfolding list_at
line_again known report [] rest named all = refl
line_again known report (k ∷ keys) rest named all =
    rw (listed_texts (key_text report) k keys, each_again _ _ _ _ _ (keys_again known.script report named) (k ∷ keys) (32 ∷ rest) (in_places (IsKey known.script) 0 (k ∷ keys) all) refl refl) refl

-- what may stand behind a key of the queue
abbrev EndsKey : List ℕ → Type 0
EndsKey b = (ends b ≡ true) × (eqb (first_of b) 63 ≡ false)

queue_front : (script : Script) (report : Report) (q : QueueKey) (rest : List ℕ) → AreNamed script report → IsKey script q.key → is_letter_or_digit (first_of (queue_key_text report q ++ rest)) ≡ true
queue_front script report q rest named is =
    rw (append_assoc (key_text report q.key) (cond q.settled [] (63 ∷ [])) rest) (key_front script report q.key (cond q.settled [] (63 ∷ []) ++ rest) named is)

queue_some : (report : Report) (q : QueueKey) → 0 < length (queue_key_text report q)
queue_some report q = let one = key_some report q.key in omega (arith, one, length-append (key_text report q.key) (cond q.settled [] (63 ∷ [])))

queues_again : (script : Script) (report : Report) → AreNamed script report
    → IsReadAgain (λ _ b. listed_begins b) (λ _ b. Some (queue_key_at script (behind_comma b))) (λ n (q : QueueKey). comma n (queue_key_text report q)) (λ _ q. IsKey script q.key) EndsKey
queues_again script report named = record {
  some = λ n q is. comma_some n (queue_key_text report q) (queue_some report q);
  begin = λ n q rest is e. rw (comma_append n (queue_key_text report q) rest) (comma_begins n (queue_key_text report q ++ rest) (queue_front script report q rest named is));
  again = λ n q rest is e. rw (comma_append n (queue_key_text report q) rest, no_comma n (queue_key_text report q ++ rest) (queue_front script report q rest named is)) (ap Some (queue_key_again script report q rest named is e.0 e.1));
  end = λ n q rest is e. (refl, refl);
}

queue_again : (known : Known) (report : Report) (keys : List QueueKey) (rest : List ℕ) → AreNamed known.script report → AllByRecursion (λ (q : QueueKey). IsKey known.script q.key) keys
    → queue_at known (listed (queue_key_text report) keys ++ (32 ∷ rest)) ≡ Some (keys, 32 ∷ rest)
unfolding list_at
queue_again known report [] rest named all = refl
queue_again known report (k ∷ keys) rest named all =
    rw (listed_texts (queue_key_text report) k keys, each_again _ _ _ _ _ (queues_again known.script report named) (k ∷ keys) (32 ∷ rest) (in_places (λ (q : QueueKey). IsKey known.script q.key) 0 (k ∷ keys) all) (refl, refl) refl) refl

closing_again : (known : Known) (report : Report) (column : ColumnReport) (place : ℕ) (rest : List ℕ) → AreNamed known.script report → IsColumn known.script place column
    → closing_at known (closing_line report column ++ rest)
    ≡ Some (record { clock = column.clock; line = column.line; queue = column.queue; cut = column.cut; base = column.base }, rest)
unfolding closing_at
closing_again known report column place rest named is =
    let last = codes " base " ++ (counts_text report column.base ++ (10 ∷ rest)) in
    let fourth = codes " cut " ++ (counts_text report column.cut ++ last) in
    let third = codes " queue " ++ (listed (queue_key_text report) column.queue ++ fourth) in
    let second = codes " line " ++ (listed (key_text report) column.line ++ third) in
    let regrouped : closing_line report column ++ rest ≡ codes "= clock " ++ (decimal column.clock ++ second) =
    join11 (codes "= clock ") (decimal column.clock) (codes " line ") (listed (key_text report) column.line) (codes " queue ") (listed (queue_key_text report) column.queue) (codes " cut ") (counts_text report column.cut) (codes " base ") (counts_text report column.base) line_end rest in
    ap (closing_at known) regrouped
    ∙ rw (
      number_again column.clock second is.clock refl,
      line_again known report column.line (drop 1 third) named is.line,
      queue_again known report column.queue (drop 1 fourth) named is.queue,
      counts_again known.script report column.cut last named is.cut refl,
      counts_again known.script report column.base (10 ∷ rest) named is.base refl,
    ) refl

-- behind the names of a column
names_passed : (region colour rest : List ℕ) → behind_names region colour (codes "column " ++ (region ++ (32 ∷ (colour ++ (10 ∷ rest))))) ≡ rest
names_passed region colour rest = rw (drop_at region (32 ∷ (colour ++ (10 ∷ rest))) (length region) refl, drop_at colour (10 ∷ rest) (length colour) refl) refl

pub column_again : (known : Known) (report : Report) (place : ℕ) (column : ColumnReport) (rest : List ℕ) → AreNamed known.script report → IsColumn known.script place column
    → column_at known place (column_lines report column ++ rest) ≡ Some (column, rest)
unfolding column_at
column_again known report place column rest named is =
    let last = closing_line report column ++ rest in
    let journal = flat_map (journal_line report) (enumerate_from 0 column.journal) in
    let regrouped : column_lines report column ++ rest ≡ codes "column " ++ (column.region_name ++ (32 ∷ (column.colour_name ++ (10 ∷ (journal ++ last))))) =
    join6 (codes "column ") column.region_name (32 ∷ column.colour_name) line_end journal (closing_line report column) rest in
    ap (column_at known place) regrouped
    ∙ rw (
      ← is.region,
      ← is.colour,
      ← is.region_name,
      ← is.colour_name,
      names_passed column.region_name column.colour_name (journal ++ last),
      journal_again known report column.journal last named is.places is.journal refl,
      closing_again known report column place rest named is,
    ) refl
