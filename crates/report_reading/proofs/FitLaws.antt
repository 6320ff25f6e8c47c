-- What is read fits: lists, rows, columns and answers.
use Rattle.std.proofs.Common.{ℕ, suc, ◌+◌, ◌-◌, ◌/◌, ◌%◌, ◌^◌, ◌<◌, ◌≤◌, Bool, true, false, cond, eqb, ltb, List, [], ◌∷◌, length, drop, Option, Some, None, refl, arith}
use Rattle.std.specs.List.{AllByRecursion}
use Rattle.std.proofs.lemmas.Bool.{and_parts, ltb-true}
use Rattle.log_node.specs.declared.marks.Mark.{Mark}
use Rattle.log_node.specs.declared.marks.Mark.TheVariants as marks
use Rattle.log_node.specs.declared.marks.Outcome.{Outcome}
use Rattle.log_node.specs.declared.marks.Outcome.TheVariants.{Open, Gone, Final}
use Rattle.col_core.specs.declared.Event.{Event}
use Rattle.col_core.specs.declared.Entry.{Entry}
use Rattle.script_text.specs.declared.script.Script.{Script}
use Rattle.script_text.specs.Pieces.{is_digit, name_of}
use Rattle.report_text.specs.declared.report.QueueKey.{QueueKey}
use Rattle.report_reading.specs.declared.columns.Entering.{Entering}
use Rattle.report_reading.specs.declared.columns.Closing.{Closing}
use Rattle.report_reading.specs.Apart.{AreApart}
use Rattle.report_reading.specs.Known.{Known}
use Rattle.report_reading.specs.Lists.{each_at}
use Rattle.report_reading.specs.Meant.{IsWord, IsKey, AreCounts, IsMark, IsColourMark, IsOutcome, IsRow, IsHead, Enters, IsEvent, IsEntry, IsColumn, AllFrom}
use Rattle.report_reading.specs.Pieces.{first_of, number_at, small_at, named_at, id_at, key_at, counts_at}
use Rattle.report_reading.specs.RowReadings.{why_at, mark_at, mark_begins, colour_mark_at, outcome_at, row_number_at, marks_at, row_at}
use Rattle.report_reading.specs.ColumnReadings.{head_at, heads_at, entering_at, entered, settle_at, give_at, carry_at, event_at, entry_begins, entry_at, journal_at, listed_begins, behind_comma, queue_key_at, line_at, queue_at, closing_at, behind_names, column_at}
use Rattle.report_reading.proofs.FitLemmas.{number_fits, small_fits, named_fits, id_fits, key_fits, counts_fit}
use Rattle.report_reading.proofs.ListAgain.{Fits, fits_then, each_fits, of_places}

-- what holds of both holds of the one that is chosen
pub either : {T : Type 0} (P : T → Type 0) (b : Bool) (x y : T) → P x → P y → P (cond b x y)
either P true x y p q = p
either P false x y p q = q

pub fits_map : {A : Type 0} (P Q : A → Type 0) (read : Option (A × List ℕ)) → ((x : A) → P x → Q x) → Fits P read → Fits Q read
fits_map P Q None f p = tt
fits_map P Q (Some x) f p = f x.0 p

-- a list of items that fit
pub all_fits : {X : Type 0} (begins : ℕ → List ℕ → Bool) (item_at : ℕ → List ℕ → Option (X × List ℕ)) (P : X → Type 0) → ((n : ℕ) (bytes : List ℕ) → Fits P (item_at n bytes)) → (bytes : List ℕ) → Fits (AllByRecursion P) (each_at begins item_at bytes)
all_fits begins item_at P each bytes =
    fits_map (λ xs. AllFrom (λ _. P) 0 xs × (length xs ≤ length bytes)) (AllByRecursion P) (each_at begins item_at bytes) (λ xs p. of_places P 0 xs p.0) (each_fits begins item_at (λ _. P) (λ n b here. each n b) bytes)

-- ---- rows

mark_fits : (bytes : List ℕ) → IsMark (mark_at bytes).0
unfolding mark_at
mark_fits bytes =
    either (λ (m : Mark × List ℕ). IsMark m.0) (eqb (first_of bytes) 45) (marks.None, drop 1 bytes) _ tt
    (either (λ (m : Mark × List ℕ). IsMark m.0) (is_digit (first_of bytes)) (marks.Number (number_at bytes).0, (number_at bytes).1) (marks.Fenced (why_at bytes).0, (why_at bytes).1) (number_fits bytes) tt)

colour_mark_fits : (script : Script) (bytes : List ℕ) → AreApart script → IsColourMark script (colour_mark_at script bytes).0
unfolding colour_mark_at
colour_mark_fits script bytes apart = record {
  colour = named_fits script.colours bytes apart.colours.some;
  mark = mark_fits (drop 1 (named_at script.colours bytes).1);
}

pub outcome_fits : (bytes : List ℕ) → IsOutcome (outcome_at bytes).0
unfolding outcome_at
outcome_fits bytes =
    either (λ (o : Outcome × List ℕ). IsOutcome o.0) (eqb (first_of bytes) 111) (Open, drop 4 bytes) _ tt
    (either (λ (o : Outcome × List ℕ). IsOutcome o.0) (eqb (first_of bytes) 102) (Final (number_at (drop 6 bytes)).0, (number_at (drop 6 bytes)).1) (Gone (why_at (drop 5 bytes)).0, (why_at (drop 5 bytes)).1) (number_fits (drop 6 bytes)) tt)

pub row_fits : (known : Known) (bytes : List ℕ) → AreApart known.script → Fits (IsRow known.script) (row_at known bytes)
unfolding row_at row_number_at
row_fits known bytes apart =
    let region = named_at known.script.regions (drop 4 bytes) in
    let client = named_at known.script.clients (drop 1 region.1) in
    let number = small_at (drop 1 client.1) in
    let id = id_at known.script (drop 1 number.1) in
    fits_then (AllByRecursion (IsColourMark known.script)) (IsRow known.script) (marks_at known id.1) _
    (all_fits (λ _ b. mark_begins b) (λ _ b. Some (colour_mark_at known.script (drop 1 b))) (IsColourMark known.script) (λ n b. colour_mark_fits known.script (drop 1 b) apart) id.1)
    (λ marks all. record {
      region = named_fits known.script.regions (drop 4 bytes) apart.regions.some;
      client = named_fits known.script.clients (drop 1 region.1) apart.clients.some;
      number = small_fits (drop 1 client.1);
      id = id_fits known.script (drop 1 number.1) apart;
      marks = all;
      last = outcome_fits (drop 1 marks.1);
    })

-- ---- columns

head_fits : (script : Script) (bytes : List ℕ) → AreApart script → IsHead script (head_at script bytes).0
unfolding head_at
head_fits script bytes apart = record { key = key_fits script bytes apart; needs = counts_fit script (drop 1 (key_at script bytes).1) apart }

entering_fits : (script : Script) (bytes : List ℕ) → AreApart script → Enters script (entering_at script bytes).0.id (entering_at script bytes).0.floor (entering_at script bytes).0.wants (entering_at script bytes).0.stamp
unfolding entering_at
entering_fits script bytes apart =
    let id = id_at script bytes in
    let floor = number_at (drop 7 id.1) in
    let wants = counts_at script (drop 7 floor.1) in
    record {
      id = id_fits script bytes apart;
      floor = number_fits (drop 7 id.1);
      wants = counts_fit script (drop 7 floor.1) apart;
      stamp = number_fits (drop 7 wants.1);
    }

-- an entry that the script's client made
made_by : (script : Script) (by : ℕ) (event : Event) (stamp : ℕ) → by < length script.clients → IsEvent script event stamp → IsEntry script (record { by = by; event = event; stamp = stamp })
made_by script by event stamp lt is = record { by = lt; event = is }

entered_fits : (script : Script) (by : ℕ) (single : Bool) (e : Entering) → by < length script.clients → Enters script e.id e.floor e.wants e.stamp → IsEntry script (entered by single e)
entered_fits script by true e lt is = record { by = lt; event = is }
entered_fits script by false e lt is = record { by = lt; event = is }

settle_fits : (script : Script) (by : ℕ) (bytes : List ℕ) → AreApart script → by < length script.clients → IsEntry script (settle_at script by bytes).0
unfolding settle_at
settle_fits script by bytes apart lt = record { by = lt; event = (id_fits script bytes apart, outcome_fits (drop 1 (id_at script bytes).1), refl) }

give_fits : (script : Script) (by : ℕ) (bytes : List ℕ) → AreApart script → by < length script.clients → IsEntry script (give_at script by bytes).0
unfolding give_at
give_fits script by bytes apart lt = record { by = lt; event = (named_fits script.regions bytes apart.regions.some, number_fits (drop 1 (named_at script.regions bytes).1), refl) }

carry_fits : (known : Known) (by : ℕ) (bytes : List ℕ) → AreApart known.script → by < length known.script.clients → Fits (IsEntry known.script) (carry_at known by bytes)
unfolding carry_at
carry_fits known by bytes apart lt =
    let region = named_at known.script.regions bytes in
    let start = number_at (drop 1 region.1) in
    fits_then (AllByRecursion (IsHead known.script)) (IsEntry known.script) (heads_at known start.1) _
    (all_fits (λ _ b. eqb (first_of b) 32) (λ _ b. Some (head_at known.script (drop 1 b))) (IsHead known.script) (λ n b. head_fits known.script (drop 1 b) apart) start.1)
    (λ heads all. record { by = lt; event = (named_fits known.script.regions bytes apart.regions.some, number_fits (drop 1 region.1), all, refl) })

event_fits : (known : Known) (by : ℕ) (bytes : List ℕ) → AreApart known.script → by < length known.script.clients → Fits (IsEntry known.script) (event_at known by bytes)
unfolding event_at
event_fits known by bytes apart lt =
    let next = first_of bytes in
    let script = known.script in
    either (Fits (IsEntry script)) (eqb next 115) _ _
    (either (Fits (IsEntry script)) (eqb (first_of (drop 1 bytes)) 105) _ _ (entered_fits script by true (entering_at script (drop 7 bytes)).0 lt (entering_fits script (drop 7 bytes) apart)) (settle_fits script by (drop 7 bytes) apart lt))
    (either (Fits (IsEntry script)) (eqb next 112) _ _ (entered_fits script by false (entering_at script (drop 8 bytes)).0 lt (entering_fits script (drop 8 bytes) apart))
    (either (Fits (IsEntry script)) (eqb next 114) _ _ (record { by = lt; event = (number_fits (drop 6 bytes), refl) })
    (either (Fits (IsEntry script)) (eqb next 103) _ _ (give_fits script by (drop 5 bytes) apart lt)
    (either (Fits (IsEntry script)) (eqb next 99) _ _ (carry_fits known by (drop 6 bytes) apart lt)
    (record { by = lt; event = (counts_fit script (drop 5 bytes) apart, refl) })))))

pub entry_fits : (known : Known) (bytes : List ℕ) → AreApart known.script → Fits (IsEntry known.script) (entry_at known bytes)
unfolding entry_at
entry_fits known bytes apart =
    let place = number_at bytes in
    let by = named_at known.script.clients (drop 1 place.1) in
    fits_then (IsEntry known.script) (IsEntry known.script) (event_at known by.0 (drop 1 by.1)) _
    (event_fits known by.0 (drop 1 by.1) apart (named_fits known.script.clients (drop 1 place.1) apart.clients.some)) (λ entry is. is)

-- what a column is in the end fits
pub record Closes (script : Script) (c : Closing) : Type 0 where
  pub clock : IsWord c.clock
  pub line : AllByRecursion (IsKey script) c.line
  pub queue : AllByRecursion (λ (q : QueueKey). IsKey script q.key) c.queue
  pub cut : AreCounts script c.cut
  pub base : AreCounts script c.base

queue_key_fits : (script : Script) (bytes : List ℕ) → AreApart script → IsKey script (queue_key_at script bytes).0.key
unfolding queue_key_at
queue_key_fits script bytes apart = key_fits script bytes apart

pub closing_fits : (known : Known) (bytes : List ℕ) → AreApart known.script → Fits (Closes known.script) (closing_at known bytes)
unfolding closing_at
closing_fits known bytes apart =
    let clock = number_at (drop 8 bytes) in
    fits_then (AllByRecursion (IsKey known.script)) (Closes known.script) (line_at known (drop 6 clock.1)) _
    (fits_then (AllByRecursion (IsKey known.script)) (AllByRecursion (IsKey known.script)) (each_at (λ _ b. listed_begins b) (λ _ b. Some (key_at known.script (behind_comma b))) (drop 6 clock.1)) _
    (all_fits (λ _ b. listed_begins b) (λ _ b. Some (key_at known.script (behind_comma b))) (IsKey known.script) (λ n b. key_fits known.script (behind_comma b) apart) (drop 6 clock.1)) (λ keys all. all))
    (λ line first. fits_then (AllByRecursion (λ (q : QueueKey). IsKey known.script q.key)) (Closes known.script) (queue_at known (drop 7 line.1)) _
    (fits_then (AllByRecursion (λ (q : QueueKey). IsKey known.script q.key)) (AllByRecursion (λ (q : QueueKey). IsKey known.script q.key)) (each_at (λ _ b. listed_begins b) (λ _ b. Some (queue_key_at known.script (behind_comma b))) (drop 7 line.1)) _
    (all_fits (λ _ b. listed_begins b) (λ _ b. Some (queue_key_at known.script (behind_comma b))) (λ (q : QueueKey). IsKey known.script q.key) (λ n b. queue_key_fits known.script (behind_comma b) apart) (drop 7 line.1)) (λ keys all. all))
    (λ queue second. record {
      clock = number_fits (drop 8 bytes);
      line = first;
      queue = second;
      cut = counts_fit known.script (drop 5 queue.1) apart;
      base = counts_fit known.script (drop 6 (counts_at known.script (drop 5 queue.1)).1) apart;
    }))

-- places that are below a number are no more than that
few_places : {X : Type 0} (P : ℕ → X → Type 0) (most k : ℕ) (xs : List X) → k ≤ most → AllFrom (λ n x. (n < most) × P n x) k xs → k + length xs ≤ most
few_places P most k [] le all = omega (arith, le)
few_places P most k (x ∷ xs) le all =
    let lt = all.0.0 in
    let later = few_places P most (suc k) xs (omega (arith, lt)) all.1 in
    omega (arith, later)

-- what holds of each item but for its place
without_places : {X : Type 0} (P : X → Type 0) (most k : ℕ) (xs : List X) → AllFrom (λ n x. (n < most) × P x) k xs → AllByRecursion P xs
without_places P most k [] all = tt
without_places P most k (x ∷ xs) all = (all.0.1, without_places P most (suc k) xs all.1)

-- a journal whose places 64 bits count
abbrev pub IsJournal : Script → List Entry → Type 0
IsJournal script journal = IsWord (length journal) × AllByRecursion (IsEntry script) journal

journal_fits : (known : Known) (bytes : List ℕ) → AreApart known.script → Fits (IsJournal known.script) (journal_at known bytes)
journal_fits known bytes apart =
    fits_map (λ xs. AllFrom (λ n x. (n < 2 ^ 64 - 1) × IsEntry known.script x) 0 xs × (length xs ≤ length bytes)) (IsJournal known.script) (journal_at known bytes)
    (λ xs p. (let few = few_places (λ n x. IsEntry known.script x) (2 ^ 64 - 1) 0 xs (omega arith) p.0 in omega (arith, few), without_places (IsEntry known.script) (2 ^ 64 - 1) 0 xs p.0))
    (each_fits entry_begins (λ _ b. entry_at known b) (λ n x. (n < 2 ^ 64 - 1) × IsEntry known.script x)
    (λ n b here. fits_map (IsEntry known.script) (λ x. (n < 2 ^ 64 - 1) × IsEntry known.script x) (entry_at known b) (λ x is. (ltb-true n (2 ^ 64 - 1) (and_parts (ltb n (2 ^ 64 - 1)) (is_digit (first_of b)) here).0, is)) (entry_fits known b apart)) bytes)

pub column_fits : (known : Known) (place : ℕ) (bytes : List ℕ) → AreApart known.script → Fits (IsColumn known.script place) (column_at known place bytes)
unfolding column_at
column_fits known place bytes apart =
    let region_name = name_of known.script.regions (place / length known.script.colours) in
    let colour_name = name_of known.script.colours (place % length known.script.colours) in
    fits_then (IsJournal known.script) (IsColumn known.script place) (journal_at known (behind_names region_name colour_name bytes)) _
    (journal_fits known (behind_names region_name colour_name bytes) apart)
    (λ journal all. fits_then (Closes known.script) (IsColumn known.script place) (closing_at known journal.1) _ (closing_fits known journal.1 apart) (λ closing ends. record {
      region = refl;
      colour = refl;
      region_name = refl;
      colour_name = refl;
      places = all.0;
      journal = all.1;
      clock = ends.clock;
      line = ends.line;
      queue = ends.queue;
      cut = ends.cut;
      base = ends.base;
    }))
