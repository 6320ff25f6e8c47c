-- The bytes are read exactly, and else the first faulty line is told with its reason.
use Rattle.std.proofs.Common.{◌≡◌, ℕ, suc, ◌+◌, ◌-◌, ◌<◌, ◌≤◌, true, false, cond, ltb, leb, eqb, inl, inr, List, [], ◌∷◌, ◌++◌, length, take, Option, Some, None, Result, Ok, Err, refl, sym, ap, ◌∙◌, append_assoc, arith}
use Rattle.std.specs.Prelude.{slice_get, IfOk, IfErr, if◌then◌else◌}
use Rattle.std.specs.List.{list_all, enumerate_from, onto_first}
use Rattle.std.proofs.lemmas.Bool.{cases_Bool, and_parts, ltb-true, ltb-false, leb-false, leb-true, lt-ltb, le-ltb, lt-leb, le-leb, eqb-true, eqb-false, eq-eqb, ne_eqb}
use Rattle.std.proofs.lemmas.List.{append-nil}
use lib.Dec.{eqb-suc-zero}
use Rattle.script_text.specs.declared.fault.Fault.{Fault}
use Rattle.script_text.specs.declared.fault.Fault.TheVariants as faults
use Rattle.script_text.specs.declared.script.Script.{Script}
use Rattle.script_text.specs.declared.script.Reason.{Reason}
use Rattle.script_text.specs.declared.script.Reason.TheVariants as reasons
use Rattle.script_text.specs.declared.reading.ScriptFault.{ScriptFault}
use Rattle.script_text.specs.declared.reading.ScriptFault.TheVariants as script_faults
use Rattle.script_text.specs.declared.item.Item.{Item}
use Rattle.script_text.specs.declared.known.Known.{Known}
use Rattle.script_text.specs.Pieces.{lines_of, is_ascii_line}
use Rattle.script_text.specs.Items.{is_begun}
use Rattle.script_text.specs.Grammar.{is_passed_over, said_lines, Say, IsScript}
use Rattle.script_text.specs.Faults.{fault_of, IsFirstFault, LacksBegin, IsRefused}
use Rattle.script_text.specs.Parse.{IsFaultOf, GivesScript}
use Rattle.script_text.specs.Laws.{Tells}
use Rattle.script_text.specs.Known.{known_of, known_with}
use Rattle.script_text.specs.Readings.{refuse, Fails}
use Rattle.script_text.specs.LineReadings.{line_at, then_at, lines_at, ended_at, ends_at, script_at, fault_at, FailsAt, GivesAt}
use Rattle.script_text.proofs.EachLemmas.{refused_ok}
use Rattle.script_text.proofs.KnownLaws.{IsLawful, lawful_start}
use Rattle.script_text.proofs.LineLaws.{IsPlace, line_ok, line_read, reason_of, line_fault, said_with, known_said, lawful_said, place_start, place_next}

-- ---- lines one after another

lines_nil : (known : Known) (number : ℕ) → lines_at known number [] ≡ Ok known
unfolding lines_at
lines_nil known number = refl

lines_more : (known : Known) (number : ℕ) (line : List ℕ) (lines : List (List ℕ)) (said : Option Item) → number < 20000 → line_at known (number + 1) line ≡ Ok said
    → lines_at known number (line ∷ lines) ≡ lines_at (known_with known said) (number + 1) lines
unfolding lines_at
lines_more known number line lines said lt e = rw (lt-leb 20000 number lt, e) refl

-- a line's reading, with the test of the number of lines
abbrev counted_at : Known → ℕ → List ℕ → Result (Option Item) Reason
counted_at known number line = refuse (leb 20000 number) reasons.TooManyLines (line_at known (number + 1) line)

-- how reading on goes, by what the next line gives
data Goes (known : Known) (number : ℕ) (line : List ℕ) (lines : List (List ℕ)) (total : Result Known (ℕ × Reason)) : Type 0 where
  stops : (why : Reason) → counted_at known number line ≡ Err why → total ≡ Err (number + 1, why) → Goes known number line lines total
  goes : (said : Option Item) → counted_at known number line ≡ Ok said → lines_at (known_with known said) (number + 1) lines ≡ total → Goes known number line lines total

goes_on : (known : Known) (number : ℕ) (line : List ℕ) (lines : List (List ℕ)) (total : Result Known (ℕ × Reason)) → lines_at known number (line ∷ lines) ≡ total → Goes known number line lines total
unfolding lines_at
goes_on known number line lines total e = by_reading (counted_at known number line) refl e where
  by_reading : (reading : Result (Option Item) Reason) → counted_at known number line ≡ reading → then_at (number + 1) reading (λ said. lines_at (known_with known said) (number + 1) lines) ≡ total → Goes known number line lines total
  by_reading (Ok said) f g = goes said f g
  by_reading (Err why) f g = stops why f (sym g)

-- the lines say items, after which this is known
record AreRead (before : List Item) (number : ℕ) (lines : List (List ℕ)) (last : Known) : Type 0 where
  later : List Item
  say : Say before (said_lines (enumerate_from (number + 1) lines)) later
  ascii : list_all is_ascii_line lines ≡ true
  same : last ≡ known_of (before ++ later)
  few : number ≤ 20000 → number + length lines ≤ 20000

-- one more line in front
read_more : (before : List Item) (number : ℕ) (line : List ℕ) (lines : List (List ℕ)) (last : Known) (said : Option Item) → number < 20000 → is_ascii_line line ≡ true → Tells before (number + 1) line said
    → AreRead (said_with before said) (number + 1) lines last → AreRead before number (line ∷ lines) last
read_more before number line lines last None lt ascii t r = record {
  later = r.later;
  say = rw t r.say;
  ascii = rw (ascii, r.ascii) refl;
  same = r.same;
  few = λ le. omega (arith, lt, r.few (omega (arith, lt)));
}
read_more before number line lines last (Some item) lt ascii t r = record {
  later = item ∷ r.later;
  say = rw t.0 (t.1.says, t.1.may, r.say);
  ascii = rw (ascii, r.ascii) refl;
  same = r.same ∙ ap known_of (append_assoc before (item ∷ []) r.later);
  few = λ le. omega (arith, lt, r.few (omega (arith, lt)));
}

abbrev given : {A : Type 0} → A → Result A (ℕ × Reason)
given x = Ok x

abbrev told : {A : Type 0} → ℕ → Reason → Result A (ℕ × Reason)
told n why = Err (n, why)

given_is : {A : Type 0} (x y : A) → given x ≡ given y → x ≡ y
given_is x y e = cc

unlike : {A : Type 0} {B : Type 0} (x : A) (n : ℕ) (why : Reason) → given x ≡ told n why → B
unlike x n why e = absurd cc

abbrev refusal_of : ℕ → Reason → ℕ × Reason
refusal_of n why = (n, why)

told_pair : {A : Type 0} (m n : ℕ) (why because : Reason) → told {A = A} m why ≡ told n because → refusal_of m why ≡ refusal_of n because
told_pair m n why because e = cc

told_is : {A : Type 0} (m n : ℕ) (why because : Reason) → told {A = A} m why ≡ told n because → (m ≡ n) × (why ≡ because)
told_is m n why because e =
    let p = told_pair m n why because e in
    (ap (λ (x : ℕ × Reason). x.0) p, ap (λ (x : ℕ × Reason). x.1) p)

lines_ok : (before : List Item) (number : ℕ) (lines : List (List ℕ)) (last : Known) → lines_at (known_of before) number lines ≡ Ok last → AreRead before number lines last
lines_ok before number [] last e = record {
  later = [];
  say = tt;
  ascii = refl;
  same = sym (given_is (known_of before) last (sym (lines_nil (known_of before) number) ∙ e)) ∙ ap known_of (sym (append-nil before));
  few = λ le. omega arith;
}
lines_ok before number (line ∷ lines) last e =
    elim (goes_on (known_of before) number line lines (Ok last) e) [
      | stops why f g ↦ unlike last (number + 1) why g
      | goes said f g ↦
          let r = refused_ok (leb 20000 number) reasons.TooManyLines (line_at (known_of before) (number + 1) line) said f in
          let t = line_ok before (number + 1) line said r.1 in
          read_more before number line lines last said (leb-false 20000 number r.0) t.0 t.1
          (lines_ok (said_with before said) (number + 1) lines last (ap (λ k. lines_at k (number + 1) lines) (known_said before said) ∙ g))
    ]

lines_read : (before : List Item) (number : ℕ) (lines : List (List ℕ)) (later : List Item) → IsLawful (known_of before) → IsPlace before (number + 1) → number + length lines ≤ 20000
    → Say before (said_lines (enumerate_from (number + 1) lines)) later → list_all is_ascii_line lines ≡ true → lines_at (known_of before) number lines ≡ Ok (known_of (before ++ later))
lines_read before number [] [] l p few say ascii = lines_nil (known_of before) number ∙ ap (λ b. Ok (known_of b)) (sym (append-nil before))
lines_read before number [] (item ∷ later) l p few say ascii = absurd say
lines_read before number (line ∷ lines) [] l p few say ascii =
    let a = and_parts (is_ascii_line line) (list_all is_ascii_line lines) ascii in
    elim (cases_Bool (is_passed_over (number + 1, line))) [
      | inl over ↦
          let one = line_read before (number + 1) line None l p a.0 over in
          lines_more (known_of before) number line lines None (omega arith) one
          ∙ lines_read before (number + 1) lines [] l (place_next before number line None p over) (omega arith) (rw over at say) a.1
      | inr passes ↦ let none = rw passes at say in absurd none
    ]
lines_read before number (line ∷ lines) (item ∷ later) l p few say ascii =
    let a = and_parts (is_ascii_line line) (list_all is_ascii_line lines) ascii in
    elim (cases_Bool (is_passed_over (number + 1, line))) [
      | inl over ↦
          let one = line_read before (number + 1) line None l p a.0 over in
          lines_more (known_of before) number line lines None (omega arith) one
          ∙ lines_read before (number + 1) lines (item ∷ later) l (place_next before number line None p over) (omega arith) (rw over at say) a.1
      | inr passes ↦
          let s = rw passes at say in
          let t : Tells before (number + 1) line (Some item) = (passes, record { says = s.0; may = s.1 }) in
          let one = line_read before (number + 1) line (Some item) l p a.0 t in
          lines_more (known_of before) number line lines (Some item) (omega arith) one
          ∙ ap (λ k. lines_at k (number + 1) lines) (sym (known_said before (Some item)))
          ∙ lines_read (before ++ item ∷ []) (number + 1) lines later (lawful_said before (number + 1) line (Some item) l t) (place_next before number line (Some item) p t) (omega arith) s.2 a.1
          ∙ ap (λ b. Ok (known_of b)) (append_assoc before (item ∷ []) later)
    ]

-- ---- the first faulty line

-- the line after so many is the first faulty one
record FaultAfter (before : List Item) (number : ℕ) (lines : List (List ℕ)) (n : ℕ) (why : Reason) : Type 0 where
  skipped : ℕ
  place : n ≡ number + skipped + 1
  later : List Item
  say : Say before (said_lines (enumerate_from (number + 1) (take skipped lines))) later
  ascii : list_all is_ascii_line (take skipped lines) ≡ true
  few : number + length (take skipped lines) ≤ 20000
  line : List ℕ
  at : slice_get lines skipped ≡ Some line
  fault : fault_of (before ++ later) n line ≡ Some why

same_count : (number : ℕ) → number ≤ 20000 → leb 20000 number ≡ eqb (number + 1) 20001
same_count number le =
    elim (cases_Bool (leb 20000 number)) [
      | inl e ↦ let h = leb-true 20000 number e in e ∙ sym (eq-eqb (number + 1) 20001 (omega arith))
      | inr e ↦ let h = leb-false 20000 number e in e ∙ sym (ne_eqb (number + 1) 20001 (λ k. omega (arith, k, h)))
    ]

line_stops : (before : List Item) (number : ℕ) (line : List ℕ) (why : Reason) → IsPlace before (number + 1) → number ≤ 20000 → counted_at (known_of before) number line ≡ Err why → fault_of before (number + 1) line ≡ Some why
line_stops before number line why p le e =
    let counted : refuse (eqb (number + 1) 20001) reasons.TooManyLines (line_at (known_of before) (number + 1) line) ≡ Err why = rw (← same_count number le) e in
    line_fault before (number + 1) line p ∙ ap reason_of counted

fault_more : (before : List Item) (number : ℕ) (line : List ℕ) (lines : List (List ℕ)) (said : Option Item) (n : ℕ) (why : Reason) → is_ascii_line line ≡ true → Tells before (number + 1) line said
    → FaultAfter (said_with before said) (number + 1) lines n why → FaultAfter before number (line ∷ lines) n why
fault_more before number line lines None n why ascii t f = record {
  skipped = suc f.skipped;
  place = omega (arith, f.place);
  later = f.later;
  say = rw t f.say;
  ascii = rw (ascii, f.ascii) refl;
  few = omega (arith, f.few);
  line = f.line;
  at = f.at;
  fault = f.fault;
}
fault_more before number line lines (Some item) n why ascii t f = record {
  skipped = suc f.skipped;
  place = omega (arith, f.place);
  later = item ∷ f.later;
  say = rw t.0 (t.1.says, t.1.may, f.say);
  ascii = rw (ascii, f.ascii) refl;
  few = omega (arith, f.few);
  line = f.line;
  at = f.at;
  fault = ap (λ b. fault_of b n f.line) (sym (append_assoc before (item ∷ []) f.later)) ∙ f.fault;
}

lines_stop : (before : List Item) (number : ℕ) (lines : List (List ℕ)) (n : ℕ) (why : Reason) → IsPlace before (number + 1) → number ≤ 20000 → lines_at (known_of before) number lines ≡ Err (n, why)
    → FaultAfter before number lines n why
lines_stop before number [] n why p le e = unlike (known_of before) n why (sym (lines_nil (known_of before) number) ∙ e)
lines_stop before number (line ∷ lines) n why p le e =
    elim (goes_on (known_of before) number line lines (Err (n, why)) e) [
      | stops because f g ↦
          let same = told_is {A = Known} n (number + 1) why because g in
          record {
            skipped = 0;
            place = omega (arith, same.0);
            later = [];
            say = tt;
            ascii = refl;
            few = omega arith;
            line = line;
            at = refl;
            fault = rw (same.0, same.1) (ap (λ b. fault_of b (number + 1) line) (append-nil before) ∙ line_stops before number line because p le f);
          }
      | goes said f g ↦
          let r = refused_ok (leb 20000 number) reasons.TooManyLines (line_at (known_of before) (number + 1) line) said f in
          let lt = leb-false 20000 number r.0 in
          let t = line_ok before (number + 1) line said r.1 in
          fault_more before number line lines said n why t.0 t.1
          (lines_stop (said_with before said) (number + 1) lines n why (place_next before number line said p t.1) (omega (arith, lt)) (ap (λ k. lines_at k (number + 1) lines) (known_said before said) ∙ g))
    ]

-- ---- the bytes

abbrev total_at : List ℕ → Result Known (ℕ × Reason)
total_at bytes = lines_at (known_of []) 0 (lines_of bytes)

pub script_short : (bytes : List ℕ) → length bytes ≤ 1048576 → script_at bytes ≡ ends_at (length (lines_of bytes)) (total_at bytes)
unfolding script_at
script_short bytes le = rw (le-ltb 1048576 (length bytes) le) refl

pub script_long : (bytes : List ℕ) → 1048576 < length bytes → script_at bytes ≡ Err (0, reasons.ScriptTooLong)
unfolding script_at
script_long bytes lt = rw (lt-ltb 1048576 (length bytes) lt) refl

pub ended_begun : (number : ℕ) (known : Known) → is_begun known.stage ≡ true → ended_at number known ≡ Ok known.script
unfolding ended_at
ended_begun number known h = rw h refl

pub ended_not : (number : ℕ) (known : Known) → is_begun known.stage ≡ false → ended_at number known ≡ Err (number + 1, if eqb number 0 then reasons.BadVersion else reasons.MissingBegin)
unfolding ended_at
ended_not number known h = rw h refl

-- the lines say items, and the header has ended
accepted : (bytes : List ℕ) (script : Script) (last : Known) → length bytes ≤ 1048576 → total_at bytes ≡ Ok last → ended_at (length (lines_of bytes)) last ≡ Ok script → IsScript bytes script
accepted bytes script last short e ended =
    let r = lines_ok [] 0 (lines_of bytes) last e in
    elim (cases_Bool (is_begun last.stage)) [
      | inl begun ↦ record {
        short = omega (arith, short);
        said = r.later;
        lines = record { few = omega (arith, r.few (omega arith)); ascii = r.ascii; say = r.say };
        begun = ap (λ (k : Known). is_begun k.stage) (sym r.same) ∙ begun;
        same = sym (given_is last.script script (sym (ended_begun (length (lines_of bytes)) last begun) ∙ ended)) ∙ ap (λ (k : Known). k.script) r.same;
      }
      | inr open_header ↦ unlike script (length (lines_of bytes) + 1) (if eqb (length (lines_of bytes)) 0 then reasons.BadVersion else reasons.MissingBegin)
          (sym ended ∙ ended_not (length (lines_of bytes)) last open_header)
    ]

-- no line is faulty, and the header does not end
not_ended : (bytes : List ℕ) (last : Known) (n : ℕ) (why : Reason) → total_at bytes ≡ Ok last → ended_at (length (lines_of bytes)) last ≡ Err (n, why) → LacksBegin (lines_of bytes) n why
not_ended bytes last n why e ended =
    let r = lines_ok [] 0 (lines_of bytes) last e in
    elim (cases_Bool (is_begun last.stage)) [
      | inl begun ↦ unlike last.script n why (sym (ended_begun (length (lines_of bytes)) last begun) ∙ ended)
      | inr open_header ↦
          let same = told_is {A = Script} n (length (lines_of bytes) + 1) why (if eqb (length (lines_of bytes)) 0 then reasons.BadVersion else reasons.MissingBegin)
          (sym ended ∙ ended_not (length (lines_of bytes)) last open_header) in
          record {
            said = r.later;
            all = record { few = omega (arith, r.few (omega arith)); ascii = r.ascii; say = r.say };
            not_begun = ap (λ (k : Known). is_begun k.stage) (sym r.same) ∙ open_header;
            after_all = same.0;
            reason = same.1;
          }
    ]

first_fault : (bytes : List ℕ) (n : ℕ) (why : Reason) → total_at bytes ≡ Err (n, why) → IsFirstFault (lines_of bytes) n why
first_fault bytes n why e =
    let f = lines_stop [] 0 (lines_of bytes) n why place_start (omega arith) e in
    let i : n - 1 ≡ f.skipped = omega (arith, f.place) in
    record {
      said = f.later;
      before = rw i (record { few = omega (arith, f.few); ascii = f.ascii; say = f.say });
      line = f.line;
      at = rw i f.at;
      counts_from_one = omega (arith, f.place);
      fault = f.fault;
    }

-- how the reading of bytes ends
data Ends (bytes : List ℕ) (total : Result Script (ℕ × Reason)) : Type 0 where
  long : 1048576 < length bytes → total ≡ Err (0, reasons.ScriptTooLong) → Ends bytes total
  all_read : (last : Known) → length bytes ≤ 1048576 → total_at bytes ≡ Ok last → ended_at (length (lines_of bytes)) last ≡ total → Ends bytes total
  stopped : (n : ℕ) (why : Reason) → length bytes ≤ 1048576 → total_at bytes ≡ Err (n, why) → total ≡ Err (n, why) → Ends bytes total

ends : (bytes : List ℕ) (total : Result Script (ℕ × Reason)) → script_at bytes ≡ total → Ends bytes total
ends bytes total e =
    elim (cases_Bool (ltb 1048576 (length bytes))) [
      | inl b ↦ let lt = ltb-true 1048576 (length bytes) b in long lt (sym e ∙ script_long bytes lt)
      | inr b ↦ let le = ltb-false 1048576 (length bytes) b in by_lines (total_at bytes) le refl (sym (script_short bytes le) ∙ e)
    ] where
      by_lines : (reading : Result Known (ℕ × Reason)) → length bytes ≤ 1048576 → total_at bytes ≡ reading → ends_at (length (lines_of bytes)) reading ≡ total → Ends bytes total
      by_lines (Ok last) le f g = all_read last le f g
      by_lines (Err refusal) le f g = stopped refusal.0 refusal.1 le f (sym g)

is_script : (bytes : List ℕ) (script : Script) → script_at bytes ≡ Ok script → IsScript bytes script
is_script bytes script e =
    elim (ends bytes (Ok script) e) [
      | long lt f ↦ unlike script 0 reasons.ScriptTooLong f
      | all_read last le f g ↦ accepted bytes script last le f g
      | stopped n why le f g ↦ unlike script n why g
    ]

script_read : (bytes : List ℕ) (script : Script) → IsScript bytes script → script_at bytes ≡ Ok script
script_read bytes script s =
    let short : length bytes ≤ 1048576 = omega (arith, s.short) in
    let r = lines_read [] 0 (lines_of bytes) s.said lawful_start place_start (omega (arith, s.lines.few)) s.lines.say s.lines.ascii in
    script_short bytes short ∙ ap (ends_at (length (lines_of bytes))) r ∙ ended_begun (length (lines_of bytes)) (known_of s.said) s.begun ∙ ap given (sym s.same)

is_refused : (bytes : List ℕ) (n : ℕ) (why : Reason) → script_at bytes ≡ Err (n, why) → IsRefused bytes n why
is_refused bytes n why e =
    elim (ends bytes (Err (n, why)) e) [
      | long lt f ↦ let same = told_is {A = Script} n 0 why reasons.ScriptTooLong f in inl (omega (arith, lt), same.0, same.1)
      | all_read last le f g ↦ inr (omega (arith, le), inr (not_ended bytes last n why f g))
      | stopped m because le f g ↦ let same = told_is {A = Script} n m why because g in inr (omega (arith, le), inl (rw (same.0, same.1) (first_fault bytes m because f)))
    ]

-- bytes are one script at most
pub one_script : (bytes : List ℕ) (a b : Script) → IsScript bytes a → IsScript bytes b → a ≡ b
one_script bytes a b is too = given_is a b (sym (script_read bytes a is) ∙ script_read bytes b too)

-- ---- what `parse` ensures

pub parse_accepted : (bytes : List ℕ) (r : Result Script ScriptFault) → GivesAt r (script_at bytes) → IfOk r (λ script. IsScript bytes script)
parse_accepted bytes (Ok script) e = is_script bytes script e
parse_accepted bytes (Err fault) e = tt

pub parse_only : (bytes : List ℕ) (r : Result Script ScriptFault) → GivesAt r (script_at bytes) → (script : Script) → IsScript bytes script → GivesScript r script
parse_only bytes (Ok other) e script s = given_is other script (sym e ∙ script_read bytes script s)
parse_only bytes (Err (script_faults.Refused line why)) e script s = unlike script line why (sym (script_read bytes script s) ∙ e)
parse_only bytes (Err script_faults.NoMemory) e script s = tt

pub parse_refused : (bytes : List ℕ) (r : Result Script ScriptFault) → GivesAt r (script_at bytes) → IfErr r (IsFaultOf bytes)
parse_refused bytes (Ok script) e = tt
parse_refused bytes (Err (script_faults.Refused line why)) e = is_refused bytes line why e
parse_refused bytes (Err script_faults.NoMemory) e = tt

-- ---- a loop over the lines

pub some_bytes : (bs : List ℕ) → false ≡ eqb (length bs) 0 → 0 < length bs
some_bytes [] e = absurd cc
some_bytes (b ∷ bs) e = omega arith

pub no_bytes : (bs : List ℕ) → true ≡ eqb (length bs) 0 → bs ≡ []
no_bytes [] e = refl
no_bytes (b ∷ bs) e = absurd (eqb-false (suc (length bs)) 0 (eqb-suc-zero (length bs)) (eqb-true (suc (length bs)) 0 (sym e)))

pub some_line : (bs : List ℕ) → 0 < length bs → (line : List ℕ) × (lines : List (List ℕ)) × (lines_of bs ≡ line ∷ lines)
some_line [] lt = absurd (omega arith)
some_line (b ∷ bs) lt =
    elim (cases_Bool (eqb b 10)) [
      | inl e ↦ ([], lines_of bs, rw e refl)
      | inr e ↦ onto (lines_of bs) e
    ] where
      onto : (parts : List (List ℕ)) → eqb b 10 ≡ false → (line : List ℕ) × (lines : List (List ℕ)) × (cond (eqb b 10) ([] ∷ parts) (onto_first b parts) ≡ line ∷ lines)
      onto [] e = (b ∷ [], [], rw e refl)
      onto (part ∷ parts) e = (b ∷ part, parts, rw e refl)

lines_full : (known : Known) (number : ℕ) (line : List ℕ) (lines : List (List ℕ)) → 20000 ≤ number → lines_at known number (line ∷ lines) ≡ Err (number + 1, reasons.TooManyLines)
unfolding lines_at
lines_full known number line lines le = rw (le-leb 20000 number le) refl

-- a refusal of the lines is one of the bytes
pub total_fails : (bytes : List ℕ) (n : ℕ) (why : Reason) → length bytes ≤ 1048576 → total_at bytes ≡ Err (n, why) → script_at bytes ≡ Err (n, why)
total_fails bytes n why le e = script_short bytes le ∙ ap (ends_at (length (lines_of bytes))) e

pub too_many : (known : Known) (number : ℕ) (rest bytes : List ℕ) → length bytes ≤ 1048576 → 0 < length rest → 20000 ≤ number → lines_at known number (lines_of rest) ≡ total_at bytes
    → script_at bytes ≡ Err (number + 1, reasons.TooManyLines)
too_many known number rest bytes le some full same =
    let s = some_line rest some in
    total_fails bytes (number + 1) reasons.TooManyLines le (sym same ∙ ap (lines_at known number) s.2 ∙ lines_full known number s.0 s.1 full)

line_fails : (known : Known) (number : ℕ) (line : List ℕ) (lines : List (List ℕ)) (why : Reason) → number < 20000 → line_at known (number + 1) line ≡ Err why → lines_at known number (line ∷ lines) ≡ Err (number + 1, why)
unfolding lines_at
line_fails known number line lines why lt e = rw (lt-leb 20000 number lt, e) refl

pub stops_at : (known : Known) (number : ℕ) (line : List ℕ) (lines : List (List ℕ)) (bytes : List ℕ) (fault : Fault) → length bytes ≤ 1048576 → number < 20000 → Fails fault (line_at known (number + 1) line)
    → lines_at known number (line ∷ lines) ≡ total_at bytes → FailsAt {X = Script} (fault_at (number + 1) fault) (script_at bytes)
stops_at known number line lines bytes faults.NoMemory le lt e same = tt
stops_at known number line lines bytes (faults.Refused why) le lt e same = total_fails bytes (number + 1) why le (sym same ∙ line_fails known number line lines why lt e)

-- what the next line tells goes on
pub next_lawful : (before : List Item) (number : ℕ) (line : List ℕ) (said : Option Item) → IsLawful (known_of before) → line_at (known_of before) (number + 1) line ≡ Ok said → IsLawful (known_of (said_with before said))
next_lawful before number line said l e = lawful_said before (number + 1) line said l (line_ok before (number + 1) line said e).1

pub next_same : (before : List Item) (number : ℕ) (line : List ℕ) (lines : List (List ℕ)) (said : Option Item) (total : Result Known (ℕ × Reason)) → number < 20000 → line_at (known_of before) (number + 1) line ≡ Ok said
    → lines_at (known_of before) number (line ∷ lines) ≡ total → lines_at (known_of (said_with before said)) (number + 1) lines ≡ total
next_same before number line lines said total lt e so_far =
    ap (λ k. lines_at k (number + 1) lines) (known_said before said) ∙ sym (lines_more (known_of before) number line lines said lt e) ∙ so_far

pub ends_with : (known : Known) (number : ℕ) (rest bytes : List ℕ) → length bytes ≤ 1048576 → rest ≡ [] → number + length (lines_of rest) ≡ length (lines_of bytes) → lines_at known number (lines_of rest) ≡ total_at bytes
    → script_at bytes ≡ ended_at number known
ends_with known number rest bytes le none count same =
    let nothing : length (lines_of rest) ≡ 0 = ap (λ bs. length (lines_of bs)) none in
    let all : length (lines_of bytes) ≡ number = omega (arith, count, nothing) in
    let last : total_at bytes ≡ Ok known = sym same ∙ ap (λ bs. lines_at known number (lines_of bs)) none ∙ lines_nil known number in
    script_short bytes le ∙ ap (λ r. ends_at (length (lines_of bytes)) r) last ∙ ap (λ n. ended_at n known) all
