-- A verdict on so many of the first bytes that script or report are too long is the verdict on all bytes.
use Rattle.std.proofs.Common.{◌≡◌, ℕ, suc, ◌+◌, ◌<◌, ◌≤◌, Bool, true, false, cond, leb, ◌||◌, ◌==◌, List, [], ◌∷◌, ◌++◌, length, take, drop, Option, Some, None, refl, ap, ap₂, sym, subst, ◌∙◌, inl, inr, ◌⊎◌, arith, option_map, append_assoc, append-nil, length-append, length-take, length-drop}
use Rattle.std.specs.Prelude.{codes}
use Rattle.std.specs.List.{onto_first}
use Rattle.std.specs.Str.{bytes_eq}
use Rattle.std.proofs.lemmas.Bool.{leb-true, leb-false}
use Rattle.std.proofs.lemmas.List.{take_all, length-take-le, take-append-drop, take-append-le, drop-append-le}
use Rattle.std.proofs.lemmas.Slice.Eq.{bytes_eq-Decides}
use Rattle.script_text.specs.declared.limits.TheConstants.{MAX_BYTES}
use Rattle.script_text.specs.declared.script.Script.{Script}
use Rattle.script_text.specs.declared.script.Reason.{Reason}
use Rattle.script_text.specs.declared.script.Reason.TheVariants.{ScriptTooLong}
use Rattle.script_text.specs.Pieces.{lines_of}
use Rattle.script_text.specs.Faults.{IsRefused}
use Rattle.report_text.specs.declared.report.Report.{Report}
use Rattle.run_check.specs.declared.verdict.Verdict.{Verdict}
use Rattle.run_check.specs.declared.verdict.Verdict.TheVariants.{NoScript, Missing, TooLong, BadForm, Hidden, Broken, Lawful}
use Rattle.run_check.specs.declared.checking.TheConstants.{MAX_REPORT}
use Rattle.run_check.specs.Refusals.{IsRefusedFor, IsTheScript}
use Rattle.run_check.specs.Verdicts.{IsVerdict, IsVerdictOf, IsVerdictFrom, OfText, OfReport, begins_report, bytes_before, report_start}

-- WHERE A REPORT BEGINS, BYTE BY BYTE

-- behind some bytes of a line
abbrev start_from : List ℕ → List ℕ → Option ℕ
start_from line [] = bytes_before (line ∷ [])
start_from line (b ∷ bs) = cond (b == 10)
    (cond (begins_report line) (Some 0) (option_map (λ n. length line + 1 + n) (start_from [] bs)))
    (start_from (line ++ b ∷ []) bs)

-- lines of which the first has these bytes before it
abbrev led : List ℕ → List (List ℕ) → List (List ℕ)
led line [] = line ∷ []
led line (next ∷ lines) = (line ++ next) ∷ lines

led_by_none : (lines : List (List ℕ)) → bytes_before (led [] lines) ≡ bytes_before lines
led_by_none [] = refl
led_by_none (line ∷ lines) = refl

led_more : (line : List ℕ) (b : ℕ) (lines : List (List ℕ)) → led line (onto_first b lines) ≡ led (line ++ b ∷ []) lines
led_more line b [] = refl
led_more line b (next ∷ lines) = ap (λ l. l ∷ lines) (sym (append_assoc line (b ∷ []) next))

starts : (line bs : List ℕ) → start_from line bs ≡ bytes_before (led line (lines_of bs))
starts line [] = refl
starts line (b ∷ bs) = go (b == 10) (starts [] bs) (starts (line ++ b ∷ []) bs) where
  ended : start_from [] bs ≡ bytes_before (led [] (lines_of bs)) → cond (begins_report line) (Some 0) (option_map (λ n. length line + 1 + n) (start_from [] bs))
      ≡ bytes_before ((line ++ []) ∷ lines_of bs)
  ended next = rw (append-nil line, next, led_by_none (lines_of bs)) refl

  go : (t : Bool) → start_from [] bs ≡ bytes_before (led [] (lines_of bs))
      → start_from (line ++ b ∷ []) bs ≡ bytes_before (led (line ++ b ∷ []) (lines_of bs)) → cond t
      (cond (begins_report line) (Some 0) (option_map (λ n. length line + 1 + n) (start_from [] bs)))
      (start_from (line ++ b ∷ []) bs)
      ≡ bytes_before (led line (cond t ([] ∷ lines_of bs) (onto_first b (lines_of bs))))
  go true next on = ended next
  go false next on = on ∙ sym (ap bytes_before (led_more line b (lines_of bs)))

start_is : (bs : List ℕ) → report_start bs ≡ start_from [] bs
start_is bs = sym (starts [] bs ∙ led_by_none (lines_of bs))

-- the line that begins a report has eight bytes
eight : (line : List ℕ) → begins_report line ≡ true → length line ≡ 8
eight line begins = go (bytes_eq line (codes "report 1")) refl where
  go : (t : Bool) → bytes_eq line (codes "report 1") ≡ t → length line ≡ 8
  go true e = ap length ((bytes_eq-Decides line (codes "report 1")).0 e)
  go false e = ap length ((bytes_eq-Decides line (codes "report 2")).0
      (sym (ap (λ t. t || bytes_eq line (codes "report 2")) e) ∙ begins))

-- a start that is not before the last bytes of so many
abbrev Late : ℕ → Option ℕ → Type 0
Late n start = (p : ℕ) → start ≡ Some p → n < p + 9

mapped : (n p : ℕ) (start : Option ℕ) → option_map (λ m. n + 1 + m) start ≡ Some p
    → (m : ℕ) × (start ≡ Some m) × (p ≡ n + 1 + m)
mapped n p None e = let f : ⊥ = cc (e) in absurd f
mapped n p (Some m) e = (m, refl, cc (e))

at_first : (line : List ℕ) (later : Option ℕ) → Late (length line)
    (cond (begins_report line) (Some 0) (option_map (λ n. length line + 1 + n) later))
at_first line later p e = go (begins_report line) refl e where
  go : (t : Bool) → begins_report line ≡ t → cond t (Some 0) (option_map (λ n. length line + 1 + n) later) ≡ Some p
      → length line < p + 9
  go true begins e = let long = eight line begins in omega (arith, long)
  go false begins e = let m = mapped (length line) p later e in let same = m.2 in omega (arith, same)

not_early : (line bs : List ℕ) → Late (length line) (start_from line bs)
not_early line [] = at_first line None
not_early line (b ∷ bs) = go (b == 10) (not_early (line ++ b ∷ []) bs) where
  go : (t : Bool) → Late (length (line ++ b ∷ [])) (start_from (line ++ b ∷ []) bs) → Late (length line) (cond t
      (cond (begins_report line) (Some 0) (option_map (λ n. length line + 1 + n) (start_from [] bs)))
      (start_from (line ++ b ∷ []) bs))
  go true on p e = at_first line (start_from [] bs) p e
  go false on p e = let more = on p e in
      let long = length-append line (b ∷ []) in omega (arith, more, long)

-- two starts are one, or both are not before the last bytes of so many
abbrev AreAlike : ℕ → Option ℕ → Option ℕ → Type 0
AreAlike n start other = (start ≡ other) ⊎ (Late n start × Late n other)

behind_none : (n : ℕ) (start other : Option ℕ) → AreAlike (length {A = ℕ} [] + n) start other → AreAlike n start other
behind_none n start other = subst (λ m. AreAlike m start other) same where
  same : length {A = ℕ} [] + n ≡ n
  same = omega arith

later_alike : (line : List ℕ) (n : ℕ) (start other : Option ℕ) → AreAlike n start other → AreAlike (length line + suc n)
    (cond (begins_report line) (Some 0) (option_map (λ m. length line + 1 + m) start))
    (cond (begins_report line) (Some 0) (option_map (λ m. length line + 1 + m) other))
later_alike line n start other (inl same) =
    inl (ap (λ s. cond (begins_report line) (Some 0) (option_map (λ m. length line + 1 + m) s)) same)
later_alike line n start other (inr late) = go (begins_report line) where
  later : (s : Option ℕ) → Late n s → Late (length line + suc n) (option_map (λ m. length line + 1 + m) s)
  later s l p e = let m = mapped (length line) p s e in let same = m.2 in let far = l m.0 m.1 in omega (arith, same, far)

  go : (t : Bool) → AreAlike (length line + suc n) (cond t (Some 0) (option_map (λ m. length line + 1 + m) start))
      (cond t (Some 0) (option_map (λ m. length line + 1 + m) other))
  go true = inl refl
  go false = inr (later start late.0, later other late.1)

alike_from : (line bs more : List ℕ) → AreAlike (length line + length bs) (start_from line bs) (start_from line (bs ++ more))
alike_from line [] more = inr (
  (λ p e. let far = not_early line [] p e in omega (arith, far)),
  (λ p e. let far = not_early line more p e in omega (arith, far)),
)
alike_from line (b ∷ bs) more = go (b == 10) (alike_from [] bs more) (alike_from (line ++ b ∷ []) bs more) where
  longer : AreAlike (length (line ++ b ∷ []) + length bs) (start_from (line ++ b ∷ []) bs) (start_from (line ++ b ∷ []) (bs ++ more))
      → AreAlike (length line + length (b ∷ bs)) (start_from (line ++ b ∷ []) bs) (start_from (line ++ b ∷ []) (bs ++ more))
  longer (inl same) = inl same
  longer (inr late) = let long = length-append line (b ∷ []) in inr (
    (λ p e. let far = late.0 p e in omega (arith, far, long)),
    (λ p e. let far = late.1 p e in omega (arith, far, long)),
  )

  go : (t : Bool) → AreAlike (length {A = ℕ} [] + length bs) (start_from [] bs) (start_from [] (bs ++ more))
      → AreAlike (length (line ++ b ∷ []) + length bs) (start_from (line ++ b ∷ []) bs) (start_from (line ++ b ∷ []) (bs ++ more))
      → AreAlike (length line + length (b ∷ bs))
      (cond t (cond (begins_report line) (Some 0) (option_map (λ n. length line + 1 + n) (start_from [] bs)))
      (start_from (line ++ b ∷ []) bs))
      (cond t (cond (begins_report line) (Some 0) (option_map (λ n. length line + 1 + n) (start_from [] (bs ++ more))))
      (start_from (line ++ b ∷ []) (bs ++ more)))
  go true next on = later_alike line (length bs) (start_from [] bs) (start_from [] (bs ++ more))
      (behind_none (length bs) (start_from [] bs) (start_from [] (bs ++ more)) next)
  go false next on = longer on

alike : (bs more : List ℕ) → AreAlike (length bs) (report_start bs) (report_start (bs ++ more))
alike bs more = rw (start_is bs, start_is (bs ++ more))
    (behind_none (length bs) (start_from [] bs) (start_from [] (bs ++ more)) (alike_from [] bs more))

-- VERDICTS

-- bytes that are too many are no script
no_script : (before : List ℕ) (script : Script) → MAX_BYTES < length before → IsTheScript before script → ⊥
no_script before script long is = let short = is.is.short in omega (arith, long, short)

no_text : (before : List ℕ) (given : Option (List ℕ)) (P : Script → List ℕ → Type 0) → MAX_BYTES < length before
    → OfText before given P → ⊥
no_text before given P long (script, text, is, e, p) = no_script before script long is

no_missing : (before : List ℕ) (given : Option (List ℕ)) → MAX_BYTES < length before → IsVerdictOf before given Missing → ⊥
no_missing before given long (script, is, none) = no_script before script long is

refusal : (before : List ℕ) (line : ℕ) (why : Reason) → MAX_BYTES < length before → IsRefusedFor before line why
    → NoScript line why ≡ NoScript 0 ScriptTooLong
refusal before line why long is = go is.refused where
  go : IsRefused before line why → NoScript line why ≡ NoScript 0 ScriptTooLong
  go (inl (more, at, for)) = ap₂ NoScript at for
  go (inr (short, fault)) = absurd (omega (arith, long, short))

one_refusal : (before : List ℕ) (given : Option (List ℕ)) (verdict : Verdict) → MAX_BYTES < length before
    → IsVerdictOf before given verdict → verdict ≡ NoScript 0 ScriptTooLong
one_refusal before given (NoScript line why) long p = refusal before line why long p
one_refusal before given Missing long p = absurd (no_missing before given long p)
one_refusal before given TooLong long p = absurd (no_text before given _ long p)
one_refusal before given BadForm long p = absurd (no_text before given _ long p)
one_refusal before given (Hidden line) long p = absurd (no_text before given _ long p)
one_refusal before given (Broken rule) long p = absurd (no_text before given _ long p)
one_refusal before given Lawful long p = absurd (no_text before given _ long p)

is_refusal : (before : List ℕ) → MAX_BYTES < length before → IsRefusedFor before 0 ScriptTooLong
is_refusal before long = record {
  refused = inl (long, refl, refl);
  none = λ script is. let short = is.short in omega (arith, long, short);
}

-- no script ends before so many bytes
abbrev Behind : Option ℕ → Type 0
Behind start = (p : ℕ) → start ≡ Some p → MAX_BYTES < p

front_long : (p : ℕ) (bytes : List ℕ) → MAX_BYTES < p → MAX_BYTES < length bytes → MAX_BYTES < length (take p bytes)
front_long p bytes far long = let n = length-take p bytes in omega (arith, far, long, n)

refused_only : (start : Option ℕ) (bytes : List ℕ) (verdict : Verdict) → MAX_BYTES < length bytes → Behind start
    → IsVerdictFrom start bytes verdict → verdict ≡ NoScript 0 ScriptTooLong
refused_only None bytes verdict long far p = one_refusal bytes None verdict long p
refused_only (Some start) bytes verdict long far p =
    one_refusal (take start bytes) (Some (drop start bytes)) verdict (front_long start bytes (far start refl) long) p

is_refused : (start : Option ℕ) (bytes : List ℕ) → MAX_BYTES < length bytes → Behind start
    → IsVerdictFrom start bytes (NoScript 0 ScriptTooLong)
is_refused None bytes long far = is_refusal bytes long
is_refused (Some start) bytes long far = is_refusal (take start bytes) (front_long start bytes (far start refl) long)

some_is : (s t : List ℕ) → Some s ≡ Some t → s ≡ t
some_is s t e = cc (e)

few_in_form : (before text : List ℕ) → MAX_REPORT < length text → IsVerdictOf before (Some text) BadForm → ⊥
few_in_form before text long (script, t, is, e, (few, none)) =
    let same = ap length (some_is text t e) in omega (arith, long, few, same)

few_reported : (before text : List ℕ) (P : Script → Report → Type 0) → MAX_REPORT < length text
    → OfReport before (Some text) P → ⊥
few_reported before text P long (script, t, is, e, (report, few, the, p)) =
    let same = ap length (some_is text t e) in omega (arith, long, few, same)

-- a report that is too long is so with more behind it
still_too_long : (before text more : List ℕ) → MAX_REPORT < length text → IsVerdictOf before (Some text) TooLong
    → IsVerdictOf before (Some (text ++ more)) TooLong
still_too_long before text more long (script, t, is, e, far) =
    let n = length-append text more in (script, text ++ more, is, refl, omega (arith, long, n))

none_left_out : (before text : List ℕ) → IsVerdictOf before (Some text) Missing → ⊥
none_left_out before text (script, is, none) = let f : ⊥ = cc (none) in f

with_more : (before text more : List ℕ) (verdict : Verdict) → MAX_REPORT < length text
    → IsVerdictOf before (Some text) verdict → IsVerdictOf before (Some (text ++ more)) verdict
with_more before text more (NoScript line why) long p = p
with_more before text more Missing long p = absurd (none_left_out before text p)
with_more before text more TooLong long p = still_too_long before text more long p
with_more before text more BadForm long p = absurd (few_in_form before text long p)
with_more before text more (Hidden line) long p = absurd (few_reported before text _ long p)
with_more before text more (Broken rule) long p = absurd (few_reported before text _ long p)
with_more before text more Lawful long p = absurd (few_reported before text _ long p)

module _ (bytes more : List ℕ) (verdict : Verdict) (long : MAX_BYTES + MAX_REPORT < length bytes) where
  many : MAX_BYTES < length bytes
  many = omega (arith, long)

  all_many : MAX_BYTES < length (bytes ++ more)
  all_many = let n = length-append bytes more in omega (arith, long, n)

  -- where no script ends before so many bytes, the bytes before the report are too many
  both_refused : (start other : Option ℕ) → Behind start → Behind other → IsVerdictFrom start bytes verdict
      → IsVerdictFrom other (bytes ++ more) verdict
  both_refused start other far far' p = subst (λ (v : Verdict). IsVerdictFrom other (bytes ++ more) v)
      (sym (refused_only start bytes verdict many far p)) (is_refused other (bytes ++ more) all_many far')

  none_behind : Behind None
  none_behind p e = let f : ⊥ = cc (e) in absurd f

  one_start : (start : Option ℕ) → IsVerdictFrom start bytes verdict → IsVerdictFrom start (bytes ++ more) verdict
  one_start None p = both_refused None None none_behind none_behind p
  one_start (Some start) p = go (leb start MAX_BYTES) refl where
    behind : MAX_BYTES < start → Behind (Some start)
    behind far q e = let same : start ≡ q = cc (e) in omega (arith, far, same)

    go : (t : Bool) → leb start MAX_BYTES ≡ t → IsVerdictFrom (Some start) (bytes ++ more) verdict
    go true e =
        let le = leb-true start MAX_BYTES e in
        let within : start ≤ length bytes = omega (arith, le, long) in
        let rest = length-drop start bytes in
        rw (take-append-le start bytes more within, drop-append-le start bytes more within)
        (with_more (take start bytes) (drop start bytes) more verdict (omega (arith, le, long, rest)) p)
    go false e =
        let far = behind (leb-false start MAX_BYTES e) in both_refused (Some start) (Some start) far far p

  on_more : IsVerdict bytes verdict → IsVerdict (bytes ++ more) verdict
  on_more p = go (alike bytes more) where
    behind : (start : Option ℕ) → Late (length bytes) start → Behind start
    behind start late q e = let far = late q e in omega (arith, far, long)

    go : AreAlike (length bytes) (report_start bytes) (report_start (bytes ++ more)) → IsVerdict (bytes ++ more) verdict
    go (inl same) = subst (λ (s : Option ℕ). IsVerdictFrom s (bytes ++ more) verdict) same (one_start (report_start bytes) p)
    go (inr late) = both_refused (report_start bytes) (report_start (bytes ++ more)) (behind _ late.0) (behind _ late.1) p

-- the verdict on so many of the first bytes is that on all
pub on_all : (n : ℕ) (all : List ℕ) (verdict : Verdict) → MAX_BYTES + MAX_REPORT < n → IsVerdict (take n all) verdict
    → IsVerdict all verdict
on_all n all verdict many p = go (leb (length all) n) refl where
  go : (t : Bool) → leb (length all) n ≡ t → IsVerdict all verdict
  go true e = subst (λ b. IsVerdict b verdict) (take_all n all (leb-true (length all) n e)) p
  go false e =
      let more = leb-false (length all) n e in
      let exact = length-take-le n all (omega (arith, more)) in
      subst (λ b. IsVerdict b verdict) (take-append-drop n all)
      (on_more (take n all) (drop n all) verdict (omega (arith, many, exact)) p)
