-- How lines are found from the front, and the first of them with which a report begins.
use Rattle.std.proofs.Common.{◌≡◌, refl, ap, ◌∙◌, ℕ, zero, suc, ◌+◌, ◌-◌, ◌<◌, ◌≤◌, Bool, true, false, cond, List, [], ◌∷◌, length, get_or, take, drop, Option, Some, None, add-one, arith}
use Rattle.std.specs.Option.{option_map}
use Rattle.std.proofs.lemmas.Bool.{eq-eqb, ne_eqb}
use Rattle.script_text.specs.Pieces.{lines_of}
use Rattle.run_check.specs.Verdicts.{begins_report, bytes_before, report_start}

-- THE FIRST LINE

pub lines_first : (bs : List ℕ) (i : ℕ) → i < length bs → ((k : ℕ) → k < i → get_or bs k 0 ≡ 10 → ⊥) → get_or bs i 0 ≡ 10
    → lines_of bs ≡ take i bs ∷ lines_of (drop (i + 1) bs)
lines_first [] i lt none here = absurd (omega arith)
lines_first (b ∷ bs) zero lt none here = rw (eq-eqb b 10 here) refl
lines_first (b ∷ bs) (suc i) lt none here =
    let later = lines_first bs i (omega arith) (λ k h. none (suc k) (omega arith)) here in
    rw (ne_eqb b 10 (none 0 (omega arith)), later, add-one (suc i), add-one i) refl

lines_last : (b : ℕ) (bs : List ℕ) → ((k : ℕ) → k < suc (length bs) → get_or (b ∷ bs) k 0 ≡ 10 → ⊥) → lines_of (b ∷ bs) ≡ (b ∷ bs) ∷ []
lines_last b [] none = rw (ne_eqb b 10 (none 0 (omega arith))) refl
lines_last b (c ∷ bs) none = rw (ne_eqb b 10 (none 0 (omega arith)), lines_last c bs (λ k h. none (suc k) (omega arith))) refl

pub lines_all : (bs : List ℕ) → 0 < length bs → ((k : ℕ) → k < length bs → get_or bs k 0 ≡ 10 → ⊥) → lines_of bs ≡ bs ∷ []
lines_all [] some none = absurd (omega arith)
lines_all (b ∷ bs) some none = lines_last b bs none

-- THE REPORT

-- it begins in the whole text where it begins in the rest
pub record StartsIn (bytes rest : List ℕ) : Type 0 where
  pub within : length rest ≤ length bytes
  pub same : report_start bytes ≡ option_map (λ n. length bytes - length rest + n) (report_start rest)

module _ (line rest : List ℕ) (lines : List (List ℕ)) (are : lines_of rest ≡ line ∷ lines) where
  begins_here : begins_report line ≡ true → report_start rest ≡ Some 0
  begins_here is =
      ap bytes_before are
      ∙ ap (λ (b : Bool). cond b (Some 0) (option_map (λ n. length line + 1 + n) (bytes_before lines))) is

  begins_later : begins_report line ≡ false
      → report_start rest ≡ option_map (λ n. length line + 1 + n) (bytes_before lines)
  begins_later is =
      ap bytes_before are
      ∙ ap (λ (b : Bool). cond b (Some 0) (option_map (λ n. length line + 1 + n) (bytes_before lines))) is

pub starts_whole : (bytes : List ℕ) → StartsIn bytes bytes
starts_whole bytes = record { within = omega arith; same = by (report_start bytes) } where
  by : (o : Option ℕ) → o ≡ option_map (λ n. length bytes - length bytes + n) o
  by None = refl
  by (Some n) = ap Some (omega arith)

-- the first line of the rest begins it
pub starts_here : (bytes rest line : List ℕ) (lines : List (List ℕ)) → StartsIn bytes rest → lines_of rest ≡ line ∷ lines
    → begins_report line ≡ true → report_start bytes ≡ Some (length bytes - length rest)
starts_here bytes rest line lines starts are is =
    starts.same ∙ ap (option_map (λ n. length bytes - length rest + n)) (begins_here line rest lines are is)
    ∙ ap Some (omega arith)

-- it does not
pub starts_behind : (bytes rest line after : List ℕ) → StartsIn bytes rest → lines_of rest ≡ line ∷ lines_of after
    → (0 < length after → length rest ≡ length line + 1 + length after) → length after < length rest
    → begins_report line ≡ false → StartsIn bytes after
starts_behind bytes rest line after starts are end less not_here = record {
  within = omega (arith, starts.within, less);
  same =
      starts.same
      ∙ ap (option_map (λ n. length bytes - length rest + n)) (begins_later line rest (lines_of after) are not_here)
      ∙ by after end;
} where
  moved : (o : Option ℕ) (long : ℕ) → length rest ≡ length line + 1 + long
      → option_map (λ n. length bytes - length rest + n) (option_map (λ n. length line + 1 + n) o)
      ≡ option_map (λ n. length bytes - long + n) o
  moved None long e = refl
  moved (Some n) long e = ap Some (omega (arith, e, starts.within))

  by : (xs : List ℕ) → (0 < length xs → length rest ≡ length line + 1 + length xs)
      → option_map (λ n. length bytes - length rest + n) (option_map (λ n. length line + 1 + n) (report_start xs))
      ≡ option_map (λ n. length bytes - length xs + n) (report_start xs)
  by [] e = refl
  by (x ∷ xs) e = moved (report_start (x ∷ xs)) (length (x ∷ xs)) (e (omega arith))

-- nothing is left
pub starts_nowhere : (bytes rest : List ℕ) → StartsIn bytes rest → rest ≡ [] → report_start bytes ≡ None
starts_nowhere bytes rest starts none =
    starts.same ∙ ap (λ (r : List ℕ). option_map (λ n. length bytes - length rest + n) (report_start r)) none
