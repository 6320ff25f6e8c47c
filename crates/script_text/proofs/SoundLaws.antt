-- A line has no fault exactly where it is sound.
use Rattle.std.proofs.Common.{◌≡◌, ℕ, ◌+◌, ◌<◌, false, eqb, List, [], ◌∷◌, ◌++◌, length, Option, None, Result, Ok, Err, refl, sym, ap, subst, ◌∙◌, ◌↔◌, append_assoc, arith}
use Rattle.std.specs.List.{enumerate_from}
use Rattle.std.proofs.lemmas.Bool.{ne_eqb}
use Rattle.std.proofs.lemmas.List.{append-nil}
use Rattle.script_text.specs.declared.item.Item.{Item}
use Rattle.script_text.specs.declared.script.Reason.{Reason}
use Rattle.script_text.specs.declared.script.Reason.TheVariants as reasons
use Rattle.script_text.specs.Grammar.{said_lines, Say, AreLines}
use Rattle.script_text.specs.Faults.{fault_of}
use Rattle.script_text.specs.Laws.{IsSound}
use Rattle.script_text.specs.Known.{known_of}
use Rattle.script_text.specs.Readings.{refuse}
use Rattle.script_text.specs.LineReadings.{line_at}
use Rattle.script_text.proofs.KnownLaws.{IsLawful, lawful_start, lawful_push}
use Rattle.script_text.proofs.VersionLemmas.{something_last}
use Rattle.script_text.proofs.LineLaws.{IsPlace, line_ok, line_read, line_fault, reason_of}

-- lines that say items keep what is known lawful
say_lawful : (before : List Item) (lines : List (ℕ × List ℕ)) (later : List Item) → IsLawful (known_of before) → Say before lines later → IsLawful (known_of (before ++ later))
say_lawful before [] [] l s = subst (λ b. IsLawful (known_of b)) (sym (append-nil before)) l
say_lawful before [] (item ∷ later) l s = absurd s
say_lawful before (line ∷ lines) [] l s = absurd s
say_lawful before (line ∷ lines) (item ∷ later) l s =
    subst (λ b. IsLawful (known_of b)) (append_assoc before (item ∷ []) later) (say_lawful (before ++ item ∷ []) lines later (lawful_push before item l s.1) s.2)

-- the place after lines that say items
place_after : (lines : List (List ℕ)) (said : List Item) → Say [] (said_lines (enumerate_from 1 lines)) said → IsPlace said (length lines + 1)
place_after [] [] s = record { first = λ e. refl; later = λ other. absurd (other refl) }
place_after [] (item ∷ later) s = absurd s
place_after (line ∷ lines) [] s = absurd s
place_after (line ∷ lines) (item ∷ later) s = record { first = λ e. absurd (omega arith); later = λ _ e. something_last item later e }

no_reason : (reading : Result (Option Item) Reason) → reason_of reading ≡ None → (said : Option Item) × (reading ≡ Ok said)
no_reason (Ok said) e = (said, refl)
no_reason (Err why) e = absurd cc

pub sound : (lines : List (List ℕ)) (said : List Item) (line : List ℕ) → AreLines lines said → length lines < 20000
    → (fault_of said (length lines + 1) line ≡ None) ↔ IsSound said (length lines + 1) line
sound lines said line are few =
    let n = length lines + 1 in
    let p = place_after lines said are.say in
    let l = say_lawful [] (said_lines (enumerate_from 1 lines)) said lawful_start are.say in
    let counted : eqb n 20001 ≡ false = ne_eqb n 20001 (λ e. omega (arith, e, few)) in
    let fault : fault_of said n line ≡ reason_of (line_at (known_of said) n line) =
    line_fault said n line p ∙ ap (λ many. reason_of (refuse many reasons.TooManyLines (line_at (known_of said) n line))) counted in (
      λ none.
          let r = no_reason (line_at (known_of said) n line) (sym fault ∙ none) in
          let t = line_ok said n line r.0 r.1 in
          record { ascii = t.0; said = r.0; tells = t.1 },
      λ s. fault ∙ ap reason_of (line_read said n line s.said l p s.ascii s.tells),
    )
