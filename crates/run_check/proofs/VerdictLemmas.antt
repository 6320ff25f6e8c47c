-- What reading a script tells of the verdict, and how pieces of its line are joined.
use Rattle.std.proofs.Common.{◌≡◌, refl, sym, subst, ℕ, List, ◌++◌, Option, Some, Result, Ok, Err, append_assoc}
use Rattle.std.specs.Prelude.{IfOk}
use Rattle.script_text.specs.declared.script.Script.{Script}
use Rattle.script_text.specs.Grammar.{IsScript}
use Rattle.script_text.proofs.CallerLemmas.{one_script}
use Rattle.run_check.specs.declared.verdict.Verdict.{Verdict}
use Rattle.run_check.specs.Refusals.{IsTheScript}
use Rattle.run_check.specs.Verdicts.{IsVerdictOf}

pub the_script : (bytes : List ℕ) (script : Script) → IsScript bytes script → IsTheScript bytes script
the_script bytes script is = record { is = is; only = λ other too. one_script bytes script other is too }

-- what is said where a script was read, of the text that is given
pub said_of : {E : Type 0} (r : Result Verdict E) (bytes text : List ℕ) (given : Option (List ℕ)) (script : Script)
    → IsTheScript bytes script → given ≡ Some text
    → IfOk r (λ verdict. (before : List ℕ) → IsTheScript before script → IsVerdictOf before (Some text) verdict)
    → IfOk r (IsVerdictOf bytes given)
said_of (Ok verdict) bytes text given script is e all =
    subst (λ (g : Option (List ℕ)). IsVerdictOf bytes g verdict) (sym e) (all bytes is)
said_of (Err fault) bytes text given script is e all = tt

-- five pieces, joined from the right and from the left
pub joined : (a b c d e : List ℕ) → a ++ (b ++ (c ++ (d ++ e))) ≡ a ++ b ++ c ++ d ++ e
joined a b c d e = simp append_assoc refl
