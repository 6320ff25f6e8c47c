-- What is said of a text goes with one status, and what is said of the bytes that were read is said of all.
use Rattle.std.proofs.Common.{◌≡◌, ℕ, ◌+◌, List, take, Option, Some, None, refl, ap, subst, ◌∙◌, inl, inr, ◌⊎◌, lit<}
use Rattle.std.specs.Prelude.{IfSome, ◌≢◌}
use Rattle.run_check.specs.declared.verdict.Verdict.{Verdict}
use Rattle.run_check.specs.declared.verdict.Verdict.TheVariants.{NoScript}
use Rattle.run_check.specs.Verdicts.{IsVerdict}
use Rattle.run_check.specs.Laws.{OneVerdict, SaySame}
use Rattle.run_script.specs.declared.status.Status.{Status}
use Rattle.run_script.specs.declared.status.Status.TheVariants.{Done, BadWords, Refused, ReadFault, WriteFault, NoMemory, Unlawful}
use Rattle.run_script.specs.declared.checking.TheConstants.{MAX_JUDGED}
use Rattle.run_script.specs.TopCall.{status_of, TellsVerdict, OfAll, Says, SaysFront}
use Rattle.run_script.proofs.WholeVerdicts.{on_all}

-- what is said of the bytes that were read is said of all that were left
said_of_all : (read bytes : List ℕ) (left : Option (List ℕ)) → bytes ≡ read
    → IfSome left (λ all. read ≡ take (MAX_JUDGED + 1) all) → (verdict : Verdict) → IsVerdict bytes verdict
    → (all : List ℕ) × IfSome left (λ known. known ≡ all) × IsVerdict all verdict
said_of_all read bytes None same is verdict p = (bytes, tt, p)
said_of_all read bytes (Some all) same is verdict p =
    (all, refl, on_all (MAX_JUDGED + 1) all verdict (lit< tt) (subst (λ b. IsVerdict b verdict) (same ∙ is) p))

pub whole_said : (status : Status) (read bytes : List ℕ) (left old new : Option (List ℕ)) → bytes ≡ read
    → IfSome left (λ all. read ≡ take (MAX_JUDGED + 1) all) → Says status bytes old new
    → OfAll left (λ all. Says status all old new)
whole_said status read bytes left old new same is (verdict, p, goes, out) =
    let all = said_of_all read bytes left same is verdict p in (all.0, all.1, (verdict, all.2, goes, out))

pub whole_begun : (read bytes : List ℕ) (left old new : Option (List ℕ)) → bytes ≡ read
    → IfSome left (λ all. read ≡ take (MAX_JUDGED + 1) all) → SaysFront bytes old new
    → OfAll left (λ all. SaysFront all old new)
whole_begun read bytes left old new same is (verdict, p, out) =
    let all = said_of_all read bytes left same is verdict p in (all.0, all.1, (verdict, all.2, out))

-- with no fault a verdict was said, or memory was refused
pub judges : (status : Status) (read_fault write_fault : Type 0) → (status ≢ BadWords)
    → (status ≡ ReadFault → read_fault) → (status ≡ WriteFault → write_fault) → (read_fault → ⊥) → (write_fault → ⊥)
    → TellsVerdict status ⊎ (status ≡ NoMemory)
judges Done r w no_words reading writing no_r no_w = inl (inl refl)
judges BadWords r w no_words reading writing no_r no_w = absurd (no_words refl)
judges Refused r w no_words reading writing no_r no_w = inl (inr (inl refl))
judges ReadFault r w no_words reading writing no_r no_w = absurd (no_r (reading refl))
judges WriteFault r w no_words reading writing no_r no_w = absurd (no_w (writing refl))
judges NoMemory r w no_words reading writing no_r no_w = inr refl
judges Unlawful r w no_words reading writing no_r no_w = inl (inr (inr refl))

-- verdicts that say the same go with one status
same_status : (a b : Verdict) → SaySame a b → status_of a ≡ status_of b
same_status (NoScript line why) (NoScript other because) same = refl
same_status a b same = ap status_of same

-- the status is that of each verdict on what was left
pub says_each : OneVerdict → (status : Status) (left old new : Option (List ℕ)) (all : List ℕ) (verdict : Verdict)
    → OfAll left (λ bytes. Says status bytes old new) → left ≡ Some all → IsVerdict all verdict → status ≡ status_of verdict
says_each one status None old new all verdict said known is = let f : ⊥ = cc (known) in absurd f
says_each one status (Some left) old new all verdict (bytes, read, (said, was, goes, out)) known is =
    goes ∙ same_status said verdict (one bytes said verdict was (subst (λ b. IsVerdict b verdict) same is)) where
      same : all ≡ bytes
      same = cc (known, read)
