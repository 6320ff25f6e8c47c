-- What decisions say, before anything is known.
use Rattle.std.proofs.Common.{◌≡◌, ◌⊎◌, ◌∙◌, ap, sym, subst, ℕ, ◌+◌, ◌<◌, ◌≤◌, List, [], ◌∷◌, ◌++◌, length, length-append, inl, inr, arith}
use Rattle.std.specs.Prelude.{slice_index_or}
use Rattle.std.proofs.lemmas.Bool.{cases_lt}
use Rattle.part_fold.specs.declared.decision.Decision.{Decision}
use Rattle.lawful_run.specs.Callers.{commands_of}
use Rattle.run_rules.specs.Nodes.{any_decision}
use Rattle.object_law.proofs.GoingLemmas.{at_before, at_last, at_past}
use Rattle.walk_law.specs.Finds.{decision_at}
use Rattle.walk_law.specs.Walking.{IsStepOf, Walked}

-- one for each command of the first so many clients, of which nothing is known
pub record AreUnknown (walked : Walked) (count : ℕ) (table : List (List Decision)) : Type 0 where
  pub many : length table ≡ count
  pub each : (client : ℕ) → client < count → length (slice_index_or table client []) ≡ length (commands_of walked.script client)
  pub none : (client k : ℕ) → decision_at table client k ≡ any_decision

pub unknown_none : (walked : Walked) (table : List (List Decision)) → table ≡ [] → AreUnknown walked 0 table
unknown_none walked table is = record {
  many = ap length is;
  each = λ client lt. absurd (let f : ⊥ = omega (arith, lt) in f);
  none = λ client k. ap (λ (t : List (List Decision)). decision_at t client k) is;
}

pub unknown_next : (walked : Walked) (count : ℕ) (table more : List (List Decision)) (its : List Decision)
    → length its ≡ length (commands_of walked.script count) → ((k : ℕ) → slice_index_or its k any_decision ≡ any_decision)
    → more ≡ table ++ its ∷ [] → AreUnknown walked count table → AreUnknown walked (count + 1) more
unknown_next walked count table more its long none longer are = record {
  many = ap length longer ∙ (length-append table (its ∷ []) ∙ ap (λ (n : ℕ). n + 1) are.many);
  each = λ client lt.
      ap (λ (t : List (List Decision)). length (slice_index_or t client [])) longer ∙ each client lt (cases_lt client count);
  none = λ client k.
      ap (λ (t : List (List Decision)). decision_at t client k) longer ∙ at client k (cases_lt client count);
} where
  here : slice_index_or (table ++ its ∷ []) count [] ≡ its
  here = ap (λ (n : ℕ). slice_index_or (table ++ its ∷ []) n []) (sym are.many) ∙ at_last table its []

  each : (client : ℕ) → client < count + 1 → (client < count) ⊎ (count ≤ client)
      → length (slice_index_or (table ++ its ∷ []) client []) ≡ length (commands_of walked.script client)
  each client lt (inl less) =
      let many = are.many in
      ap length (at_before table (its ∷ []) client [] (omega (arith, less, many))) ∙ are.each client less
  each client lt (inr le) =
      let e : client ≡ count = omega (arith, lt, le) in
      subst (λ (n : ℕ). length (slice_index_or (table ++ its ∷ []) n []) ≡ length (commands_of walked.script n)) (sym e)
      (ap length here ∙ long)

  at : (client k : ℕ) → (client < count) ⊎ (count ≤ client) → decision_at (table ++ its ∷ []) client k ≡ any_decision
  at client k (inl less) =
      let many = are.many in
      ap (λ (l : List Decision). slice_index_or l k any_decision) (at_before table (its ∷ []) client [] (omega (arith, less, many)))
      ∙ are.none client k
  at client k (inr le) = by (cases_lt count client) where
    by : (count < client) ⊎ (client ≤ count) → decision_at (table ++ its ∷ []) client k ≡ any_decision
    by (inl lt) =
        let many = are.many in
        let long_is = length-append table (its ∷ []) in
        ap (λ (l : List Decision). slice_index_or l k any_decision)
        (at_past (table ++ its ∷ []) client [] (omega (arith, lt, many, long_is)))
    by (inr same) =
        let e : client ≡ count = omega (arith, same, le) in
        subst (λ (n : ℕ). decision_at (table ++ its ∷ []) n k ≡ any_decision) (sym e)
        (ap (λ (l : List Decision). slice_index_or l k any_decision) here ∙ none k)

-- each command has one
pub unknown_slots : (walked : Walked) (count : ℕ) (table : List (List Decision)) → length walked.report.clients ≤ count
    → AreUnknown walked count table → (client k : ℕ) → IsStepOf walked client k
    → (client < length table) × (k < length (slice_index_or table client []))
unknown_slots walked count table le are client k step =
    let walker = step.walker in
    let there = step.there in
    let many = are.many in
    let long = are.each client (omega (arith, walker, le)) in
    (omega (arith, walker, le, many), omega (arith, there, long))
