-- Decisions by keys.
use Rattle.std.proofs.Common.{◌≡◌, ◌⊎◌, ℕ, Bool, true, false, ◌&&◌, eqb, cond, List, [], ◌∷◌, Option, Some, None, Ordering, Less, Equal, Greater, inl, inr, refl, ap, sym, ◌∙◌, arith}
use Rattle.std.specs.Ordering.{is_eq, nat_cmp, ordering_then}
use Rattle.std.specs.List.{find}
use Rattle.std.specs.Option.{option_map}
use Rattle.std.specs.Map.{lookup}
use Rattle.std.proofs.lemmas.Bool.{cases_Bool}
use Rattle.std.proofs.lemmas.Bool.Decides.{nat_tests}
use Rattle.log_node.specs.declared.ids.Key.{Key}
use Rattle.log_node.specs.Order.{same_key}
use Rattle.log_node.proofs.CallerLemmas.{same_key-is}
use Rattle.log_node.specs.contracts.ids.KeyOrd.TheImpl.{cmp-value}
use Rattle.part_fold.specs.declared.decision.Decision.{Decision}
use Rattle.part_fold.specs.declared.decided.Decided.{Decided}
use Rattle.part_fold.specs.PartStates.{decided_at, decided_with}

same_number : (a b : ℕ) → is_eq (nat_cmp a b) ≡ eqb b a
same_number a b = grind (arith, nat_tests)

both_same : (p q : Ordering) → is_eq (ordering_then p q) ≡ (is_eq p && is_eq q)
both_same Less q = refl
both_same Equal q = refl
both_same Greater q = refl

-- keys stand as equal where they are one
pub equal_is_same : (a b : Key) → is_eq (cmp-value.it a b) ≡ same_key b a
equal_is_same a b =
    let id = ordering_then (nat_cmp a.id.client b.id.client) (nat_cmp a.id.count b.id.count) in
    both_same (nat_cmp a.stamp b.stamp) id
    ∙ rw (both_same (nat_cmp a.id.client b.id.client) (nat_cmp a.id.count b.id.count), same_number a.stamp b.stamp, same_number a.id.client b.id.client, same_number a.id.count b.id.count) refl

swapped_number : (a b : ℕ) → eqb a b ≡ eqb b a
swapped_number a b = grind (arith, nat_tests)

-- which key is named first does not matter
pub swapped : (a b : Key) → same_key a b ≡ same_key b a
swapped a b = rw (swapped_number a.stamp b.stamp, swapped_number a.id.client b.id.client, swapped_number a.id.count b.id.count) refl

-- what a map has at a key
pub found : (key : Key) (es : List (Key × Bool)) → lookup (λ k. is_eq (cmp-value.it key k)) es ≡ option_map (λ e. e.1) (find (λ e. same_key e.0 key) es)
found key [] = refl
found key (e ∷ es) = elim (cases_Bool (same_key e.0 key)) [
  | inl here ↦ rw (equal_is_same key e.0, here) refl
  | inr other ↦ rw (equal_is_same key e.0, other) (found key es)
]

-- what is decided after a decision on a key that had none
pub one_more : (old new : Decided) (decision : Decision) → decided_at old decision.key ≡ None
    → ((key : Key) → lookup (λ k. is_eq (cmp-value.it key k)) new.outcomes.entries ≡ cond (is_eq (cmp-value.it decision.key key)) (Some decision.commits) (lookup (λ k. is_eq (cmp-value.it key k)) old.outcomes.entries))
    → (key : Key) → decided_at new key ≡ decided_with (decided_at old key) decision key
one_more old new decision none step key =
    sym (found key new.outcomes.entries) ∙ step key ∙ rw (equal_is_same decision.key key, swapped key decision.key, found key old.outcomes.entries) (by_test (cases_Bool (same_key decision.key key))) where
      same_one : same_key decision.key key ≡ true → decided_at old key ≡ None
      same_one h = ap (decided_at old) (sym (same_key-is decision.key key h)) ∙ none

      other_one : (o : Option Bool) → same_key decision.key key ≡ false → o ≡ decided_with o decision key
      other_one (Some commits) h = refl
      other_one None h = rw h refl

      by_test : (same_key decision.key key ≡ true) ⊎ (same_key decision.key key ≡ false)
          → cond (same_key decision.key key) (Some decision.commits) (decided_at old key) ≡ decided_with (decided_at old key) decision key
      by_test (inl h) = rw (same_one h, h) refl
      by_test (inr h) = rw h (other_one (decided_at old key) h)
