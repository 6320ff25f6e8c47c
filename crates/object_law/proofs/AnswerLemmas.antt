-- The answers to keys, one by one.
use Rattle.std.proofs.Common.{◌≡◌, ◌∙◌, refl, ap, sym, subst, ℕ, zero, suc, ◌+◌, ◌<◌, ◌≤◌, List, [], ◌∷◌, length, get_or, map, Some, inl, inr, arith}
use Rattle.std.specs.Prelude.{slice_get}
use Rattle.std.proofs.lemmas.Bool.{cases_lt}
use Rattle.std.proofs.lemmas.List.{length-map}
use Rattle.std.proofs.lemmas.Option.{slice_get-get_or}
use Rattle.log_node.proofs.CallerLemmas.{get_map, same_some}
use Rattle.object_fold.specs.Maps.{Value}
use Rattle.report_text.specs.declared.report.KeyAnswer.{KeyAnswer}
use Rattle.lawful_run.specs.Objects.{AreAnswers}

-- what stands at a place
pub at_place : {A : Type 0} (xs : List A) (n : ℕ) (x : A) → n < length xs → x ≡ get_or xs n x → slice_get xs n ≡ Some x
at_place {A} xs n x lt is = slice_get-get_or xs n x lt ∙ ap (λ (y : A). Some y) (sym is)

-- the answer is this key with its value
abbrev pub IsAnswer : (List ℕ → Value) → List ℕ → KeyAnswer → Type 0
IsAnswer value key a = (a.key ≡ key) × (a.value ≡ value key)

module _ (value : List ℕ → Value) (asked : List (List ℕ)) (shown : List KeyAnswer) where
  -- the first so many are
  pub record AnswerFirst (n : ℕ) : Type 0 where
    pub each : (k : ℕ) (key : List ℕ) (a : KeyAnswer) → k < n → slice_get asked k ≡ Some key → slice_get shown k ≡ Some a
        → IsAnswer value key a

  pub answer_none : AnswerFirst 0
  answer_none = record { each = λ k key a lt. absurd (let f : ⊥ = omega (arith, lt) in f) }

  pub answer_more : (n : ℕ) (key : List ℕ) (a : KeyAnswer) → slice_get asked n ≡ Some key → slice_get shown n ≡ Some a
      → AnswerFirst n → IsAnswer value key a → AnswerFirst (n + 1)
  answer_more n key a at there so is = record {
    each = λ k j b lt here this. elim (cases_lt k n) [
      | inl less ↦ so.each k j b less here this
      | inr ge ↦
          let e : k ≡ n = omega (arith, lt, ge) in
          let key_is : key ≡ j = same_some (sym at ∙ (ap (slice_get asked) (sym e) ∙ here)) in
          let a_is : a ≡ b = same_some (sym there ∙ (ap (slice_get shown) (sym e) ∙ this)) in
          subst (λ (x : List ℕ). IsAnswer value x b) key_is (subst (IsAnswer value key) a_is is)
    ];
  }

  pub answers_many : (values : List Value) → AreAnswers asked values shown → length asked ≡ length shown
  answers_many values are = ap length (sym are.keys_are) ∙ length-map shown (λ (k : KeyAnswer). k.key)

  -- each is, where all are
  pub answers_at : AreAnswers asked (map value asked) shown → (n : ℕ) (key : List ℕ) (a : KeyAnswer)
      → slice_get asked n ≡ Some key → slice_get shown n ≡ Some a → IsAnswer value key a
  answers_at are n key a at there = (
    same_some (sym (get_map (λ (k : KeyAnswer). k.key) shown n a there) ∙ (ap (λ (l : List (List ℕ)). slice_get l n) are.keys_are ∙ at)),
    same_some (sym (get_map (λ (k : KeyAnswer). k.value) shown n a there)
        ∙ (ap (λ (l : List Value). slice_get l n) are.values_are ∙ get_map value asked n key at)),
  )

-- all are, where each is
pub answers_all : (value : List ℕ → Value) (asked : List (List ℕ)) (shown : List KeyAnswer) (n : ℕ) → length asked ≡ length shown
    → length asked ≤ n → AnswerFirst value asked shown n → AreAnswers asked (map value asked) shown
answers_all value [] [] n same le so = record { keys_are = refl; values_are = refl }
answers_all value [] (a ∷ bs) n same le so = absurd (let f : ⊥ = omega (arith, same) in f)
answers_all value (k ∷ ks) [] n same le so = absurd (let f : ⊥ = omega (arith, same) in f)
answers_all value (k ∷ ks) (a ∷ bs) zero same le so = absurd (let f : ⊥ = omega (arith, le) in f)
answers_all value (k ∷ ks) (a ∷ bs) (suc n) same le so =
    let head = so.each 0 k a (omega arith) refl refl in
    let tail = answers_all value ks bs n (omega (arith, same)) (omega (arith, le))
    (record { each = λ m j b lt here this. so.each (suc m) j b (omega (arith, lt)) here this }) in record {
      keys_are = ap (λ (x : List ℕ). x ∷ map (λ (b : KeyAnswer). b.key) bs) head.0 ∙ ap (λ (l : List (List ℕ)). k ∷ l) tail.keys_are;
      values_are = ap (λ (x : Value). x ∷ map (λ (b : KeyAnswer). b.value) bs) head.1 ∙ ap (λ (l : List Value). value k ∷ l) tail.values_are;
    }
