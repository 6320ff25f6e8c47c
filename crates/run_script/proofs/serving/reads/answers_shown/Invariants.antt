use Rattle.std.proofs.Common.{◌≡◌, ℕ, List, ◌++◌, length, map}
use Rattle.std.specs.Prelude.{vec_capacity}
use Rattle.std.specs.Vec.Iter.{into_iter_items, into_iter_len}
use Rattle.object_fold.specs.Maps.{Value}
use Rattle.report_text.specs.declared.report.KeyAnswer.{KeyAnswer}
use Rattle.run_script.proofs.serving.reads.answers_shown.Given as goal

-- So far these keys are shown with the first of the values, of which so many are left.
pub record ShowsFirst (values left : List Value) (many : ℕ) (keys : List (List ℕ)) (shown : List KeyAnswer) : Type 0 where
  pub had : List Value
  pub split : values ≡ had ++ left
  pub long : many ≡ length left
  pub keys_are : map (λ (k : KeyAnswer). k.key) shown ≡ keys
  pub values_are : map (λ (k : KeyAnswer). k.value) shown ≡ had

abbrev pub invariant-loop-key : goal.invariant-loop-key
invariant-loop-key l = record {
  shown : ShowsFirst l.fn.values (into_iter_items l.values) (into_iter_len l.values) l.yielded l.answers.items;
  room : vec_capacity l.answers ≡ vec_capacity l.initial.answers;
}
