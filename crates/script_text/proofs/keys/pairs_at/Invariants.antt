use Rattle.std.proofs.Common.{◌≡◌, ℕ, List, [], map, take, drop}
use Rattle.log_node.specs.declared.forms.Pair.{Pair}
use Rattle.script_text.specs.Grammar.{key_in}
use Rattle.script_text.specs.Readings.{each_at, pair_at, fields_in}
use Rattle.script_text.proofs.EachLemmas.{with_front}
use Rattle.script_text.proofs.keys.pairs_at.Given as goal

-- the pairs are those of the fields so far, and have their keys
pub record ReadsPairs (pairs : List Pair) (i : ℕ) (fields : List (List ℕ)) : Type 0 where
  pub read : with_front pairs (each_at pair_at (take i fields) (drop i fields)) ≡ each_at pair_at [] fields
  pub keys : map (λ (p : Pair). p.key) pairs ≡ map key_in (take i fields)

abbrev pub invariant-loop-field : goal.invariant-loop-field
invariant-loop-field l = ReadsPairs l.pairs l.field-index (fields_in l.fields)
