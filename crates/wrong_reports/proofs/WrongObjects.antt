-- Objects' replies that are wrong.
use Rattle.std.proofs.Common.{◌≡◌, inl, inr, ℕ, List, [], ◌∷◌, Option, Some, None, refl, ap, sym, subst, ◌∙◌, arith, codes}
use Rattle.std.specs.List.{AllZip}
use Rattle.std.proofs.lemmas.List.Sorted.{length_permutation}
use Rattle.object_fold.specs.Nodes.{ObjectNode}
use Rattle.object_fold.specs.Causal.{IsCausalAnswer}
use Rattle.object_fold.specs.Maps.{Value, shard_value}
use Rattle.object_fold.specs.Transactions.{versions_after}
use Rattle.object_fold.specs.Queues.{front_after}
use Rattle.col_core.specs.Log.{Log}
use Rattle.std.specs.Prelude.{Bool, true, false, ◌==◌, slice_index, slice_index_or, if◌then◌else◌}
use Rattle.object_fold.specs.Nodes.{shard_of}
use Rattle.script_text.specs.declared.commands.What.TheVariants as whats
use Rattle.col_core.specs.Keeping.{Kept, with_read}
use Rattle.col_core.specs.Cuts.{chain}
use Rattle.col_core.specs.Log.{first}
use Rattle.lawful_run.specs.Objects.{IsChainNode, AreObjectNodes}
use Rattle.lawful_run.specs.Parts.{HasValue}
use Rattle.script_text.specs.declared.script.Kind.{Kind}
use Rattle.wrong_reports.specs.Cases.{IsUnlawful, x, counts, look}
use Rattle.wrong_reports.specs.Objects.{map, one_pair, refused_at_home, answered_away_from_home, another_home, a_value_of_nothing}
use Rattle.wrong_reports.specs.Objects.{a_value_of_another_key, a_causal_value_of_nothing}
use Rattle.wrong_reports.specs.Objects.{a_dequeue_answered_as_an_append, a_dequeue_of_nothing}
use Rattle.wrong_reports.specs.Objects.{a_read_that_is_forgotten, a_commit_that_keeps_its_read}
use Rattle.lawful_run.specs.Callers.{caller_of}
use Rattle.wrong_reports.proofs.Tools.{only, ends_with, versions_named, asked_kind}
use Rattle.wrong_reports.proofs.Told.{two}

pub at_home : IsUnlawful refused_at_home
at_home run =
    let s = (only run.log _ _ _ _ (run.clients 0 _ refl).explained).explained in
    s.3 refl

pub away : IsUnlawful answered_away_from_home
away run =
    let s = (only run.log _ _ _ _ (run.clients 1 _ refl).explained).away (λ f. let g : 1 ≡ 0 =
    f in omega (arith, g)) in
    elim s [
      | inl f ↦ cc (f)
      | inr f ↦ let g = f.1 in cc (g)
    ]

pub home : IsUnlawful another_home
home run = let s = (only run.log _ _ _ _ (run.clients 1 _ refl).explained).explained.2 in cc (s)

pub no_nodes : (log : Log) (nodes : List ObjectNode) → AreObjectNodes log [] nodes → nodes ≡ []
no_nodes log [] z = refl
no_nodes log (n ∷ ns) z = absurd z

-- a shard without nodes has no value
no_value : (colours : List ℕ) (colour : ℕ) (key : List ℕ) → shard_value colours colour [] key ≡ None
no_value colours colour key = by (shard_of colours key == colour) where
  by : (b : Bool) → ◌≡◌ {A = Value} (if b then None else None) None
  by true = refl
  by false = refl

pub value_of_nothing : IsUnlawful a_value_of_nothing
value_of_nothing run =
    let p = (only run.log _ _ _ _ (run.clients 0 _ refl).explained).explained.1 in
    let nodes = no_nodes run.log p.0 p.1 in
    elim p.2 [
      | inl g ↦
          let kind : Some map ≡ g.0 = asked_kind (caller_of a_value_of_nothing.script 0) (whats.Get 0 (codes "k"))
          (look x 0 (counts 0 0)) g.0 g.1 g.2 in
          let value = subst (λ (k : Option Kind). HasValue k x g.1 (Some (codes "v")) p.0) (sym kind) g.3 in
          let f : Some (codes "v") ≡ None =
          value ∙ ap (λ ns. shard_value (x ∷ []) x ns g.1) nodes ∙ no_value (x ∷ []) x g.1 in
          cc (f)
      | inr g ↦ let w = g.1.2 in cc (w)
    ]

pub same_asked : (object other : ℕ) (keys more : List (List ℕ))
    → whats.GetAll object keys ≡ whats.GetAll other more → keys ≡ more
same_asked object other keys more e = cc (e)

pub another_key : IsUnlawful a_value_of_another_key
another_key run = elim (only run.log _ _ _ _ (run.clients 0 _ refl).explained).explained.2.5 [
  | inl f ↦
      let g = f.3.keys_are ∙ sym (same_asked _ _ _ _ f.2) in
      let h : 106 ≡ 107 = ap (λ (keys : List (List ℕ)). slice_index (slice_index_or keys 0 []) 0) g in
      omega (arith, h)
  | inr f ↦ let w = f.2 in cc (w)
]

no_pairs : {A B : Type 0} (R : A → B → Type 0) (ys : List B) → AllZip R [] ys → ys ≡ []
no_pairs R [] z = refl
no_pairs R (y ∷ ys) z = absurd z

pub causal : IsUnlawful a_causal_value_of_nothing
causal run =
    let s = (only run.log _ _ _ _ (run.clients 0 _ refl).explained).explained in
    let g = s.6 in
    let n = no_pairs (IsChainNode run.log (chain 0 (first run.log 0 0 0))) g.nodes g.played in
    let answer = subst (λ ns. IsCausalAnswer ns s.2 (codes "v" ∷ [])) n g.answer in
    let l : 0 ≡ 1 = length_permutation (codes "v" ∷ []) [] answer.each_value in
    omega (arith, l)

pub no_append : IsUnlawful a_dequeue_answered_as_an_append
no_append run = elim (only run.log _ _ _ _ (run.clients 0 _ refl).explained).explained.1 [
  | inl m ↦ cc (m)
  | inr g ↦ let m = g.0 in cc (m)
]

pub of_nothing : IsUnlawful a_dequeue_of_nothing
of_nothing run =
    let s = (only run.log _ _ _ _ (run.clients 0 _ refl).explained).explained.3 in
    let takes = s.3.4 in
    let nodes = no_nodes run.log _ takes.before in
    let f : Some (codes "v") ≡ None = takes.value_is ∙ ap front_after nodes in
    cc (f)

pub forgotten : IsUnlawful a_read_that_is_forgotten
forgotten run =
    let t = two run.log _ _ _ _ _ _ (run.clients 0 _ refl).explained in
    let none = t.second.explained.6 in
    let o : t.second.explained.2 ≡ 0 = (let w = t.second.explained.4 in cc (w)) in
    let n : t.kept.reads 0 ≡ None = subst (λ o. t.kept.reads o ≡ None) o none in
    elim t.first.explained.2.5 [
      | inl f ↦ let w = f.2 in cc (w)
      | inr f ↦
          let p : f.0 ≡ 0 = (let w = f.2 in cc (w)) in
          let k = ap (λ (k : Kept). k.reads 0) (t.first.after_is ∙ f.4
          ∙ ap (λ o. with_read t.first.explained.1 o (Some (versions_after t.first.explained.2.3 f.1))) p) in
          let g : None ≡ Some _ = sym n ∙ k in
          cc (g)
    ]

pub keeps_read : IsUnlawful a_commit_that_keeps_its_read
keeps_read run =
    let last = ends_with run.log _ (_ ∷ _ ∷ []) (_ ∷ _ ∷ []) _ _ _ (run.clients 0 _ refl).explained in
    let before = ends_with run.log _ (_ ∷ []) (_ ∷ []) _ _ _ last.before in
    let said = last.last.explained.2 in
    let reads = (versions_named (caller_of a_commit_that_keeps_its_read.script 0) last.kept 0 one_pair said.0 said.1
    said.2).1 in
    let none = ap (λ (k : Kept). k.reads 0) before.last.after_is in
    let g : None ≡ Some _ = sym none ∙ reads in
    cc (g)
