-- A causal map that reads another text.
use Rattle.std.proofs.Common.{◌≡◌, ℕ, List, [], ◌∷◌, length, take, refl, ap, sym, subst, ◌∙◌, arith, lit<, slice_get}
use Rattle.std.proofs.Common.{codes}
use Rattle.std.specs.Prelude.{Bool, true, false, IsTrue, is_some, unwrap_or, map}
use Rattle.std.specs.Option.{option_map}
use Rattle.std.specs.List.{AllZip, filter}
use Rattle.std.proofs.lemmas.List.Sorted.{length_permutation}
use Rattle.log_node.specs.Reach.{Chains}
use Rattle.log_node.specs.declared.ids.Key.{Key}
use Rattle.log_node.specs.declared.node.Head.{Head}
use Rattle.log_node.specs.declared.node.Node.{Node}
use Rattle.object_form.specs.Readings.{form_of}
use Rattle.object_fold.specs.Causal.{ChainNode, IsCausalAnswer, causal_value, written_value}
use Rattle.col_core.specs.declared.Entry.{Entry}
use Rattle.col_core.specs.Computed.{dated}
use Rattle.col_core.specs.Cuts.{chain}
use Rattle.col_core.specs.Log.{Log, HasText, first}
use Rattle.lawful_run.specs.Objects.{IsChainNode, places_within}
use Rattle.wrong_reports.specs.Cases.{IsUnlawful, counts}
use Rattle.wrong_reports.specs.Naming.{one_node}
use Rattle.wrong_reports.specs.Looks.{a_causal_value_of_another_text}
use Rattle.wrong_reports.proofs.Tools.{column_at, some_same}
use Rattle.wrong_reports.proofs.Told.{two, stood_says}
use Rattle.wrong_reports.proofs.WrongVerdict.{the_key}

-- a node without a form writes nothing, and alone it answers nothing
unwritten : (n : ChainNode) (key value : List ℕ) → n.text ≡ codes "s" → IsCausalAnswer (n ∷ []) key (value ∷ []) → ⊥
unwritten n key value plain answer = by (answer.is_latest n) refl where
  by : (b : Bool) → answer.is_latest n ≡ b → ⊥
  by true is =
      let w = ((answer.exactly n (0, lit< tt, refl)).0 is).writes in
      let f : IsTrue false = subst (λ t. IsTrue (is_some (causal_value key (form_of t)))) plain w in
      cc (f)
  by false is =
      let none : filter answer.is_latest (n ∷ []) ≡ [] = rw is refl in
      let values = λ (ns : List ChainNode). map (λ m. unwrap_or (written_value key m) []) ns in
      let l : 0 ≡ 1 = ap (λ ns. length (values ns)) (sym none)
      ∙ length_permutation (value ∷ []) (values (filter answer.is_latest (n ∷ []))) answer.each_value in
      omega (arith, l)

-- the one node of a chain
one_there : (log : Log) (chains : Chains) (nodes : List ChainNode)
    → AllZip (IsChainNode log chains) (places_within (counts 1 0)) nodes
    → (n : ChainNode) × IsChainNode log chains (record { region = 0; position = 0 }) n × (nodes ≡ n ∷ [])
one_there log chains [] z = absurd z
one_there log chains (n ∷ []) z = (n, z.0, refl)
one_there log chains (n ∷ m ∷ ns) z = absurd z.1

pub another_text : IsUnlawful a_causal_value_of_another_text
another_text run =
    let t = two run.log _ _ _ _ _ _ (run.clients 0 _ refl).explained in
    let next = (stood_says run.log _ _ _ _ _ _ _ _ _ _ _ t.first).0.next in
    let s = t.second.explained in
    let h = (column_at a_causal_value_of_another_text run 0 one_node refl).history in
    let one = one_there run.log (chain 0 (first run.log 0 0 1)) s.6.nodes s.6.played in
    let c = one.1 in
    let there = ap (λ (es : List Entry). slice_get (chain 0 (dated 0 (take 1 es)) 0) 0) h ∙ c.stands in
    let key : the_key ≡ c.head.key = some_same _ _ (ap (λ o. option_map (λ (d : Head). d.key) o) there) in
    let text = subst (λ (k : Key). HasText run.log k.id one.0.text) (sym key) c.text in
    let node = some_same _ _ (sym next ∙ text.1) in
    let plain : one.0.text ≡ codes "s" = sym text.3 ∙ ap (λ (n : Node). n.text) (sym node) in
    unwritten one.0 s.2 (codes "v") plain (subst (λ ns. IsCausalAnswer ns s.2 (codes "v" ∷ [])) one.2 s.6.answer)
