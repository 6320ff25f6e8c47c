-- A sync that plays two free nodes in the wrong order, and one that shows a node which nobody appended.
use Rattle.std.proofs.Common.{◌≡◌, inl, inr, ℕ, zero, suc, ◌<◌, List, [], ◌∷◌, take, length, Some, refl, ap, sym, subst}
use Rattle.std.proofs.Common.{◌∙◌, arith, lit<, slice_get, ne_eqb}
use Rattle.std.specs.Prelude.{IsTrue}
use Rattle.std.specs.List.{AllZip}
use Rattle.log_node.specs.declared.ids.Id.{Id}
use Rattle.log_node.specs.declared.ids.Counts.{Counts}
use Rattle.log_node.specs.declared.ids.Key.{Key}
use Rattle.log_node.specs.declared.node.Head.{Head}
use Rattle.log_node.specs.declared.node.Node.{Node}
use Rattle.log_node.specs.Seen.{PlacedNode}
use Rattle.log_node.specs.Vectors.{at}
use Rattle.col_core.specs.declared.Entry.{Entry}
use Rattle.log_node.specs.Reach.{Chains}
use Rattle.col_core.specs.Cuts.{chain}
use Rattle.col_core.specs.Computed.{dated}
use Rattle.col_core.specs.PlayOrder.{Place, IsPlayOrder, WaitsFor, goes_first}
use Rattle.col_core.specs.Keeping.{Kept}
use Rattle.col_core.specs.Log.{first}
use Rattle.lawful_run.specs.Callers.{caller_of}
use Rattle.lawful_run.specs.Reads.{ShowsNode}
use Rattle.wrong_reports.specs.Cases.{IsUnlawful, key, id, counts}
use Rattle.wrong_reports.specs.Shown.{free_nodes_in_another_order, a_text_of_an_unknown_node, later_first}
use Rattle.wrong_reports.specs.Shown.{pulled_and_entered, one_play}
use Rattle.wrong_reports.proofs.Tools.{only, ends_with, column_at, some_same, none_there}

abbrev free_chain : Chains
free_chain = chain 1 (dated 1 pulled_and_entered)

-- the one node of a region's chain
abbrev head_of : ℕ → Head
head_of client = record { key = key 1 (id client 0); needs = counts 0 0 }

abbrev IsLone : ℕ → Head → Type 0
IsLone region head = (region ≡ head.key.id.client) × (head ≡ head_of region)

lone : (region position : ℕ) (head : Head) → slice_get (free_chain region) position ≡ Some head → IsLone region head
lone zero zero head h = subst (IsLone 0) (some_same (head_of 0) head h) (refl, refl)
lone zero (suc position) head h = absurd (none_there head h)
lone (suc zero) zero head h = subst (IsLone 1) (some_same (head_of 1) head h) (refl, refl)
lone (suc zero) (suc position) head h = absurd (none_there head h)
lone (suc (suc region)) position head h =
    let none : free_chain (suc (suc region)) ≡ [] =
    rw (ne_eqb (suc (suc region)) 1 (λ f. omega (arith, f)), ne_eqb 0 (suc (suc region)) (λ f. omega (arith, f)))
    refl in
    absurd (none_there head (ap (λ (hs : List Head). slice_get hs position) (sym none) ∙ h))

pub free_order : IsUnlawful free_nodes_in_another_order
free_order run =
    let last = ends_with run.log _ (_ ∷ _ ∷ []) (_ ∷ _ ∷ []) _ _ _ (run.clients 1 _ refl).explained in
    let said = last.last.explained.3 in
    let h = (column_at free_nodes_in_another_order run 1 _ refl).history in
    let chains : chain 1 (first run.log 1 0 2) ≡ free_chain =
    ap (λ (es : List Entry). chain 1 (dated 1 (take 2 es))) (sym h) in
    by (last.kept.starts 0) chains said.order said.lines (subst (λ c. IsPlayOrder c (last.kept.starts 0)
    (counts 1 1) said.order) chains said.played) where
      Shows : Place → PlacedNode → Type 0
      Shows = ShowsNode run.log (caller_of free_nodes_in_another_order.script 1) 0 2

      by : (from : Counts) → chain 1 (first run.log 1 0 2) ≡ free_chain → (order : List Place)
          → AllZip Shows order later_first
          → IsPlayOrder free_chain from (counts 1 1) order → ⊥
      by from chains [] z played = z
      by from chains (p ∷ []) z played = z.1
      by from chains (p ∷ q ∷ []) z played =
          let p_stands = subst (λ (c : Chains). slice_get (c p.region) p.position ≡ Some z.0.head) chains z.0.stands in
          let q_stands = subst (λ (c : Chains). slice_get (c q.region) q.position ≡ Some z.1.0.head) chains
          z.1.0.stands in
          let p_lone = lone p.region p.position z.0.head p_stands in
          let q_lone = lone q.region q.position z.1.0.head q_stands in
          let p_is : p.region ≡ 1 = p_lone.0 ∙ ap (λ (k : Key). k.id.client) (sym z.0.key) in
          let q_is : q.region ≡ 0 = q_lone.0 ∙ ap (λ (k : Key). k.id.client) (sym z.1.0.key) in
          let p_head : head_of 1 ≡ z.0.head = sym (p_lone.1 ∙ ap head_of p_is) in
          let q_head : head_of 0 ≡ z.1.0.head = sym (q_lone.1 ∙ ap head_of q_is) in
          let goes = subst (λ b. IsTrue (goes_first b q z.0.head p)) q_head
          (subst (λ a. IsTrue (goes_first (head_of 0) q a p)) p_head refl) in
          let f = played.least_first 0 1 p q z.0.head z.1.0.head (lit< tt) refl refl p_stands q_stands goes in
          waited p q p_is q_is f.0 f.1 f.3 f.4 (subst (λ b. WaitsFor b q f.1) (sym q_head) f.5) where
            waited : (p q : Place) → p.region ≡ 1 → q.region ≡ 0 → (k : ℕ) (between : Place) → k < 1
                → slice_get (p ∷ q ∷ []) k ≡ Some between → WaitsFor (head_of 0) q between → ⊥
            waited p q p_is q_is zero between lt is (inl (same, next)) =
                let r : p.region ≡ between.region = ap (λ (p : Place). p.region) (some_same p between is) in
                omega (arith, p_is, q_is, r, same)
            waited p q p_is q_is zero between lt is (inr lower) =
                let r : p.region ≡ between.region = ap (λ (p : Place). p.region) (some_same p between is) in
                let l : between.position < 0 = subst (λ n. between.position < at (counts 0 0) n) (sym r ∙ p_is) lower in
                omega (arith, l)
            waited p q p_is q_is (suc k) between lt is waits = let f : ⊥ = omega (arith, lt) in f
      by from chains (p ∷ q ∷ r ∷ order) z played = z.1.1

pub unknown_text : IsUnlawful a_text_of_an_unknown_node
unknown_text run =
    let client = run.clients 0 _ refl in
    let s = only run.log _ _ _ _ client.explained in
    let none : length (run.log.nodes 0) ≡ 0 = client.nodes ∙ ap (λ (k : Kept). k.ids) (s.after_is ∙ s.explained.4) in
    by none s.explained.3.order s.explained.3.lines where
      beyond : (nodes : List Node) (node : Node) → length nodes ≡ 0 → slice_get nodes 0 ≡ Some node → ⊥
      beyond [] node l h = none_there node h
      beyond (n ∷ ns) node l h = omega (arith, l)

      by : length (run.log.nodes 0) ≡ 0 → (order : List Place)
          → AllZip (ShowsNode run.log (caller_of a_text_of_an_unknown_node.script 0) 0 1) order one_play.nodes → ⊥
      by none [] z = z
      by none (p ∷ order) z =
          let has = z.0.text in
          let i : z.0.head.key.id ≡ id 0 0 = ap (λ (k : Key). k.id) (sym z.0.key) in
          beyond (run.log.nodes 0) has.0 none
          (subst (λ (i : Id). slice_get (run.log.nodes i.client) i.count ≡ Some has.0) i has.1)
