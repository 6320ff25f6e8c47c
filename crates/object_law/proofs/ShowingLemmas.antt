-- How it is told of the nodes of all clients whether they say what is shown of them.
use Rattle.std.proofs.Common.{◌≡◌, subst, sym, Bool, ℕ, ◌+◌, ◌<◌, ◌≤◌, List, length, arith, inl, inr}
use Rattle.std.specs.Prelude.{◌↔◌}
use Rattle.std.specs.List.{All}
use Rattle.std.proofs.lemmas.Bool.{cases_lt}
use Rattle.std.proofs.lemmas.Option.{slice_get_within}
use Rattle.log_node.specs.declared.node.Node.{Node}
use Rattle.log_node.proofs.CallerLemmas.{get_within}
use Rattle.report_text.specs.declared.report.Report.{Report}
use Rattle.column_track.specs.Tracks.{Tells}
use Rattle.object_law.specs.NodeTables.{AreNodes, nodes_at}
use Rattle.object_law.specs.Showing.{OfEachNode, SaysShown}
use Rattle.walk_law.proofs.CallerLemmas.{told_as}

module _ (P : Node → Type 0) (report : Report) (nodes : ℕ → List Node) where
  -- of the clients so far
  abbrev pub OfFirst : ℕ → Type 0
  OfFirst n = (k : ℕ) → k < n → All P (nodes k)

  pub first_next : (n : ℕ) → OfFirst n → All P (nodes n) → OfFirst (n + 1)
  first_next n before here k lt = elim (cases_lt k n) [
    | inl less ↦ before k less
    | inr ge ↦ subst (λ (m : ℕ). All P (nodes m)) (let e : n ≡ k = omega (arith, lt, ge) in e) here
  ]

  pub first_all : (n : ℕ) → length report.clients ≤ n → OfFirst n → OfEachNode P report nodes
  first_all n ge first k c at = first k (let lt = slice_get_within report.clients k c at in omega (arith, lt, ge))

  pub among_all : (n : ℕ) → n < length report.clients → OfEachNode P report nodes → All P (nodes n)
  among_all n lt all = let c = get_within report.clients n lt in all n c.0 c.1

  -- by a table of the nodes
  pub by_table : (table : List (List Node)) → AreNodes nodes table
      → OfEachNode P report (nodes_at table) ↔ OfEachNode P report nodes
  by_table table are = (
    λ f n c there. subst (All P) (are n) (f n c there),
    λ f n c there. subst (All P) (sym (are n)) (f n c there),
  )

-- what is told of the nodes in a table is told of them
pub told_table : (decided : Bool) (report texts : Report) (nodes : ℕ → List Node) (table : List (List Node)) → texts ≡ report
    → AreNodes nodes table → (b : Bool) → Tells b (OfEachNode (SaysShown decided texts) report (nodes_at table))
    → Tells b (OfEachNode (SaysShown decided report) report nodes)
told_table decided report texts nodes table same are b told =
    let P = SaysShown decided report in
    let both = by_table P report nodes table are in
    told_as b (OfEachNode P report (nodes_at table)) (OfEachNode P report nodes) both.0 both.1
    (subst (λ (r : Report). Tells b (OfEachNode (SaysShown decided r) report (nodes_at table))) same told)
