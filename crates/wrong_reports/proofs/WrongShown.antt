-- Syncs that show other nodes than they play.
use Rattle.log_node.specs.declared.ids.Counts.{Counts}
use Rattle.std.proofs.Common.{◌≡◌, inl, ℕ, zero, suc, ◌+◌, List, [], ◌∷◌, take, Some, refl, ap, sym, subst, ◌∙◌}
use Rattle.std.proofs.Common.{arith, codes, slice_get, ne_eqb}
use Rattle.std.specs.Prelude.{slice_index}
use Rattle.std.specs.List.{AllZip, count_by}
use Rattle.log_node.specs.declared.ids.Id.{Id}
use Rattle.log_node.specs.declared.ids.Key.{Key}
use Rattle.log_node.specs.declared.node.Head.{Head}
use Rattle.log_node.specs.declared.node.Node.{Node}
use Rattle.log_node.specs.Seen.{PlacedNode}
use Rattle.col_core.specs.declared.Entry.{Entry}
use Rattle.log_node.specs.Reach.{Chains}
use Rattle.col_core.specs.Cuts.{chain}
use Rattle.col_core.specs.Computed.{dated}
use Rattle.col_core.specs.PlayOrder.{Place, IsPlayOrder, same_place}
use Rattle.col_core.specs.Log.{Log, first}
use Rattle.col_core.specs.Keeping.{Kept}
use Rattle.lawful_run.specs.Callers.{caller_of}
use Rattle.lawful_run.specs.Reads.{ShowsNode, ShowsPlayed}
use Rattle.lawful_run.specs.Lawful.{LawfulRun}
use Rattle.wrong_reports.specs.Cases.{IsUnlawful, a, x, id, key, counts, asks, enters}
use Rattle.script_text.specs.declared.commands.What.TheVariants.{Sync}
use Rattle.col_core.specs.declared.Event.TheVariants.{Single}
use Rattle.log_node.specs.Vectors.{at}
use Rattle.wrong_reports.specs.Naming.{append, stood_at, one_node}
use Rattle.wrong_reports.specs.Shown.{a_node_that_wants_too_little, one_play, shown, plays_nodes, two_entries}
use Rattle.wrong_reports.specs.Shown.{a_node_with_another_text, a_node_that_is_not_shown, a_node_under_another_stamp}
use Rattle.wrong_reports.specs.Shown.{a_node_shown_twice, nodes_in_another_order, two_plays}
use Rattle.wrong_reports.proofs.Tools.{ends_with, column_at, some_same, none_there, EndsWith}
use Rattle.wrong_reports.proofs.Told.{two, stood_says}

-- the place of the only node
abbrev here : Place
here = record { region = 0; position = 0 }

abbrev the_head : Head
the_head = record { key = key 1 (id a 0); needs = counts 0 0 }

abbrev one_chain : Chains
one_chain = chain 0 (dated 0 one_node.journal)

other_chain : (region : ℕ) → one_chain (suc region) ≡ []
other_chain region = rw (ne_eqb (suc region) 0 (λ f. omega (arith, f))) refl

-- no other node is there
lone : (p : Place) (head : Head) → slice_get (one_chain p.region) p.position ≡ Some head
    → (p ≡ here) × (head ≡ the_head)
lone p head h = by p.region p.position head h where
  by : (region position : ℕ) (head : Head) → slice_get (one_chain region) position ≡ Some head
      → (record { region = region; position = position } ≡ here) × (head ≡ the_head)
  by zero zero head h = (refl, sym (some_same the_head head h))
  by zero (suc position) head h = absurd (none_there head h)
  by (suc region) position head h =
      absurd (none_there head (ap (λ (hs : List Head). slice_get hs position) (sym (other_chain region)) ∙ h))

-- what the sync after the append shows
record Plays (nodes : List PlacedNode) (log : Log) : Type 0 where
  pub text : List ℕ
  pub node : Node
  pub appended : slice_get (log.nodes 0) 0 ≡ Some node
  pub text_is : node.text ≡ codes "s"
  pub order : List Place
  pub played : IsPlayOrder one_chain (counts 0 0) (counts 1 0) order
  pub lines : AllZip (ShowsNode log (caller_of (plays_nodes nodes 0).script 0) 0 1) order nodes
  pub head_is : (p : Place) (item : PlacedNode) → ShowsNode log (caller_of (plays_nodes nodes 0).script 0) 0 1 p item
      → (p ≡ here) × (item.head.key ≡ key 1 (id a 0))

plays : (nodes : List PlacedNode) (count : ℕ) (run : LawfulRun (plays_nodes nodes count).script
    (plays_nodes nodes count).report)
    → Plays nodes run.log
plays nodes count run =
    let t = two run.log _ _ _ _ _ _ (run.clients 0 _ refl).explained in
    let stood = stood_says run.log _ _ _ _ _ _ _ _ _ _ _ t.first in
    let shows = t.second.explained.3 in
    let h : one_node.journal ≡ run.log.histories 0 0 =
    (column_at (plays_nodes nodes count) run 0 one_node refl).history in
    let chains : chain 0 (first run.log 0 0 1) ≡ one_chain =
    ap (λ (es : List Entry). chain 0 (dated 0 (take 1 es))) (sym h) in
    let starts : t.kept.starts 0 ≡ counts 0 0 = ap (λ (k : Kept). k.starts 0) stood.1 in
    record {
      text = [];
      node = _;
      appended = stood.0.next;
      text_is = refl;
      order = shows.order;
      played = subst (λ v. IsPlayOrder one_chain v (counts 1 0) shows.order) starts
          (subst (λ c. IsPlayOrder c (t.kept.starts 0) (counts 1 0) shows.order) chains shows.played);
      lines = shows.lines;
      head_is = λ p item s.
          let l = lone p s.head (subst (λ (c : Chains). slice_get
          (c p.region) p.position ≡ Some s.head) chains s.stands) in
          (l.0, s.key ∙ ap (λ (head : Head). head.key) l.1);
    }

pub another_text : IsUnlawful a_node_with_another_text
another_text run = by p.order p.lines where
  p : Plays (shown 1 (codes "t") ∷ []) run.log
  p = plays _ _ run

  by : (order : List Place)
      → AllZip (ShowsNode run.log (caller_of a_node_with_another_text.script 0) 0 1) order (shown 1
      (codes "t") ∷ []) → ⊥
  by [] z = z
  by (q ∷ qs) z =
      let has = z.0.text in
      let i : z.0.head.key.id ≡ id a 0 = ap (λ (k : Key). k.id) (sym z.0.key) in
      let there : slice_get (run.log.nodes 0) 0 ≡ Some has.0 =
      subst (λ (i : Id). slice_get (run.log.nodes i.client) i.count ≡ Some has.0) i has.1 in
      let same = some_same p.node has.0 (sym p.appended ∙ there) in
      let f : codes "s" ≡ codes "t" = sym p.text_is ∙ ap (λ (n : Node). n.text) same ∙ has.3 in
      let g : 115 ≡ 116 = ap (λ (t : List ℕ). slice_index t 0) f in
      omega (arith, g)

pub not_shown : IsUnlawful a_node_that_is_not_shown
not_shown run = by p.order p.played p.lines where
  p : Plays [] run.log
  p = plays _ _ run

  by : (order : List Place) → IsPlayOrder one_chain (counts 0 0) (counts 1 0) order
      → AllZip (ShowsNode run.log (caller_of a_node_that_is_not_shown.script 0) 0 1) order [] → ⊥
  by [] played z = let f : 0 ≡ 1 = played.each_once here in omega (arith, f)
  by (q ∷ qs) played z = z

pub under_another_stamp : IsUnlawful a_node_under_another_stamp
under_another_stamp run = by p.order p.lines where
  p : Plays (shown 2 (codes "s") ∷ []) run.log
  p = plays _ _ run

  by : (order : List Place)
      → AllZip (ShowsNode run.log (caller_of a_node_under_another_stamp.script 0) 0 1) order (shown 2
      (codes "s") ∷ []) → ⊥
  by [] z = z
  by (q ∷ qs) z =
      let f : 2 ≡ 1 = ap (λ (k : Key). k.stamp) (p.head_is q (shown 2 (codes "s")) z.0).1 in
      omega (arith, f)

pub shown_twice : IsUnlawful a_node_shown_twice
shown_twice run = by p.order p.played p.lines where
  item : PlacedNode
  item = shown 1 (codes "s")

  p : Plays (shown 1 (codes "s") ∷ shown 1 (codes "s") ∷ []) run.log
  p = plays _ _ run

  by : (order : List Place) → IsPlayOrder one_chain (counts 0 0) (counts 1 0) order
      → AllZip (ShowsNode run.log (caller_of a_node_shown_twice.script 0) 0 1) order (shown 1 (codes "s")
      ∷ shown 1 (codes "s") ∷ []) → ⊥
  by [] played z = z
  by (q ∷ []) played z = z.1
  by (q ∷ r ∷ []) played z =
      let q_is = (p.head_is q (shown 1 (codes "s")) z.0).0 in
      let r_is = (p.head_is r (shown 1 (codes "s")) z.1.0).0 in
      let once = played.each_once here in
      let f : 2 ≡ 1 = sym (ap (λ (q : Place). count_by (same_place here) (q ∷ here ∷ [])) q_is)
      ∙ sym (ap (λ (r : Place). count_by (same_place here) (q ∷ r ∷ [])) r_is) ∙ once in
      omega (arith, f)
  by (q ∷ r ∷ s ∷ order) played z = z.1.1

-- TWO NODES
abbrev two_chain : Chains
two_chain = chain 0 (dated 0 two_entries)

abbrev head_of : ℕ → Head
head_of n = record { key = key (n + 1) (id a n); needs = counts 0 0 }

-- where each of the two stands
stands : (p : Place) (head : Head) → slice_get (two_chain p.region) p.position ≡ Some head
    → (p.region ≡ 0) × (p.position ≡ head.key.id.count)
stands p head h = by p.region p.position head h where
  by : (region position : ℕ) (head : Head) → slice_get (two_chain region) position ≡ Some head
      → (region ≡ 0) × (position ≡ head.key.id.count)
  by zero zero head h = (refl, ap (λ (head : Head). head.key.id.count) (some_same (head_of 0) head h))
  by zero (suc zero) head h = (refl, ap (λ (head : Head). head.key.id.count) (some_same (head_of 1) head h))
  by zero (suc (suc position)) head h = absurd (none_there head h)
  by (suc region) position head h =
      let none : two_chain (suc region) ≡ [] = rw (ne_eqb (suc region) 0 (λ f. omega (arith, f))) refl in
      absurd (none_there head (ap (λ (hs : List Head). slice_get hs position) (sym none) ∙ h))

abbrev later : PlacedNode
later = record (shown 2 (codes "s")) { head = record { key = key 2 (id a 1); needs = counts 0 0 } }

pub another_order : IsUnlawful nodes_in_another_order
another_order run = by said.order said.lines (subst (λ c. IsPlayOrder c (last.kept.starts 0)
    (counts 2 0) said.order) chains said.played) where
      last : EndsWith run.log (caller_of nodes_in_another_order.script 0) (append 6 ∷ append 7
          ∷ []) (stood_at 6 1 0 0 ∷ stood_at 7 2 1 1 ∷ [])
          (asks 8 a (Sync x)) two_plays (run.clients 0 _ refl).kept
      last = ends_with run.log _ _ _ _ _ _ (run.clients 0 _ refl).explained

      said : ShowsPlayed run.log (caller_of nodes_in_another_order.script 0) last.kept 0 2 (counts 2 0) (later
          ∷ shown 1 (codes "s") ∷ [])
      said = last.last.explained.3

      history : two_entries ≡ run.log.histories 0 0
      history = (column_at nodes_in_another_order run 0 _ refl).history

      chains : chain 0 (first run.log 0 0 2) ≡ two_chain
      chains = ap (λ (es : List Entry). chain 0 (dated 0 (take 2 es))) (sym history)

      at_place : (p : Place) (item : PlacedNode)
          → ShowsNode run.log (caller_of nodes_in_another_order.script 0) 0 2 p item
          → (p.region ≡ 0) × (p.position ≡ item.head.key.id.count)
      at_place p item s =
          let l = stands p s.head (subst (λ (c : Chains). slice_get
          (c p.region) p.position ≡ Some s.head) chains s.stands) in
          (l.0, l.1 ∙ ap (λ (k : Key). k.id.count) (sym s.key))

      by : (order : List Place)
          → AllZip (ShowsNode run.log (caller_of nodes_in_another_order.script 0) 0 2) order (later
          ∷ shown 1 (codes "s") ∷ [])
          → IsPlayOrder two_chain (last.kept.starts 0) (counts 2 0) order → ⊥
      by [] z played = z
      by (p ∷ []) z played = z.1
      by (p ∷ q ∷ []) z played =
          let l = at_place p later z.0 in
          let m = at_place q (shown 1 (codes "s")) z.1.0 in
          let there : slice_get (two_chain p.region) p.position ≡ Some (head_of 1) = rw (l.0, l.1) refl in
          let next : p.position ≡ q.position + 1 = (let f = l.1 in let g = m.1 in omega (arith, f, g)) in
          let before = played.after_needed 1 0 q p (head_of 1) refl refl there (inl (l.0 ∙ sym m.0, next)) in
          omega (arith, before)
      by (p ∷ q ∷ r ∷ order) z played = z.1.1

single_wants : (i j : Id) (floor other : ℕ) (wants more : Counts)
    → Single i floor wants ≡ Single j other more → wants ≡ more
single_wants i j floor other wants more e = cc (e)

pub wants_less : IsUnlawful a_node_that_wants_too_little
wants_less run =
    let script = a_node_that_wants_too_little.script in
    let last = ends_with run.log (caller_of script 0) (append 6 ∷ asks 7 a (Sync x) ∷ []) (stood_at 6 1 0 0
    ∷ one_play ∷ []) (append 8) (stood_at 8 2 1 1)
    _ (run.clients 0 _ refl).explained in
    let second = ends_with run.log (caller_of script 0) (append 6 ∷ []) (stood_at 6 1 0 0
    ∷ []) (asks 7 a (Sync x)) one_play _ last.before in
    let starts : last.kept.starts 0 ≡ counts 1 0 = ap (λ (k : Kept). k.starts 0) (second.last.after_is
    ∙ second.last.explained.4) in
    let entered = (stood_says run.log _ _ _ _ _ _ _ _ _ _ _ last.last).0.entered in
    let h = (column_at a_node_that_wants_too_little run 0 _ refl).history in
    let same = some_same (enters a (id a 1) 1 2) _ (ap (λ (es : List Entry). slice_get es 1) h ∙ entered) in
    let wants = single_wants _ _ _ _ _ _ (ap (λ (en : Entry). en.event) same) in
    let f : 0 ≡ 1 = ap (λ (v : Counts). at v 0) (wants ∙ starts) in
    omega (arith, f)
