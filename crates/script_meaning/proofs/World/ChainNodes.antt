-- The nodes of a column's chains, its own and those that were carried, are nodes that clients appended.
use Rattle.std.proofs.Common.{◌≡◌, ◌≢◌, ℕ, ◌<◌, List, [], ◌∷◌, map, take, Some, Bool, true, false, refl, subst, ap, sym, ◌∙◌, inl, inr, ◌⊎◌, eq-eqb}
use Rattle.std.specs.Prelude.{◌==◌, slice_get, reverse}
use Rattle.std.specs.List.{list_any}
use Rattle.std.proofs.lemmas.Bool.{true≢false, or_cases, eqb-true}
use Rattle.std.proofs.lemmas.List.{reverse-reverse}
use Rattle.log_node.specs.declared.ids.Id.{Id}
use Rattle.log_node.specs.declared.ids.Key.{Key}
use Rattle.log_node.specs.declared.node.Head.{Head}
use Rattle.log_node.specs.declared.node.Node.{Node}
use Rattle.log_node.specs.Standings.{Standing}
use Rattle.col_core.specs.declared.Event.{Event}
use Rattle.col_core.specs.declared.Event.TheVariants as events
use Rattle.col_core.specs.declared.Entry.{Entry}
use Rattle.col_core.specs.History.{entries, line, enters, has_entered}
use Rattle.col_core.specs.Cuts.{Dated, carried, chain}
use Rattle.col_core.specs.Computed.{dated}
use Rattle.col_core.specs.Copies.{AreTrueCopies}
use Rattle.col_core.specs.Legal.{IsLawfulEvent}
use Rattle.col_core.proofs.CallerLemmas.{choice, by_test, apart, if_true, if_false, same_id-true, shown_entered}
use Rattle.col_core.proofs.CallerLemmas.{entries-of, In, in_line}
use Rattle.world_laws.specs.Worlds.{World}
use Rattle.world_laws.specs.Laws.{IsReached}
use Rattle.world_laws.proofs.CallerLemmas.{in_slice, in_left, head_with, in_heads, in_flat_map, entries_dated}
use Rattle.world_laws.proofs.CallerLemmas.{lawful_past_in, FitsEvent, FitsSingle}
use Rattle.script_meaning.specs.Helping.{node_by_id}
use Rattle.script_meaning.proofs.World.Reached.{held_of, told_of, listed_of}

any_in : {A : Type 0} (test : A → Bool) (xs : List A) → list_any test xs ≡ true → (x : A) × In x xs × (test x ≡ true)
any_in test [] e = absurd (true≢false (sym e))
any_in {A} test (x ∷ xs) e = turn (or_cases (test x) (list_any test xs) e) (any_in test xs) where
  turn : (test x ≡ true) ⊎ (list_any test xs ≡ true)
      → (list_any test xs ≡ true → (y : A) × In y xs × (test y ≡ true))
      → (y : A) × ((x ≡ y) ⊎ In y xs) × (test y ≡ true)
  turn (inl t) rest = (x, inl refl, t)
  turn (inr t) rest = let r = rest t in (r.0, inr r.1, r.2)

-- the node that an event enters is listed
entered_node : (w : World) → IsReached w → (r c : ℕ) (e : Entry) → In e (w.histories r c) → (ev : Event) → e.event ≡ ev
    → (id : Id) → enters id ev ≡ true → (node : Node) × (node_by_id w id ≡ Some node)
entered_node w reached r c e i (events.Single other floor wants) is id t =
    let f = subst (λ (ev : Event). FitsSingle w r c e.by ev) is ((listed_of w reached).singles r c e i) in
    (f.node, ap (node_by_id w) (same_id-true id other t) ∙ f.listed)
entered_node w reached r c e i (events.Propose other floor wants) is id t =
    let f = subst (λ (ev : Event). FitsEvent w r c ev e.stamp) is ((told_of w reached).events r c e i) in
    let l = (listed_of w reached).rows other.client f.number f.begun in (
      (w.rows other.client f.number).node,
      ap (node_by_id w) (same_id-true id other t)
          ∙ (ap (λ (x : Id). slice_get (w.nodes other.client) x.count) (sym f.is) ∙ l),
    )
entered_node w reached r c e i (events.Settle other o) is id t = absurd (true≢false (sym t))
entered_node w reached r c e i (events.Raise to) is id t = absurd (true≢false (sym t))
entered_node w reached r c e i (events.Give region from) is id t = absurd (true≢false (sym t))
entered_node w reached r c e i (events.Carry region start heads) is id t = absurd (true≢false (sym t))
entered_node w reached r c e i (events.Trim counts) is id t = absurd (true≢false (sym t))

-- a key of a line entered by an event
pub line_event : (w : World) → IsReached w → (r c : ℕ) (k : Key) → In k (line (w.histories r c))
    → (e : Entry) × In e (w.histories r c) × (enters k.id e.event ≡ true)
line_event w reached r c k i =
    let h = w.histories r c in
    let x = in_line (entries h) k i in
    let entered = shown_entered (reverse h) (lawful_past_in w (held_of w reached) r c) x.0
    (subst (λ (es : List Standing). In x.0 es) (entries-of h) x.1) in
    let t : has_entered k.id h ≡ true =
    ap (λ (y : Key). has_entered y.id h) (sym x.2)
    ∙ (ap (has_entered x.0.key.id) (sym (reverse-reverse h)) ∙ entered) in
    any_in (λ (y : Entry). enters k.id y.event) h t

pub line_node : (w : World) → IsReached w → (r c : ℕ) (k : Key) → In k (line (w.histories r c))
    → (node : Node) × (node_by_id w k.id ≡ Some node)
line_node w reached r c k i =
    let e = line_event w reached r c k i in entered_node w reached r c e.0 e.1 e.0.event refl k.id e.2

-- Lists

-- the own chain has the nodes of the line
pub own_chain : (own : ℕ) (h : List Entry) → chain own (dated own h) own ≡ map (head_with (dated own h)) (line h)
own_chain own h =
    if_true (own == own) _ _ (eq-eqb own own refl)
    ∙ ap (λ (x : List Entry). map (head_with (dated own h)) (line x)) (entries_dated own h)

-- what an event carries of a region, it carries of one that there is
carried_of : (own regions : ℕ) (before : List Dated) (ev : Event) (stamp region : ℕ) (head : Head)
    → IsLawfulEvent own regions before ev stamp → In head (carried region ev) → region < regions
carried_of own regions before (events.Single _ _ _) stamp region head l i = absurd i
carried_of own regions before (events.Propose _ _ _) stamp region head l i = absurd i
carried_of own regions before (events.Settle _ _) stamp region head l i = absurd i
carried_of own regions before (events.Raise _) stamp region head l i = absurd i
carried_of own regions before (events.Give _ _) stamp region head l i = absurd i
carried_of own regions before (events.Carry other start heads) stamp region head l i =
    choice (λ (hs : List Head). In head hs → region < regions) (other == region) heads []
    (λ t _. subst (λ (r : ℕ). r < regions) (eqb-true other region t) l.2) (λ _ none. absurd none) i
carried_of own regions before (events.Trim _) stamp region head l i = absurd i

-- what a column holds of another region, it holds of one that there is
pub carried_of_region : (w : World) → IsReached w → (own c r : ℕ) (head : Head) → r ≢ own
    → In head (chain own (dated own (w.histories own c)) r) → r < w.shape.regions
carried_of_region w reached own c r head ne i =
    let ds = dated own (w.histories own c) in
    let f : (r == own) ≡ false = by_test _ (r == own) (λ t. absurd (ne (eqb-true r own t))) (λ g. g) in
    let j = in_flat_map (λ (d : Dated). carried r d.entry.event) ds head
    (subst (λ (l : List Head). In head l) (if_false (r == own) _ _ f) i) in
    let n = in_slice ds j.0 j.1 in
    carried_of own w.shape.regions (take n.0 ds) j.0.entry.event j.0.entry.stamp r head
    ((held_of w reached).lawful own c n.0 j.0 n.1) j.2

-- each node of a chain is there, with its text
pub chain_node : (w : World) → IsReached w → (own c : ℕ) → own < w.shape.regions
    → AreTrueCopies w.shape.regions (λ region. dated region (w.histories region c)) → (r : ℕ) (head : Head)
    → In head (chain own (dated own (w.histories own c)) r) → (node : Node) × (node_by_id w head.key.id ≡ Some node)
chain_node w reached own c home copies r head i =
    by_test _ (r == own) (λ t. mine (eqb-true r own t)) (λ f. other (λ e. apart (r == own) (eq-eqb r own e) f)) where
      of_line : (k : ℕ) → In head (chain k (dated k (w.histories k c)) k)
          → (node : Node) × (node_by_id w head.key.id ≡ Some node)
      of_line k j =
          let x = in_heads (dated k (w.histories k c)) (line (w.histories k c)) head
          (subst (λ (l : List Head). In head l) (own_chain k (w.histories k c)) j) in
          subst (λ (y : Head). (node : Node) × (node_by_id w y.key.id ≡ Some node)) x.2
          (line_node w reached k c x.0 x.1)

      mine : r ≡ own → (node : Node) × (node_by_id w head.key.id ≡ Some node)
      mine e = of_line own (subst (λ (k : ℕ). In head (chain own (dated own (w.histories own c)) k)) e i)

      other : r ≢ own → (node : Node) × (node_by_id w head.key.id ≡ Some node)
      other ne =
          let copy = copies r own (carried_of_region w reached own c r head ne i) home ne in
          of_line r (subst (λ (l : List Head). In head l) copy.beginning
          (in_left head (chain own (dated own (w.histories own c)) r) copy.rest i))
