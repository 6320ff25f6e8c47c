-- The first event that a begun append adds to a column is its proposal.
use Rattle.std.proofs.Common.{◌≡◌, inl, ℕ, ◌+◌, ◌<◌, List, [], ◌∷◌, ◌++◌, length, Some, true, refl, ap, sym, subst, ◌∙◌, arith, append-nil}
use Rattle.std.specs.Prelude.{slice_get, reverse}
use Rattle.std.proofs.lemmas.Bool.{ltb-true}
use Rattle.log_node.specs.declared.ids.Id.{Id}
use Rattle.log_node.specs.declared.ids.Row.{Row}
use Rattle.log_node.specs.declared.ids.Colours.{Colours}
use Rattle.log_node.specs.declared.ids.Counts.{Counts}
use Rattle.log_node.specs.declared.node.Node.{Node}
use Rattle.log_node.specs.declared.marks.Mark.TheVariants as marks
use Rattle.col_core.specs.declared.Event.TheVariants as events
use Rattle.col_core.specs.declared.Event.{Event}
use Rattle.col_core.specs.declared.Entry.{Entry}
use Rattle.col_core.specs.History.{enters, has_entered}
use Rattle.col_core.specs.Rows.{node_wants}
use Rattle.col_core.proofs.CallerLemmas.{apart, same_id-is, lawful_front, In, Absent, Waits, status, IsLawfulPast}
use Rattle.col_core.proofs.CallerLemmas.{IsLawfulNext}
use Rattle.world_laws.specs.declared.steps.Step.{Step}
use Rattle.world_laws.specs.Worlds.{World, home_of, row_of, next_id, next_row, may_begin, begun_node, run_steps, after_begin}
use Rattle.world_laws.specs.Laws.{IsReached}
use Rattle.world_laws.proofs.CallerLemmas.{slice_in, status_in, lawful_past_in, not_entered, next_absent}
use Rattle.world_laws.proofs.CallerLemmas.{reverse-split, same_number, FitsEvent}
use Rattle.script_text.specs.declared.script.Object.{Object}
use Rattle.col_core.specs.Ids.{IsStepOf}
use Rattle.script_meaning.proofs.World.Completions.{IsOn}
use Rattle.script_meaning.proofs.World.Additions.{StepIn, OnRow}
use Rattle.script_meaning.proofs.World.Reached.{held_of, told_of}
use Rattle.script_meaning.proofs.Append.BeginRow as begun
pub use Rattle.col_core.proofs.CallerLemmas.{any_in as in_any}

-- the append's proposal, where its column had so many events
pub record ProposesFirst (w w3 : World) (u : ℕ) (node : Node) (row : Row) (c : ℕ) : Type 0 where
  pub entry : Entry
  pub there : slice_get (w3.histories (home_of w u) c) (length (w.histories (home_of w u) c)) ≡ Some entry
  pub made : entry.by ≡ u
  pub event : entry.event ≡ events.Propose node.id node.floor (node_wants node c)
  pub mark : (row_of w3 row).marks c ≡ marks.Number entry.stamp
  pub above : node.floor < entry.stamp

module _ (objects : List Object) (w : World) (reached : IsReached w) (u : ℕ) (colours : Colours) (text : List ℕ)
    (ok : may_begin w u colours ≡ true) (L : List Step) (on : (s : Step) → In s L → IsOn u (next_row w u) s) where
  abbrev own : ℕ
  own = home_of w u

  abbrev id : Id
  id = next_id w u

  abbrev row : Row
  row = next_row w u

  abbrev node : Node
  node = begun_node w u colours text

  abbrev w3 : World
  w3 = run_steps (after_begin w u colours text) L

  reached3 : IsReached w3
  reached3 = begun.reached3 objects w reached u colours text ok L on

  on3 : OnRow own u id row L (after_begin w u colours text) w3
  on3 = begun.on3 objects w reached u colours text ok L on

  node3 : (row_of w3 row).node ≡ node
  node3 = begun.node3 objects w reached u colours text ok L on

  begun3 : (w.clients u).used < (w3.clients u).used
  begun3 = ltb-true _ _ (begun.begun3 objects w reached u colours text ok L on)

  absent : (c : ℕ) → status_in (w.histories own c) id ≡ Absent
  absent c = next_absent w (held_of w reached) u own c

  of_first : (c : ℕ) (e : Entry) (rest : List Entry) → w3.histories own c ≡ w.histories own c ++ e ∷ rest
      → StepIn own u id row L own c e → (ev : Event) → e.event ≡ ev → ProposesFirst w w3 u node row c
  of_first c e rest is s (events.Single other floor wants) ev = absurd (subst (IsStepOf id) ev s.of)
  of_first c e rest is s (events.Propose other floor wants) ev =
      let same : other ≡ id = subst (IsStepOf id) ev s.of in
      let there : slice_get (w3.histories own c) (length (w.histories own c)) ≡ Some e =
      ap (λ (l : List Entry). slice_get l (length (w.histories own c))) is
      ∙ (let z : length (w.histories own c) ≡ length (w.histories own c) + 0 = omega arith in
      ap (slice_get (w.histories own c ++ e ∷ rest)) z ∙ begun.get_behind (w.histories own c) (e ∷ rest) 0) in
      let f = subst (λ (x : Event). FitsEvent w3 own c x e.stamp)
      (ev ∙ ap (λ (i : Id). events.Propose i floor wants) same)
      ((told_of w3 reached3).events own c e (slice_in (w3.histories own c) _ e there)) in
      let number : f.number ≡ (w.clients u).used =
      (same_number w3 (held_of w3 reached3) u f.number u (w.clients u).used f.begun begun3
      (f.is ∙ ap (λ (n : Node). n.id) (sym node3))).1 in
      let floor_is : node.floor ≡ floor =
      ap (λ (n : Node). n.floor) (sym node3)
      ∙ (ap (λ (n : ℕ). (w3.rows u n).node.floor) (sym number) ∙ f.floor_is) in
      let wants_is : node_wants node c ≡ wants =
      ap (λ (n : Node). node_wants n c) (sym node3)
      ∙ (ap (λ (n : ℕ). node_wants (w3.rows u n).node c) (sym number) ∙ f.wants_is) in
      let lawful = (lawful_front (reverse rest) (e ∷ reverse (w.histories own c))
      (subst IsLawfulPast (ap reverse is ∙ reverse-split (w.histories own c) rest e)
      (lawful_past_in w3 (held_of w3 reached3) own c))).0 in
      let enter = subst (λ (x : Event). IsLawfulNext (reverse (w.histories own c)) x e.stamp) ev lawful in
      let stamped = enter.stamped in
      record {
        entry = e;
        there = there;
        made = s.made;
        event = ev ∙ (ap (λ (i : Id). events.Propose i floor wants) same
            ∙ (ap (λ (n : ℕ). events.Propose id n wants) (sym floor_is)
            ∙ ap (λ (x : Counts). events.Propose id node.floor x) (sym wants_is)));
        mark = ap (λ (n : ℕ). (w3.rows u n).marks c) (sym number) ∙ f.mark;
        above = omega (arith, stamped, floor_is);
      }
  of_first c e rest is s (events.Settle other outcome) ev =
      let same : other ≡ id = subst (IsStepOf id) ev s.of in
      let lawful = (lawful_front (reverse rest) (e ∷ reverse (w.histories own c))
      (subst IsLawfulPast (ap reverse is ∙ reverse-split (w.histories own c) rest e)
      (lawful_past_in w3 (held_of w3 reached3) own c))).0 in
      let settle = subst (λ (x : Event). IsLawfulNext (reverse (w.histories own c)) x e.stamp) ev lawful in
      let waits : status id (reverse (w.histories own c)) ≡ Waits settle.stamp =
      ap (λ (i : Id). status i (reverse (w.histories own c))) (sym same) ∙ settle.waits in
      let none = absent c in
      absurd (let f : ⊥ = cc in f)
  of_first c e rest is s (events.Raise to) ev = absurd (subst (IsStepOf id) ev s.of)
  of_first c e rest is s (events.Give region from) ev = absurd (subst (IsStepOf id) ev s.of)
  of_first c e rest is s (events.Carry region start heads) ev = absurd (subst (IsStepOf id) ev s.of)
  of_first c e rest is s (events.Trim counts) ev = absurd (subst (IsStepOf id) ev s.of)

  -- where it proposed at all
  pub proposes_first : (c n : ℕ) (e : Entry) (floor : ℕ) (wants : Counts) → slice_get (w3.histories own c) n ≡ Some e
      → e.event ≡ events.Propose id floor wants → ProposesFirst w w3 u node row c
  proposes_first c n e floor wants at_n ev =
      of_more (on3.adds own c).more (on3.adds own c).is (on3.adds own c).each where
        of_more : (more : List Entry) → w3.histories own c ≡ w.histories own c ++ more
            → ((x : Entry) → In x more → StepIn own u id row L own c x) → ProposesFirst w w3 u node row c
        of_more [] is each =
            let same : w3.histories own c ≡ w.histories own c = is ∙ append-nil (w.histories own c) in
            let i : In e (w.histories own c) =
            subst (λ (l : List Entry). In e l) same (slice_in (w3.histories own c) n e at_n) in
            let t : enters id e.event ≡ true = ap (enters id) ev ∙ same_id-is id id refl in
            absurd (apart (has_entered id (w.histories own c))
            (in_any (λ (x : Entry). enters id x.event) (w.histories own c) e i t)
            (not_entered (w.histories own c) id (absent c)))
        of_more (x ∷ rest) is each = of_first c x rest is (each x (inl refl)) x.event refl
