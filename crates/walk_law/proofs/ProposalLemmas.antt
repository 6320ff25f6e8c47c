-- The proposal of an id.
use Rattle.std.proofs.Common.{◌≡◌, ℕ, true, false, List, Option, Some, None, ap, sym, ◌∙◌, inl, inr}
use Rattle.std.specs.Prelude.{slice_get}
use Rattle.std.proofs.lemmas.Bool.{true≢false}
use Rattle.log_node.specs.declared.ids.Id.{Id}
use Rattle.log_node.specs.declared.ids.Counts.{Counts}
use Rattle.log_node.proofs.CallerLemmas.{same_id-is, same_id-refl, same_some}
use Rattle.col_core.specs.declared.Event.{Event}
use Rattle.col_core.specs.declared.Event.TheVariants.{Single, Propose, Settle, Raise, Give, Carry, Trim}
use Rattle.col_core.specs.declared.Entry.{Entry}
use Rattle.col_core.specs.History.{enters, has_entered}
use Rattle.col_core.specs.Computed.{dated}
use Rattle.col_core.specs.Ids.{Proposes}
use Rattle.col_core.specs.Legal.{IsColumnHistory}
use Rattle.col_core.proofs.CallerLemmas.{any_in, in_slice, slice_in}
use Rattle.walk_law.specs.Proposals.{proposes, proposal}
use Rattle.walk_law.proofs.Lists.{Finds, find_cases}
use Rattle.walk_law.proofs.Once.{one_entry}

-- what proposes an id enters it
pub proposes_enters : (id : Id) (event : Event) → proposes id event ≡ true → enters id event ≡ true
proposes_enters id (Single other floor wants) t = absurd (true≢false (sym t))
proposes_enters id (Propose other floor wants) t = t
proposes_enters id (Settle other outcome) t = absurd (true≢false (sym t))
proposes_enters id (Raise to) t = absurd (true≢false (sym t))
proposes_enters id (Give region from) t = absurd (true≢false (sym t))
proposes_enters id (Carry region start heads) t = absurd (true≢false (sym t))
proposes_enters id (Trim counts) t = absurd (true≢false (sym t))

-- and is its proposal
abbrev pub IsProposal : Id → Event → Type 0
IsProposal id event = (floor : ℕ) × (wants : Counts) × (event ≡ Propose id floor wants)

pub proposes_is : (id : Id) (event : Event) → proposes id event ≡ true → IsProposal id event
proposes_is id (Single other floor wants) t = absurd (true≢false (sym t))
proposes_is id (Propose other floor wants) t =
    (floor, wants, ap (λ (i : Id). let e : Event = Propose i floor wants in e) (sym (same_id-is id other t)))
proposes_is id (Settle other outcome) t = absurd (true≢false (sym t))
proposes_is id (Raise to) t = absurd (true≢false (sym t))
proposes_is id (Give region from) t = absurd (true≢false (sym t))
proposes_is id (Carry region start heads) t = absurd (true≢false (sym t))
proposes_is id (Trim counts) t = absurd (true≢false (sym t))

pub proposed_by : (id : Id) (event : Event) (floor : ℕ) (wants : Counts) → event ≡ Propose id floor wants → proposes id event ≡ true
proposed_by id event floor wants is = ap (proposes id) is ∙ same_id-refl id

-- what the search finds was proposed
pub proposal_stands : (history : List Entry) (id : Id) (e : Entry) → proposal id history ≡ Some e → Proposes history id e.stamp
proposal_stands history id e found = by (find_cases (λ (d : Entry). proposes id d.event) history) where
  by : Finds (λ (d : Entry). proposes id d.event) history → Proposes history id e.stamp
  by (inl none) = absurd (let f : ⊥ = cc (none.0, found) in f)
  by (inr some) =
      let same : some.0 ≡ e = same_some (sym some.3 ∙ found) in
      let there = in_slice history some.0 some.1 in
      let how = proposes_is id some.0.event some.2 in
      (there.0, some.0, how.0, how.1, there.1, how.2, ap (λ (d : Entry). d.stamp) same)

-- an id that was not proposed is not found
pub not_proposed : (history : List Entry) (id : Id) → proposal id history ≡ None → (stamp : ℕ) → Proposes history id stamp → ⊥
not_proposed history id none stamp p = by (find_cases (λ (d : Entry). proposes id d.event) history) where
  by : Finds (λ (d : Entry). proposes id d.event) history → ⊥
  by (inl all) =
      true≢false (sym (proposed_by id p.1.event p.2 p.3 p.5) ∙ all.1 p.1 (slice_in history p.0 p.1 p.4))
  by (inr some) = let f : ⊥ = cc (some.3, none) in f

-- an id that does not enter is not found
pub not_entered : (history : List Entry) (id : Id) → has_entered id history ≡ false → proposal id history ≡ None
not_entered history id fresh = by (find_cases (λ (d : Entry). proposes id d.event) history) where
  by : Finds (λ (d : Entry). proposes id d.event) history → proposal id history ≡ None
  by (inl none) = none.0
  by (inr some) =
      absurd (true≢false (sym (any_in (λ (d : Entry). enters id d.event) history some.0 some.1
      (proposes_enters id some.0.event some.2)) ∙ fresh))

module _ (own regions : ℕ) (history : List Entry) (lawful : IsColumnHistory own regions (dated own history)) (id : Id)
    (n : ℕ) (e : Entry) (at : slice_get history n ≡ Some e) where
  -- where an id enters as a single, it is not found
  pub entered_alone : enters id e.event ≡ true → proposes id e.event ≡ false → proposal id history ≡ None
  entered_alone t not = by (find_cases (λ (d : Entry). proposes id d.event) history) where
    by : Finds (λ (d : Entry). proposes id d.event) history → proposal id history ≡ None
    by (inl none) = none.0
    by (inr some) =
        let there = in_slice history some.0 some.1 in
        let same = one_entry own regions history lawful id there.0 n some.0 e there.1 at (proposes_enters id some.0.event some.2) t in
        absurd (true≢false (sym some.2 ∙ (ap (λ (d : Entry). proposes id d.event) same ∙ not)))

  -- where it is proposed, this is found
  pub entered_so : proposes id e.event ≡ true → proposal id history ≡ Some e
  entered_so t = by (find_cases (λ (d : Entry). proposes id d.event) history) where
    by : Finds (λ (d : Entry). proposes id d.event) history → proposal id history ≡ Some e
    by (inl none) = absurd (true≢false (sym t ∙ none.1 e (slice_in history n e at)))
    by (inr some) =
        let there = in_slice history some.0 some.1 in
        let same = one_entry own regions history lawful id there.0 n some.0 e there.1 at (proposes_enters id some.0.event some.2)
        (proposes_enters id e.event t) in
        some.3 ∙ ap (λ (d : Entry). let o : Option Entry = Some d in o) same
