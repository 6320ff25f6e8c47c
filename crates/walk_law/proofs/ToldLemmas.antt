-- What a journal tells of the proposal of an id.
use Rattle.std.proofs.Common.{◌≡◌, ◌⊎◌, ℕ, ◌+◌, ◌<◌, ◌≤◌, Bool, true, false, List, [], ◌∷◌, length, drop, get_or, Option, Some, None, ap, sym, subst, ◌∙◌, inl, inr, refl, cond}
use Rattle.std.specs.Prelude.{slice_get, is_none, nat_eq}
use Rattle.std.proofs.lemmas.Bool.{cases_Bool, true≢false, eqb-true, eqb-false}
use Rattle.std.proofs.lemmas.List.{drop_all, drop_more}
use Rattle.std.proofs.lemmas.Option.{get_or_from_slice_get, slice_get_within}
use Rattle.log_node.specs.declared.ids.Id.{Id}
use Rattle.log_node.specs.declared.ids.Counts.{Counts}
use Rattle.log_node.specs.declared.marks.ColourMark.{ColourMark}
use Rattle.log_node.specs.Order.{same_id}
use Rattle.log_node.proofs.CallerLemmas.{same_some}
use Rattle.col_core.specs.declared.Event.{Event}
use Rattle.col_core.specs.declared.Event.TheVariants.{Single, Propose, Settle, Raise, Give, Carry, Trim}
use Rattle.col_core.specs.declared.Entry.{Entry}
use Rattle.col_core.specs.History.{enters, last_stamp}
use Rattle.col_core.specs.Computed.{dated}
use Rattle.col_core.specs.Ids.{Proposes}
use Rattle.col_core.specs.Legal.{IsColumnHistory}
use Rattle.col_core.proofs.CallerLemmas.{In, proposed_once}
use Rattle.column_track.specs.Tracks.{EntersAt, Tells}
use Rattle.run_rules.specs.Telling.{floor_or, floor_told, marked_colours, proposal_in, proposal_or}
use Rattle.walk_law.specs.declared.rows.Proposal.{Proposal}
use Rattle.walk_law.specs.Proposals.{event_told, proposal, proposal_told, proposes, told_in, told_or}
use Rattle.walk_law.specs.RowsBeside.{IsUnproposed, ProposesFirst}
use Rattle.walk_law.proofs.Lists.{Finds, find_cases}
use Rattle.walk_law.proofs.ProposalLemmas.{entered_alone, entered_so, not_entered, not_proposed, proposal_stands, proposes_is, proposed_by}

-- BY THE PLACE AT WHICH THE ID ENTERS

none_told : (event : Event) (stamp : ℕ) (id : Id) → enters id event ≡ true → proposes id event ≡ false → event_told event stamp ≡ None
none_told (Single i floor wants) stamp id t f = refl
none_told (Propose i floor wants) stamp id t f = absurd (true≢false (sym t ∙ f))
none_told (Settle i outcome) stamp id t f = refl
none_told (Raise to) stamp id t f = refl
none_told (Give region from) stamp id t f = refl
none_told (Carry region start heads) stamp id t f = refl
none_told (Trim counts) stamp id t f = refl

pub told_nowhere : (history : List Entry) (id : Id) → EntersAt history id None → told_in id history ≡ None
told_nowhere history id fresh = ap told_or (not_entered history id fresh)

pub told_there : (own regions : ℕ) (history : List Entry) → IsColumnHistory own regions (dated own history) → (id : Id)
    (place : ℕ) (e : Entry) → e ≡ get_or history place e → EntersAt history id (Some place) → told_in id history ≡ proposal_told e
told_there own regions history lawful id place e is (d, at, t) = by (cases_Bool (proposes id d.event)) where
  same : d ≡ e
  same = sym (get_or_from_slice_get history place d e at) ∙ sym is

  by : (proposes id d.event ≡ true) ⊎ (proposes id d.event ≡ false) → told_in id history ≡ proposal_told e
  by (inl p) = ap told_or (entered_so own regions history lawful id place d at p) ∙ ap proposal_told same
  by (inr f) =
      ap told_or (entered_alone own regions history lawful id place d at t f)
      ∙ (sym (none_told d.event d.stamp id t f) ∙ ap proposal_told same)

pub place_within : (history : List Entry) (id : Id) (place : ℕ) → EntersAt history id (Some place) → place < length history
place_within history id place (d, at, t) = slice_get_within history place d at

-- WHAT IS TOLD

-- the pair of a found entry
pair_of : Event → Option (ℕ × Counts)
pair_of (Single i floor wants) = None
pair_of (Propose i floor wants) = Some (floor, wants)
pair_of (Settle i outcome) = None
pair_of (Raise to) = None
pair_of (Give region from) = None
pair_of (Carry region start heads) = None
pair_of (Trim counts) = None

pair_or : Option Entry → Option (ℕ × Counts)
pair_or None = None
pair_or (Some e) = pair_of e.event

first_or : (id : Id) (e : Entry) (event : Event) → e.event ≡ event → (later : Option Entry)
    → proposal_or id event (pair_or later) ≡ pair_or (cond (proposes id event) (Some e) later)
unfolding pair_or pair_of
first_or id e (Single i floor wants) is later = refl
first_or id e (Propose i floor wants) is later = by (same_id id i) where
  by : (b : Bool) → cond b (Some (floor, wants)) (pair_or later)
      ≡ pair_or (cond b (Some e) later)
  by true = sym (ap pair_of is)
  by false = refl
first_or id e (Settle i outcome) is later = refl
first_or id e (Raise to) is later = refl
first_or id e (Give region from) is later = refl
first_or id e (Carry region start heads) is later = refl
first_or id e (Trim counts) is later = refl

first_pair : (id : Id) (history : List Entry) → proposal_in id history ≡ pair_or (proposal id history)
unfolding pair_or
first_pair id [] = refl
first_pair id (e ∷ es) = ap (proposal_or id e.event) (first_pair id es) ∙ first_or id e e.event refl (proposal id es)

-- an id that is proposed, and by what
pub record IsToldBy (history : List Entry) (id : Id) (e : Entry) : Type 0 where
  pub floor : ℕ
  pub wants : Counts
  pub there : In e history
  pub event : e.event ≡ Propose id floor wants
  pub told : told_in id history ≡ Some (record { stamp = e.stamp; floor = floor })
  pub first : proposal_in id history ≡ Some (floor, wants)
  pub stands : Proposes history id e.stamp

-- an id that is not
pub record IsUntold (history : List Entry) (id : Id) : Type 0 where
  pub told : told_in id history ≡ None
  pub first : proposal_in id history ≡ None
  pub unproposed : IsUnproposed history id

pub told_cases : (id : Id) (history : List Entry) → IsUntold history id ⊎ ((e : Entry) × IsToldBy history id e)
unfolding pair_or pair_of
told_cases id history = by (find_cases (λ (d : Entry). proposes id d.event) history) where
  by : Finds (λ (d : Entry). proposes id d.event) history → IsUntold history id ⊎ ((e : Entry) × IsToldBy history id e)
  by (inl none) = inl (record {
    told = ap told_or none.0;
    first = first_pair id history ∙ ap pair_or none.0;
    unproposed = not_proposed history id none.0;
  })
  by (inr some) =
      let how = proposes_is id some.0.event some.2 in
      inr (
        some.0,
        record {
          floor = how.0;
          wants = how.1;
          there = some.1;
          event = how.2;
          told = ap told_or some.3 ∙ ap (λ (v : Event). event_told v some.0.stamp) how.2;
          first = first_pair id history ∙ (ap pair_or some.3 ∙ ap pair_of how.2);
          stands = proposal_stands history id some.0 some.3;
        },
      )

-- WHAT FOLLOWS

pub unproposed_told : (id : Id) (history : List Entry) (b : Bool) (o : Option Proposal) → b ≡ is_none o → o ≡ told_in id history
    → Tells b (IsUnproposed history id)
unproposed_told id history b o is same = by (told_cases id history) where
  by : IsUntold history id ⊎ ((e : Entry) × IsToldBy history id e) → Tells b (IsUnproposed history id)
  by (inl none) =
      subst (λ (t : Bool). Tells t (IsUnproposed history id)) (sym (is ∙ ap is_none (same ∙ none.told))) none.unproposed
  by (inr some) =
      subst (λ (t : Bool). Tells t (IsUnproposed history id)) (sym (is ∙ ap is_none (same ∙ some.1.told)))
      (λ no_one. no_one some.0.stamp some.1.stands)

pub proposed_none : (id : Id) (history : List Entry) (stamp : ℕ) → told_in id history ≡ None → Proposes history id stamp → ⊥
proposed_none id history stamp none p = by (told_cases id history) where
  by : IsUntold history id ⊎ ((e : Entry) × IsToldBy history id e) → ⊥
  by (inl untold) = untold.unproposed stamp p
  by (inr some) = let f : ⊥ = cc (some.1.told, none) in f

pub proposed_told : (own regions : ℕ) (id : Id) (history : List Entry) → IsColumnHistory own regions (dated own history)
    → (p : Proposal) (stamp : ℕ) (b : Bool) → b ≡ nat_eq p.stamp stamp → told_in id history ≡ Some p
    → Tells b (Proposes history id stamp)
proposed_told own regions id history lawful p stamp b is told = by (told_cases id history) where
  pick : (s : ℕ) → p.stamp ≡ s → Proposes history id s → (t : Bool) → nat_eq p.stamp stamp ≡ t → Tells t (Proposes history id stamp)
  pick s same stands true t = subst (Proposes history id) (sym same ∙ eqb-true p.stamp stamp t) stands
  pick s same stands false f = λ other.
      eqb-false p.stamp stamp f (same ∙ proposed_once own regions history id s stamp lawful stands other)

  by : IsUntold history id ⊎ ((e : Entry) × IsToldBy history id e) → Tells b (Proposes history id stamp)
  by (inl untold) = absurd (let f : ⊥ = cc (untold.told, told) in f)
  by (inr some) =
      let same : p ≡ record { stamp = some.0.stamp; floor = some.1.floor } = same_some (sym told ∙ some.1.told) in
      pick some.0.stamp (ap (λ (q : Proposal). q.stamp) same) some.1.stands b (sym is)

-- the floor of a row's node, mark by mark
pub floor_here : (id : Id) (histories : ℕ → List Entry) (m : ColourMark) (ms : List ColourMark) (p : Proposal)
    → told_in id (histories m.colour) ≡ Some p → floor_told id histories (marked_colours (m ∷ ms)) ≡ p.floor
floor_here id histories m ms p told = by (told_cases id (histories m.colour)) where
  by : IsUntold (histories m.colour) id ⊎ ((e : Entry) × IsToldBy (histories m.colour) id e)
      → floor_told id histories (marked_colours (m ∷ ms)) ≡ p.floor
  by (inl untold) = absurd (let f : ⊥ = cc (untold.told, told) in f)
  by (inr some) =
      ap (λ (o : Option (ℕ × Counts)). floor_or o (floor_told id histories (marked_colours ms))) some.1.first
      ∙ ap (λ (q : Proposal). q.floor) (same_some (sym some.1.told ∙ told))

pub floor_later : (id : Id) (histories : ℕ → List Entry) (m : ColourMark) (ms : List ColourMark)
    → told_in id (histories m.colour) ≡ None
    → floor_told id histories (marked_colours (m ∷ ms)) ≡ floor_told id histories (marked_colours ms)
floor_later id histories m ms none = by (told_cases id (histories m.colour)) where
  by : IsUntold (histories m.colour) id ⊎ ((e : Entry) × IsToldBy (histories m.colour) id e)
      → floor_told id histories (marked_colours (m ∷ ms)) ≡ floor_told id histories (marked_colours ms)
  by (inl untold) = ap (λ (o : Option (ℕ × Counts)). floor_or o (floor_told id histories (marked_colours ms))) untold.first
  by (inr some) = absurd (let f : ⊥ = cc (some.1.told, none) in f)

-- a proposal of a lawful history is the first one of its id
pub first_so : (own regions : ℕ) (history : List Entry) → IsColumnHistory own regions (dated own history) → (n : ℕ) (e : Entry)
    → slice_get history n ≡ Some e → (event : Event) → e.event ≡ event → ProposesFirst history event
unfolding pair_or pair_of
first_so own regions history lawful n e at (Single id floor wants) is = tt
first_so own regions history lawful n e at (Propose id floor wants) is =
    first_pair id history
    ∙ (ap pair_or (entered_so own regions history lawful id n e at (proposed_by id e.event floor wants is)) ∙ ap pair_of is)
first_so own regions history lawful n e at (Settle id outcome) is = tt
first_so own regions history lawful n e at (Raise to) is = tt
first_so own regions history lawful n e at (Give region from) is = tt
first_so own regions history lawful n e at (Carry region start heads) is = tt
first_so own regions history lawful n e at (Trim counts) is = tt

-- the floor, as a loop goes over marks
pub floor_found : (id : Id) (histories : ℕ → List Entry) (ms : List ColourMark) (i : ℕ) (d : ColourMark) (p : Proposal) → i < length ms
    → floor_told id histories (marked_colours ms) ≡ floor_told id histories (marked_colours (drop i ms))
    → Some p ≡ told_in id (histories (get_or ms i d).colour) → p.floor ≡ floor_told id histories (marked_colours ms)
floor_found id histories ms i d p lt so told =
    sym (so
    ∙ (ap (λ (l : List ColourMark). floor_told id histories (marked_colours l)) (drop_more ms i d lt)
    ∙ floor_here id histories (get_or ms i d) (drop (i + 1) ms) p (sym told)))

pub floor_on : (id : Id) (histories : ℕ → List Entry) (ms : List ColourMark) (i : ℕ) (d : ColourMark) → i < length ms
    → floor_told id histories (marked_colours ms) ≡ floor_told id histories (marked_colours (drop i ms))
    → None ≡ told_in id (histories (get_or ms i d).colour)
    → floor_told id histories (marked_colours ms) ≡ floor_told id histories (marked_colours (drop (i + 1) ms))
floor_on id histories ms i d lt so none =
    so
    ∙ (ap (λ (l : List ColourMark). floor_told id histories (marked_colours l)) (drop_more ms i d lt)
    ∙ floor_later id histories (get_or ms i d) (drop (i + 1) ms) (sym none))

pub floor_end : (id : Id) (histories : ℕ → List Entry) (ms : List ColourMark) (i : ℕ) → length ms ≤ i
    → floor_told id histories (marked_colours ms) ≡ floor_told id histories (marked_colours (drop i ms))
    → last_stamp ≡ floor_told id histories (marked_colours ms)
floor_end id histories ms i ge so =
    sym (so ∙ ap (λ (l : List ColourMark). floor_told id histories (marked_colours l)) (drop_all i ms ge))
