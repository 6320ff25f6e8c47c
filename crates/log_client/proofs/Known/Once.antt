-- An id enters a lawful history once.
use Rattle.std.proofs.Common.{◌≡◌, ℕ, ◌<◌, List, [], ◌∷◌, take, Some, true, slice_get, ap, sym, subst, ◌∙◌, inl, inr}
use Rattle.std.proofs.lemmas.Bool.{cases_order, or_left, or_right, true≢false}
use Rattle.log_node.specs.declared.ids.Id.{Id}
use Rattle.col_core.specs.declared.Entry.{Entry}
use Rattle.col_core.specs.declared.Event as event_types
use Rattle.col_core.specs.declared.Event.TheVariants as events
use Rattle.col_core.specs.History.{enters, has_entered}
use Rattle.col_core.specs.Cuts.{Dated, entries_of}
use Rattle.col_core.specs.Computed.{dated}
use Rattle.col_core.specs.Legal.{IsColumnHistory, IsLawfulEvent}
use Rattle.col_core.proofs.CallerLemmas.{In, dated-is_dated, same_id-true, slice_in}
use Rattle.std.proofs.lemmas.List.{take-map}
use Rattle.log_client.proofs.Lists.{unmapped, got_taken}

-- an id has entered that an entry enters
entered_by : (id : Id) (history : List Entry) (e : Entry) → In e history → enters id e.event ≡ true
    → has_entered id history ≡ true
entered_by id [] e i it = absurd i
entered_by id (x ∷ xs) e (inl is) it =
    or_left (enters id x.event) (has_entered id xs) (ap (λ (y : Entry). enters id y.event) is ∙ it)
entered_by id (x ∷ xs) e (inr i) it = or_right (enters id x.event) (has_entered id xs) (entered_by id xs e i it)

-- what may enter has not entered
fresh_by : (own regions : ℕ) (before : List Dated) (id : Id) (ev : event_types.Event) (stamp : ℕ)
    → IsLawfulEvent own regions before ev stamp → enters id ev ≡ true → has_entered id (entries_of before) ≡ true → ⊥
fresh_by own regions before id (events.Single other floor wants) stamp l it entered =
    true≢false (sym (subst (λ (i : Id). has_entered i (entries_of before) ≡ true) (same_id-true id other it) entered)
    ∙ l.fresh)
fresh_by own regions before id (events.Propose other floor wants) stamp l it entered =
    true≢false (sym (subst (λ (i : Id). has_entered i (entries_of before) ≡ true) (same_id-true id other it) entered)
    ∙ l.fresh)
fresh_by own regions before id (events.Settle other outcome) stamp l it entered = absurd (let f : ⊥ = cc in f)
fresh_by own regions before id (events.Raise to) stamp l it entered = absurd (let f : ⊥ = cc in f)
fresh_by own regions before id (events.Give region from) stamp l it entered = absurd (let f : ⊥ = cc in f)
fresh_by own regions before id (events.Carry region start heads) stamp l it entered = absurd (let f : ⊥ = cc in f)
fresh_by own regions before id (events.Trim counts) stamp l it entered = absurd (let f : ⊥ = cc in f)

module _ (own regions : ℕ) (history : List Entry) (lawful : IsColumnHistory own regions (dated own history)) (id : Id) where
  -- not by a later entry too
  not_again : (i j : ℕ) (e f : Entry) → i < j → slice_get history i ≡ Some e → slice_get history j ≡ Some f
      → enters id e.event ≡ true → enters id f.event ≡ true → ⊥
  not_again i j e f lt at to one other =
      let same = (dated-is_dated own history).same in
      let d = unmapped (λ (x : Dated). x.entry) (dated own history) j f (ap (λ l. slice_get l j) same ∙ to) in
      let before : entries_of (take j (dated own history)) ≡ take j history =
      sym (take-map (λ (x : Dated). x.entry) j (dated own history)) ∙ ap (take j) same in
      fresh_by own regions (take j (dated own history)) id d.0.entry.event d.0.entry.stamp (lawful j d.0 d.1)
      (ap (λ (x : Entry). enters id x.event) d.2 ∙ other)
      (subst (λ (l : List Entry). has_entered id l ≡ true) (sym before)
      (entered_by id (take j history) e (slice_in (take j history) i e (got_taken j history i e lt at)) one))

  pub entered_once : (i j : ℕ) (e f : Entry) → slice_get history i ≡ Some e → slice_get history j ≡ Some f
      → enters id e.event ≡ true → enters id f.event ≡ true → i ≡ j
  entered_once i j e f at to one other = elim (cases_order i j) [
    | inl same ↦ same
    | inr (inl less) ↦ absurd (not_again i j e f less at to one other)
    | inr (inr more) ↦ absurd (not_again j i f e more to at other one)
  ]
