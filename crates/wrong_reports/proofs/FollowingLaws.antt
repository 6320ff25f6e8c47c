-- Conditions that follow from others.
use Rattle.std.proofs.Common.{◌≡◌, ℕ, zero, suc, ◌<◌, ◌≤◌, List, [], ◌∷◌, take, Some, refl, ap}
use Rattle.std.proofs.Common.{subst, ◌∙◌, arith, slice_get}
use Rattle.std.proofs.Math.Nat.{le-max_left, le-max_right}
use Rattle.col_core.specs.declared.Event as events
use Rattle.col_core.specs.declared.Event.TheVariants.{Raise}
use Rattle.col_core.specs.declared.Entry.{Entry}
use Rattle.col_core.specs.History.{clock, event_number}
use Rattle.col_core.specs.Cuts.{Dated, entries_of}
use Rattle.col_core.specs.Computed.{dated}
use Rattle.col_core.specs.Legal.{IsLawfulEvent, IsColumnHistory}
use Rattle.col_core.proofs.CallerLemmas.{dated-is_dated}
use Rattle.wrong_reports.specs.Following.{EntersAboveItsFloor, RaisesOnce}
use Rattle.wrong_reports.proofs.Tools.{some_same, none_there}

-- an entry of the history with its cut
record DatedAt (ds : List Dated) (place : ℕ) (e : Entry) : Type 0 where
  pub date : Dated
  pub there : slice_get ds place ≡ Some date
  pub is : date.entry ≡ e

dated_there : (ds : List Dated) (place : ℕ) (e : Entry) → slice_get (entries_of ds) place ≡ Some e → DatedAt ds place e
dated_there [] place e h = absurd (none_there e h)
dated_there (d ∷ ds) zero e h = record { date = d; there = refl; is = some_same d.entry e h }
dated_there (d ∷ ds) (suc place) e h =
    let t = dated_there ds place e h in
    record { date = t.date; there = t.there; is = t.is }

dated_at : (own : ℕ) (history : List Entry) (place : ℕ) (e : Entry) → slice_get history place ≡ Some e
    → DatedAt (dated own history) place e
dated_at own history place e h =
    dated_there (dated own history) place e
    (ap (λ (es : List Entry). slice_get es place) (dated-is_dated own history).same ∙ h)

-- the event is lawful there
lawful_at : (own regions : ℕ) (history : List Entry) → IsColumnHistory own regions (dated own history) → (place : ℕ)
    (e : Entry) → slice_get history place ≡ Some e
    → IsLawfulEvent own regions (take place (dated own history)) e.event e.stamp
lawful_at own regions history legal place e h =
    let d = dated_at own history place e h in
    subst (λ (e : Entry). IsLawfulEvent own regions (take place (dated own history)) e.event e.stamp) d.is
    (legal place d.date d.there)

pub above_floor : EntersAboveItsFloor
above_floor own regions history legal place client floor stamp id wants h =
    let s = (lawful_at own regions history legal place _ h).stamped in
    let le = le-max_right (clock (entries_of (take place (dated own history)))) floor in
    omega (arith, s, le)

-- the clock after some events is not below what an earlier one raised it to
counted : (ds : List Dated) (q p : ℕ) (d : Dated) → p < q → slice_get ds p ≡ Some d
    → event_number d.entry.event d.entry.stamp ≤ clock (entries_of (take q ds))
counted [] q p d lt h = absurd (none_there d h)
counted (c ∷ ds) zero p d lt h = absurd (omega (arith, lt))
counted (c ∷ ds) (suc q) zero d lt h =
    subst (λ (d : Dated). event_number d.entry.event d.entry.stamp ≤ clock (entries_of (c ∷ take q ds))) (some_same c d h)
    (le-max_left (event_number c.entry.event c.entry.stamp) (clock (entries_of (take q ds))))
counted (c ∷ ds) (suc q) (suc p) d lt h =
    let less = counted ds q p d (omega (arith, lt)) h in
    let le = le-max_right (event_number c.entry.event c.entry.stamp) (clock (entries_of (take q ds))) in
    omega (arith, less, le)

-- no raise comes behind another to the same stamp
not_behind : (own regions : ℕ) (history : List Entry) → IsColumnHistory own regions (dated own history)
    → (p q to : ℕ) (one other : Entry) → one.event ≡ Raise to → other.event ≡ Raise to
    → slice_get history p ≡ Some one → slice_get history q ≡ Some other → p < q → ⊥
not_behind own regions history legal p q to one other one_is other_is at_p at_q lt =
    let d = dated_at own history p one at_p in
    let number : event_number d.date.entry.event d.date.entry.stamp ≡ to =
    ap (λ (e : Entry). event_number e.event e.stamp) d.is
    ∙ ap (λ (e : events.Event). event_number e one.stamp) one_is in
    let low = counted (dated own history) q p d.date lt d.there in
    let high = (subst (λ (e : events.Event). IsLawfulEvent own regions (take q (dated own history)) e other.stamp) other_is
    (lawful_at own regions history legal q other at_q)).1 in
    omega (arith, number, low, high)

pub once : RaisesOnce
once own regions history legal p q to one other one_is other_is at_p at_q =
    let early = not_behind own regions history legal p q to one other one_is other_is at_p at_q in
    let late = not_behind own regions history legal q p to other one other_is one_is at_q at_p in
    same p q early late where
      same : (p q : ℕ) → (p < q → ⊥) → (q < p → ⊥) → p ≡ q
      same zero zero early late = refl
      same zero (suc q) early late = absurd (early (omega arith))
      same (suc p) zero early late = absurd (late (omega arith))
      same (suc p) (suc q) early late =
          ap suc (same p q (λ lt. early (omega (arith, lt))) (λ lt. late (omega (arith, lt))))
