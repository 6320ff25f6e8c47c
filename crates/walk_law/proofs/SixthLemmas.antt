-- What is found of an append that stands.
use Rattle.std.proofs.Common.{◌≡◌, ◌∙◌, refl, ap, sym, subst, Bool, true, false, ℕ, zero, suc, ◌<◌, ◌≤◌, List, [], ◌∷◌, length, get_or, Option, Some, None, arith}
use Rattle.std.specs.Prelude.{◌≢◌, slice_get}
use Rattle.std.specs.List.{All}
use Rattle.std.proofs.lemmas.Bool.{true≢false}
use Rattle.std.proofs.lemmas.Option.{get_or_from_slice_get}
use Rattle.log_node.specs.declared.ids.Id.{Id}
use Rattle.log_node.specs.declared.node.At.TheVariants as ats
use Rattle.log_node.proofs.CallerLemmas.{get_within, same_id-refl, same_some}
use Rattle.col_core.specs.declared.Entry.{Entry}
use Rattle.col_core.specs.Computed.{dated}
use Rattle.col_core.specs.History.{enters}
use Rattle.col_core.specs.Legal.{IsColumnHistory}
use Rattle.col_core.specs.Log.{Log}
use Rattle.col_core.specs.Keeping.{Kept}
use Rattle.report_text.specs.declared.report.PointPiece.{PointPiece}
use Rattle.script_text.specs.Fitting.{IsFitting}
use Rattle.lawful_run.specs.Callers.{Caller}
use Rattle.run_rules.specs.Keeping.{RulesTo}
use Rattle.run_rules.specs.Nodes.{nodes_told}
use Rattle.run_rules.specs.Rules.{Rule6}
use Rattle.run_rules.specs.Telling.{IsWellFormed, account_of}
use Rattle.column_track.specs.Tracks.{EntersAt, Tells}
use Rattle.walk_law.specs.declared.row_places.RowPlaces.{RowPlaces}
use Rattle.walk_law.specs.Fifth.{Finding, finding_in, next_id}
use Rattle.walk_law.specs.RowPlaces.{AreRowPlaces}
use Rattle.walk_law.specs.Sixth.{EntersOnlyAt, HasEnteredBy, HasFinalRow, IsHelped, IsInLine, IsProposedBy, SixthIsStanding, StandsBeside, StandsSo, StandsThere}
use Rattle.walk_law.specs.Walking.{DecidesEachStep, Walked}
use Rattle.walk_law.proofs.Once.{one_place, was_entered}

-- what is read at a place
pub read_there : (l h : List Entry) → l ≡ h → (n : ℕ) (e : Entry) → n < length l → ((d : Entry) → e ≡ get_or l n d)
    → slice_get h n ≡ Some e
read_there l h same n e lt is =
    let w = get_within l n lt in
    subst (λ (k : List Entry). slice_get k n ≡ Some e) same
    (w.1 ∙ ap (λ (x : Entry). Some x) (sym (is w.0 ∙ get_or_from_slice_get l n w.0 w.0 w.1)))

pub read_none : (l h : List Entry) → l ≡ h → (n : ℕ) → length l ≤ n → slice_get h n ≡ None
read_none l h same n ge = subst (λ (k : List Entry). slice_get k n ≡ None) same (beyond l n ge) where
  beyond : (l : List Entry) (n : ℕ) → length l ≤ n → slice_get l n ≡ None
  beyond [] n ge = refl
  beyond (x ∷ xs) zero ge = absurd (let f : ⊥ = omega (arith, ge) in f)
  beyond (x ∷ xs) (suc n) ge = beyond xs n (omega (arith, ge))

-- where no events are, no id enters
pub enters_nowhere : (history : List Entry) (id : Id) → history ≡ [] → EntersOnlyAt history id None
enters_nowhere history id none =
    subst (λ (h : List Entry). EntersOnlyAt h id None) (sym none)
    (record { there = refl; only = λ n e at t. absurd (let f : ⊥ = cc (at) in f) })

-- in a lawful history it enters where it is found, and nowhere else
pub enters_here : (own regions : ℕ) (history : List Entry) → IsColumnHistory own regions (dated own history) → (id : Id)
    (o : Option ℕ) → EntersAt history id o → EntersOnlyAt history id o
enters_here own regions history lawful id None fresh = record {
  there = fresh;
  only = λ n e at t. absurd (true≢false (sym (was_entered history id n e at t) ∙ fresh));
}
enters_here own regions history lawful id (Some place) (d, here, enters_d) = record {
  there = (d, here, enters_d);
  only = λ n e at t.
      ap (λ (k : ℕ). let p : Option ℕ = Some k in p) (one_place own regions history lawful id place n d e here at enters_d t);
}

module _ (log : Log) (caller : Caller) (kept : Kept) (colour seen : ℕ) (o : Option ℕ)
    (enters_at : EntersOnlyAt (log.histories caller.own colour) (next_id caller kept) o) where
  -- a proposal before a look is that of the id's place
  its_place : (is : IsProposedBy log caller kept colour (ats.Look seen)) → o ≡ Some is.0
  its_place (place, less, e, (there, proposes), other) =
      enters_at.only place e there (ap (enters (next_id caller kept)) proposes ∙ same_id-refl (next_id caller kept))

  pub none_before : o ≡ None → IsProposedBy log caller kept colour (ats.Look seen) → ⊥
  none_before none is = let here = its_place is in let f : ⊥ = cc (here, none) in f

  module _ (place : ℕ) (at : o ≡ Some place) where
    same_place : (is : IsProposedBy log caller kept colour (ats.Look seen)) → is.0 ≡ place
    same_place is = same_some (sym (its_place is) ∙ at)

    pub not_before : seen ≤ place → IsProposedBy log caller kept colour (ats.Look seen) → ⊥
    not_before late is =
        let same = same_place is in
        let less = is.1 in let f : ⊥ = omega (arith, late, same, less) in f

    pub not_there : slice_get (log.histories caller.own colour) place ≡ None → IsProposedBy log caller kept colour (ats.Look seen) → ⊥
    not_there none is =
        let there = is.3.0 in
        let same = ap (slice_get (log.histories caller.own colour)) (same_place is) in let f : ⊥ = cc (there, same, none) in f

    pub before_told : place < seen → (e : Entry) → slice_get (log.histories caller.own colour) place ≡ Some e → (b : Bool)
        → Tells b (IsHelped caller kept colour e) → Tells b (IsProposedBy log caller kept colour (ats.Look seen))
    before_told less e there true (proposes, other) = (place, less, e, (there, proposes), other)
    before_told less e there false fails = λ is.
        let same : is.2 ≡ e =
        same_some (sym is.3.0 ∙ (ap (slice_get (log.histories caller.own colour)) (same_place is) ∙ there)) in
        fails (subst (IsHelped caller kept colour) same (is.3.1, is.4))

module _ (log : Log) (caller : Caller) (kept : Kept) (stamp : ℕ) (row : Option ℕ) where
  pub there_told : (point : PointPiece) → HasEnteredBy log caller kept stamp row point → (b : Bool)
      → Tells b (IsInLine log caller kept stamp point) → Tells b (StandsThere log caller kept stamp row point)
  there_told point entered true is = record { entered = entered; in_line = is }
  there_told point entered false fails = λ is. fails is.in_line

  pub so_told : (find : Finding) (points : List PointPiece) → kept.floor < stamp → HasFinalRow find caller kept stamp row → (b : Bool)
      → Tells b (All (StandsThere log caller kept stamp row) points) → Tells b (StandsSo find log caller kept stamp row points)
  so_told find points above row_is true all = record { above = above; row_is = row_is; points_are = all }
  so_told find points above row_is false fails = λ is. fails is.points_are

-- the rule, as it is decided of each step
pub sixth_told : SixthIsStanding → (walked : Walked) (table : RowPlaces) → IsFitting walked.script
    → IsWellFormed walked.script walked.report → AreRowPlaces walked.report.rows table
    → RulesTo walked.script walked.report (account_of walked.script walked.report (nodes_told walked.script walked.report)) 5
    → (b : Bool) → DecidesEachStep walked (λ caller step. StandsBeside (finding_in table walked.report.rows) walked caller step) b
    → Tells b (Rule6 walked.script walked.report (account_of walked.script walked.report (nodes_told walked.script walked.report)))
sixth_told law walked table fits formed are rules true told =
    (law walked.script walked.report (finding_in table walked.report.rows) fits formed are rules).0
    (told (nodes_told walked.script walked.report))
sixth_told law walked table fits formed are rules false told = λ rule.
    told (nodes_told walked.script walked.report)
    ((law walked.script walked.report (finding_in table walked.report.rows) fits formed are rules).1 rule)
