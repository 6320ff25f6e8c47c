-- The steps of a completion, after which its row is done; and the rows of open entries.
use Rattle.std.proofs.Common.{◌≡◌, ℕ, List, [], ◌∷◌, Some, zero, suc, Bool, true, false, cond, refl, subst, ap, sym, ◌∙◌, inl, inr, ◌⊎◌}
use Rattle.std.specs.Prelude.{◌==◌, ◌&&◌, slice_get}
use Rattle.std.proofs.lemmas.Bool.{lt-ltb}
use Rattle.log_node.specs.declared.ids.Id.{Id}
use Rattle.log_node.specs.declared.ids.Row.{Row}
use Rattle.log_node.specs.declared.marks.Why.TheVariants.{Memory, StampEnd}
use Rattle.log_node.specs.Outcomes.{is_missing}
use Rattle.log_node.specs.Standings.{Standing}
use Rattle.col_core.specs.History.{entries}
use Rattle.col_core.proofs.CallerLemmas.{choice, open_waits, In, Status, Absent, Alone, Waits, standing_of}
use Rattle.world_laws.specs.declared.steps.Step.{Step}
use Rattle.world_laws.specs.declared.steps.Step.TheVariants as steps
use Rattle.world_laws.specs.Worlds.{World, home_of, after, run_steps, is_begun, row_of, is_row_at_end}
use Rattle.world_laws.specs.Completing.{mark_step, mark_steps, colours_of, settle_steps, complete_steps}
use Rattle.world_laws.proofs.CallerLemmas.{in_append, status_in, column_mark, Kind, Unborn, OfSingle, OfRow, Fits}
use Rattle.world_laws.proofs.CallerLemmas.{Held, entry_shown, run_held, can_complete}
use Rattle.script_meaning.proofs.World.Rows.{node_id, Touches, run_still, home_mark, waits_number, in_past, stands_done, IsDone, IsStill}

-- The steps of a completion

-- the step is on the row, and its event is made by the client
abbrev pub IsOn : ℕ → Row → Step → Type 0
IsOn client row (steps.Begin _ colours text) = ⊥
IsOn client row (steps.Propose by other colour) = (by ≡ client) × (other ≡ row)
IsOn client row (steps.Fence other colour why) = other ≡ row
IsOn client row (steps.Decide other) = other ≡ row
IsOn client row (steps.Settle by other colour) = (by ≡ client) × (other ≡ row)
IsOn client row (steps.Single _ colour text) = ⊥
IsOn client row (steps.Raise by region colour to) = ⊥
IsOn client row (steps.Give by origin region colour from) = ⊥
IsOn client row (steps.Carry by origin region colour start count) = ⊥
IsOn client row (steps.Trim by region colour counts) = ⊥
IsOn client row (steps.Play _ colour) = ⊥
IsOn client row (steps.Seen _ to) = ⊥

pub mark_step_on : (w : World) (by : ℕ) (row : Row) (grants : ℕ → Bool) (c : ℕ) → IsOn by row
    (mark_step w by row grants c)
mark_step_on w by row grants c =
    choice (IsOn by row) (is_row_at_end w row c) (steps.Fence row c StampEnd)
    (cond (grants c) (steps.Propose by row c) (steps.Fence row c Memory)) (λ _. refl)
    (λ _. choice (IsOn by row) (grants c) (steps.Propose by row c) (steps.Fence row c Memory) (λ _. (refl, refl))
    (λ _. refl))

pub mark_steps_on : (w : World) (by : ℕ) (row : Row) (grants : ℕ → Bool) (cs : List ℕ) (s : Step)
    → In s (mark_steps w by row grants cs) → IsOn by row s
mark_steps_on w by row grants [] s i = absurd i
mark_steps_on w by row grants (c ∷ cs) s i =
    choice (λ (l : List Step). In s l → IsOn by row s) (is_missing ((row_of w row).marks c))
    (mark_step w by row grants c ∷ mark_steps (after w (mark_step w by row grants c)) by row grants cs)
    (mark_steps w by row grants cs)
    (λ _ j. turn j (mark_steps_on (after w (mark_step w by row grants c)) by row grants cs s))
    (λ _. mark_steps_on w by row grants cs s) i where
      turn : (mark_step w by row grants c ≡ s) ⊎ In s
          (mark_steps (after w (mark_step w by row grants c)) by row grants cs)
          → (In s (mark_steps (after w (mark_step w by row grants c)) by row grants cs) → IsOn by row s) → IsOn by row s
      turn (inl e) rest = subst (IsOn by row) e (mark_step_on w by row grants c)
      turn (inr i) rest = rest i

pub settle_steps_on : (by : ℕ) (row : Row) (cs : List ℕ) (s : Step) → In s (settle_steps by row cs) → IsOn by row s
settle_steps_on by row [] s i = absurd i
settle_steps_on by row (c ∷ cs) s (inl e) = subst (IsOn by row) e (refl, refl)
settle_steps_on by row (c ∷ cs) s (inr i) = settle_steps_on by row cs s i

pub complete_steps_on : (w : World) (by : ℕ) (row : Row) (grants : ℕ → Bool) (s : Step)
    → In s (complete_steps w by row grants) → IsOn by row s
complete_steps_on w by row grants s i =
    turn (in_append s (mark_steps w by row grants (colours_of w row))
    (steps.Decide row ∷ settle_steps by row (colours_of w row)) i)
  where
    turn : In s (mark_steps w by row grants (colours_of w row))
        ⊎ In s (steps.Decide row ∷ settle_steps by row (colours_of w row)) → IsOn by row s
    turn (inl j) = mark_steps_on w by row grants (colours_of w row) s j
    turn (inr (inl e)) = subst (IsOn by row) e refl
    turn (inr (inr j)) = settle_steps_on by row (colours_of w row) s j

-- a step on a row touches no other
pub on_touches : (by : ℕ) (row other : Row) (s : Step) → IsOn by row s → Touches other s → other ≡ row
on_touches by row other (steps.Begin _ colours text) o t = absurd o
on_touches by row other (steps.Propose _ x colour) o t = t ∙ o.1
on_touches by row other (steps.Fence x colour why) o t = t ∙ o
on_touches by row other (steps.Decide x) o t = t ∙ o
on_touches by row other (steps.Settle _ x colour) o t = t ∙ o.1
on_touches by row other (steps.Single _ colour text) o t = absurd o
on_touches by row other (steps.Raise _ region colour to) o t = absurd o
on_touches by row other (steps.Give _ origin region colour from) o t = absurd o
on_touches by row other (steps.Carry _ origin region colour start count) o t = absurd o
on_touches by row other (steps.Trim _ region colour counts) o t = absurd o
on_touches by row other (steps.Play _ colour) o t = absurd o
on_touches by row other (steps.Seen _ to) o t = absurd o

-- the row is done after its completion, and every other one is as before
pub completed_done : (w : World) → Held w → (by : ℕ) (row : Row) (grants : ℕ → Bool) → is_begun w row ≡ true
    → is_begun (run_steps w (complete_steps w by row grants)) row ≡ true
    → IsDone (run_steps w (complete_steps w by row grants)) row
completed_done w h by row grants b b' =
    let w' = run_steps w (complete_steps w by row grants) in
    stands_done w' (run_held w h (complete_steps w by row grants)) row b' (row_of w' row).last refl
    (can_complete w h by row grants b).stands

pub completed_still : (w : World) → Held w → (by : ℕ) (row other : Row) (grants : ℕ → Bool) → is_begun w other ≡ true
    → (other ≡ row → ⊥) → IsStill w (run_steps w (complete_steps w by row grants)) other
completed_still w h by row other grants b ne =
    run_still w h (complete_steps w by row grants) other b
    (λ s i t. ne (on_touches by row other s (complete_steps_on w by row grants s i) t))

pub settle_at : (by : ℕ) (row : Row) (cs : List ℕ) (j : ℕ) (s : Step) → slice_get (settle_steps by row cs) j ≡ Some s
    → (c : ℕ) × (slice_get cs j ≡ Some c) × (s ≡ steps.Settle by row c)
settle_at by row [] j s e = absurd (let f : ⊥ = cc in f)
settle_at by row (c ∷ cs) zero s e = let is : steps.Settle by row c ≡ s = cc in (c, refl, sym is)
settle_at by row (c ∷ cs) (suc j) s e = settle_at by row cs j s e

-- Open entries

-- the row of an open entry
pub record HasRow (w : World) (r c : ℕ) (x : Standing) : Type 0 where
  pub row : Row
  pub client : row.client ≡ x.key.id.client
  pub begun : is_begun w row ≡ true
  pub is : node_id w row ≡ x.key.id
  pub home : r ≡ home_of w row.client
  pub waits : status_in (w.histories r c) (node_id w row) ≡ Waits x.key.stamp

pub open_row : (w : World) → Held w → (r c : ℕ) (x : Standing) → In x (entries (w.histories r c)) → x.settled ≡ false
    → HasRow w r c x
open_row w h r c x i o =
    let id = x.key.id in
    let st = status_in (w.histories r c) id in
    let e = open_waits id st x (entry_shown w h r c x i) o in
    of_kind (h.kind id) (h.fits id r c) e where
      of_kind : (k : Kind) → Fits w x.key.id k r c (status_in (w.histories r c) x.key.id)
          → status_in (w.histories r c) x.key.id ≡ Waits x.key.stamp → HasRow w r c x
      of_kind Unborn f e = absurd (let y : ⊥ = cc in y)
      of_kind (OfSingle region colour stamp) f e =
          choice (λ (st : Status). status_in (w.histories r c) x.key.id ≡ st → HasRow w r c x)
          ((r == region) && (c == colour)) (Alone stamp) Absent
          (λ _ g. absurd (let y : ⊥ = cc in y)) (λ _ g. absurd (let y : ⊥ = cc in y)) f
      of_kind (OfRow number) f e =
          let home = home_of w x.key.id.client in
          let row : Row = record { client = x.key.id.client; number = number } in
          let n = waits_number (column_mark home (w.rows x.key.id.client number) r c)
          (w.rows x.key.id.client number).last _ x.key.stamp f.agrees e in
          record {
            row = row;
            client = refl;
            begun = lt-ltb _ _ f.begun;
            is = f.is;
            home = (home_mark home (w.rows x.key.id.client number) r c n.0 n.1).0;
            waits = subst (λ (i : Id). status_in (w.histories r c) i ≡ Waits x.key.stamp) (sym f.is) e;
          }

-- an entry that is open after some steps was open before, where its row is as before
pub open_before : (w w' : World) → Held w → Held w' → (r c : ℕ) (x : Standing) → In x (entries (w'.histories r c))
    → (row : Row) → node_id w row ≡ x.key.id → IsStill w w' row → In x (entries (w.histories r c))
open_before w w' h h' r c x i row is s =
    in_past w h r c x.key.id x
    (ap (standing_of x.key.id) (sym (subst (λ (k : Id). status_in (w'.histories r c) k ≡ status_in
    (w.histories r c) k) is
    (s.status r c))) ∙ entry_shown w' h' r c x i)
