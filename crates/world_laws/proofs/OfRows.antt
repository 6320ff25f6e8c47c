-- Propose, Fence, Decide and Settle keep what holds.
use Rattle.std.proofs.Common.{◌≡◌, ℕ, ◌<◌, ◌≤◌, List, [], ◌∷◌, ◌++◌, Bool, true, false, cond, refl, subst, ap, sym, ◌∙◌, inl, inr, ◌⊎◌, arith}
use Rattle.std.specs.Prelude.{◌==◌, ◌&&◌, ◌≢◌, not, IsSomeAnd}
use Rattle.std.proofs.lemmas.Bool.{eqb-true, eq-eqb, true≢false, ltb-true}
use Rattle.log_node.specs.declared.ids.Id.{Id}
use Rattle.log_node.specs.declared.ids.Row.{Row}
use Rattle.log_node.specs.Order.{same_id}
use Rattle.log_node.specs.Sets.{members}
use Rattle.log_node.specs.declared.marks.Why.{Why}
use Rattle.log_node.specs.declared.marks.Why.TheVariants.{Memory, StampEnd}
use Rattle.log_node.specs.declared.marks.Mark.{Mark}
use Rattle.log_node.specs.declared.marks.Mark.TheVariants as marks
use Rattle.log_node.specs.declared.marks.Outcome.{Outcome}
use Rattle.log_node.specs.declared.marks.Outcome.TheVariants.{Open, Gone, Final}
use Rattle.log_node.specs.Outcomes.{outcome_of, is_missing}
use Rattle.skeen_core.specs.Queues.{is_decided, has_open}
use Rattle.log_node.specs.Standings.{open_entry}
use Rattle.col_core.specs.declared.Entry.{Entry}
use Rattle.col_core.specs.History.{entries, last_stamp}
use Rattle.col_core.specs.Computed.{dated}
use Rattle.col_core.specs.Legal as Legal
use Rattle.col_core.specs.Legal.{IsLawfulEvent}
use Rattle.col_core.specs.Keeping.{updated, updated_at}
use Rattle.col_core.proofs.CallerLemmas.{by_test, if_true, if_false, both, apart, not_true, same_id-refl, Status}
use Rattle.col_core.proofs.CallerLemmas.{Absent, Waits, Settled, IsSettling}
use Rattle.world_laws.specs.Worlds.{World, RowState, ClientState, home_of, is_begun, row_of, row_history, marks_of, is_member, may_mark, may_propose, may_fence, may_decide, may_settle, with_row, with_mark, after_propose, proposed_entry, proposed_stamp, after_decide, after_settle, settled_entry}
use Rattle.world_laws.proofs.Basics.{at_updated, at_updated_at, updated_at-here}
use Rattle.world_laws.proofs.Held.{status_in, Agrees, column_mark, Fits, IsSound, Held}
use Rattle.world_laws.proofs.Marks.{has_colour, missing_none, open_is, decided_not_open, final_is, open_where_missing, any_mark, number_within, greatest_within, agrees-decided, agrees-settled}
use Rattle.world_laws.proofs.Copies.{plain_copies_last}
use Rattle.world_laws.proofs.Histories.{entries_dated, lawful_past_in, status-last, stamp_within, open_is_waiting, may_settle_open}
use Rattle.world_laws.proofs.Keeps.{at_last, lawful_last, may_enter, heads_last, status_stays, fits_one, fits_row, row_agrees, others_stay}

-- another column's mark
mark_nested : (p q : Bool) (x y z : Mark) → (p && q) ≡ false → cond p (cond q x y) z ≡ cond p y z
mark_nested true true x y z e = absurd (true≢false e)
mark_nested true false x y z e = refl
mark_nested false q x y z e = refl

pub mark-other : (home colour : ℕ) (row : RowState) (m : Mark) (r c : ℕ) → ((r == home) && (c == colour)) ≡ false
    → column_mark home (record row { marks = updated row.marks colour m }) r c ≡ column_mark home row r c
mark-other home colour row m r c e = mark_nested (r == home) (c == colour) m (row.marks c) marks.None e

pub mark-own : (home colour : ℕ) (row : RowState) (m : Mark) (r c : ℕ) → r ≡ home → c ≡ colour
    → column_mark home (record row { marks = updated row.marks colour m }) r c ≡ m
mark-own home colour row m r c er ec =
    if_true (r == home) _ _ (eq-eqb r home er) ∙ if_true (c == colour) _ _ (eq-eqb c colour ec)

pub mark-at_home : (home : ℕ) (row : RowState) (c : ℕ) → column_mark home row home c ≡ row.marks c
mark-at_home home row c = if_true (home == home) _ _ (eq-eqb home home refl)

-- a row that is changed, and keeps its node
module _ (w : World) (h : Held w) (row : Row) (begun : row.number < (w.clients row.client).used) (new : RowState)
    (same : new.node.id ≡ (row_of w row).node.id) (sound : IsSound h.kind row.client row.number new) where
  pub row_sound : (a n : ℕ) → n < (w.clients a).used
      → IsSound h.kind a n (updated_at w.rows row.client row.number new a n)
  row_sound a n lt = at_updated_at (λ (x : RowState). IsSound h.kind a n x) w.rows row.client row.number new a n
      (λ ea en. subst (λ (x : ℕ). IsSound h.kind x n new) (sym ea)
      (subst (λ (x : ℕ). IsSound h.kind row.client x new) (sym en) sound))
      (λ _. h.rows a n lt)

  pub row_fits : (w' : World) → w'.shape ≡ w.shape → w'.clients ≡ w.clients
      → w'.rows ≡ updated_at w.rows row.client row.number new
      → ((id : Id) (r c : ℕ) → same_id id (row_of w row).node.id ≡ false
      → status_in (w'.histories r c) id ≡ status_in (w.histories r c) id)
      → ((r c : ℕ) → Agrees (column_mark (home_of w' row.client) new r c) new.last
      (status_in (w'.histories r c) (row_of w row).node.id))
      → (id : Id) (r c : ℕ) → Fits w' id (h.kind id) r c (status_in (w'.histories r c) id)
  row_fits w' shape ec er statuses own =
      let s = h.rows row.client row.number begun in
      let id0 = (row_of w row).node.id in
      fits_one w w' h.kind h.kind id0 shape (λ id f. refl) statuses
      (λ id n ne lt is. (
        subst (λ (x : ℕ → ClientState). n < (x id.client).used) (sym ec) lt,
        ap
            (λ (x : ℕ → ℕ → RowState). x id.client n) er ∙ others_stay w row.client row.number new id n ne is,
      ))
      h.fits
      (λ r c. fits_row w' h.kind id0 row.client row.number r c
      (status_in (w'.histories r c) id0) new s.of_client s.of_id
      (subst (λ (x : ℕ → ClientState). row.number < (x row.client).used) (sym ec) begun)
      (ap (λ (x : ℕ → ℕ → RowState). x row.client row.number) er ∙ updated_at-here w.rows row.client row.number new)
      same (own r c))

-- A mark is set

kept_open : (r : RowState) → outcome_of (marks_of r) ≡ Open → ((r.last ≡ Open) ⊎ (r.last ≡ outcome_of (marks_of r)))
    → r.last ≡ Open
kept_open r e (inl k) = k
kept_open r e (inr k) = k ∙ e

-- what the guard of a mark says
pub record MayMark (w : World) (row : Row) (colour : ℕ) : Type 0 where
  pub begun : row.number < (w.clients row.client).used
  pub has : is_member (row_of w row).node.colours colour ≡ true
  pub missing : (row_of w row).marks colour ≡ marks.None

pub may_mark_is : (w : World) (row : Row) (colour : ℕ) → may_mark w row colour ≡ true → MayMark w row colour
may_mark_is w row colour ok =
    let p = both (is_begun w row) _ ok in
    let q = both (is_member (row_of w row).node.colours colour) (is_missing ((row_of w row).marks colour)) p.1 in
    record { begun = ltb-true row.number (w.clients row.client).used p.0; has = q.0; missing = missing_none _ q.1 }

-- what the guard of a fence says
pub may_fence_marks : (w : World) (row : Row) (colour : ℕ) (why : Why) → may_fence w row colour why ≡ true
    → may_mark w row colour ≡ true
may_fence_marks w row colour Memory ok = ok
may_fence_marks w row colour StampEnd ok = (both (may_mark w row colour) _ ok).0

pub marked_open : (w : World) (h : Held w) (row : Row) (colour : ℕ) → MayMark w row colour → (row_of w row).last ≡ Open
marked_open w h row colour g =
    let s = h.rows row.client row.number g.begun in
    kept_open (row_of w row)
    (open_where_missing (marks_of (row_of w row))
    (any_mark is_missing (row_of w row).marks (members (row_of w row).node.colours) colour g.has
    (ap is_missing g.missing))) s.kept

pub marked_absent : (w : World) (h : Held w) (row : Row) (colour : ℕ) → MayMark w row colour
    → status_in (row_history w row colour) (row_of w row).node.id ≡ Absent
marked_absent w h row colour g =
    let ag = row_agrees w h row.client row.number g.begun (home_of w row.client) colour in
    subst (λ (m : Mark). Agrees m (row_of w row).last (status_in (row_history w row colour) (row_of w row).node.id))
    (mark-at_home (home_of w row.client) (row_of w row) colour ∙ g.missing) ag

pub marked_row : World → Row → ℕ → Mark → RowState
marked_row w row colour m = record (row_of w row) { marks = updated (row_of w row).marks colour m }

pub marked_sound : (w : World) (h : Held w) (row : Row) (colour : ℕ) (m : Mark) → MayMark w row colour
    → ((s : ℕ) → m ≡ marks.Number s → s ≤ last_stamp) → IsSound h.kind row.client row.number (marked_row w row colour m)
unfolding marked_row
marked_sound w h row colour m g within =
    let s = h.rows row.client row.number g.begun in
    record {
      of_client = s.of_client;
      of_id = s.of_id;
      kept = inl (marked_open w h row colour g);
      in_set = λ c other. at_updated (λ (x : Mark). x ≡ marks.None) (row_of w row).marks colour m c
          (λ e. absurd (apart (is_member (row_of w row).node.colours c)
          (subst (λ (x : ℕ). is_member (row_of w row).node.colours x ≡ true) (sym e) g.has) other))
          (λ _. s.in_set c other);
      numbers = λ c t. at_updated (λ (x : Mark). x ≡ marks.Number t → t ≤ last_stamp) (row_of w row).marks colour m c
          (λ _. within t) (λ _. s.numbers c t);
      floor = s.floor;
    }

-- Fence
pub keeps_fence : (w : World) (h : Held w) (row : Row) (colour : ℕ) (why : Why) → may_mark w row colour ≡ true
    → Held (with_mark w row colour (marks.Fenced why))
unfolding marked_row
keeps_fence w h row colour why ok =
    let g = may_mark_is w row colour ok in
    let m : Mark = marks.Fenced why in
    let new = marked_row w row colour m in
    let sound = marked_sound w h row colour m g (λ s e. absurd (let x : ⊥ = cc in x)) in
    let id0 = (row_of w row).node.id in
    let home = home_of w row.client in
    record {
      kind = h.kind;
      fresh = h.fresh;
      fits = row_fits w h row g.begun new refl sound (with_mark w row colour m) refl refl refl (λ id r c f. refl)
          (λ r c. by_test (Agrees (column_mark home new r c) new.last (status_in (w.histories r c) id0))
          ((r == home) && (c == colour))
          (λ t. let p = both (r == home) (c == colour) t in
          let er = eqb-true r home p.0 in let ec = eqb-true c colour p.1 in
          subst (λ (x : Mark). Agrees x new.last (status_in (w.histories r c) id0))
          (sym (mark-own home colour (row_of w row) m r c er ec))
          (ap (λ (x : ℕ). status_in (w.histories x c) id0) er
          ∙ (ap (λ (x : ℕ). status_in (w.histories home x) id0) ec ∙ marked_absent w h row colour g)))
          (λ f. subst (λ (x : Mark). Agrees x new.last (status_in (w.histories r c) id0))
          (sym (mark-other home colour (row_of w row) m r c f))
          (row_agrees w h row.client row.number g.begun r c)));
      rows = row_sound w h row g.begun new refl sound;
      lawful = h.lawful;
      heads = h.heads;
      floors = h.floors;
      copies = h.copies;
    }

-- Propose
pub keeps_propose : (w : World) (h : Held w) (by : ℕ) (row : Row) (colour : ℕ) → may_propose w row colour ≡ true
    → Held (after_propose w by row colour)
unfolding marked_row
keeps_propose w h by row colour ok =
    let p = both (may_mark w row colour) _ ok in
    let g = may_mark_is w row colour p.0 in
    let s = h.rows row.client row.number g.begun in
    let stamp = proposed_stamp w row colour in
    let m : Mark = marks.Number stamp in
    let new = marked_row w row colour m in
    let home = home_of w row.client in
    let e = proposed_entry w by row colour in
    let in_range : stamp ≤ last_stamp = stamp_within (row_history w row colour) (row_of w row).node.floor
    (lawful_past_in w h home colour) s.floor (not_true _ p.1) in
    let sound = marked_sound w h row colour m g (λ t eq. same_number t stamp eq in_range) in
    let id0 = (row_of w row).node.id in
    let lawful : IsLawfulEvent home w.shape.regions (dated home (w.histories home colour)) e.event e.stamp = may_enter w
    h home colour id0 (row_of w row).node.floor (marked_absent w h row colour g) in_range in
    record {
      kind = h.kind;
      fresh = h.fresh;
      fits = row_fits w h row g.begun new refl sound (after_propose w by row colour) refl refl refl
          (λ id r c f. status_stays w home colour e id r c (λ st. if_false (same_id id id0) (Waits stamp) st f))
          (λ r c. at_last
          (λ (x : List Entry). Agrees (column_mark home new r c) new.last (status_in x id0)) w home colour e r c
          (λ er ec. subst (λ (x : Mark). Agrees x new.last (status_in (w.histories home colour ++ e ∷ []) id0))
          (sym (mark-own home colour (row_of w row) m r c er ec))
          (inl (status-last (w.histories home colour) e id0 ∙ if_true (same_id id0 id0) _ _ (same_id-refl id0))))
          (λ f. subst (λ (x : Mark). Agrees x new.last (status_in (w.histories r c) id0))
          (sym (mark-other home colour (row_of w row) m r c f))
          (row_agrees w h row.client row.number g.begun r c)));
      rows = row_sound w h row g.begun new refl sound;
      lawful = lawful_last w h home colour e lawful;
      heads = heads_last w h home colour e (λ other. refl);
      floors = h.floors;
      copies = plain_copies_last w h home colour e lawful (λ other. refl) (λ other. refl);
    } where
      same_number : (t stamp : ℕ) → marks.Number stamp ≡ marks.Number t → stamp ≤ last_stamp → t ≤ last_stamp
      same_number t stamp e le = let x : stamp ≡ t = cc in omega (arith, x, le)

-- Decide
pub keeps_decide : (w : World) (h : Held w) (row : Row) → may_decide w row ≡ true → Held (after_decide w row)
keeps_decide w h row ok =
    let p = both (is_begun w row) _ ok in
    let q = both (not (is_decided (row_of w row).last)) _ p.1 in
    let begun = ltb-true row.number (w.clients row.client).used p.0 in
    let s = h.rows row.client row.number begun in
    let id0 = (row_of w row).node.id in
    let home = home_of w row.client in
    let new : RowState = record (row_of w row) { last = outcome_of (marks_of (row_of w row)) } in
    let sound : IsSound h.kind row.client row.number new = record {
      of_client = s.of_client;
      of_id = s.of_id;
      kept = inr refl;
      in_set = s.in_set;
      numbers = s.numbers;
      floor =
          s.floor;
    } in
    record {
      kind = h.kind;
      fresh = h.fresh;
      fits = row_fits w h row begun new refl sound (with_row w row new) refl refl refl (λ id r c f. refl)
          (λ r c. agrees-decided (column_mark home (row_of w row) r c) new.last (status_in (w.histories r c) id0)
          (subst (λ (o : Outcome). Agrees (column_mark home (row_of w row) r c) o (status_in (w.histories r c) id0))
          (open_is (row_of w row).last (not_true _ q.0)) (row_agrees w h row.client row.number begun r c)));
      rows = row_sound w h row begun new refl sound;
      lawful = h.lawful;
      heads = h.heads;
      floors = h.floors;
      copies = h.copies;
    }

-- Settle
settles_within : (w : World) (h : Held w) (row : Row) (colour s : ℕ) (last : Outcome)
    → row.number < (w.clients row.client).used → last ≡ (row_of w row).last → last ≢ Open
    → (row_of w row).marks colour ≡ marks.Number s → IsSettling last s
settles_within w h row colour s Open begun el ne em = absurd (ne refl)
settles_within w h row colour s (Gone why) begun el ne em = tt
settles_within w h row colour s (Final f) begun el ne em =
    let so = h.rows row.client row.number begun in
    let cs = members (row_of w row).node.colours in
    let fin = final_is (marks_of (row_of w row)) f (kept_final so.kept) in
    let has : has_colour cs colour ≡ true = by_test (has_colour cs colour ≡ true) (has_colour cs colour) (λ t. t)
    (λ other. let z = so.in_set colour other in absurd (let x : ⊥ = cc in x)) in
    let a = number_within (row_of w row).marks cs colour s has em in
    let b = greatest_within (row_of w row).marks cs last_stamp so.numbers in
    (subst (λ (x : ℕ). s ≤ x) fin.3 a, subst (λ (x : ℕ). x ≤ last_stamp) fin.3 b) where
      kept_final : (((row_of w row).last ≡ Open) ⊎ ((row_of w row).last ≡ outcome_of (marks_of (row_of w row))))
          → outcome_of (marks_of (row_of w row)) ≡ Final f
      kept_final (inl k) = absurd (let x : ⊥ = cc in x)
      kept_final (inr k) = sym k ∙ sym el

pub record MaySettleRow (w : World) (row : Row) (colour : ℕ) : Type 0 where
  pub begun : row.number < (w.clients row.client).used
  pub decided : (row_of w row).last ≢ Open
  pub stamp : ℕ
  pub waits : status_in (row_history w row colour) (row_of w row).node.id ≡ Waits stamp

pub may_settle_is : (w : World) → Held w → (row : Row) (colour : ℕ) → may_settle w row colour ≡ true
    → MaySettleRow w row colour
may_settle_is w h row colour ok =
    let p = both (is_begun w row) _ ok in
    let q = both (is_decided (row_of w row).last)
    (has_open (row_of w row).node.id (entries (row_history w row colour))) p.1 in
    let z = open_is_waiting (row_history w row colour) (row_of w row).node.id
    (lawful_past_in w h (home_of w row.client) colour) q.1 in
    record {
      begun = ltb-true row.number (w.clients row.client).used p.0;
      decided = decided_not_open
          (row_of w row).last q.0;
      stamp = z.0;
      waits = z.1;
    }

pub keeps_settle : (w : World) (h : Held w) (by : ℕ) (row : Row) (colour : ℕ) → may_settle w row colour ≡ true
    → Held (after_settle w by row colour)
keeps_settle w h by row colour ok =
    let g = may_settle_is w h row colour ok in
    let s = h.rows row.client row.number g.begun in
    let home = home_of w row.client in
    let r0 = row_of w row in
    let id0 = r0.node.id in
    let history = row_history w row colour in
    let e = settled_entry w by row in
    let w' = after_settle w by row colour in
    let old = row_agrees w h row.client row.number g.begun in
    let at = agrees-settled (column_mark home r0 home colour) r0.last (status_in history id0) g.stamp g.waits g.decided
    (old home colour) in
    let lawful : IsLawfulEvent home w.shape.regions (dated home history) e.event e.stamp = (
      refl,
      subst (λ (x : List Entry). IsSomeAnd (open_entry id0 (entries x)) (Legal.IsSettling r0.last))
          (sym (entries_dated home history))
          (may_settle_open history id0 r0.last g.stamp (lawful_past_in w h home colour) g.waits
          (settles_within w h row colour g.stamp r0.last g.begun refl g.decided
          (sym (mark-at_home home r0 colour) ∙ at.0))),
    ) in
    record {
      kind = h.kind;
      fresh = h.fresh;
      fits = fits_one w w' h.kind h.kind id0 refl (λ id f. refl)
          (λ id r c f. status_stays w home colour e id r c (λ st. if_false (same_id id id0) (Settled r0.last) st f))
          (λ id n ne lt is. (lt, refl)) h.fits
          (λ r c. fits_row w' h.kind id0 row.client row.number r c
          (status_in (w'.histories r c) id0) r0 s.of_client s.of_id g.begun refl refl
          (at_last (λ (x : List Entry). Agrees (column_mark home r0 r c) r0.last (status_in x id0)) w home colour e r c
          (λ er ec. subst (λ (st : Status). Agrees (column_mark home r0 r c) r0.last st)
          (sym (status-last history e id0 ∙ if_true (same_id id0 id0) _ _ (same_id-refl id0)))
          (subst (λ (x : ℕ). Agrees (column_mark home r0 x c) r0.last (Settled r0.last)) (sym er)
          (subst (λ (x : ℕ). Agrees (column_mark home r0 home x) r0.last (Settled r0.last)) (sym ec) at.1)))
          (λ f. old r c)));
      rows = h.rows;
      lawful = lawful_last w h home colour e lawful;
      heads = heads_last w h home colour e (λ other. refl);
      floors = h.floors;
      copies = plain_copies_last w h home colour e lawful (λ other. refl) (λ other. refl);
    }
