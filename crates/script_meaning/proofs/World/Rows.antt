-- What becomes of begun rows: a step changes one row at most, and a completed row waits nowhere.
use Rattle.std.proofs.Common.{◌≡◌, ℕ, ◌+◌, ◌<◌, List, [], ◌∷◌, Some, Bool, true, false, refl, subst, ap, sym, ◌∙◌, inl, inr, arith}
use Rattle.std.specs.Prelude.{◌==◌, ◌≢◌}
use Rattle.std.proofs.lemmas.Bool.{true≢false, ltb-true, lt-ltb, eqb-true}
use Rattle.log_node.specs.declared.ids.Id.{Id}
use Rattle.log_node.specs.declared.ids.Row.{Row}
use Rattle.log_node.specs.Order.{same_id}
use Rattle.log_node.specs.declared.marks.Mark.{Mark}
use Rattle.log_node.specs.declared.marks.Mark.TheVariants as marks
use Rattle.log_node.specs.declared.marks.Outcome.{Outcome}
use Rattle.log_node.specs.declared.marks.Outcome.TheVariants.{Open, Gone, Final}
use Rattle.log_node.specs.Standings.{Standing}
use Rattle.col_core.specs.declared.Event.TheVariants as events
use Rattle.col_core.specs.declared.Entry.{Entry}
use Rattle.col_core.specs.History.{entries, entry_key}
use Rattle.col_core.proofs.CallerLemmas.{choice, by_test, both, if_false, entries-of, In, stands, Status, Alone}
use Rattle.col_core.proofs.CallerLemmas.{Waits, Settled, after_event, standing_of}
use Rattle.world_laws.specs.declared.steps.Step.{Step}
use Rattle.world_laws.specs.declared.steps.Step.TheVariants as steps
use Rattle.world_laws.specs.Worlds.{World, RowState, home_of, after, run_steps, is_begun, row_of, next_id, next_row, may_begin, may_mark, may_propose, may_fence, may_decide, may_settle, may_single, may_raise, may_give, may_carry, is_column, may_play, may_see, with_last, with_mark, with_row, after_begin, after_propose, proposed_entry, proposed_stamp, after_decide, after_settle, settled_entry, after_single, single_entry, after_raise, after_give, after_carry, carried_entry, after_trim, after_play, after_seen}
use Rattle.world_laws.specs.Completing.{colours_of}
use Rattle.world_laws.specs.Laws.{StandsAsDecided}
use Rattle.world_laws.proofs.CallerLemmas.{updated_at-not, in_contains, contains_in, not_same, status_in, Agrees}
use Rattle.world_laws.proofs.CallerLemmas.{column_mark, Unborn, OfRow, Held, is_waiting, waiting_is, colour_in}
use Rattle.world_laws.proofs.CallerLemmas.{lawful_past_in, status_stays, row_agrees, next_unborn, entry_shown}
use Rattle.world_laws.proofs.CallerLemmas.{colour_of_mark, same_number, after_grows, after_held}

abbrev pub node_id : World → Row → Id
node_id w row = (row_of w row).node.id

-- a row is decided, and its node waits in no column
pub record IsDone (w : World) (row : Row) : Type 0 where
  pub decided : (row_of w row).last ≢ Open
  pub waits : (r c : ℕ) → is_waiting (status_in (w.histories r c) (node_id w row)) ≡ false

-- a row is as before, and so is the status of its node in each column
pub record IsStill (w w' : World) (row : Row) : Type 0 where
  pub same : row_of w' row ≡ row_of w row
  pub status : (r c : ℕ) → status_in (w'.histories r c) (node_id w row) ≡ status_in (w.histories r c) (node_id w row)

-- the step may change this row
abbrev pub Touches : Row → Step → Type 0
Touches row (steps.Begin client colours text) = ⊥
Touches row (steps.Propose by other colour) = row ≡ other
Touches row (steps.Fence other colour why) = row ≡ other
Touches row (steps.Decide other) = row ≡ other
Touches row (steps.Settle by other colour) = row ≡ other
Touches row (steps.Single client colour text) = ⊥
Touches row (steps.Raise by region colour to) = ⊥
Touches row (steps.Give by origin region colour from) = ⊥
Touches row (steps.Carry by origin region colour start count) = ⊥
Touches row (steps.Trim by region colour counts) = ⊥
Touches row (steps.Play client colour) = ⊥
Touches row (steps.Seen client to) = ⊥

-- Steps on other rows

row_is : (a b : Row) → a.client ≡ b.client → a.number ≡ b.number → a ≡ b
row_is a b e f = ap (λ (x : ℕ). record { client = x; number = a.number }) e
    ∙ ap (λ (x : ℕ). record { client = b.client; number = x }) f

other_id : (w : World) → Held w → (row other : Row) → is_begun w row ≡ true → is_begun w other ≡ true
    → (row ≡ other → ⊥) → same_id (node_id w row) (node_id w other) ≡ false
other_id w h row other b c ne = not_same (node_id w row) (node_id w other) (λ e.
    let p = same_number w h row.client row.number other.client other.number (ltb-true _ _ b) (ltb-true _ _ c) e in
    ne (row_is row other p.0 p.1))

pub still : (w : World) (row : Row) → IsStill w w row
still w row = record { same = refl; status = λ r c. refl }

pub row_put : (w : World) (other : Row) (x : RowState) (row : Row) → (row ≡ other → ⊥)
    → row_of (with_row w other x) row ≡ row_of w row
row_put w other x row ne =
    updated_at-not w.rows other.client other.number x row.client row.number (λ e f. ne (row_is row other e f))

pub propose_still : (w : World) → Held w → (by : ℕ) (other : Row) (c : ℕ) (row : Row) → is_begun w row ≡ true
    → (row ≡ other → ⊥) → may_propose w other c ≡ true → IsStill w (after_propose w by other c) row
propose_still w h by other c row b ne ok =
    let id = node_id w row in
    let begun = (both (is_begun w other) _ (both (may_mark w other c) _ ok).0).0 in
    record {
      same = row_put w other _ row ne;
      status = λ r d. status_stays w (home_of w other.client) c (proposed_entry w by other c) id r d
          (λ st. if_false (same_id id (node_id w other)) (Waits (proposed_stamp w other c)) st
          (other_id w h row other b begun ne));
    }

pub settle_still : (w : World) → Held w → (by : ℕ) (other : Row) (c : ℕ) (row : Row) → is_begun w row ≡ true
    → (row ≡ other → ⊥) → may_settle w other c ≡ true → IsStill w (after_settle w by other c) row
settle_still w h by other c row b ne ok =
    let id = node_id w row in
    record {
      same = refl;
      status = λ r d. status_stays w (home_of w other.client) c (settled_entry w by other) id r d
          (λ st. if_false (same_id id (node_id w other)) (Settled (row_of w other).last) st
          (other_id w h row other b (both (is_begun w other) _ ok).0 ne));
    }

pub single_still : (w : World) → Held w → (client c : ℕ) (text : List ℕ) (row : Row) → is_begun w row ≡ true
    → IsStill w (after_single w client c text) row
single_still w h client c text row b =
    let id = node_id w row in
    let k = (h.rows row.client row.number (ltb-true _ _ b)).of_id in
    let ne : same_id id (next_id w client) ≡ false = not_same id (next_id w client)
    (λ e. distinct row.number (sym k ∙ (ap h.kind e ∙ next_unborn w h client))) in
    record {
      same = refl;
      status = λ r d. status_stays w (home_of w client) c (single_entry w client c) id r d
          (λ st. if_false (same_id id (next_id w client)) (Alone (single_entry w client c).stamp) st ne);
    } where
      distinct : (m : ℕ) → OfRow m ≡ Unborn → ⊥
      distinct m e = cc

-- an event that concerns no id leaves each row
pub event_still : (w : World) (region c : ℕ) (e : Entry) (row : Row)
    → ((id : Id) (st : Status) → after_event id e.event e.stamp st ≡ st) → IsStill w (with_last w region c e) row
event_still w region c e row none = record {
  same = refl;
  status = λ r d. status_stays w region c e (node_id w row) r d (none (node_id w row));
}

pub step_still : (w : World) → Held w → (s : Step) (row : Row) → is_begun w row ≡ true → (Touches row s → ⊥)
    → IsStill w (after w s) row
step_still w h (steps.Begin client colours text) row b ne =
    choice (λ (x : World). IsStill w x row) (may_begin w client colours) (after_begin w client colours text) w
    (λ _. record {
      same = row_put w (next_row w client) _ row (λ e. new (ltb-true _ _ b) (ap (λ (x : Row). x.client) e)
          (ap (λ (x : Row). x.number) e));
      status = λ r c. refl;
    }) (λ _. still w row) where
      new : row.number < (w.clients row.client).used → row.client ≡ client → row.number ≡ (w.clients client).used → ⊥
      new lt e f =
          let x : row.number < (w.clients client).used = subst (λ (k : ℕ). row.number < (w.clients k).used) e lt in
          omega (arith, x, f)
step_still w h (steps.Propose by other c) row b ne =
    choice (λ (x : World). IsStill w x row) (may_propose w other c) (after_propose w by other c) w
    (λ ok. propose_still w h by other c row b ne ok) (λ _. still w row)
step_still w h (steps.Fence other c why) row b ne =
    choice (λ (x : World). IsStill w x row) (may_fence w other c why) (with_mark w other c (marks.Fenced why)) w
    (λ ok. record { same = row_put w other _ row ne; status = λ r d. refl }) (λ _. still w row)
step_still w h (steps.Decide other) row b ne =
    choice (λ (x : World). IsStill w x row) (may_decide w other) (after_decide w other) w
    (λ ok. record { same = row_put w other _ row ne; status = λ r d. refl }) (λ _. still w row)
step_still w h (steps.Settle by other c) row b ne =
    choice (λ (x : World). IsStill w x row) (may_settle w other c) (after_settle w by other c) w
    (λ ok. settle_still w h by other c row b ne ok) (λ _. still w row)
step_still w h (steps.Single client c text) row b ne =
    choice (λ (x : World). IsStill w x row) (may_single w client c) (after_single w client c text) w
    (λ ok. single_still w h client c text row b) (λ _. still w row)
step_still w h (steps.Raise by region c to) row b ne =
    choice (λ (x : World). IsStill w x row) (may_raise w region c to) (after_raise w by region c to) w
    (λ _. event_still w region c (record { by = by; event = events.Raise to; stamp = 0 }) row (λ id st. refl))
    (λ _. still w row)
step_still w h (steps.Give by origin region c from) row b ne =
    choice (λ (x : World). IsStill w x row) (may_give w origin region c from) (after_give w by origin region c from) w
    (λ _. event_still w origin c (record { by = by; event = events.Give region from; stamp = 0 }) row (λ id st. refl))
    (λ _. still w row)
step_still w h (steps.Carry by origin region c start count) row b ne =
    choice (λ (x : World). IsStill w x row) (may_carry w origin region c start count)
    (after_carry w by origin region c start count) w
    (λ _. event_still w region c (carried_entry w by origin region c (start + count)) row (λ id st. refl))
    (λ _. still w row)
step_still w h (steps.Trim by region c counts) row b ne =
    choice (λ (x : World). IsStill w x row) (is_column w region c) (after_trim w by region c counts) w
    (λ _. event_still w region c (record { by = by; event = events.Trim counts; stamp = 0 }) row (λ id st. refl))
    (λ _. still w row)
step_still w h (steps.Play client c) row b ne =
    choice (λ (x : World). IsStill w x row) (may_play w client c) (after_play w client c) w
    (λ ok. record { same = refl; status = λ r d. refl }) (λ _. still w row)
step_still w h (steps.Seen client to) row b ne =
    choice (λ (x : World). IsStill w x row) (may_see w client to) (after_seen w client to) w
    (λ ok. record { same = refl; status = λ r d. refl }) (λ _. still w row)

pub still_trans : (w v u : World) (row : Row) → IsStill w v row → IsStill v u row → IsStill w u row
still_trans w v u row a b = record {
  same = b.same ∙ a.same;
  status = λ r c. subst (λ (x : RowState). status_in (u.histories r c) x.node.id ≡ status_in
      (v.histories r c) x.node.id)
      a.same (b.status r c) ∙ a.status r c;
}

pub still_begun : (w : World) (s : Step) (row : Row) → is_begun w row ≡ true → is_begun (after w s) row ≡ true
still_begun w s row b = lt-ltb _ _ ((after_grows w s).used row.client row.number (ltb-true _ _ b))

pub run_still : (w : World) → Held w → (steps : List Step) (row : Row) → is_begun w row ≡ true
    → ((s : Step) → In s steps → Touches row s → ⊥) → IsStill w (run_steps w steps) row
run_still w h [] row b ne = still w row
run_still w h (s ∷ steps) row b ne =
    still_trans w (after w s) (run_steps (after w s) steps) row (step_still w h s row b (ne s (inl refl)))
    (run_still (after w s) (after_held w h s) steps row (still_begun w s row b) (λ t i. ne t (inr i)))

pub done_still : (w w' : World) (row : Row) → IsStill w w' row → IsDone w row → IsDone w' row
done_still w w' row s d = record {
  decided = λ e. d.decided (sym (ap (λ (x : RowState). x.last) s.same) ∙ e);
  waits = λ r c. subst (λ (x : RowState). is_waiting (status_in (w'.histories r c) x.node.id) ≡ false) (sym s.same)
      (ap is_waiting (s.status r c) ∙ d.waits r c);
}

-- Completed rows

pub home_mark : (home : ℕ) (r : RowState) (region c s : ℕ) → column_mark home r region c ≡ marks.Number s
    → (region ≡ home) × (r.marks c ≡ marks.Number s)
home_mark home r region c s =
    choice (λ (m : Mark). m ≡ marks.Number s → (region ≡ home) × (r.marks c ≡ marks.Number s)) (region == home)
    (r.marks c) marks.None (λ t e. (eqb-true region home t, e)) (λ f e. absurd (let x : ⊥ = cc in x))

-- where a status waits, the mark is a number
pub waits_number : (m : Mark) (last : Outcome) (st : Status) (s : ℕ) → Agrees m last st → st ≡ Waits s
    → (n : ℕ) × (m ≡ marks.Number n)
waits_number marks.None last st s a e = absurd (let x : ⊥ = cc in x)
waits_number (marks.Fenced why) last st s a e = absurd (let x : ⊥ = cc in x)
waits_number (marks.Number n) last st s a e = (n, refl)

pub in_past : (w : World) → Held w → (r c : ℕ) (id : Id) (x : Standing)
    → standing_of id (status_in (w.histories r c) id) ≡ Some x → In x (entries (w.histories r c))
in_past w h r c id x e =
    subst (λ (es : List Standing). In x es) (sym (entries-of (w.histories r c)))
    (stands _ (lawful_past_in w h r c) id x e)

abbrev pub standing_as : ℕ → Id → Bool → Standing
standing_as s id settled = record { key = entry_key s id; settled = settled }

final_waits : (w : World) → Held w → (row : Row) → is_begun w row ≡ true → (f : ℕ) → StandsAsDecided w row (Final f)
    → (r c s : ℕ) → status_in (w.histories r c) (node_id w row) ≡ Waits s → ⊥
final_waits w h row b f st r c s e =
    let home = home_of w row.client in
    let id = node_id w row in
    let n = waits_number (column_mark home (row_of w row) r c) (row_of w row).last _ s
    (row_agrees w h row.client row.number (ltb-true _ _ b) r c) e in
    let m = home_mark home (row_of w row) r c n.0 n.1 in
    let has = colour_of_mark w h row c b (λ none. let k = m.1 in let x : ⊥ = cc in x) in
    let fin = st c (contains_in (colours_of w row) c (colour_in (colours_of w row) c has)) in
    let shows = entry_shown w h home c _ (in_contains _ _ fin) in
    let waits : status_in (w.histories home c) id ≡ Waits s = subst
    (λ (k : ℕ). status_in (w.histories k c) id ≡ Waits s)
    m.0 e in
    differ s f id (sym (ap (standing_of id) waits) ∙ shows) where
      differ : (s f : ℕ) (id : Id) → Some (standing_as s id false) ≡ Some (standing_as f id true) → ⊥
      differ s f id e =
          let x : standing_as s id false ≡ standing_as f id true = cc in
          true≢false (sym (ap (λ (y : Standing). y.settled) x))

pub stands_done : (w : World) → Held w → (row : Row) → is_begun w row ≡ true → (last : Outcome)
    → (row_of w row).last ≡ last → StandsAsDecided w row last → IsDone w row
stands_done w h row b Open e st = absurd st
stands_done w h row b (Gone why) e st = record {
  decided = λ o. let x : ⊥ = cc in x;
  waits = λ r c. by_test _ (is_waiting (status_in (w.histories r c) (node_id w row)))
      (λ t. let z = waiting_is (status_in (w.histories r c) (node_id w row)) t in
      let x : Standing = record { key = entry_key z.0 (node_id w row); settled = false } in
      absurd (st r c (
        x,
        contains_in _ _ (in_past w h r c (node_id w row) x
            (ap (standing_of (node_id w row)) z.1)),
        refl,
      )))
      (λ f. f);
}
stands_done w h row b (Final f) e st = record {
  decided = λ o. let x : ⊥ = cc in x;
  waits = λ r c. by_test _ (is_waiting (status_in (w.histories r c) (node_id w row)))
      (λ t. let z = waiting_is (status_in (w.histories r c) (node_id w row)) t in
      absurd (final_waits w h row b f st r c z.0 z.1))
      (λ g. g);
}
