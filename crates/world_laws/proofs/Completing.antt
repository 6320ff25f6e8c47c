-- The steps that complete a begun append: what each of them does, and what a decided row comes to.
use Rattle.std.proofs.Common.{◌≡◌, ℕ, suc, ◌≤◌, List, [], ◌∷◌, ◌++◌, length, Some, Bool, true, false, cond, refl, subst, ap, sym, ◌∙◌, inl, inr, ◌⊎◌, arith}
use Rattle.std.specs.Prelude.{◌==◌, ◌&&◌, ◌||◌, ◌≢◌, not, map}
use Rattle.std.specs.List.{list_any}
use Rattle.std.proofs.lemmas.Bool.{true≢false, ltb-true, eqb-true, eq-eqb, or_from, and_from, or_left, or_right, not_from_false}
use Rattle.log_node.specs.declared.ids.Id.{Id}
use Rattle.log_node.specs.declared.ids.Row.{Row}
use Rattle.log_node.specs.declared.node.Node.{Node}
use Rattle.log_node.specs.Order.{same_id}
use Rattle.log_node.specs.Sets.{members}
use Rattle.log_node.specs.declared.marks.Why.{Why}
use Rattle.log_node.specs.declared.marks.Why.TheVariants.{Memory, StampEnd}
use Rattle.log_node.specs.declared.marks.Mark.{Mark}
use Rattle.log_node.specs.declared.marks.Mark.TheVariants as marks
use Rattle.log_node.specs.declared.marks.Outcome.{Outcome}
use Rattle.log_node.specs.declared.marks.Outcome.TheVariants.{Open, Gone, Final}
use Rattle.log_node.specs.Outcomes.{outcome_of, is_missing, is_stamp_end_fence, is_memory_fence}
use Rattle.skeen_core.specs.Queues.{is_decided}
use Rattle.log_node.specs.Standings.{Standing}
use Rattle.col_core.specs.declared.Entry.{Entry}
use Rattle.col_core.specs.History.{entry_key}
use Rattle.col_core.specs.Keeping.{updated}
use Rattle.col_core.proofs.CallerLemmas.{choice, by_test, if_true, apart, same_id-refl, entries-of, In, stands}
use Rattle.col_core.proofs.CallerLemmas.{Status, Absent, Settled, standing_of}
use Rattle.world_laws.specs.declared.steps.Step.{Step}
use Rattle.world_laws.specs.declared.steps.Step.TheVariants.{Propose, Fence, Decide, Settle}
use Rattle.world_laws.specs.Worlds.{World, RowState, home_of, after, run_steps, is_begun, row_of, row_history, marks_of, is_member, is_row_at_end, may_mark, may_propose, may_fence, may_decide, may_settle, with_mark, after_propose, after_decide, after_settle, settled_entry}
use Rattle.world_laws.specs.Completing.{mark_step, mark_steps, colours_of, settle_steps}
use Rattle.world_laws.specs.Laws.{StandsAsDecided}
use Rattle.world_laws.proofs.Basics.{at_updated, updated_at-here, in_contains, contains_in}
use Rattle.world_laws.proofs.Held.{status_in, Agrees, column_mark, Held}
use Rattle.world_laws.proofs.Marks.{has_colour, in_colours, is_waiting, waiting_is, missing_where_open, not_open_decided, final_is, any_mark}
use Rattle.world_laws.proofs.Histories.{lawful_past_in, status-last, waiting_is_open}
use Rattle.world_laws.proofs.Keeps.{at_last, row_agrees}
use Rattle.world_laws.proofs.OfRows.{mark-at_home}
use Rattle.world_laws.proofs.Agreement.{entry_shown}
use Rattle.world_laws.proofs.Runs.{after_held}

-- what the marking of a colour does to a row
pub record Goes (w w' : World) (row : Row) : Type 0 where
  pub begun : is_begun w' row ≡ true
  pub same : (row_of w' row).node ≡ (row_of w row).node
  pub kept : (d : ℕ) → is_missing ((row_of w row).marks d) ≡ false → is_missing ((row_of w' row).marks d) ≡ false

pub record Marks (w w' : World) (row : Row) (c : ℕ) : Type 0 where
  pub goes : Goes w w' row
  pub set : is_missing ((row_of w' row).marks c) ≡ false

with_mark_goes : (w w' : World) (row : Row) (c : ℕ) (m : Mark) → is_begun w' row ≡ true
    → row_of w' row ≡ record (row_of w row) { marks = updated (row_of w row).marks c m } → is_missing m ≡ false
    → Marks w w' row c
with_mark_goes w w' row c m b e set =
    record {
      goes = record {
        begun = b;
        same = ap (λ (r : RowState). r.node) e;
        kept = λ d k. subst (λ (r : RowState). is_missing (r.marks d) ≡ false) (sym e)
            (at_updated (λ (x : Mark). is_missing x ≡ false) (row_of w row).marks c m d (λ _. set) (λ _. k));
      };
      set = subst (λ (r : RowState). is_missing (r.marks c) ≡ false) (sym e)
          (at_updated (λ (x : Mark). is_missing x ≡ false) (row_of w row).marks c m c (λ _. set)
          (λ f. absurd (apart (c == c) (eq-eqb c c refl) f)));
    }

may_mark_true : (w : World) (row : Row) (c : ℕ) → is_begun w row ≡ true → has_colour (colours_of w row) c ≡ true
    → is_missing ((row_of w row).marks c) ≡ true → may_mark w row c ≡ true
may_mark_true w row c b has miss =
    and_from (is_begun w row) _ b (and_from (is_member (row_of w row).node.colours c) _ has miss)

fence_marks : (w : World) (row : Row) (c : ℕ) (why : Why) → is_begun w row ≡ true → may_fence w row c why ≡ true
    → Marks w (after w (Fence row c why)) row c
fence_marks w row c why b ok =
    choice (λ (x : World). Marks w x row c) (may_fence w row c why) (with_mark w row c (marks.Fenced why)) w
    (λ _. with_mark_goes w (with_mark w row c (marks.Fenced why)) row c (marks.Fenced why) b
    (updated_at-here w.rows row.client row.number
    (record (row_of w row) { marks = updated (row_of w row).marks c (marks.Fenced why) })) refl)
    (λ f. absurd (apart _ ok f))

propose_marks : (w : World) (by : ℕ) (row : Row) (c : ℕ) → is_begun w row ≡ true → may_propose w row c ≡ true
    → Marks w (after w (Propose by row c)) row c
propose_marks w by row c b ok =
    choice (λ (x : World). Marks w x row c) (may_propose w row c) (after_propose w by row c) w
    (λ _. with_mark_goes w (after_propose w by row c) row c _ b (updated_at-here w.rows row.client row.number _) refl)
    (λ f. absurd (apart _ ok f))

pub mark_step_marks : (w : World) (by : ℕ) (row : Row) (found : ℕ → Bool) (c : ℕ) → is_begun w row ≡ true
    → has_colour (colours_of w row) c ≡ true → is_missing ((row_of w row).marks c) ≡ true
    → Marks w (after w (mark_step w by row found c)) row c
mark_step_marks w by row found c b has miss =
    let ok = may_mark_true w row c b has miss in
    choice (λ (s : Step). Marks w (after w s) row c) (is_row_at_end w row c) (Fence row c StampEnd)
    (cond (found c) (Propose by row c) (Fence row c Memory))
    (λ t. fence_marks w row c StampEnd b (and_from (may_mark w row c) _ ok t))
    (λ t. choice (λ (s : Step). Marks w (after w s) row c) (found c) (Propose by row c) (Fence row c Memory)
    (λ _. propose_marks w by row c b (and_from (may_mark w row c) _ ok (not_from_false _ t)))
    (λ _. fence_marks w row c Memory b ok))

goes_on : (w v u : World) (row : Row) → Goes w v row → Goes v u row → Goes w u row
goes_on w v u row a b = record { begun = b.begun; same = b.same ∙ a.same; kept = λ d k. b.kept d (a.kept d k) }

-- all marks of the colours are set
pub record AllMarked (w w' : World) (row : Row) (cs : List ℕ) : Type 0 where
  pub goes : Goes w w' row
  pub set : (c : ℕ) → has_colour cs c ≡ true → is_missing ((row_of w' row).marks c) ≡ false

pub marks_all : (w : World) (by : ℕ) (row : Row) (found : ℕ → Bool) (cs : List ℕ) → is_begun w row ≡ true
    → ((c : ℕ) → has_colour cs c ≡ true → has_colour (colours_of w row) c ≡ true)
    → AllMarked w (run_steps w (mark_steps w by row found cs)) row cs
marks_all w by row found [] b sub =
    record { goes = record { begun = b; same = refl; kept = λ d k. k }; set = λ c f. absurd (true≢false (sym f)) }
marks_all w by row found (c ∷ cs) b sub =
    let w1 = after w (mark_step w by row found c) in
    choice (λ (steps : List Step). AllMarked w (run_steps w steps) row (c ∷ cs)) (is_missing ((row_of w row).marks c))
    (mark_step w by row found c ∷ mark_steps w1 by row found cs) (mark_steps w by row found cs)
    (λ miss.
    let m = mark_step_marks w by row found c b (sub c (or_left (c == c) _ (eq-eqb c c refl))) miss in
    joined w1 (run_steps w1 (mark_steps w1 by row found cs)) m
    (marks_all w1 by row found cs m.goes.begun
    (λ d i. subst (λ (n : Node). has_colour (members n.colours) d ≡ true) (sym m.goes.same)
    (sub d (or_right (c == d) _ i)))))
    (λ set. alone (run_steps w (mark_steps w by row found cs)) set
    (marks_all w by row found cs b (λ d i. sub d (or_right (c == d) _ i)))) where
      pick : (u : World) (d : ℕ) → ((c == d) ≡ true) ⊎ (has_colour cs d ≡ true)
          → is_missing ((row_of u row).marks c) ≡ false
          → (has_colour cs d ≡ true → is_missing ((row_of u row).marks d) ≡ false)
          → is_missing ((row_of u row).marks d) ≡ false
      pick u d (inl e) own rest = subst (λ (x : ℕ). is_missing ((row_of u row).marks x) ≡ false) (eqb-true c d e) own
      pick u d (inr i) own rest = rest i

      cases : (d : ℕ) → has_colour (c ∷ cs) d ≡ true → ((c == d) ≡ true) ⊎ (has_colour cs d ≡ true)
      cases d h = by_test _ (c == d) (λ t. inl t) (λ f. inr (subst (λ (x : Bool). (x || has_colour cs d) ≡ true) f h))

      joined : (v u : World) → Marks w v row c → AllMarked v u row cs → AllMarked w u row (c ∷ cs)
      joined v u m rest =
          record {
            goes = goes_on w v u row m.goes rest.goes;
            set = λ d h. pick u d (cases d h) (rest.goes.kept c m.set)
                (rest.set d);
          }

      alone : (u : World) → is_missing ((row_of w row).marks c) ≡ false → AllMarked w u row cs
          → AllMarked w u row (c ∷ cs)
      alone u set rest =
          record { goes = rest.goes; set = λ d h. pick u d (cases d h) (rest.goes.kept c set) (rest.set d) }

pub mark_steps_few : (w : World) (by : ℕ) (row : Row) (found : ℕ → Bool) (cs : List ℕ)
    → length (mark_steps w by row found cs) ≤ length cs
mark_steps_few w by row found [] = omega arith
mark_steps_few w by row found (c ∷ cs) =
    let s = mark_step w by row found c in
    let a = mark_steps_few (after w s) by row found cs in
    let b = mark_steps_few w by row found cs in
    choice (λ (steps : List Step). length steps ≤ suc (length cs)) (is_missing ((row_of w row).marks c))
    (s ∷ mark_steps (after w s) by row found cs) (mark_steps w by row found cs) (λ _. omega (arith, a))
    (λ _. omega (arith, b))

-- where no mark of the colours is missing, none of the list is
pub none_missing : (f : ℕ → Mark) (cs : List ℕ) → ((c : ℕ) → has_colour cs c ≡ true → is_missing (f c) ≡ false)
    → list_any is_missing (map f cs) ≡ false
none_missing f [] h = refl
none_missing f (c ∷ cs) h =
    or_from (is_missing (f c)) _ (h c (or_left (c == c) _ (eq-eqb c c refl)))
    (none_missing f cs (λ d i. h d (or_right (c == d) _ i)))

-- the row is decided
pub record Decides (w w' : World) (row : Row) : Type 0 where
  pub begun : is_begun w' row ≡ true
  pub same : (row_of w' row).node ≡ (row_of w row).node
  pub decided : (row_of w' row).last ≢ Open

pub decide_decides : (w : World) (row : Row) → is_begun w row ≡ true
    → list_any is_missing (marks_of (row_of w row)) ≡ false
    → Decides w (after w (Decide row)) row
decide_decides w row b set =
    let ne : outcome_of (marks_of (row_of w row)) ≢ Open = λ e. apart _
    (missing_where_open (marks_of (row_of w row)) e) set in
    choice (λ (x : World). Decides w x row) (may_decide w row) (after_decide w row) w
    (λ _. let e = updated_at-here w.rows row.client row.number new in record {
      begun = b;
      same = ap (λ (r : RowState). r.node) e;
      decided = λ x. ne (sym (ap (λ (r : RowState). r.last) e) ∙ x);
    })
    (λ f. record { begun = b; same = refl; decided = λ x. apart (may_decide w row) (guard x ne) f }) where
      new : RowState
      new = record (row_of w row) { last = outcome_of (marks_of (row_of w row)) }

      guard : (row_of w row).last ≡ Open → outcome_of (marks_of (row_of w row)) ≢ Open → may_decide w row ≡ true
      guard x ne =
          and_from (is_begun w row) _ b
          (and_from (not (is_decided (row_of w row).last)) _ (ap (λ (o : Outcome). not (is_decided o)) x)
          (not_open_decided (outcome_of (marks_of (row_of w row))) ne))

-- Settlings

-- no colour of the list waits
abbrev pub NoneWaits : World → Row → List ℕ → Type 0
NoneWaits w row cs =
    (c : ℕ) → has_colour cs c ≡ true → is_waiting (status_in (row_history w row c) (row_of w row).node.id) ≡ false

pub record SettlesAll (w w' : World) (row : Row) (cs : List ℕ) : Type 0 where
  pub rows : row_of w' row ≡ row_of w row
  pub begun : is_begun w' row ≡ true
  pub kept : (d : ℕ) → is_waiting (status_in (row_history w row d) (row_of w row).node.id) ≡ false
      → is_waiting (status_in (row_history w' row d) (row_of w' row).node.id) ≡ false
  pub none : (c : ℕ) → has_colour cs c ≡ true
      → is_waiting (status_in (row_history w' row c) (row_of w' row).node.id) ≡ false

settle_one : (w : World) → Held w → (by : ℕ) (row : Row) (c : ℕ) → is_begun w row ≡ true → (row_of w row).last ≢ Open
    → SettlesAll w (after w (Settle by row c)) row (c ∷ [])
settle_one w h by row c b decided =
    let id = (row_of w row).node.id in
    let home = home_of w row.client in
    let e = settled_entry w by row in
    choice (λ (x : World). SettlesAll w x row (c ∷ [])) (may_settle w row c) (after_settle w by row c) w
    (λ _. record {
      rows = refl;
      begun = b;
      kept = λ d k. at_last (λ (x : List Entry). is_waiting (status_in x id) ≡ false) w home c e home d
          (λ _ _. now_settled (w.histories home c)) (λ _. k);
      none = λ d i. at_last (λ (x : List Entry). is_waiting (status_in x id) ≡ false) w home c e home d
          (λ _ _. now_settled (w.histories home c))
          (λ f. absurd (apart ((home == home) && (d == c))
          (and_from (home == home) _ (eq-eqb home home refl) (eq-eqb d c (sym (only d i)))) f));
    })
    (λ f. record {
      rows = refl;
      begun = b;
      kept = λ d k. k;
      none = λ d i. subst (λ (x : ℕ). is_waiting (status_in (row_history w row x) id) ≡ false) (only d i)
          (by_test _ (is_waiting (status_in (row_history w row c) id))
          (λ t. let z = waiting_is (status_in (row_history w row c) id) t in
          absurd (apart (may_settle w row c)
          (and_from (is_begun w row) _ b
          (and_from (is_decided (row_of w row).last) _ (not_open_decided (row_of w row).last decided)
          (waiting_is_open (row_history w row c) id z.0 (lawful_past_in w h home c) z.1))) f))
          (λ g. g));
    }) where
      now_settled : (history : List Entry)
          → is_waiting (status_in (history ++ settled_entry w by row ∷ []) (row_of w row).node.id) ≡ false
      now_settled history =
          ap is_waiting
          (status-last history (settled_entry w by row) (row_of w row).node.id ∙ if_true
          (same_id (row_of w row).node.id (row_of w row).node.id) (Settled (row_of w row).last)
          (status_in history (row_of w row).node.id) (same_id-refl (row_of w row).node.id))

      only : (d : ℕ) → has_colour (c ∷ []) d ≡ true → c ≡ d
      only d i =
          by_test (c ≡ d) (c == d) (λ t. eqb-true c d t)
          (λ f. absurd (true≢false (sym (subst (λ (x : Bool). (x || false) ≡ true) f i))))

pub settle_all : (w : World) → Held w → (by : ℕ) (row : Row) (cs : List ℕ) → is_begun w row ≡ true
    → (row_of w row).last ≢ Open → SettlesAll w (run_steps w (settle_steps by row cs)) row cs
settle_all w h by row [] b decided =
    record { rows = refl; begun = b; kept = λ d k. k; none = λ c f. absurd (true≢false (sym f)) }
settle_all w h by row (c ∷ cs) b decided =
    let w1 = after w (Settle by row c) in
    let one = settle_one w h by row c b decided in
    joined w1 (run_steps w1 (settle_steps by row cs)) one
    (settle_all w1 (after_held w h (Settle by row c)) by row cs one.begun
    (λ e. decided (sym (ap (λ (r : RowState). r.last) one.rows) ∙ e))) where
      pick : (u v : World) (d : ℕ) → ((c == d) ≡ true) ⊎ (has_colour cs d ≡ true) → SettlesAll w v row (c ∷ [])
          → SettlesAll v u row cs → is_waiting (status_in (row_history u row d) (row_of u row).node.id) ≡ false
      pick u v d (inl e) one rest = rest.kept d (one.none d (or_left (c == d) _ e))
      pick u v d (inr i) one rest = rest.none d i

      cases : (d : ℕ) → has_colour (c ∷ cs) d ≡ true → ((c == d) ≡ true) ⊎ (has_colour cs d ≡ true)
      cases d h = by_test _ (c == d) (λ t. inl t) (λ f. inr (subst (λ (x : Bool). (x || has_colour cs d) ≡ true) f h))

      joined : (v u : World) → SettlesAll w v row (c ∷ []) → SettlesAll v u row cs → SettlesAll w u row (c ∷ cs)
      joined v u one rest =
          record {
            rows = rest.rows ∙ one.rows;
            begun = rest.begun;
            kept = λ d k. rest.kept d
                (one.kept d k);
            none = λ d h. pick u v d (cases d h) one rest;
          }

-- What a decided row's marks and statuses come to

pub kept_marks : (w : World) → Held w → (row : Row) → is_begun w row ≡ true → (row_of w row).last ≢ Open
    → (row_of w row).last ≡ outcome_of (marks_of (row_of w row))
kept_marks w h row b decided = kept ((h.rows row.client row.number (ltb-true _ _ b)).kept) where
  kept : (((row_of w row).last ≡ Open) ⊎ ((row_of w row).last ≡ outcome_of (marks_of (row_of w row))))
      → (row_of w row).last ≡ outcome_of (marks_of (row_of w row))
  kept (inl k) = absurd (decided k)
  kept (inr k) = k

status_final : (m : Mark) (f : ℕ) (st : Status) → is_missing m ≡ false → is_stamp_end_fence m ≡ false
    → is_memory_fence m ≡ false → Agrees m (Final f) st → is_waiting st ≡ false → st ≡ Settled (Final f)
status_final marks.None f st a b c h n = absurd (true≢false a)
status_final (marks.Fenced Memory) f st a b c h n = absurd (true≢false c)
status_final (marks.Fenced StampEnd) f st a b c h n = absurd (true≢false b)
status_final (marks.Number s) f st a b c (inl e) n = absurd (true≢false (sym (ap is_waiting e) ∙ n))
status_final (marks.Number s) f st a b c (inr p) n = p.1

any_false : (test : Mark → Bool) (f : ℕ → Mark) (cs : List ℕ) (c : ℕ) → has_colour cs c ≡ true
    → list_any test (map f cs) ≡ false → test (f c) ≡ false
any_false test f cs c has e = by_test _ (test (f c)) (λ t. absurd (apart _ (any_mark test f cs c has t) e)) (λ g. g)

status_gone : (m : Mark) (why : Why) (st : Status) (id : Id) (e : Standing) → Agrees m (Gone why) st
    → ((s : ℕ) → m ≡ marks.Number s → is_waiting st ≡ false) → standing_of id st ≡ Some e → ⊥
status_gone marks.None why st id e h n x =
    let y : standing_of id Absent ≡ Some e = ap (standing_of id) (sym h) ∙ x in cc
status_gone (marks.Fenced _) why st id e h n x =
    let y : standing_of id Absent ≡ Some e = ap (standing_of id) (sym h) ∙ x in cc
status_gone (marks.Number s) why st id e (inl g) n x = true≢false (sym (ap is_waiting g) ∙ n s refl)
status_gone (marks.Number s) why st id e (inr p) n x =
    let y : standing_of id (Settled (Gone why)) ≡ Some e = ap (standing_of id) (sym p.1) ∙ x in cc

home_mark : (home : ℕ) (r : RowState) (region c s : ℕ) → column_mark home r region c ≡ marks.Number s
    → (region ≡ home) × (r.marks c ≡ marks.Number s)
home_mark home r region c s =
    choice (λ (m : Mark). m ≡ marks.Number s → (region ≡ home) × (r.marks c ≡ marks.Number s)) (region == home)
    (r.marks c) marks.None (λ t e. (eqb-true region home t, e)) (λ f e. absurd (let x : ⊥ = cc in x))

pub stands_as_decided : (w : World) → Held w → (row : Row) → is_begun w row ≡ true → (last : Outcome)
    → (row_of w row).last ≡ last → last ≢ Open → NoneWaits w row (colours_of w row) → StandsAsDecided w row last
stands_as_decided w h row b Open e ne none = ne refl
stands_as_decided w h row b (Gone why) e ne none = λ region c x.
    let lt = ltb-true row.number (w.clients row.client).used b in
    let id0 = (row_of w row).node.id in
    let home = home_of w row.client in
    let st = status_in (w.histories region c) id0 in
    let shows : standing_of id0 st ≡ Some x.0 = subst
    (λ (id : Id). standing_of id (status_in (w.histories region c) id) ≡ Some x.0) x.2
    (entry_shown w h region c x.0 (in_contains _ _ x.1)) in
    status_gone (column_mark home (row_of w row) region c) why st id0 x.0
    (subst (λ (o : Outcome). Agrees (column_mark home (row_of w row) region c) o st) e
    (row_agrees w h row.client row.number lt region c))
    (λ s m. waits_not region c s (home_mark home (row_of w row) region c s m)) shows where
      waits_not : (region c s : ℕ) → (region ≡ home_of w row.client) × ((row_of w row).marks c ≡ marks.Number s)
          → is_waiting (status_in (w.histories region c) (row_of w row).node.id) ≡ false
      waits_not region c s p =
          let has : has_colour (colours_of w row) c ≡ true = by_test _ (has_colour (colours_of w row) c) (λ t. t)
          (λ f. let n = (h.rows row.client row.number (ltb-true _ _ b)).in_set c f in let q = p.1 in absurd
          (let y : ⊥ = cc in y)) in
          subst (λ (x : ℕ). is_waiting (status_in (w.histories x c) (row_of w row).node.id) ≡ false) (sym p.0)
          (none c has)
stands_as_decided w h row b (Final f) e ne none = λ c i.
    let lt = ltb-true row.number (w.clients row.client).used b in
    let id0 = (row_of w row).node.id in
    let home = home_of w row.client in
    let cs = colours_of w row in
    let has = in_colours cs c (in_contains cs c i) in
    let history = w.histories home c in
    let fin = final_is (marks_of (row_of w row)) f (sym (kept_marks w h row b (λ o. ne (sym e ∙ o))) ∙ e) in
    let st = status_final ((row_of w row).marks c) f (status_in history id0)
    (any_false is_missing (row_of w row).marks cs c has fin.0)
    (any_false is_stamp_end_fence (row_of w row).marks cs c has fin.1)
    (any_false is_memory_fence (row_of w row).marks cs c has fin.2)
    (subst (λ (m : Mark). Agrees m (Final f) (status_in history id0)) (mark-at_home home (row_of w row) c)
    (subst (λ (o : Outcome). Agrees (column_mark home (row_of w row) home c) o (status_in history id0)) e
    (row_agrees w h row.client row.number lt home c)))
    (none c has) in
    contains_in _ _
    (subst (λ (es : List Standing). In (entry_of id0) es) (sym (entries-of history))
    (stands _ (lawful_past_in w h home c) id0 (entry_of id0) (ap (standing_of id0) st))) where
      entry_of : Id → Standing
      entry_of id = record { key = entry_key f id; settled = true }
