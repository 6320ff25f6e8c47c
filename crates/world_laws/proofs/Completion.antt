-- A begun append can be completed.
use Rattle.std.proofs.Common.{◌≡◌, ℕ, suc, ◌+◌, ◌*◌, ◌≤◌, List, [], ◌∷◌, length, Bool, true, false, refl, subst, ap, sym, ◌∙◌, arith, length-append}
use Rattle.std.specs.Prelude.{◌==◌, ◌≢◌, map}
use Rattle.std.specs.List.{list_any}
use Rattle.std.proofs.lemmas.List.{length-map}
use Rattle.std.proofs.lemmas.Bool.{true≢false, ltb-true, eq-eqb, or_from, or_left, or_right}
use Rattle.log_node.specs.declared.ids.Row.{Row}
use Rattle.log_node.specs.declared.node.Node.{Node}
use Rattle.log_node.specs.Sets.{members}
use Rattle.log_node.specs.declared.marks.Mark.{Mark}
use Rattle.log_node.specs.declared.marks.Mark.TheVariants as marks
use Rattle.log_node.specs.declared.marks.Outcome.TheVariants.{Open, Final}
use Rattle.log_node.specs.Outcomes.{outcome_of, is_missing, is_stamp_end_fence, is_memory_fence, number_of, greatest}
use Rattle.col_core.specs.declared.Entry.{Entry}
use Rattle.col_core.specs.Keeping.{updated}
use Rattle.col_core.proofs.CallerLemmas.{choice, if_true, if_false, apart}
use Rattle.world_laws.specs.declared.steps.Step.{Step}
use Rattle.world_laws.specs.declared.steps.Step.TheVariants.{Propose, Decide, Settle}
use Rattle.world_laws.specs.Worlds.{World, RowState, home_of, after, run_steps, is_begun, row_of, row_history, is_row_at_end, may_propose, after_propose, proposed_entry, proposed_stamp, is_at_end}
use Rattle.world_laws.specs.Completing.{mark_step, mark_steps, colours_of, settle_steps, complete_steps}
use Rattle.world_laws.specs.Laws.{IsFree, StandsAsDecided, CanComplete}
use Rattle.world_laws.proofs.Basics.{at_updated, updated_at-here, contains_in}
use Rattle.world_laws.proofs.Held.{Held}
use Rattle.world_laws.proofs.Marks.{has_colour, colour_in}
use Rattle.world_laws.proofs.Keeps.{at_last}
use Rattle.world_laws.proofs.Growing.{Grows, run_grows}
use Rattle.world_laws.proofs.Runs.{after_held, run_held, run_steps-append}
use Rattle.world_laws.proofs.Completing.{decide_decides, kept_marks, mark_steps_few, marks_all, none_missing, settle_all, stands_as_decided}

-- An append whose colours are free

-- a mark that a free colour has, once it is set, is a number
IsNumber : Mark → Type 0
IsNumber m = (s : ℕ) × (m ≡ marks.Number s)

free_number : (w : World) (row : Row) (found : ℕ → Bool) (c : ℕ) (m : Mark) → IsFree w row found c m
    → is_missing m ≡ false → IsNumber m
unfolding IsNumber
free_number w row found c marks.None free set = absurd (true≢false set)
free_number w row found c (marks.Number s) free set = (s, refl)
free_number w row found c (marks.Fenced why) free set = absurd free

abbrev Free : World → Row → (ℕ → Bool) → ℕ → Type 0
Free w row found c = IsFree w row found c ((row_of w row).marks c)

-- a proposal leaves the other colours free
propose_frees : (w : World) (by : ℕ) (row : Row) (found : ℕ → Bool) (c d : ℕ) → Free w row found d
    → Free (after_propose w by row c) row found d
propose_frees w by row found c d free =
    subst (λ (r : RowState). IsFree w' row found d (r.marks d)) (sym here)
    (at_updated (λ (m : Mark). IsFree w' row found d m) (row_of w row).marks c (marks.Number (proposed_stamp w row c)) d
    (λ _. tt)
    (λ other. still other ((row_of w row).marks d) free)) where
      w' : World
      w' = after_propose w by row c

      here : row_of (after_propose w by row c) row ≡ record
          (row_of w row) { marks = updated (row_of w row).marks c (marks.Number (proposed_stamp w row c)) }
      here = updated_at-here w.rows row.client row.number
          (record (row_of w row) { marks = updated (row_of w row).marks c (marks.Number (proposed_stamp w row c)) })

      same_history : (d == c) ≡ false → row_history (after_propose w by row c) row d ≡ row_history w row d
      same_history other =
          at_last (λ (h : List Entry). h ≡ row_history w row d) w (home_of w row.client) c (proposed_entry w by row c)
          (home_of w row.client) d
          (λ _ e. absurd (apart (d == c) (eq-eqb d c e) other)) (λ _. refl)

      still : (d == c) ≡ false → (m : Mark) → IsFree w row found d m → IsFree (after_propose w by row c) row found d m
      still other marks.None p = (
        p.0,
        ap (λ (h : List Entry). is_at_end h (row_of (after_propose w by row c) row).node.floor)
            (same_history other)
            ∙ (ap (λ (r : RowState). is_at_end (row_history w row d) r.node.floor) here ∙ p.1),
      )
      still other (marks.Number s) p = tt
      still other (marks.Fenced why) p = p

-- where the colour is free, the step that sets its mark is a proposal
mark_step_proposes : (w : World) (by : ℕ) (row : Row) (found : ℕ → Bool) (c : ℕ) (m : Mark) → is_missing m ≡ true
    → IsFree w row found c m → mark_step w by row found c ≡ Propose by row c
mark_step_proposes w by row found c marks.None miss p =
    if_false (is_row_at_end w row c) _ _ p.1 ∙ if_true (found c) _ _ p.0
mark_step_proposes w by row found c (marks.Number s) miss p = absurd (true≢false (sym miss))
mark_step_proposes w by row found c (marks.Fenced why) miss p = absurd p

mark_step_frees : (w : World) (by : ℕ) (row : Row) (found : ℕ → Bool) (c d : ℕ)
    → is_missing ((row_of w row).marks c) ≡ true → Free w row found c → Free w row found d
    → Free (after w (mark_step w by row found c)) row found d
mark_step_frees w by row found c d miss own free =
    subst (λ (s : Step). Free (after w s) row found d)
    (sym (mark_step_proposes w by row found c ((row_of w row).marks c) miss own))
    (choice (λ (x : World). Free x row found d) (may_propose w row c) (after_propose w by row c) w
    (λ _. propose_frees w by row found c d free) (λ _. free))

marks_free : (w : World) (by : ℕ) (row : Row) (found : ℕ → Bool) (cs : List ℕ)
    → ((c : ℕ) → has_colour cs c ≡ true → Free w row found c) → (d : ℕ) → Free w row found d
    → Free (run_steps w (mark_steps w by row found cs)) row found d
marks_free w by row found [] all d free = free
marks_free w by row found (c ∷ cs) all d free =
    let w1 = after w (mark_step w by row found c) in
    let own = all c (or_left (c == c) _ (eq-eqb c c refl)) in
    choice (λ (steps : List Step). Free (run_steps w steps) row found d) (is_missing ((row_of w row).marks c))
    (mark_step w by row found c ∷ mark_steps w1 by row found cs) (mark_steps w by row found cs)
    (λ miss. marks_free w1 by row found cs
    (λ e i. mark_step_frees w by row found c e miss own (all e (or_right (c == e) _ i))) d
    (mark_step_frees w by row found c d miss own free))
    (λ _. marks_free w by row found cs (λ e i. all e (or_right (c == e) _ i)) d free)

-- marks that are all numbers have a final outcome
none_of_marks : (test : Mark → Bool) (f : ℕ → Mark) (cs : List ℕ)
    → ((c : ℕ) → has_colour cs c ≡ true → test (f c) ≡ false) → list_any test (map f cs) ≡ false
none_of_marks test f [] h = refl
none_of_marks test f (c ∷ cs) h =
    or_from (test (f c)) _ (h c (or_left (c == c) _ (eq-eqb c c refl)))
    (none_of_marks test f cs (λ d i. h d (or_right (c == d) _ i)))

numbers_final : (f : ℕ → Mark) (cs : List ℕ) → ((c : ℕ) → has_colour cs c ≡ true → IsNumber (f c))
    → (n : ℕ) × (outcome_of (map f cs) ≡ Final n)
unfolding IsNumber
numbers_final f cs h = (
  greatest (map number_of (map f cs)),
  if_false (list_any is_missing (map f cs)) _ _ (none_of_marks is_missing f cs (λ c i. ap is_missing (h c i).1))
      ∙ (if_false (list_any is_stamp_end_fence (map f cs)) _ _
      (none_of_marks is_stamp_end_fence f cs (λ c i. ap is_stamp_end_fence (h c i).1))
      ∙ if_false (list_any is_memory_fence (map f cs)) _ _
      (none_of_marks is_memory_fence f cs (λ c i. ap is_memory_fence (h c i).1))),
)

-- the row after its decision and settlings, where all marks were numbers
final_where_free : (w w3 : World) → Held w3 → (row : Row) → Grows w w3 → is_begun w row ≡ true → is_begun w3 row ≡ true
    → (row_of w3 row).last ≢ Open
    → ((c : ℕ) → has_colour (colours_of w3 row) c ≡ true → IsNumber ((row_of w row).marks c))
    → (n : ℕ) × ((row_of w3 row).last ≡ Final n)
unfolding IsNumber
final_where_free w w3 h3 row g b b3 decided numbers =
    let x = numbers_final (row_of w3 row).marks (colours_of w3 row) (λ c i.
    let p = numbers c i in (
      p.0,
      (g.rows row.client row.number (ltb-true row.number _ b)).marks c (set ((row_of w row).marks c) p.0 p.1)
          ∙ p.1,
    )) in
    (x.0, kept_marks w3 h3 row b3 decided ∙ x.1) where
      set : (m : Mark) (s : ℕ) → m ≡ marks.Number s → m ≢ marks.None
      set m s e n = cc

pub can_complete : (w : World) → Held w → CanComplete w
unfolding IsNumber
can_complete w h by row found b =
    let cs = colours_of w row in
    let firsts = mark_steps w by row found cs in
    let settles = settle_steps by row cs in
    let w1 = run_steps w firsts in
    let w2 = after w1 (Decide row) in
    let w3 = run_steps w2 settles in
    let m = marks_all w by row found cs b (λ c i. i) in
    let d = decide_decides w1 row m.goes.begun
    (none_missing (row_of w1 row).marks (members (row_of w1 row).node.colours)
    (λ c i. m.set c (subst (λ (n : Node). has_colour (members n.colours) c ≡ true) m.goes.same i))) in
    let h2 : Held w2 = after_held w1 (run_held w h firsts) (Decide row) in
    let s = settle_all w2 h2 by row cs d.begun d.decided in
    let all : run_steps w (complete_steps w by row found) ≡ w3 = run_steps-append w firsts (Decide row ∷ settles) in
    let same : (row_of w3 row).node ≡ (row_of w row).node = ap (λ (r : RowState). r.node) s.rows
    ∙ (d.same ∙ m.goes.same) in
    let decided : (row_of w3 row).last ≢ Open = λ e. d.decided (sym (ap (λ (r : RowState). r.last) s.rows) ∙ e) in
    let h3 : Held w3 = run_held w2 h2 settles in
    record {
      few = count (mark_steps_few w by row found cs) (length-append firsts (Decide row ∷ settles))
          (length-map cs (λ (colour : ℕ). Settle by row colour));
      same = subst (λ (x : World). (row_of x row).node ≡ (row_of w row).node) (sym all) same;
      stands = subst (λ (x : World). StandsAsDecided x row (row_of x row).last) (sym all)
          (stands_as_decided w3 h3 row s.begun (row_of w3 row).last refl decided
          (λ c i. s.none c (subst (λ (n : Node). has_colour (members n.colours) c ≡ true) same i)));
      final = λ free. subst (λ (x : World). (f : ℕ) × ((row_of x row).last ≡ Final f)) (sym all)
          (final_where_free w1 w3 h3 row (run_grows w1 (Decide row ∷ settles)) m.goes.begun s.begun decided (λ c i.
          let has : has_colour cs c ≡ true = subst (λ (n : Node). has_colour (members n.colours) c ≡ true) same i in
          free_number w1 row found c ((row_of w1 row).marks c)
          (marks_free w by row found cs (λ d j. free d (contains_in cs d (colour_in cs d j))) c
          (free c (contains_in cs c (colour_in cs c has)))) (m.set c has)));
    } where
      count : {a b : ℕ} → a ≤ length (colours_of w row) → b ≡ a + suc (length (settle_steps by row (colours_of w row)))
          → length (settle_steps by row (colours_of w row)) ≡ length (colours_of w row)
          → b ≤ 2 * length (colours_of w row) + 1
      count a b c = omega (arith, a, b, c)
