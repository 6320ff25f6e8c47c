-- Where memory is granted, a command does what it does with memory granted everywhere.
use Rattle.std.proofs.Common.{◌≡◌, ◌≢◌, inl, inr, ℕ, zero, suc, ◌+◌, List, [], ◌∷◌, ◌++◌, length, take, Option, Some, None, Bool, true, false, cond, refl, ap, sym, subst, ◌∙◌, eq-eqb}
use Rattle.std.specs.Prelude.{◌==◌}
use Rattle.std.specs.List.{fold}
use Rattle.std.proofs.lemmas.Bool.{and_from, and_left, ltb-true, lt-ltb, or_left, or_right}
use Rattle.log_node.specs.declared.ids.Key.{Key}
use Rattle.log_node.specs.declared.ids.Row.{Row}
use Rattle.log_node.specs.declared.node.Node.{Node}
use Rattle.log_node.specs.Sets.{members}
use Rattle.log_node.specs.declared.marks.Why.TheVariants.{Memory, StampEnd}
use Rattle.log_node.specs.declared.marks.Mark.TheVariants as marks
use Rattle.log_node.specs.Outcomes.{is_missing}
use Rattle.log_node.specs.Standings.{Standing}
use Rattle.col_core.specs.Keeping.{updated}
use Rattle.col_core.proofs.CallerLemmas.{by_test, if_true, if_false, In}
use Rattle.world_laws.specs.declared.steps.Step.{Step}
use Rattle.world_laws.specs.declared.steps.Step.TheVariants as steps
use Rattle.world_laws.specs.Worlds.{World, RowState, home_history, after, run_steps, is_begun, row_of, is_member, is_row_at_end, may_mark, may_propose, may_fence, may_decide, may_settle, with_mark}
use Rattle.world_laws.specs.Completing.{mark_step, mark_steps, colours_of, settle_steps, complete_steps}
use Rattle.world_laws.proofs.CallerLemmas.{updated-here, updated_at-here, has_colour, mark_step_marks, run_grows}
use Rattle.world_laws.proofs.CallerLemmas.{run_steps-append}
use Rattle.script_meaning.specs.States.{Grants, all_granted}
use Rattle.script_meaning.specs.Helping.{Helping, open_below, node_by_id, helped_row, helped_node, helped_first, helped_times, cleared, all_cleared}
use Rattle.script_meaning.proofs.World.Rows.{still_begun}
use Rattle.script_meaning.proofs.World.Completions.{IsOn, complete_steps_on}

-- no begun row has a fence for want of memory
abbrev pub IsClean : World → Type 0
IsClean w = (row : Row) (c : ℕ) → is_begun w row ≡ true → has_colour (colours_of w row) c ≡ true
    → (row_of w row).marks c ≢ marks.Fenced Memory

pub clean_before : (w : World) (list : List Step) → IsClean (run_steps w list) → IsClean w
clean_before w list clean row c b has e =
    let g = run_grows w list in
    let lt = ltb-true row.number (w.clients row.client).used b in
    let r = g.rows row.client row.number lt in
    clean row c (lt-ltb _ _ (g.used row.client row.number lt))
    (subst (λ (n : Node). has_colour (members n.colours) c ≡ true) (sym r.node) has)
    (r.marks c (λ none. let x : ⊥ = cc in x) ∙ e)

-- A step that marks

abbrev found_all : ℕ → Bool
found_all colour = true

-- a fence for want of memory would be seen
no_fence : (w : World) (row : Row) (c : ℕ) → is_begun w row ≡ true → has_colour (colours_of w row) c ≡ true
    → is_missing ((row_of w row).marks c) ≡ true → IsClean (after w (steps.Fence row c Memory)) → ⊥
no_fence w row c b has miss clean =
    let ok : may_mark w row c ≡ true =
    and_from (is_begun w row) _ b (and_from (is_member (row_of w row).node.colours c) _ has miss) in
    let new = record (row_of w row) { marks = updated (row_of w row).marks c (marks.Fenced Memory) } in
    let w' = with_mark w row c (marks.Fenced Memory) in
    let is : after w (steps.Fence row c Memory) ≡ w' = if_true (may_fence w row c Memory) w' w ok in
    let r : row_of w' row ≡ new = updated_at-here w.rows row.client row.number new in
    subst IsClean is clean row c b
    (subst (λ (x : RowState). has_colour (members x.node.colours) c ≡ true) (sym r) has)
    (ap (λ (x : RowState). x.marks c) r ∙ updated-here (row_of w row).marks c (marks.Fenced Memory))

step_exact : (w : World) (by : ℕ) (row : Row) (grants : ℕ → Bool) (c : ℕ) → is_begun w row ≡ true
    → has_colour (colours_of w row) c ≡ true → is_missing ((row_of w row).marks c) ≡ true
    → IsClean (after w (mark_step w by row grants c)) → mark_step w by row grants c ≡ mark_step w by row found_all c
step_exact w by row grants c b has miss clean =
    by_test _ (is_row_at_end w row c)
    (λ t. if_true (is_row_at_end w row c) (steps.Fence row c StampEnd)
    (cond (grants c) (steps.Propose by row c) (steps.Fence row c Memory)) t
    ∙ sym (if_true (is_row_at_end w row c) (steps.Fence row c StampEnd) (steps.Propose by row c) t))
    (λ f. let is : mark_step w by row grants c ≡ cond (grants c) (steps.Propose by row c) (steps.Fence row c Memory) =
    if_false (is_row_at_end w row c) _ _ f in
    by_test _ (grants c)
    (λ t. is ∙ (if_true (grants c) (steps.Propose by row c) (steps.Fence row c Memory) t
    ∙ sym (if_false (is_row_at_end w row c) (steps.Fence row c StampEnd) (steps.Propose by row c) f)))
    (λ g. absurd (no_fence w row c b has miss (subst (λ (s : Step). IsClean (after w s))
    (is ∙ if_false (grants c) (steps.Propose by row c) (steps.Fence row c Memory) g) clean))))

-- the marks of a completion, of which so many are taken
first_exact : (w : World) (by : ℕ) (row : Row) (grants : ℕ → Bool) (cs : List ℕ) (tail : List Step) (n : ℕ)
    → is_begun w row ≡ true → ((c : ℕ) → has_colour cs c ≡ true → has_colour (colours_of w row) c ≡ true)
    → IsClean (run_steps w (take n (mark_steps w by row grants cs ++ tail)))
    → take n (mark_steps w by row grants cs ++ tail) ≡ take n (mark_steps w by row found_all cs ++ tail)
first_exact w by row grants [] tail n b sub clean = refl
first_exact w by row grants (c ∷ cs) tail zero b sub clean = refl
first_exact w by row grants (c ∷ cs) tail (suc n) b sub clean =
    let s = mark_step w by row grants c in
    let t = mark_step w by row found_all c in
    let sub' : (d : ℕ) → has_colour cs d ≡ true → has_colour (colours_of w row) d ≡ true =
    λ d i. sub d (or_right (c == d) _ i) in
    by_test _ (is_missing ((row_of w row).marks c))
    (λ miss.
    let is_f : mark_steps w by row grants (c ∷ cs) ≡ s ∷ mark_steps (after w s) by row grants cs = if_true _ _ _ miss in
    let is_t : mark_steps w by row found_all (c ∷ cs) ≡ t ∷ mark_steps (after w t) by row found_all cs =
    if_true _ _ _ miss in
    let clean' : IsClean (run_steps (after w s) (take n (mark_steps (after w s) by row grants cs ++ tail))) =
    subst (λ (l : List Step). IsClean (run_steps w (take (suc n) (l ++ tail)))) is_f clean in
    let has = sub c (or_left (c == c) _ (eq-eqb c c refl)) in
    let same = step_exact w by row grants c b has miss (clean_before (after w s)
    (take n (mark_steps (after w s) by row grants cs ++ tail)) clean') in
    let m = mark_step_marks w by row grants c b has miss in
    let rest = first_exact (after w s) by row grants cs tail n (still_begun w s row b)
    (λ d i. subst (λ (x : Node). has_colour (members x.colours) d ≡ true) (sym m.goes.same) (sub' d i)) clean' in
    ap (λ (l : List Step). take (suc n) (l ++ tail)) is_f
    ∙ (ap (λ (l : List Step). s ∷ l) rest
    ∙ (ap (λ (x : Step). x ∷ take n (mark_steps (after w x) by row found_all cs ++ tail)) same
    ∙ sym (ap (λ (l : List Step). take (suc n) (l ++ tail)) is_t))))
    (λ set.
    let is_f : mark_steps w by row grants (c ∷ cs) ≡ mark_steps w by row grants cs = if_false _ _ _ set in
    let is_t : mark_steps w by row found_all (c ∷ cs) ≡ mark_steps w by row found_all cs = if_false _ _ _ set in
    ap (λ (l : List Step). take (suc n) (l ++ tail)) is_f
    ∙ (first_exact w by row grants cs tail (suc n) b sub'
    (subst (λ (l : List Step). IsClean (run_steps w (take (suc n) (l ++ tail)))) is_f clean)
    ∙ sym (ap (λ (l : List Step). take (suc n) (l ++ tail)) is_t)))

-- all marks of a completion
marks_exact : (w : World) (by : ℕ) (row : Row) (grants : ℕ → Bool) (cs : List ℕ)
    → is_begun w row ≡ true → ((c : ℕ) → has_colour cs c ≡ true → has_colour (colours_of w row) c ≡ true)
    → IsClean (run_steps w (mark_steps w by row grants cs))
    → mark_steps w by row grants cs ≡ mark_steps w by row found_all cs
marks_exact w by row grants [] b sub clean = refl
marks_exact w by row grants (c ∷ cs) b sub clean =
    let s = mark_step w by row grants c in
    let t = mark_step w by row found_all c in
    let sub' : (d : ℕ) → has_colour cs d ≡ true → has_colour (colours_of w row) d ≡ true =
    λ d i. sub d (or_right (c == d) _ i) in
    by_test _ (is_missing ((row_of w row).marks c))
    (λ miss.
    let is_f : mark_steps w by row grants (c ∷ cs) ≡ s ∷ mark_steps (after w s) by row grants cs = if_true _ _ _ miss in
    let is_t : mark_steps w by row found_all (c ∷ cs) ≡ t ∷ mark_steps (after w t) by row found_all cs =
    if_true _ _ _ miss in
    let clean' : IsClean (run_steps (after w s) (mark_steps (after w s) by row grants cs)) =
    subst (λ (l : List Step). IsClean (run_steps w l)) is_f clean in
    let has = sub c (or_left (c == c) _ (eq-eqb c c refl)) in
    let same = step_exact w by row grants c b has miss (clean_before (after w s)
    (mark_steps (after w s) by row grants cs) clean') in
    let m = mark_step_marks w by row grants c b has miss in
    let rest = marks_exact (after w s) by row grants cs (still_begun w s row b)
    (λ d i. subst (λ (x : Node). has_colour (members x.colours) d ≡ true) (sym m.goes.same) (sub' d i)) clean' in
    is_f ∙ (ap (λ (l : List Step). s ∷ l) rest
    ∙ (ap (λ (x : Step). x ∷ mark_steps (after w x) by row found_all cs) same ∙ sym is_t)))
    (λ set.
    let is_f : mark_steps w by row grants (c ∷ cs) ≡ mark_steps w by row grants cs = if_false _ _ _ set in
    let is_t : mark_steps w by row found_all (c ∷ cs) ≡ mark_steps w by row found_all cs = if_false _ _ _ set in
    is_f ∙ (marks_exact w by row grants cs b sub' (subst (λ (l : List Step). IsClean (run_steps w l)) is_f clean)
    ∙ sym is_t))

-- A row that is not begun

not_begun : (w : World) (by : ℕ) (row : Row) (s : Step) → is_begun w row ≡ false → IsOn by row s → after w s ≡ w
not_begun w by row (steps.Begin client colours text) f o = absurd o
not_begun w by row (steps.Propose x other c) f o =
    if_false (may_propose w other c) _ w
    (and_left _ _ (and_left (is_begun w other) _ (ap (is_begun w) o.1 ∙ f)))
not_begun w by row (steps.Fence other c Memory) f o =
    if_false (may_fence w other c Memory) _ w (and_left (is_begun w other) _ (ap (is_begun w) o ∙ f))
not_begun w by row (steps.Fence other c StampEnd) f o =
    if_false (may_fence w other c StampEnd) _ w
    (and_left _ _ (and_left (is_begun w other) _ (ap (is_begun w) o ∙ f)))
not_begun w by row (steps.Decide other) f o =
    if_false (may_decide w other) _ w (and_left (is_begun w other) _ (ap (is_begun w) o ∙ f))
not_begun w by row (steps.Settle x other c) f o =
    if_false (may_settle w other c) _ w (and_left (is_begun w other) _ (ap (is_begun w) o.1 ∙ f))
not_begun w by row (steps.Single client c text) f o = absurd o
not_begun w by row (steps.Raise x region c to) f o = absurd o
not_begun w by row (steps.Give x origin region c from) f o = absurd o
not_begun w by row (steps.Carry x origin region c start count) f o = absurd o
not_begun w by row (steps.Trim x region c counts) f o = absurd o
not_begun w by row (steps.Play client c) f o = absurd o
not_begun w by row (steps.Seen client to) f o = absurd o

run_not_begun : (w : World) (by : ℕ) (row : Row) (list : List Step) → is_begun w row ≡ false
    → ((s : Step) → In s list → IsOn by row s) → run_steps w list ≡ w
run_not_begun w by row [] f on = refl
run_not_begun w by row (s ∷ list) f on =
    ap (λ (x : World). run_steps x list) (not_begun w by row s f (on s (inl refl)))
    ∙ run_not_begun w by row list f (λ t i. on t (inr i))

-- a completion
pub complete_exact : (w : World) (by : ℕ) (row : Row) (grants : ℕ → Bool)
    → IsClean (run_steps w (complete_steps w by row grants))
    → run_steps w (complete_steps w by row grants) ≡ run_steps w (complete_steps w by row found_all)
complete_exact w by row grants clean =
    let cs = colours_of w row in
    let tail = steps.Decide row ∷ settle_steps by row cs in
    by_test _ (is_begun w row)
    (λ b. ap (λ (l : List Step). run_steps w (l ++ tail)) (marks_exact w by row grants cs b (λ c i. i)
    (clean_before (run_steps w (mark_steps w by row grants cs)) tail
    (subst IsClean (run_steps-append w (mark_steps w by row grants cs) tail) clean))))
    (λ f. run_not_begun w by row (complete_steps w by row grants) f (complete_steps_on w by row grants)
    ∙ sym (run_not_begun w by row (complete_steps w by row found_all) f (complete_steps_on w by row found_all)))

-- the first so many steps of one
pub taken_exact : (w : World) (by : ℕ) (row : Row) (grants : ℕ → Bool) (n : ℕ)
    → IsClean (run_steps w (take n (complete_steps w by row grants)))
    → run_steps w (take n (complete_steps w by row grants)) ≡ run_steps w (take n (complete_steps w by row found_all))
taken_exact w by row grants n clean =
    let cs = colours_of w row in
    let tail = steps.Decide row ∷ settle_steps by row cs in
    by_test _ (is_begun w row)
    (λ b. ap (run_steps w) (first_exact w by row grants cs tail n b (λ c i. i) clean))
    (λ f. run_not_begun w by row (take n (complete_steps w by row grants)) f
    (taken_on grants)
    ∙ sym (run_not_begun w by row (take n (complete_steps w by row found_all)) f (taken_on found_all))) where
      taken_in : (k : ℕ) (l : List Step) (s : Step) → In s (take k l) → In s l
      taken_in zero l s i = absurd i
      taken_in (suc k) [] s i = absurd i
      taken_in (suc k) (x ∷ l) s (inl e) = inl e
      taken_in (suc k) (x ∷ l) s (inr i) = inr (taken_in k l s i)

      taken_on : (f : ℕ → Bool) (s : Step) → In s (take n (complete_steps w by row f)) → IsOn by row s
      taken_on f s i = complete_steps_on w by row f s (taken_in n (complete_steps w by row f) s i)

-- Helps

-- some steps lead from the one world to the other
pub record RunsTo (w w' : World) : Type 0 where
  pub steps : List Step
  pub run : run_steps w steps ≡ w'

pub stays_there : (w : World) → RunsTo w w
stays_there w = record { steps = []; run = refl }

pub runs_on : (w v u : World) → RunsTo w v → RunsTo v u → RunsTo w u
runs_on w v u a b = record {
  steps = a.steps ++ b.steps;
  run = run_steps-append w a.steps b.steps ∙ (ap (λ (x : World). run_steps x b.steps) a.run ∙ b.run);
}

pub clean_from : (w w' : World) → RunsTo w w' → IsClean w' → IsClean w
clean_from w w' r clean = clean_before w r.steps (subst IsClean (sym r.run) clean)

row_runs : (grants : Grants) (by : ℕ) (h : Helping) (o : Option Row) → RunsTo h.world (helped_row grants by h o).world
row_runs grants by h None = stays_there h.world
row_runs grants by h (Some row) = record { steps = complete_steps h.world by row (grants.helps h.helps); run = refl }

node_runs : (grants : Grants) (by : ℕ) (h : Helping) (o : Option Node)
    → RunsTo h.world (helped_node grants by h o).world
node_runs grants by h None = stays_there h.world
node_runs grants by h (Some node) = row_runs grants by h node.row

first_runs : (grants : Grants) (by : ℕ) (h : Helping) (es : List Standing)
    → RunsTo h.world (helped_first grants by h es).world
first_runs grants by h [] = stays_there h.world
first_runs grants by h (e ∷ es) = node_runs grants by h (node_by_id h.world e.key.id)

times_run : (n : ℕ) (grants : Grants) (by colour : ℕ) (key : Key) (h : Helping)
    → RunsTo h.world (helped_times n grants by colour key h).world
times_run zero grants by colour key h = stays_there h.world
times_run (suc n) grants by colour key h =
    let h' = helped_first grants by h (open_below key (home_history h.world by colour)) in
    runs_on h.world h'.world (helped_times n grants by colour key h').world
    (first_runs grants by h (open_below key (home_history h.world by colour))) (times_run n grants by colour key h')

fold_runs : (grants : Grants) (by : ℕ) (key : Key) (cs : List ℕ) (h : Helping)
    → RunsTo h.world (fold (cleared grants by key) h cs).world
fold_runs grants by key [] h = stays_there h.world
fold_runs grants by key (c ∷ cs) h =
    let h' = cleared grants by key h c in
    runs_on h.world h'.world (fold (cleared grants by key) h' cs).world
    (times_run (length (open_below key (home_history h.world by c))) grants by c key h) (fold_runs grants by key cs h')

pub clears_run : (grants : Grants) (by : ℕ) (key : Key) (cs : List ℕ) (w : World)
    → RunsTo w (all_cleared grants by key cs w)
clears_run grants by key cs w = fold_runs grants by key cs (record { world = w; helps = 0 })

row_exact : (grants : Grants) (by : ℕ) (h : Helping) (o : Option Row) → IsClean (helped_row grants by h o).world
    → helped_row grants by h o ≡ helped_row all_granted by h o
row_exact grants by h None clean = refl
row_exact grants by h (Some row) clean =
    ap (λ (x : World). record { world = x; helps = h.helps + 1 })
    (complete_exact h.world by row (grants.helps h.helps) clean)

node_exact : (grants : Grants) (by : ℕ) (h : Helping) (o : Option Node) → IsClean (helped_node grants by h o).world
    → helped_node grants by h o ≡ helped_node all_granted by h o
node_exact grants by h None clean = refl
node_exact grants by h (Some node) clean = row_exact grants by h node.row clean

first_help_exact : (grants : Grants) (by : ℕ) (h : Helping) (es : List Standing)
    → IsClean (helped_first grants by h es).world → helped_first grants by h es ≡ helped_first all_granted by h es
first_help_exact grants by h [] clean = refl
first_help_exact grants by h (e ∷ es) clean = node_exact grants by h (node_by_id h.world e.key.id) clean

times_exact : (n : ℕ) (grants : Grants) (by colour : ℕ) (key : Key) (h : Helping)
    → IsClean (helped_times n grants by colour key h).world
    → helped_times n grants by colour key h ≡ helped_times n all_granted by colour key h
times_exact zero grants by colour key h clean = refl
times_exact (suc n) grants by colour key h clean =
    let es = open_below key (home_history h.world by colour) in
    let h' = helped_first grants by h es in
    times_exact n grants by colour key h' clean
    ∙ ap (helped_times n all_granted by colour key) (first_help_exact grants by h es
    (clean_from h'.world (helped_times n grants by colour key h').world (times_run n grants by colour key h') clean))

fold_exact : (grants : Grants) (by : ℕ) (key : Key) (cs : List ℕ) (h : Helping)
    → IsClean (fold (cleared grants by key) h cs).world
    → fold (cleared grants by key) h cs ≡ fold (cleared all_granted by key) h cs
fold_exact grants by key [] h clean = refl
fold_exact grants by key (c ∷ cs) h clean =
    let h' = cleared grants by key h c in
    fold_exact grants by key cs h' clean
    ∙ ap (λ (x : Helping). fold (cleared all_granted by key) x cs)
    (times_exact (length (open_below key (home_history h.world by c))) grants by c key h
    (clean_from h'.world (fold (cleared grants by key) h' cs).world (fold_runs grants by key cs h') clean))

pub clears_exact : (grants : Grants) (by : ℕ) (key : Key) (cs : List ℕ) (w : World)
    → IsClean (all_cleared grants by key cs w) → all_cleared grants by key cs w ≡ all_cleared all_granted by key cs w
clears_exact grants by key cs w clean =
    ap (λ (x : Helping). x.world) (fold_exact grants by key cs (record { world = w; helps = 0 }) clean)
