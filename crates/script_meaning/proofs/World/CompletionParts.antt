-- The steps of a completion one by one: which step stands where, and what the first of them have done.
use Rattle.std.proofs.Common.{◌≡◌, ◌≢◌, inl, inr, ℕ, zero, suc, ◌+◌, ◌<◌, List, [], ◌∷◌, ◌++◌, length, take, Some, Bool, true, false, cond, refl, ap, sym, subst, ◌∙◌, arith, eq-eqb}
use Rattle.std.specs.Prelude.{◌==◌, slice_get}
use Rattle.std.proofs.lemmas.Bool.{ltb-true, or_left, or_right}
use Rattle.log_node.specs.declared.ids.Row.{Row}
use Rattle.log_node.specs.declared.node.Node.{Node}
use Rattle.log_node.specs.Sets.{members}
use Rattle.log_node.specs.declared.marks.Why.{Why}
use Rattle.log_node.specs.declared.marks.Why.TheVariants.{Memory, StampEnd}
use Rattle.log_node.specs.declared.marks.Mark.{Mark}
use Rattle.log_node.specs.declared.marks.Mark.TheVariants as marks
use Rattle.log_node.specs.Outcomes.{is_missing}
use Rattle.col_core.specs.Keeping.{updated}
use Rattle.col_core.proofs.CallerLemmas.{choice, apart, if_true, In}
use Rattle.world_laws.specs.declared.steps.Step.{Step}
use Rattle.world_laws.specs.declared.steps.Step.TheVariants as steps
use Rattle.world_laws.specs.Worlds.{World, RowState, after, run_steps, is_begun, row_of, is_row_at_end, may_propose, may_fence, proposed_stamp, after_propose, with_mark}
use Rattle.world_laws.specs.Completing.{mark_step, mark_steps, colours_of}
use Rattle.world_laws.proofs.CallerLemmas.{at_updated, updated_at-here, slice_in, has_colour, mark_step_marks}
use Rattle.world_laws.proofs.CallerLemmas.{run_grows}
use Rattle.script_meaning.proofs.World.Rows.{still_begun}
use Rattle.script_meaning.proofs.Append.AppendSeveral.{Rising}

-- the step sets the mark of the colour
abbrev pub MarksColour : ℕ → Step → Type 0
MarksColour c (steps.Begin client colours text) = ⊥
MarksColour c (steps.Propose by row d) = d ≡ c
MarksColour c (steps.Fence row d why) = d ≡ c
MarksColour c (steps.Decide row) = ⊥
MarksColour c (steps.Settle by row d) = ⊥
MarksColour c (steps.Single client d text) = ⊥
MarksColour c (steps.Raise by region d to) = ⊥
MarksColour c (steps.Give by origin region d from) = ⊥
MarksColour c (steps.Carry by origin region d start count) = ⊥
MarksColour c (steps.Trim by region d counts) = ⊥
MarksColour c (steps.Play client d) = ⊥
MarksColour c (steps.Seen client to) = ⊥

step_marks : (w : World) (by : ℕ) (row : Row) (grants : ℕ → Bool) (c : ℕ) → MarksColour c (mark_step w by row grants c)
step_marks w by row grants c =
    choice (MarksColour c) (is_row_at_end w row c) (steps.Fence row c StampEnd)
    (cond (grants c) (steps.Propose by row c) (steps.Fence row c Memory)) (λ _. refl)
    (λ _. choice (MarksColour c) (grants c) (steps.Propose by row c) (steps.Fence row c Memory) (λ _. refl) (λ _. refl))

-- the marks of other colours stay
mark_other : (w w' : World) (row : Row) (c d : ℕ) (m : Mark) → d ≢ c
    → row_of w' row ≡ record (row_of w row) { marks = updated (row_of w row).marks c m }
    → (row_of w' row).marks d ≡ (row_of w row).marks d
mark_other w w' row c d m ne e =
    ap (λ (r : RowState). r.marks d) e
    ∙ at_updated (λ (x : Mark). x ≡ (row_of w row).marks d) (row_of w row).marks c m d (λ same. absurd (ne same))
    (λ _. refl)

fence_other : (w : World) (row : Row) (c d : ℕ) (why : Why) → d ≢ c
    → (row_of (after w (steps.Fence row c why)) row).marks d ≡ (row_of w row).marks d
fence_other w row c d why ne =
    choice (λ (x : World). (row_of x row).marks d ≡ (row_of w row).marks d) (may_fence w row c why)
    (with_mark w row c (marks.Fenced why)) w
    (λ _. mark_other w (with_mark w row c (marks.Fenced why)) row c d (marks.Fenced why) ne
    (updated_at-here w.rows row.client row.number
    (record (row_of w row) { marks = updated (row_of w row).marks c (marks.Fenced why) }))) (λ _. refl)

propose_other : (w : World) (by : ℕ) (row : Row) (c d : ℕ) → d ≢ c
    → (row_of (after w (steps.Propose by row c)) row).marks d ≡ (row_of w row).marks d
propose_other w by row c d ne =
    choice (λ (x : World). (row_of x row).marks d ≡ (row_of w row).marks d) (may_propose w row c)
    (after_propose w by row c) w
    (λ _. mark_other w (after_propose w by row c) row c d (marks.Number (proposed_stamp w row c)) ne
    (updated_at-here w.rows row.client row.number
    (record (row_of w row) { marks = updated (row_of w row).marks c (marks.Number (proposed_stamp w row c)) })))
    (λ _. refl)

others_stay : (w : World) (by : ℕ) (row : Row) (grants : ℕ → Bool) (c d : ℕ) → d ≢ c
    → (row_of (after w (mark_step w by row grants c)) row).marks d ≡ (row_of w row).marks d
others_stay w by row grants c d ne =
    choice (λ (s : Step). (row_of (after w s) row).marks d ≡ (row_of w row).marks d) (is_row_at_end w row c)
    (steps.Fence row c StampEnd) (cond (grants c) (steps.Propose by row c) (steps.Fence row c Memory))
    (λ _. fence_other w row c d StampEnd ne)
    (λ _. choice (λ (s : Step). (row_of (after w s) row).marks d ≡ (row_of w row).marks d) (grants c)
    (steps.Propose by row c) (steps.Fence row c Memory) (λ _. propose_other w by row c d ne)
    (λ _. fence_other w row c d Memory ne))

-- The list of the marks

-- no mark of the colours is set
abbrev pub AllMissing : World → Row → List ℕ → Type 0
AllMissing w row cs = (c : ℕ) → In c cs → is_missing ((row_of w row).marks c) ≡ true

rest_missing : (w : World) (by : ℕ) (row : Row) (grants : ℕ → Bool) (c : ℕ) (cs : List ℕ) → Rising (c ∷ cs)
    → AllMissing w row (c ∷ cs) → AllMissing (after w (mark_step w by row grants c)) row cs
unfolding Rising
rest_missing w by row grants c cs rising missing d i =
    let lt = rising.0 d i in
    ap is_missing (others_stay w by row grants c d (λ e. let f : ⊥ = omega (arith, lt, e) in f)) ∙ missing d (inr i)

-- one step for each colour, in their order
pub record IsMarkList (cs : List ℕ) (list : List Step) : Type 0 where
  pub as_long : length list ≡ length cs
  pub each : (m c : ℕ) → slice_get cs m ≡ Some c → (s : Step) × (slice_get list m ≡ Some s) × MarksColour c s

pub mark_list : (w : World) (by : ℕ) (row : Row) (grants : ℕ → Bool) (cs : List ℕ) → Rising cs → AllMissing w row cs
    → IsMarkList cs (mark_steps w by row grants cs)
unfolding Rising
mark_list w by row grants [] rising missing = record { as_long = refl; each = λ m c e. absurd (let f : ⊥ = cc in f) }
mark_list w by row grants (c ∷ cs) rising missing =
    let s = mark_step w by row grants c in
    let rest = mark_list (after w s) by row grants cs rising.1 (rest_missing w by row grants c cs rising missing) in
    subst (IsMarkList (c ∷ cs)) (sym (if_true (is_missing ((row_of w row).marks c))
    (s ∷ mark_steps (after w s) by row grants cs) (mark_steps w by row grants cs) (missing c (inl refl)))) (record {
      as_long = ap suc rest.as_long;
      each = at_place rest.each;
    }) where
      at_place : ((m d : ℕ) → slice_get cs m ≡ Some d
          → (x : Step) × (slice_get (mark_steps (after w (mark_step w by row grants c)) by row grants cs) m ≡ Some x)
          × MarksColour d x) → (m d : ℕ) → slice_get (c ∷ cs) m ≡ Some d
          → (x : Step) × (slice_get (mark_step w by row grants c
          ∷ mark_steps (after w (mark_step w by row grants c)) by row grants cs) m ≡ Some x) × MarksColour d x
      at_place each zero d e =
          let is : c ≡ d = cc in (
            mark_step w by row grants c,
            refl,
            subst (λ (k : ℕ). MarksColour k (mark_step w by row grants c)) is
                (step_marks w by row grants c),
          )
      at_place each (suc m) d e = each m d e

mark_kept : (w : World) (list : List Step) (row : Row) (c : ℕ) → is_begun w row ≡ true
    → is_missing ((row_of w row).marks c) ≡ false → is_missing ((row_of (run_steps w list) row).marks c) ≡ false
mark_kept w list row c b set =
    ap is_missing (((run_grows w list).rows row.client row.number (ltb-true _ _ b)).marks c
    (λ none. apart (is_missing ((row_of w row).marks c)) (ap is_missing none) set)) ∙ set

-- the first so many steps mark as many colours
pub marked_first : (w : World) (by : ℕ) (row : Row) (grants : ℕ → Bool) (cs : List ℕ) (tail : List Step) (n : ℕ)
    → is_begun w row ≡ true
    → ((c : ℕ) → has_colour cs c ≡ true → has_colour (colours_of w row) c ≡ true)
    → Rising cs → AllMissing w row cs → (m c : ℕ) → slice_get cs m ≡ Some c → m < n
    → is_missing ((row_of (run_steps w (take n (mark_steps w by row grants cs ++ tail))) row).marks c) ≡ false
unfolding Rising
marked_first w by row grants [] tail n b sub rising missing m c e lt = absurd (let f : ⊥ = cc in f)
marked_first w by row grants (c0 ∷ cs) tail zero b sub rising missing m c e lt =
    absurd (let f : ⊥ = omega (arith, lt) in f)
marked_first w by row grants (c0 ∷ cs) tail (suc n) b sub rising missing m c e lt =
    let s = mark_step w by row grants c0 in
    let here = mark_step_marks w by row grants c0 b (sub c0 (or_left (c0 == c0) _ (eq-eqb c0 c0 refl)))
    (missing c0 (inl refl)) in
    subst (λ (l : List Step). is_missing ((row_of (run_steps w (take (suc n) (l ++ tail))) row).marks c) ≡ false)
    (sym (if_true (is_missing ((row_of w row).marks c0)) (s ∷ mark_steps (after w s) by row grants cs)
    (mark_steps w by row grants cs) (missing c0 (inl refl))))
    (at_place m e lt here.set (λ k ek lk. marked_first (after w s) by row grants cs tail n (still_begun w s row b)
    (λ d i. subst (λ (x : Node). has_colour (members x.colours) d ≡ true) (sym here.goes.same)
    (sub d (or_right (c0 == d) _ i))) rising.1 (rest_missing w by row grants c0 cs rising missing) k c ek lk)) where
      rest : List Step
      rest = take n (mark_steps (after w (mark_step w by row grants c0)) by row grants cs ++ tail)

      at_place : (k : ℕ) → slice_get (c0 ∷ cs) k ≡ Some c → k < suc n
          → is_missing ((row_of (after w (mark_step w by row grants c0)) row).marks c0) ≡ false
          → ((j : ℕ) → slice_get cs j ≡ Some c → j < n
          → is_missing ((row_of (run_steps (after w (mark_step w by row grants c0))
          (take n (mark_steps (after w (mark_step w by row grants c0)) by row grants cs ++ tail))) row).marks c)
          ≡ false)
          → is_missing ((row_of (run_steps (after w (mark_step w by row grants c0))
          (take n (mark_steps (after w (mark_step w by row grants c0)) by row grants cs ++ tail))) row).marks c) ≡ false
      at_place zero ek lk set later =
          let is : c0 ≡ c = cc in
          mark_kept (after w (mark_step w by row grants c0))
          (take n (mark_steps (after w (mark_step w by row grants c0)) by row grants cs ++ tail)) row c
          (still_begun w (mark_step w by row grants c0) row b)
          (subst (λ (d : ℕ). is_missing ((row_of (after w (mark_step w by row grants c0)) row).marks d) ≡ false) is set)
      at_place (suc k) ek lk set later = later k ek (omega (arith, lk))

-- Places in lists

pub taken_at : {A : Type 0} (n : ℕ) (xs : List A) (i : ℕ) (x : A) → slice_get (take n xs) i ≡ Some x
    → (i < n) × (slice_get xs i ≡ Some x)
taken_at zero xs i x e = absurd (let f : ⊥ = cc in f)
taken_at (suc n) [] i x e = absurd (let f : ⊥ = cc in f)
taken_at (suc n) (y ∷ xs) zero x e = (omega arith, e)
taken_at (suc n) (y ∷ xs) (suc i) x e = let r = taken_at n xs i x e in let lt = r.0 in (omega (arith, lt), r.1)

-- past the first list stands the second
pub take_past : {A : Type 0} (xs ys : List A) (j : ℕ) → take (length xs + j) (xs ++ ys) ≡ xs ++ take j ys
take_past [] ys j = let e : 0 + j ≡ j = omega arith in ap (λ (n : ℕ). take n ys) e
take_past {A} (x ∷ xs) ys j =
    let e : suc (length xs) + j ≡ suc (length xs + j) = omega arith in
    ap (λ (n : ℕ). take n (x ∷ (xs ++ ys))) e ∙ ap (λ (l : List A). x ∷ l) (take_past xs ys j)

-- colours that rise stand at one place each
pub one_place : (cs : List ℕ) → Rising cs → (i j c : ℕ) → slice_get cs i ≡ Some c → slice_get cs j ≡ Some c → i ≡ j
unfolding Rising
one_place [] r i j c e f = absurd (let x : ⊥ = cc in x)
one_place (d ∷ cs) r zero zero c e f = refl
one_place (d ∷ cs) r zero (suc j) c e f =
    let is : d ≡ c = cc in
    let lt = r.0 c (slice_in cs j c f) in
    absurd (let x : ⊥ = omega (arith, lt, is) in x)
one_place (d ∷ cs) r (suc i) zero c e f =
    let is : d ≡ c = cc in
    let lt = r.0 c (slice_in cs i c e) in
    absurd (let x : ⊥ = omega (arith, lt, is) in x)
one_place (d ∷ cs) r (suc i) (suc j) c e f = ap suc (one_place cs r.1 i j c e f)
