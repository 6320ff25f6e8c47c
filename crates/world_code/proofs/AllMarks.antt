-- The marks of a row's colours, set one after another.
use Rattle.std.proofs.Common.{◌≡◌, ℕ, ◌+◌, ◌<◌, Bool, true, false, List, [], ◌∷◌, ◌++◌, take, refl, ap}
use Rattle.std.proofs.Common.{sym, subst, ◌∙◌, arith, append_assoc}
use Rattle.std.specs.Prelude.{◌-◌, ◌==◌, if◌then◌else◌}
use Rattle.std.specs.List.{list_any}
use Rattle.std.proofs.lemmas.List.{append-nil}
use Rattle.std.proofs.lemmas.Bool.{ltb-true, lt-ltb, cond-true, cond-false, eq-eqb, eqb-true, or_left}
use Rattle.std.proofs.lemmas.Bool.{or_right, and_parts, and_from, true≢false, false_from_ne_true}
use Rattle.log_node.specs.declared.ids.Row.{Row}
use Rattle.log_node.specs.declared.node.Node.{Node}
use Rattle.log_node.specs.Outcomes.{is_missing}
use Rattle.col_core.proofs.CallerLemmas.{choice}
use Rattle.world_laws.specs.declared.steps.Step.{Step}
use Rattle.world_laws.specs.declared.steps.Step.TheVariants.{Propose, Fence}
use Rattle.log_node.specs.declared.marks.Why.TheVariants.{Memory}
use Rattle.world_laws.specs.declared.steps.Reply.{Reply}
use Rattle.world_laws.specs.Worlds.{World, after, reply, run_steps, is_begun, row_of, is_member, is_row_at_end, may_mark}
use Rattle.world_laws.specs.Completing.{mark_step, mark_steps, colours_of}
use Rattle.world_laws.proofs.CallerLemmas.{run_grows}
use Rattle.world_code.specs.declared.completing.Taken.{Taken}
use Rattle.world_code.specs.Completed.{done_count, AreTaken, IsMarkStep}
use Rattle.world_code.proofs.Sets.{is_there, not_before}
use Rattle.world_code.proofs.AllowedSteps.{taken_none, taken_more, taken_no_more, take-all}

-- a step of the definition, and its reply, by the bit of its colour alone
mark_step_same : (w : World) (by : ℕ) (row : Row) (f g : ℕ → Bool) (c : ℕ) → f c ≡ g c
    → mark_step w by row f c ≡ mark_step w by row g c
mark_step_same w by row f g c e =
    ap (λ (b : Bool). mark_step w by row (λ _. b) c) e

-- the step, as the code takes it
pub proposed : (w : World) (by : ℕ) (row : Row) (c : ℕ) (w' : World) (answer : Reply)
    → is_row_at_end w row c ≡ false → w' ≡ after w (Propose by row c) → answer ≡ reply w (Propose by row c)
    → IsMarkStep w by row c w' answer
proposed w by row c w' answer f e r = record {
  found = true;
  world = e ∙ ap (after w) (sym (cond-false (is_row_at_end w row c) _ _ f));
  reply = r ∙ ap (reply w) (sym (cond-false (is_row_at_end w row c) _ _ f));
}

pub fenced : (w : World) (by : ℕ) (row : Row) (c : ℕ) (w' : World) (answer : Reply)
    → is_row_at_end w row c ≡ false → w' ≡ after w (Fence row c Memory) → answer ≡ reply w (Fence row c Memory)
    → IsMarkStep w by row c w' answer
fenced w by row c w' answer f e r = record {
  found = false;
  world = e ∙ ap (after w) (sym (cond-false (is_row_at_end w row c) _ _ f));
  reply = r ∙ ap (reply w) (sym (cond-false (is_row_at_end w row c) _ _ f));
}

-- the steps rest on the bits of their colours alone
pub mark_steps_same : (w : World) (by : ℕ) (row : Row) (f g : ℕ → Bool) (cs : List ℕ)
    → ((c : ℕ) → list_any (λ d. d == c) cs ≡ true → f c ≡ g c) → mark_steps w by row f cs ≡ mark_steps w by row g cs
mark_steps_same w by row f g [] same = refl
mark_steps_same w by row f g (c ∷ cs) same =
    let s = mark_step_same w by row f g c (same c (or_left (c == c) _ (eq-eqb c c refl))) in
    let rest = λ (d : ℕ) (i : list_any (λ e. e == d) cs ≡ true). same d (or_right (c == d) _ i) in
    ap (λ (l : List Step). if is_missing ((row_of w row).marks c) then mark_step w by row f c
    ∷ mark_steps (after w (mark_step w by row f c)) by row f cs else l) (mark_steps_same w by row f g cs rest)
    ∙ ap (λ (l : List Step). if is_missing ((row_of w row).marks c) then l else mark_steps w by row g cs)
    (ap (λ (t : Step). t ∷ mark_steps (after w t) by row f cs) s
    ∙ ap (λ (l : List Step). mark_step w by row g c ∷ l)
    (mark_steps_same (after w (mark_step w by row g c)) by row f g cs rest))

-- and go on where they ended
pub mark_steps-append : (w : World) (by : ℕ) (row : Row) (f : ℕ → Bool) (cs ds : List ℕ)
    → mark_steps w by row f (cs ++ ds)
    ≡ mark_steps w by row f cs ++ mark_steps (run_steps w (mark_steps w by row f cs)) by row f ds
mark_steps-append w by row f [] ds = refl
mark_steps-append w by row f (c ∷ cs) ds =
    choice (λ (l : List Step). (if is_missing ((row_of w row).marks c) then s ∷ mark_steps (after w s) by row f
    (cs ++ ds)
    else mark_steps w by row f (cs ++ ds)) ≡ l ++ mark_steps (run_steps w l) by row f ds)
    (is_missing ((row_of w row).marks c)) (s ∷ mark_steps (after w s) by row f cs) (mark_steps w by row f cs)
    (λ t. cond-true (is_missing ((row_of w row).marks c)) _ _ t
    ∙ ap (λ (l : List Step). s ∷ l) (mark_steps-append (after w s) by row f cs ds))
    (λ e. cond-false (is_missing ((row_of w row).marks c)) _ _ e ∙ mark_steps-append w by row f cs ds) where
      s : Step
      s = mark_step w by row f c

-- The marks of the first of these colours are set, as far as steps are allowed; the others are left.
pub record AreMarked (w : World) (by : ℕ) (row : Row) (limit : ℕ) (left colours : List ℕ) (w' : World) (taken : Taken)
    : Type 0 where
  pub first : List ℕ
  pub apart : first ++ left ≡ colours
  pub found : ℕ → Bool
  pub are_taken : AreTaken w (mark_steps w by row found first) limit w' taken

pub marked_none : (w : World) (by : ℕ) (row : Row) (limit : ℕ) (left colours : List ℕ) → left ≡ colours
    → AreMarked w by row limit left colours w (record { done = 0; left = limit })
marked_none w by row limit left colours all = record {
  first = [];
  apart = all;
  found = λ _. true;
  are_taken = taken_none w limit;
}

-- what steps leave of a begun row
pub record Stays (w w' : World) (row : Row) : Type 0 where
  pub begun : is_begun w' row ≡ true
  pub node : (row_of w' row).node ≡ (row_of w row).node

pub run_stays : (w : World) (row : Row) (steps : List Step) → is_begun w row ≡ true → Stays w (run_steps w steps) row
run_stays w row steps b =
    let g = run_grows w steps in
    let lt = ltb-true row.number (w.clients row.client).used b in
    record {
      begun = lt-ltb row.number ((run_steps w steps).clients row.client).used (g.used row.client row.number lt);
      node = (g.rows row.client row.number lt).node;
    }

pub taken_stays : (w w' : World) (row : Row) (steps : List Step) (limit : ℕ) (t : Taken) → is_begun w row ≡ true
    → AreTaken w steps limit w' t → Stays w w' row
taken_stays w w' row steps limit t b a =
    subst (λ (v : World). Stays w v row) (sym a.world) (run_stays w row (take limit steps) b)

-- where more steps are allowed, all were taken
all_taken : (w w' : World) (steps : List Step) (limit : ℕ) (t : Taken) → AreTaken w steps limit w' t → 0 < t.left
    → run_steps w steps ≡ w'
all_taken w w' steps limit t a lt =
    sym (a.world ∙ ap (run_steps w) (take-all limit steps (let l = a.left in omega (arith, l, lt))))

-- the next of the colours of the row's node
module _ (w : World) (by : ℕ) (row : Row) (limit n : ℕ) (rest : List ℕ) (w1 : World) (done left : ℕ)
    (before : AreMarked w by row limit (n ∷ rest) (colours_of w row) w1 (record { done = done; left = left })) where
  abbrev t : Taken
  t = record { done = done; left = left }

  abbrev cs : List ℕ
  cs = before.first

  abbrev firsts : List Step
  firsts = mark_steps w by row before.found cs

  now_apart : (cs ++ n ∷ []) ++ rest ≡ colours_of w row
  now_apart = append_assoc cs (n ∷ []) rest ∙ before.apart

  -- no step is allowed
  pub marked_stop : left ≡ 0 → AreMarked w by row limit rest (colours_of w row) w1 t
  marked_stop e = record {
    first = cs ++ n ∷ [];
    apart = now_apart;
    found = before.found;
    are_taken = taken_no_more w w1 firsts (mark_steps (run_steps w firsts) by row before.found (n ∷ []))
        (mark_steps w by row before.found (cs ++ n ∷ [])) limit done left before.are_taken e
        (mark_steps-append w by row before.found cs (n ∷ []));
  }

  module _ (b : is_begun w row ≡ true) (lt : 0 < left) where
    here : run_steps w firsts ≡ w1
    here = all_taken w w1 firsts limit t before.are_taken lt

    stays : Stays w w1 row
    stays = taken_stays w w1 row firsts limit t b before.are_taken

    member : is_member (row_of w1 row).node.colours n ≡ true
    member =
        ap (λ (x : Node). is_member x.colours n) stays.node
        ∙ (ap (list_any (λ d. d == n)) (sym before.apart) ∙ is_there cs rest n)

    -- its mark is not missing
    pub marked_skip : may_mark w1 row n ≡ false → AreMarked w by row limit rest (colours_of w row) w1 t
    marked_skip barred = record {
      first = cs ++ n ∷ [];
      apart = now_apart;
      found = before.found;
      are_taken = subst (λ (l : List Step). AreTaken w l limit w1 t)
          (sym (mark_steps-append w by row before.found cs (n ∷ [])
          ∙ (ap (λ (v : World). firsts ++ mark_steps v by row before.found (n ∷ [])) here
          ∙ (ap (λ (l : List Step). firsts ++ l) (cond-false (is_missing ((row_of w1 row).marks n)) _ _ not_missing)
          ∙ append-nil firsts)))) before.are_taken;
    } where
      not_missing : is_missing ((row_of w1 row).marks n) ≡ false
      not_missing = false_from_ne_true (is_missing ((row_of w1 row).marks n)) (λ miss.
          true≢false (sym (and_from (is_begun w1 row) _ stays.begun
          (and_from (is_member (row_of w1 row).node.colours n) _ member miss)) ∙ barred))

    -- its mark is set
    pub marked_more : may_mark w1 row n ≡ true → (w2 : World) (answer : Reply)
        → IsMarkStep w1 by row n w2 answer → (d : ℕ) → d ≡ done_count answer
        → AreMarked w by row limit rest (colours_of w row) w2 (record { done = done + d; left = left - 1 })
    marked_more may w2 answer m d de = record {
      first = cs ++ n ∷ [];
      apart = now_apart;
      found = found;
      are_taken = taken_more w w1 w2 firsts (mark_steps w by row found (cs ++ n ∷ []))
          (mark_step w1 by row (λ _. m.found) n) limit done left before.are_taken lt steps_are m.world d
          (de ∙ ap done_count m.reply);
    } where
      found : ℕ → Bool
      found c = if c == n then m.found else before.found c

      missing : is_missing ((row_of w1 row).marks n) ≡ true
      missing = (and_parts (is_member (row_of w1 row).node.colours n) _ (and_parts (is_begun w1 row) _ may).1).1

      firsts_same : mark_steps w by row found cs ≡ firsts
      firsts_same = mark_steps_same w by row found before.found cs
          (λ c i. cond-false (c == n) _ _ (false_from_ne_true (c == n) (λ e.
          true≢false (sym i ∙ (ap (λ (k : ℕ). list_any (λ d. d == k) cs) (eqb-true c n e)
          ∙ not_before (row_of w row).node.colours cs rest n before.apart)))))

      steps_are : mark_steps w by row found (cs ++ n ∷ []) ≡ firsts ++ mark_step w1 by row (λ _. m.found) n ∷ []
      steps_are =
          mark_steps-append w by row found cs (n ∷ [])
          ∙ (ap (λ (l : List Step). l ++ mark_steps (run_steps w l) by row found (n ∷ [])) firsts_same
          ∙ (ap (λ (v : World). firsts ++ mark_steps v by row found (n ∷ [])) here
          ∙ ap (λ (l : List Step). firsts ++ l)
          (cond-true (is_missing ((row_of w1 row).marks n)) _ _ missing
          ∙ ap (λ (s : Step). s ∷ []) (mark_step_same w1 by row found (λ _. m.found) n
          (cond-true (n == n) _ _ (eq-eqb n n refl))))))

-- the marks of all of them
pub marked_all : (w : World) (by : ℕ) (row : Row) (limit : ℕ) (left colours : List ℕ) (w' : World) (taken : Taken)
    → left ≡ [] → AreMarked w by row limit left colours w' taken
    → (found : ℕ → Bool) × AreTaken w (mark_steps w by row found colours) limit w' taken
marked_all w by row limit left colours w' taken none m = (
  m.found,
  subst (λ (l : List ℕ). AreTaken w (mark_steps w by row m.found l) limit w' taken)
      (sym (append-nil m.first) ∙ (ap (λ (l : List ℕ). m.first ++ l) (sym none) ∙ m.apart)) m.are_taken,
)
