-- An append to several colours that is done to its end.
use Rattle.std.proofs.Common.{◌≡◌, ◌≢◌, ◌⊎◌, inl, inr, ℕ, zero, suc, ◌+◌, ◌<◌, List, [], ◌∷◌, map, Bool, true, false, cond, refl, ap, sym, subst, ◌∙◌, arith}
use Rattle.std.specs.Prelude.{slice_index, slice_index_or}
use Rattle.std.specs.List.{filter, list_any, range_with_len}
use Rattle.std.proofs.lemmas.Bool.{or_cases, true≢false}
use Rattle.log_node.specs.declared.ids.Id.{Id}
use Rattle.log_node.specs.declared.ids.Row.{Row}
use Rattle.log_node.specs.declared.ids.Colours.{Colours}
use Rattle.log_node.specs.declared.node.Node.{Node}
use Rattle.log_node.specs.declared.node.Shape.{Shape}
use Rattle.log_node.specs.Sets.{has, members}
use Rattle.log_node.specs.declared.marks.Why.TheVariants.{Memory, StampEnd}
use Rattle.log_node.specs.declared.marks.Mark.{Mark}
use Rattle.log_node.specs.declared.marks.Mark.TheVariants as marks
use Rattle.log_node.specs.declared.marks.Outcome.{Outcome}
use Rattle.log_node.specs.declared.marks.Outcome.TheVariants.{Open, Gone, Final}
use Rattle.log_node.specs.Outcomes.{outcome_of, is_missing, is_stamp_end_fence, is_memory_fence, number_of, greatest}
use Rattle.log_node.specs.declared.limits.TheConstants.{MAX_COLOURS}
use Rattle.col_core.specs.Log.{HasMark, HasOutcome}
use Rattle.col_core.specs.Keeping.{Kept, with_made, with_row}
use Rattle.col_core.proofs.CallerLemmas.{choice, by_test, apart, if_true, In, in_filter}
use Rattle.world_laws.specs.declared.steps.Step.{Step}
use Rattle.world_laws.specs.declared.steps.Step.TheVariants.{Begin}
use Rattle.world_laws.specs.Worlds.{World, home_of, run_steps, is_begun, row_of, marks_of, next_id, next_row, may_begin, begun_node, after_begin}
use Rattle.world_laws.specs.Completing.{colours_of, complete_steps}
use Rattle.world_laws.specs.Laws.{IsReached, log_of, begun_row}
use Rattle.world_laws.proofs.CallerLemmas.{contains_in, status_in, Held, is_waiting, in_colours, any_mark, kept_marks}
use Rattle.world_laws.proofs.CallerLemmas.{all_in}
use Rattle.script_text.specs.declared.script.Object.{Object}
use Rattle.script_text.specs.declared.commands.What.TheVariants as whats
use Rattle.report_text.specs.declared.report.Answer.TheVariants as answers
use Rattle.lawful_run.specs.Callers.{Caller, node_of}
use Rattle.lawful_run.specs.Appends.{BeginsRow, IsSettledIn, IsSettled, IsGoneAtEnd, none_for_several, IsGoneForMemory}
use Rattle.lawful_run.specs.Refusals.{gone}
use Rattle.lawful_run.specs.Explains.{Explains}
use Rattle.script_meaning.specs.States.{Grants}
use Rattle.script_meaning.specs.Appends.{ended_colour}
use Rattle.script_meaning.proofs.World.Rows.{IsDone}
use Rattle.script_meaning.proofs.World.Completions.{completed_done, complete_steps_on, IsOn}
use Rattle.script_meaning.proofs.World.Additions.{Adds, adds_map, StepIn}
use Rattle.script_meaning.proofs.World.Reached.{held_of}
use Rattle.script_meaning.proofs.World.Clearing.{Finished}
use Rattle.script_meaning.proofs.World.Settled.{settled_in}
use Rattle.script_meaning.proofs.Client.Kept.{caller_in, IsKeptBy, MadeBy, made_own, Does}
use Rattle.script_meaning.proofs.Append.AppendOne.{caller_same}
use Rattle.script_meaning.proofs.Append.BeginRow as begun
use Rattle.script_meaning.proofs.Lists.{in_range, in_map_back}

-- Marks and outcomes

gone_end : (all : List Mark) → outcome_of all ≡ Gone StampEnd → list_any is_stamp_end_fence all ≡ true
gone_end all e = by_bools (list_any is_missing all) (list_any is_stamp_end_fence all) (list_any is_memory_fence all)
    (greatest (map number_of all)) e where
      by_bools : (a b c : Bool) (f : ℕ)
          → cond a Open (cond b (Gone StampEnd) (cond c (Gone Memory) (Final f))) ≡ Gone StampEnd → b ≡ true
      by_bools true b c f e = absurd (let x : ⊥ = cc in x)
      by_bools false true c f e = refl
      by_bools false false true f e = absurd (let x : ⊥ = cc in x)
      by_bools false false false f e = absurd (let x : ⊥ = cc in x)

none_missing_in : (all : List Mark) (why : Outcome) → why ≢ Open → outcome_of all ≡ why → list_any is_missing all
    ≡ false
none_missing_in all why ne e =
    by_test _ (list_any is_missing all)
    (λ t. absurd (ne (sym e ∙ if_true (list_any is_missing all) _ _ t))) (λ f. f)

pub not_any : (test : Mark → Bool) (f : ℕ → Mark) (cs : List ℕ) (c : ℕ) → In c cs → list_any test (map f cs) ≡ false
    → test (f c) ≡ false
not_any test f cs c i e =
    by_test _ (test (f c))
    (λ t. absurd (apart (list_any test (map f cs)) (any_mark test f cs c (in_colours cs c i) t) e)) (λ g. g)

any_of : (test : Mark → Bool) (f : ℕ → Mark) (cs : List ℕ) → list_any test (map f cs) ≡ true
    → (c : ℕ) × In c cs × (test (f c) ≡ true)
any_of test f [] e = absurd (true≢false (sym e))
any_of test f (c ∷ cs) e = turn (or_cases (test (f c)) _ e) (any_of test f cs) where
  turn : (test (f c) ≡ true) ⊎ (list_any test (map f cs) ≡ true)
      → (list_any test (map f cs) ≡ true → (d : ℕ) × In d cs × (test (f d) ≡ true))
      → (d : ℕ) × ((c ≡ d) ⊎ In d cs) × (test (f d) ≡ true)
  turn (inl t) rest = (c, inl refl, t)
  turn (inr t) rest = let r = rest t in (r.0, inr r.1, r.2)

fence_is : (m : Mark) → is_stamp_end_fence m ≡ true → m ≡ marks.Fenced StampEnd
fence_is marks.None e = absurd (true≢false (sym e))
fence_is (marks.Number s) e = absurd (true≢false (sym e))
fence_is (marks.Fenced Memory) e = absurd (true≢false (sym e))
fence_is (marks.Fenced StampEnd) e = refl

pub mark_number : (m : Mark) → is_missing m ≡ false → is_stamp_end_fence m ≡ false → is_memory_fence m ≡ false
    → (s : ℕ) × (m ≡ marks.Number s)
mark_number marks.None a b c = absurd (true≢false a)
mark_number (marks.Number s) a b c = (s, refl)
mark_number (marks.Fenced Memory) a b c = absurd (true≢false c)
mark_number (marks.Fenced StampEnd) a b c = absurd (true≢false b)

-- Colours rise

unfoldable pub Rising : List ℕ → Type 0
Rising [] = Unit {0}
Rising (x ∷ xs) = ((y : ℕ) → In y xs → x < y) × Rising xs

range_rises : (a k : ℕ) → Rising (range_with_len a k)
unfolding Rising
range_rises a zero = tt
range_rises a (suc k) =
    (λ y i. let r = (in_range (a + 1) k y i).0 in omega (arith, r), range_rises (a + 1) k)

filter_rises : (test : ℕ → Bool) (xs : List ℕ) → Rising xs → Rising (filter test xs)
unfolding Rising
filter_rises test [] r = tt
filter_rises test (x ∷ xs) r =
    choice Rising (test x) (x ∷ filter test xs) (filter test xs)
    (λ _. (λ y i. r.0 y (in_filter test y xs i).0, filter_rises test xs r.1)) (λ _. filter_rises test xs r.1)

pub colours_rise : (set : Colours) → Rising (members set)
colours_rise set = filter_rises (has set) (range_with_len 0 MAX_COLOURS) (range_rises 0 MAX_COLOURS)

-- the first that passes a test, of those that rise, and none before it passes
first_passes : (test : ℕ → Bool) (xs : List ℕ) → Rising xs → (c : ℕ) → In c xs → test c ≡ true
    → let d = slice_index_or (filter test xs) 0 0 in
    In d xs × (test d ≡ true) × ((y : ℕ) → In y xs → y < d → test y ≡ false)
unfolding Rising
first_passes test [] r c i t = absurd i
first_passes test (x ∷ xs) r c i t =
    choice (λ (l : List ℕ). In (slice_index_or l 0 0) (x ∷ xs) × (test (slice_index_or l 0 0) ≡ true)
    × ((y : ℕ) → In y (x ∷ xs) → y < slice_index_or l 0 0 → test y ≡ false)) (test x) (x ∷ filter test xs)
    (filter test xs)
    (λ s. (inl refl, s, λ y j lt. absurd (none y j lt)))
    (λ f. let q = first_passes test xs r.1 c (later i f) t in
    (inr q.0, q.1, λ y j lt. turn y j f (λ k. q.2 y k lt))) where
      none : (y : ℕ) → (x ≡ y) ⊎ In y xs → y < x → ⊥
      none y (inl e) lt = omega (arith, e, lt)
      none y (inr j) lt = let z = r.0 y j in omega (arith, z, lt)

      later : (x ≡ c) ⊎ In c xs → test x ≡ false → In c xs
      later (inl e) f = absurd (apart (test x) (ap test e ∙ t) f)
      later (inr j) f = j

      turn : (y : ℕ) → (x ≡ y) ⊎ In y xs → test x ≡ false → (In y xs → test y ≡ false) → test y ≡ false
      turn y (inl e) f rest = ap test (sym e) ∙ f
      turn y (inr j) f rest = rest j

-- The world after the steps

module _ (objects : List Object) (S : ℕ → Type 0) (grants : Grants) (w : World) (reached : IsReached w)
    (fin : Finished S w)
    (u : ℕ) (colours : Colours) (text : List ℕ) (free : S u → ⊥) (ok : may_begin w u colours ≡ true) where
  abbrev own : ℕ
  own = home_of w u

  abbrev id : Id
  id = next_id w u

  abbrev row : Row
  row = next_row w u

  abbrev w1 : World
  w1 = after_begin w u colours text

  abbrev L : List Step
  L = complete_steps w1 u row grants.marks

  abbrev w3 : World
  w3 = run_steps w1 L

  pub on : (s : Step) → In s L → IsOn u row s
  on = complete_steps_on w1 u row grants.marks

  pub reached3 : IsReached w3
  reached3 = begun.reached3 objects w reached u colours text ok L on

  held3 : Held w3
  held3 = held_of w3 reached3

  pub begun3 : is_begun w3 row ≡ true
  begun3 = begun.begun3 objects w reached u colours text ok L on

  pub begun1 : is_begun w1 row ≡ true
  begun1 = begun.begun1 objects w reached u colours text ok L on

  pub reached1 : IsReached w1
  reached1 = begun.reached1 objects w reached u colours text ok L on

  pub node3 : (row_of w3 row).node ≡ begun_node w u colours text
  node3 = begun.node3 objects w reached u colours text ok L on

  pub done3 : IsDone w3 row
  done3 = completed_done w1 (held_of w1 reached1) u row grants.marks begun1 begun3

  pub finished3 : Finished S w3
  finished3 = begun.finished_done objects w reached u colours text ok L on S fin done3

  abbrev last : Outcome
  last = (row_of w3 row).last

  -- its colours are those of the row
  pub colours_are : colours_of w3 row ≡ members colours
  colours_are = ap (λ (n : Node). members n.colours) node3

  marks_are : marks_of (row_of w3 row) ≡ map (row_of w3 row).marks (members colours)
  marks_are = ap (map (row_of w3 row).marks) colours_are

  pub last_is : last ≡ outcome_of (map (row_of w3 row).marks (members colours))
  last_is = kept_marks w3 held3 row begun3 done3.decided ∙ ap outcome_of marks_are

  set_all : (c : ℕ) → In c (members colours) → is_missing ((row_of w3 row).marks c) ≡ false
  set_all c i = not_any is_missing (row_of w3 row).marks (members colours) c i
      (none_missing_in (map (row_of w3 row).marks (members colours)) last done3.decided (sym last_is))

  mark_in : (c : ℕ) → In c (members colours) → In (record { colour = c; mark = (row_of w3 row).marks c })
      (begun_row w3 row).marks
  mark_in c i = in_map_back (λ (d : ℕ). record { colour = d; mark = (row_of w3 row).marks d }) (colours_of w3 row) c
      (subst (λ (l : List ℕ). In c l) (sym colours_are) i)

  pub shape3 : w3.shape ≡ w.shape
  shape3 = begun.shape3 objects w reached u colours text ok L on

  abbrev places : ℕ → List ℕ
  places = begun.places objects w reached u colours text ok L on

  steps3 : run_steps w (Begin u colours text ∷ L) ≡ w3
  steps3 = begun.steps_run objects w reached u colours text ok L on

  pub adds3 : (end : World) (r c : ℕ) → Adds (MadeBy u (whats.Append colours text) end own r) (w.histories r c)
      (w3.histories r c)
  adds3 end r c = adds_map (StepIn own u id row L r c) (MadeBy u (whats.Append colours text) end own r)
      (w.histories r c)
      (w3.histories r c) (λ e s. made_own u (whats.Append colours text) end own r id refl e s.made s.of)
      ((begun.on3 objects w reached u colours text ok L on).adds r c)

  pub others3 : (n : ℕ) → n ≢ u → w3.clients n ≡ w.clients n
  others3 = begun.others3 objects w reached u colours text ok L on

  module _ (kept : Kept) (k : IsKeptBy w u kept) where
    abbrev node : Node
    node = node_of (caller_in w objects u) kept colours text

    begins : BeginsRow (log_of w3) (caller_in w objects u) kept node places
    begins = begun.begins objects w reached u colours text ok L on kept k

    has_mark : (c : ℕ) → In c (members colours) → HasMark (log_of w3) node c ((row_of w3 row).marks c)
    has_mark c i = (
      begun_row w3 row,
      begun.of_row objects w reached u colours text ok L on kept k,
      contains_in _ _ (mark_in c i),
    )

    pub has_outcome : HasOutcome (log_of w3) node last
    has_outcome = (begun_row w3 row, begun.of_row objects w reached u colours text ok L on kept k, refl)

    keeps3 : IsKeptBy w3 u (with_made (with_row kept) own places)
    keeps3 = begun.keeps3 objects w reached u colours text ok L on kept k

    -- it is open in none of its colours
    settled : IsSettled (log_of w3) (caller_in w objects u) node
    settled = all_in (IsSettledIn (log_of w3) (caller_in w objects u) node) (members colours) (λ c i.
        settled_in w3 reached3 row begun3 (caller_in w objects u)
        (ap (λ (x : Shape). slice_index x.homes u) shape3) node
        (ap (λ (x : Node). x.id) node3 ∙ begun.id_is objects w reached u colours text ok L on kept k) c (has_mark c i)
        (set_all c i)
        (subst (λ (x : Id). is_waiting (status_in (w3.histories own c) x) ≡ false)
        (ap (λ (x : Node). x.id) node3 ∙ begun.id_is objects w reached u colours text ok L on kept k)
        (done3.waits own c)))

    -- gone for memory
    gone_memory : last ≡ Gone Memory → IsGoneForMemory (log_of w3) (caller_in w objects u) kept node places
    gone_memory e = record {
      begins = begins;
      outcome = subst (HasOutcome (log_of w3) node) e has_outcome;
      settled = settled;
    }

    -- gone for the stamps' end
    gone_at_end : last ≡ Gone StampEnd
        → IsGoneAtEnd (log_of w3) (caller_in w objects u) kept node (ended_colour w3 row (members colours)) places
    gone_at_end e =
        let any = any_of is_stamp_end_fence (row_of w3 row).marks (members colours)
        (gone_end (map (row_of w3 row).marks (members colours)) (sym last_is ∙ e)) in
        let d = first_passes (λ colour. is_stamp_end_fence ((row_of w3 row).marks colour)) (members colours)
        (colours_rise colours) any.0 any.1 any.2 in
        let colour = ended_colour w3 row (members colours) in
        record {
          begins = begins;
          ends = record {
            outcome = subst (HasOutcome (log_of w3) node) e has_outcome;
            fence = subst (HasMark (log_of w3) node colour) (fence_is ((row_of w3 row).marks colour) d.1)
                (has_mark colour d.0);
            least = all_in (λ other. other < colour → (mark : Mark) × (mark ≢ marks.None)
                × (mark ≢ marks.Fenced StampEnd) × HasMark (log_of w3) node other mark) (members colours) (λ other i lt. (
                  (row_of w3 row).marks other,
                  (λ none. apart (is_missing ((row_of w3 row).marks other)) (ap is_missing none) (set_all other i)),
                  (λ fence. apart (is_stamp_end_fence ((row_of w3 row).marks other)) (ap is_stamp_end_fence fence)
                      (d.2 other i lt)),
                  has_mark other i,
                ));
          };
          settled = settled;
        }

  pub does_gone_memory : last ≡ Gone Memory
      → Does objects u (whats.Append colours text) w w3 answers.NoMemory []
  does_gone_memory e = record {
    steps = Begin u colours text ∷ L;
    run = steps3;
    shape = shape3;
    others = others3;
    adds = adds3 w3;
    keeps = λ kept k. record {
      after = with_made (with_row kept) own places;
      keeps = keeps3 kept k;
      explains = subst (λ (x : Caller). Explains (log_of w3) x kept (whats.Append colours text) answers.NoMemory []
          (with_made (with_row kept) own places)) (sym (caller_same w w3 objects u shape3))
          (refl, gone colours text places (refl, refl) (gone_memory kept k e));
    };
  }

  pub does_gone_end : last ≡ Gone StampEnd → Does objects u (whats.Append colours text) w w3
      (answers.StampEnd (ended_colour w3 row (members colours))) []
  does_gone_end e = record {
    steps = Begin u colours text ∷ L;
    run = steps3;
    shape = shape3;
    others = others3;
    adds = adds3 w3;
    keeps = λ kept k. record {
      after = with_made (with_row kept) own places;
      keeps = keeps3 kept k;
      explains = subst (λ (x : Caller). Explains (log_of w3) x kept (whats.Append colours text)
          (answers.StampEnd (ended_colour w3 row (members colours))) [] (with_made (with_row kept) own places))
          (sym (caller_same w w3 objects u shape3))
          (refl, refl, (colours, text, (refl, refl), none_for_several places (gone_at_end kept k e)));
    };
  }
