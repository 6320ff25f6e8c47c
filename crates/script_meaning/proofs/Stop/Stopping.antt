-- A stop: the first steps of an append to several colours, and no more.
use Rattle.std.proofs.Common.{◌≡◌, ◌≢◌, ◌⊎◌, inl, inr, ℕ, zero, suc, ◌+◌, ◌-◌, ◌<◌, ◌≤◌, List, [], ◌∷◌, ◌++◌, length, map, take, Some, true, false, refl, ap, sym, subst, ◌∙◌, arith}
use Rattle.std.specs.Prelude.{slice_get, slice_index}
use Rattle.std.specs.List.{list_any}
use Rattle.std.proofs.lemmas.Bool.{ltb-true, lt-ltb}
use Rattle.log_node.specs.declared.ids.Id.{Id}
use Rattle.log_node.specs.declared.ids.Row.{Row}
use Rattle.log_node.specs.declared.ids.Colours.{Colours}
use Rattle.log_node.specs.declared.node.Node.{Node}
use Rattle.log_node.specs.declared.node.Shape.{Shape}
use Rattle.log_node.specs.Sets.{members}
use Rattle.log_node.specs.declared.marks.Outcome.TheVariants.{Open}
use Rattle.log_node.specs.Outcomes.{is_missing}
use Rattle.col_core.specs.declared.Event.TheVariants as events
use Rattle.col_core.specs.declared.Event.{Event}
use Rattle.col_core.specs.declared.Entry.{Entry}
use Rattle.col_core.specs.Log.{HasMark}
use Rattle.col_core.specs.Appending.{IsMarked, IsDecided, IsStepWithin}
use Rattle.col_core.specs.Keeping.{Kept, with_made, with_row}
use Rattle.col_core.proofs.CallerLemmas.{apart, In}
use Rattle.world_laws.specs.declared.steps.Step.{Step}
use Rattle.world_laws.specs.declared.steps.Step.TheVariants as steps
use Rattle.world_laws.specs.Worlds.{World, RowState, home_of, after, run_steps, is_begun, row_of, row_history, marks_of, next_id, next_row, may_begin, begun_node, after_begin}
use Rattle.world_laws.specs.Completing.{mark_steps, colours_of, settle_steps, complete_steps}
use Rattle.world_laws.specs.Laws.{IsReached, log_of, begun_row}
use Rattle.world_laws.proofs.CallerLemmas.{in_slice, slice_in, contains_in, status_in, Held, has_colour, is_waiting}
use Rattle.world_laws.proofs.CallerLemmas.{colour_in, in_colours, none_missing, Decides, decide_decides, settle_all}
use Rattle.world_laws.proofs.CallerLemmas.{run_grows, run_held, after_held, run_steps-append}
use Rattle.script_text.specs.declared.script.Object.{Object}
use Rattle.script_text.specs.declared.commands.What.TheVariants as whats
use Rattle.report_text.specs.declared.report.Answer.TheVariants as answers
use Rattle.lawful_run.specs.Callers.{Caller, node_of}
use Rattle.lawful_run.specs.Appends.{IsSettledIn}
use Rattle.lawful_run.specs.Stops.{StopsAfter, Stops, stopped_after}
use Rattle.lawful_run.specs.Explains.{Explains}
use Rattle.lawful_run.proofs.CallerLemmas.{get_within}
use Rattle.script_meaning.specs.States.{Grants}
use Rattle.script_meaning.proofs.World.Rows.{node_id}
use Rattle.script_meaning.proofs.World.Completions.{IsOn, complete_steps_on, settle_at}
use Rattle.script_meaning.proofs.World.Additions.{adds_map, StepIn, From}
use Rattle.script_meaning.proofs.World.Reached.{held_of}
use Rattle.script_meaning.proofs.World.Clearing.{Finished}
use Rattle.script_meaning.proofs.Client.Kept.{caller_in, IsKeptBy, MadeBy, made_own, Does}
use Rattle.script_meaning.proofs.Append.AppendOne.{caller_same}
use Rattle.script_meaning.proofs.Append.BeginRow as begun
use Rattle.script_meaning.proofs.World.Settled.{settled_in}
use Rattle.script_meaning.proofs.Append.AppendSeveral.{Rising, colours_rise}
use Rattle.script_meaning.proofs.Lists.{in_map_back}
use Rattle.script_meaning.proofs.World.Playing.{got_at}
use Rattle.script_meaning.proofs.World.CompletionParts.{MarksColour, AllMissing, IsMarkList, mark_list, marked_first, taken_at, take_past, one_place}

-- Which step stands where

-- at a place of two lists
place_cases : {A : Type 0} (xs ys : List A) (i : ℕ) (x : A) → slice_get (xs ++ ys) i ≡ Some x
    → ((i < length xs) × (slice_get xs i ≡ Some x)) ⊎ ((j : ℕ) × (i ≡ length xs + j) × (slice_get ys j ≡ Some x))
place_cases [] ys i x e = inr (i, omega arith, e)
place_cases (z ∷ xs) ys zero x e = inl (omega arith, e)
place_cases {A} (z ∷ xs) ys (suc i) x e = turn (place_cases xs ys i x e) where
  turn : ((i < length xs) × (slice_get xs i ≡ Some x)) ⊎ ((j : ℕ) × (i ≡ length xs + j) × (slice_get ys j ≡ Some x))
      → ((suc i < suc (length xs)) × (slice_get xs i ≡ Some x))
      ⊎ ((j : ℕ) × (suc i ≡ suc (length xs) + j) × (slice_get ys j ≡ Some x))
  turn (inl p) = let lt = p.0 in inl (omega (arith, lt), p.1)
  turn (inr p) = let e = p.1 in inr (p.0, omega (arith, e), p.2)

-- a proposal among the first so many steps of a completion is that of one of the first colours
proposed_at : (by : ℕ) (row : Row) (cs : List ℕ) (ms : List Step) → IsMarkList cs ms → Rising cs → (n i m c : ℕ)
    → i < n → slice_get (ms ++ steps.Decide row ∷ settle_steps by row cs) i ≡ Some (steps.Propose by row c)
    → slice_get cs m ≡ Some c → m < n
proposed_at by row cs ms list rising n i m c lt e at_m =
    turn (place_cases ms (steps.Decide row ∷ settle_steps by row cs) i (steps.Propose by row c) e) where
      later : (j : ℕ) → slice_get (steps.Decide row ∷ settle_steps by row cs) j ≡ Some (steps.Propose by row c) → ⊥
      later zero f = cc
      later (suc j) f = let x = settle_at by row cs j (steps.Propose by row c) f in let g = x.2 in cc

      turn : ((i < length ms) × (slice_get ms i ≡ Some (steps.Propose by row c)))
          ⊎ ((j : ℕ) × (i ≡ length ms + j)
          × (slice_get (steps.Decide row ∷ settle_steps by row cs) j ≡ Some (steps.Propose by row c))) → m < n
      turn (inr p) = absurd (later p.0 p.2)
      turn (inl p) =
          let less = p.0 in
          let long = list.as_long in
          let d = got_at cs i (omega (arith, less, long)) in
          let x = list.each i d.0 d.1 in
          let same : Some x.0 ≡ Some (steps.Propose by row c) = sym x.1 ∙ p.1 in
          let is : x.0 ≡ steps.Propose by row c = cc in
          let colour : c ≡ d.0 = subst (MarksColour d.0) is x.2 in
          let place : m ≡ i = one_place cs rising m i c at_m (d.1 ∙ ap Some (sym colour)) in
          omega (arith, place, lt)

-- a settling among them is that of one of the first colours
settled_at : (by : ℕ) (row : Row) (cs : List ℕ) (ms : List Step) → IsMarkList cs ms → Rising cs → (n i m c : ℕ)
    → i < n → slice_get (ms ++ steps.Decide row ∷ settle_steps by row cs) i ≡ Some (steps.Settle by row c)
    → slice_get cs m ≡ Some c → m + length cs + 1 < n
settled_at by row cs ms list rising n i m c lt e at_m =
    turn (place_cases ms (steps.Decide row ∷ settle_steps by row cs) i (steps.Settle by row c) e) where
      later : (j : ℕ) → i ≡ length ms + j
          → slice_get (steps.Decide row ∷ settle_steps by row cs) j ≡ Some (steps.Settle by row c)
          → m + length cs + 1 < n
      later zero q f = absurd (let x : ⊥ = cc in x)
      later (suc j) q f =
          let x = settle_at by row cs j (steps.Settle by row c) f in
          let same = x.2 in
          let colour : c ≡ x.0 = cc in
          let place : m ≡ j = one_place cs rising m j c at_m (x.1 ∙ ap Some (sym colour)) in
          let long = list.as_long in
          omega (arith, place, lt, q, long)

      turn : ((i < length ms) × (slice_get ms i ≡ Some (steps.Settle by row c)))
          ⊎ ((j : ℕ) × (i ≡ length ms + j)
          × (slice_get (steps.Decide row ∷ settle_steps by row cs) j ≡ Some (steps.Settle by row c)))
          → m + length cs + 1 < n
      turn (inr p) = later p.0 p.1 p.2
      turn (inl p) =
          let less = p.0 in
          let long = list.as_long in
          let d = got_at cs i (omega (arith, less, long)) in
          let x = list.each i d.0 d.1 in
          let same : Some x.0 ≡ Some (steps.Settle by row c) = sym x.1 ∙ p.1 in
          let is : x.0 ≡ steps.Settle by row c = cc in
          absurd (subst (MarksColour d.0) is x.2)

module _ (objects : List Object) (S : ℕ → Type 0) (grants : Grants) (w : World) (reached : IsReached w)
    (fin : Finished S w)
    (u : ℕ) (colours : Colours) (text : List ℕ) (ok : may_begin w u colours ≡ true) (n : ℕ) where
  abbrev own : ℕ
  own = home_of w u

  abbrev id : Id
  id = next_id w u

  abbrev row : Row
  row = next_row w u

  abbrev w1 : World
  w1 = after_begin w u colours text

  abbrev L : List Step
  L = take n (complete_steps w1 u row grants.marks)

  abbrev w3 : World
  w3 = run_steps w1 L

  on : (s : Step) → In s L → IsOn u row s
  on s i =
      let x = in_slice L s i in
      complete_steps_on w1 u row grants.marks s
      (slice_in (complete_steps w1 u row grants.marks) x.0 s (taken_at n
      (complete_steps w1 u row grants.marks) x.0 s x.1).1)

  reached1 : IsReached w1
  reached1 = begun.reached1 objects w reached u colours text ok L on

  reached3 : IsReached w3
  reached3 = begun.reached3 objects w reached u colours text ok L on

  begun1 : is_begun w1 row ≡ true
  begun1 = begun.begun1 objects w reached u colours text ok L on

  begun3 : is_begun w3 row ≡ true
  begun3 = begun.begun3 objects w reached u colours text ok L on

  node1 : (row_of w1 row).node ≡ begun_node w u colours text
  node1 = begun.node1 objects w reached u colours text ok L on

  node3 : (row_of w3 row).node ≡ begun_node w u colours text
  node3 = begun.node3 objects w reached u colours text ok L on

  shape3 : w3.shape ≡ w.shape
  shape3 = begun.shape3 objects w reached u colours text ok L on

  abbrev cs : List ℕ
  cs = members colours

  colours1 : colours_of w1 row ≡ cs
  colours1 = ap (λ (x : Node). members x.colours) node1

  -- the steps of the whole append
  abbrev ms : List Step
  ms = mark_steps w1 u row grants.marks cs

  abbrev all : List Step
  all = ms ++ steps.Decide row ∷ settle_steps u row cs

  all_is : complete_steps w1 u row grants.marks ≡ all
  all_is = ap (λ (l : List ℕ). mark_steps w1 u row grants.marks l ++ steps.Decide row ∷ settle_steps u row l) colours1

  rising : Rising cs
  rising = colours_rise colours

  missing : AllMissing w1 row cs
  missing c i = ap is_missing (begun.marks1 objects w reached u colours text ok L on c)

  list : IsMarkList cs ms
  list = mark_list w1 u row grants.marks cs rising missing

  sub : (c : ℕ) → has_colour cs c ≡ true → has_colour (colours_of w1 row) c ≡ true
  sub c i = subst (λ (l : List ℕ). has_colour l c ≡ true) (sym colours1) i

  run_is : w3 ≡ run_steps w1 (take n all)
  run_is = ap (λ (l : List Step). run_steps w1 (take n l)) all_is

  marked : (m c : ℕ) → slice_get cs m ≡ Some c → m < n → is_missing ((row_of w3 row).marks c) ≡ false
  marked m c e lt =
      subst (λ (x : World). is_missing ((row_of x row).marks c) ≡ false) (sym run_is)
      (marked_first w1 u row grants.marks cs
      (steps.Decide row ∷ settle_steps u row cs) n begun1 sub rising missing m c e lt)

  -- where the decision is among the steps
  module _ (j : ℕ) (n_is : n ≡ length cs + suc j) where
    abbrev w2 : World
    w2 = run_steps w1 ms

    abbrev wd : World
    wd = after w2 (steps.Decide row)

    steps_are : take n all ≡ ms ++ steps.Decide row ∷ take j (settle_steps u row cs)
    steps_are =
        let long = list.as_long in
        let e : n ≡ length ms + suc j = omega (arith, n_is, long) in
        ap (λ (k : ℕ). take k all) e ∙ take_past ms (steps.Decide row ∷ settle_steps u row cs) (suc j)

    settles_are : (k : ℕ) (l : List ℕ) → take k (settle_steps u row l) ≡ settle_steps u row (take k l)
    settles_are zero l = refl
    settles_are (suc k) [] = refl
    settles_are (suc k) (c ∷ l) = ap (λ (x : List Step). steps.Settle u row c ∷ x) (settles_are k l)

    w3_is : w3 ≡ run_steps wd (settle_steps u row (take j cs))
    w3_is = run_is ∙ (ap (run_steps w1) steps_are
        ∙ (run_steps-append w1 ms (steps.Decide row ∷ take j (settle_steps u row cs))
        ∙ ap (run_steps wd) (settles_are j cs)))

    begun2 : is_begun w2 row ≡ true
    begun2 = lt-ltb _ _ ((run_grows w1 ms).used row.client row.number (ltb-true _ _ begun1))

    node2 : (row_of w2 row).node ≡ begun_node w u colours text
    node2 = ((run_grows w1 ms).rows row.client row.number (ltb-true _ _ begun1)).node ∙ node1

    set2 : list_any is_missing (marks_of (row_of w2 row)) ≡ false
    set2 =
        subst (λ (l : List ℕ). list_any is_missing (map (row_of w2 row).marks l) ≡ false)
        (sym (ap (λ (x : Node). members x.colours) node2))
        (none_missing (row_of w2 row).marks cs (λ c has.
        let p = in_slice cs c (colour_in cs c has) in
        let lt = get_within cs p.0 c p.1 in
        let long = list.as_long in
        subst (λ (l : List Step). is_missing ((row_of (run_steps w1 l) row).marks c) ≡ false)
        (ap (λ (k : ℕ). take k (ms ++ [])) (sym long) ∙ take_whole ms)
        (marked_first w1 u row grants.marks cs [] (length cs) begun1 sub rising missing p.0 c p.1 lt))) where
          take_whole : (xs : List Step) → take (length xs) (xs ++ []) ≡ xs
          take_whole [] = refl
          take_whole (x ∷ xs) = ap (λ (l : List Step). x ∷ l) (take_whole xs)

    decides : Decides w2 wd row
    decides = decide_decides w2 row begun2 set2

    held_d : Held wd
    held_d = after_held w2 (run_held w1 (held_of w1 reached1) ms) (steps.Decide row)

    decided3 : (row_of w3 row).last ≢ Open
    decided3 e =
        let s = settle_all wd held_d u row (take j cs) decides.begun decides.decided in
        decides.decided (sym (ap (λ (r : RowState). r.last) s.rows)
        ∙ subst (λ (x : World). (row_of x row).last ≡ Open) w3_is e)

    not_waiting : (m c : ℕ) → slice_get cs m ≡ Some c → m < j → is_waiting (status_in (w3.histories own c) id) ≡ false
    not_waiting m c e lt =
        let s = settle_all wd held_d u row (take j cs) decides.begun decides.decided in
        let has : has_colour (take j cs) c ≡ true =
        in_colours (take j cs) c (slice_in (take j cs) m c (get_taken j cs m c lt e)) in
        let x = s.none c has in
        let y : is_waiting (status_in (row_history w3 row c) (node_id w3 row)) ≡ false =
        subst (λ (x : World). is_waiting (status_in (row_history x row c) (node_id x row)) ≡ false) (sym w3_is) x in
        subst (λ (i : Id). is_waiting (status_in (w3.histories own c) i) ≡ false) (ap (λ (x : Node). x.id) node3)
        (subst (λ (s : Shape). is_waiting (status_in (w3.histories (slice_index s.homes u) c) (node_id w3 row)) ≡ false)
        shape3 y) where
          get_taken : (k : ℕ) (l : List ℕ) (i d : ℕ) → i < k → slice_get l i ≡ Some d → slice_get (take k l) i ≡ Some d
          get_taken zero l i d less f = absurd (let x : ⊥ = omega (arith, less) in x)
          get_taken (suc k) [] i d less f = f
          get_taken (suc k) (z ∷ l) zero d less f = f
          get_taken (suc k) (z ∷ l) (suc i) d less f = get_taken k l i d (omega (arith, less)) f

  abbrev places : ℕ → List ℕ
  places = begun.places objects w reached u colours text ok L on

  module _ (kept : Kept) (k : IsKeptBy w u kept) where
    abbrev caller : Caller
    caller = caller_in w objects u

    abbrev node : Node
    node = node_of caller kept colours text

    id_is : id ≡ node.id
    id_is = begun.id_is objects w reached u colours text ok L on kept k

    has_mark : (c : ℕ) → In c cs → HasMark (log_of w3) node c ((row_of w3 row).marks c)
    has_mark c i = (
      begun_row w3 row,
      begun.of_row objects w reached u colours text ok L on kept k,
      contains_in _ _ (in_map_back (λ (d : ℕ). record { colour = d; mark = (row_of w3 row).marks d })
          (colours_of w3 row) c
          (subst (λ (l : List ℕ). In c l) (sym (ap (λ (x : Node). members x.colours) node3)) i)),
    )

    is_marked : (m c : ℕ) → slice_get cs m ≡ Some c → m + 1 < n + 1 → IsMarked (log_of w3) node c
    is_marked m c e lt = (
      (row_of w3 row).marks c,
      (λ none. apart (is_missing ((row_of w3 row).marks c)) (ap is_missing none) (marked m c e (omega (arith, lt)))),
      has_mark c (slice_in cs m c e),
    )

    split : (length cs < n) → (j : ℕ) × (n ≡ length cs + suc j)
    split lt = (n - length cs - 1, omega (arith, lt))

    is_decided : length cs + 2 ≤ n + 1 → IsDecided (log_of w3) node
    is_decided le =
        let j = split (omega (arith, le)) in (
          (row_of w3 row).last,
          decided3 j.0 j.1,
          (begun_row w3 row, begun.of_row objects w reached u colours text ok L on kept k, refl),
        )

    is_settled : (m c : ℕ) → slice_get cs m ≡ Some c → m + length cs + 2 < n + 1
        → IsSettledIn (log_of w3) caller node c
    is_settled m c e lt =
        let j = split (omega (arith, lt)) in
        let j_is = j.1 in
        let none = subst (λ (i : Id). is_waiting (status_in (w3.histories own c) i) ≡ false) id_is
        (not_waiting j.0 j.1 m c e (omega (arith, lt, j_is))) in
        settled_in w3 reached3 row begun3 caller (ap (λ (x : Shape). slice_index x.homes u) shape3) node
        (ap (λ (x : Node). x.id) node3 ∙ id_is) c (has_mark c (slice_in cs m c e))
        (marked m c e (omega (arith, lt))) none

    step_within : (m c : ℕ) → slice_get cs m ≡ Some c → (ev : Event) → From u row L c ev
        → IsStepWithin m (length cs) (n + 1) ev
    step_within m c e (events.Single other floor wants) f = f
    step_within m c e (events.Propose other floor wants) f =
        let x = in_slice L (steps.Propose u row c) f in
        let t = taken_at n (complete_steps w1 u row grants.marks) x.0 (steps.Propose u row c) x.1 in
        let lt = proposed_at u row cs ms list rising n x.0 m c t.0
        (ap (λ (l : List Step). slice_get l x.0) (sym all_is) ∙ t.1) e in
        omega (arith, lt)
    step_within m c e (events.Settle other outcome) f =
        let x = in_slice L (steps.Settle u row c) f in
        let t = taken_at n (complete_steps w1 u row grants.marks) x.0 (steps.Settle u row c) x.1 in
        let lt = settled_at u row cs ms list rising n x.0 m c t.0
        (ap (λ (l : List Step). slice_get l x.0) (sym all_is) ∙ t.1) e in
        omega (arith, lt)
    step_within m c e (events.Raise to) f = f
    step_within m c e (events.Give region from) f = f
    step_within m c e (events.Carry region start heads) f = f
    step_within m c e (events.Trim counts) f = f

    stops : StopsAfter (log_of w3) caller kept node (n + 1) places
    stops = record {
      begins = begun.begins objects w reached u colours text ok L on kept k;
      marked = is_marked;
      decided = is_decided;
      settled = is_settled;
      no_later = λ m c e. begun.place_facts objects w reached u colours text ok L on
          (λ place. (x : Entry) × (slice_get (w3.histories own c) place ≡ Some x)
          × IsStepWithin m (length cs) (n + 1) x.event) c
          (λ i x at_i s. (x, at_i, step_within m c e x.event s.from));
    }

  pub does_stop : Does objects u (whats.Stop (suc n) colours text) w w3 (answers.Stopped (suc n)) []
  does_stop = record {
    steps = steps.Begin u colours text ∷ L;
    run = begun.steps_run objects w reached u colours text ok L on;
    shape = shape3;
    others = begun.others3 objects w reached u colours text ok L on;
    adds = λ r c. adds_map (StepIn own u id row L r c) (MadeBy u (whats.Stop (suc n) colours text) w3 own r)
        (w.histories r c) (w3.histories r c)
        (λ e s. made_own u (whats.Stop (suc n) colours text) w3 own r id refl e s.made s.of)
        ((begun.on3 objects w reached u colours text ok L on).adds r c);
    keeps = λ kept k. record {
      after = with_made (with_row kept) own places;
      keeps = begun.keeps3 objects w reached u colours text ok L on kept k;
      explains = subst (λ (x : Caller). Explains (log_of w3) x kept (whats.Stop (suc n) colours text)
          (answers.Stopped (suc n)) [] (with_made (with_row kept) own places)) (sym (caller_same w w3 objects u shape3))
          (refl, colours, text, refl, same_steps kept k);
    };
  } where
    same_steps : (kept : Kept) (k : IsKeptBy w u kept)
        → Stops (log_of w3) (caller_in w objects u) kept (node_of (caller_in w objects u) kept colours text) (suc n)
        (with_made (with_row kept) own places)
    same_steps kept k =
        let e : n + 1 ≡ suc n = omega arith in
        subst (λ (m : ℕ). Stops (log_of w3) (caller_in w objects u) kept
        (node_of (caller_in w objects u) kept colours text) m
        (with_made (with_row kept) own places)) e (stopped_after n places (stops kept k))

  pub finished_stop : Finished (λ m. S m ⊎ (m ≡ u)) w3
  finished_stop = begun.finished_open objects w reached u colours text ok L on S fin
