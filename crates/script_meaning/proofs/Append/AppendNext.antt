-- After an append that is made only where nothing has come between there holds what held before.
use Rattle.std.proofs.Common.{◌≡◌, ◌≢◌, inl, inr, ℕ, suc, ◌+◌, ◌<◌, ◌≤◌, List, [], ◌∷◌, ◌++◌, length, take, Some, None, Bool, true, false, cond, refl, ap, sym, subst, ◌∙◌, ◌⊎◌, arith, eq-eqb, length-append}
use Rattle.std.specs.Prelude.{◌==◌, ◌&&◌, ◌||◌, not, nat_lt, slice_get}
use Rattle.std.specs.List.{filter, list_all}
use Rattle.std.proofs.Math.Seq.{take-append_seam}
use Rattle.std.proofs.lemmas.Bool.{and_from, or_cases, eqb-true, ltb-true, lt-ltb, cases_lt}
use Rattle.std.proofs.lemmas.List.{length-map, take_all}
use Rattle.std.proofs.lemmas.List.Elements.{All-cons, All-nil}
use Rattle.log_node.specs.declared.ids.Colours.{Colours}
use Rattle.log_node.specs.declared.ids.Counts.{Counts}
use Rattle.log_node.specs.declared.ids.Id.{Id}
use Rattle.log_node.specs.declared.ids.Key.{Key}
use Rattle.log_node.specs.Order.{key_below}
use Rattle.log_node.specs.Sets.{members, set_of}
use Rattle.log_node.specs.Standings.{Standing, with_entry, is_delivered, line_of}
use Rattle.log_node.specs.Vectors.{at}
use Rattle.log_node.proofs.CallerLemmas.{members-one}
use Rattle.col_core.specs.declared.Entry.{Entry}
use Rattle.col_core.specs.History.{entries, open_count, line, entry_key}
use Rattle.col_core.specs.Keeping.{Kept, kept_after_look}
use Rattle.col_core.proofs.CallerLemmas.{choice, if_true, if_false, apart, not_true, entries-append, In}
use Rattle.world_laws.specs.declared.steps.Step.TheVariants.{Single}
use Rattle.world_laws.specs.Worlds.{World, home_of, after, next_id, may_single, single_stamp, single_entry, after_single, with_client}
use Rattle.world_laws.specs.Laws.{log_of}
use Rattle.world_laws.proofs.CallerLemmas.{at_updated_at, updated_at-here, single_client}
use Rattle.script_text.specs.declared.commands.What.{What}
use Rattle.script_text.specs.declared.commands.What.TheVariants as whats
use Rattle.script_text.specs.declared.script.Command.{Command}
use Rattle.script_text.specs.declared.script.Script.{Script}
use Rattle.report_text.specs.declared.report.Answer.{Answer}
use Rattle.report_text.specs.declared.report.Answer.TheVariants as answers
use Rattle.report_text.specs.declared.report.PointPiece.{PointPiece}
use Rattle.lawful_run.specs.Deeds.{AsksToAppend}
use Rattle.lawful_run.specs.Appends.{IsSoLong, WasNext}
use Rattle.lawful_run.proofs.CallerLemmas.{get_within}
use Rattle.script_meaning.specs.States.{State, all_granted, answered, position_of}
use Rattle.script_meaning.specs.Helping.{open_below, helped_times, all_cleared}
use Rattle.script_meaning.specs.Appends.{point_in}
use Rattle.script_meaning.specs.Guards.{has_moved, appended_next}
use Rattle.script_meaning.proofs.World.Additions.{adds_none, adds_last}
use Rattle.script_meaning.proofs.World.Clearing.{Finished}
use Rattle.script_meaning.proofs.Client.Kept.{caller_in, IsKeptBy, MadeBy, Does}
use Rattle.script_meaning.proofs.Client.Refusing.{did_end_one}
use Rattle.script_meaning.proofs.Object.ObjectAppends.{by_asks}
use Rattle.script_meaning.proofs.Append.AppendOne as one
use Rattle.script_meaning.proofs.Run.FitCommands as fits
use Rattle.script_meaning.proofs.Run.Invariant.{IsStopped, Runs, IsFit, runs_done, free}

-- Entries of which none is open

first_final : (b : Bool) (n : ℕ) → cond b 0 1 + n ≡ 0 → b ≡ true
first_final true n none = refl
first_final false n none = absurd (let f : ⊥ = omega (arith, none) in f)

each_final : (es : List Standing) → open_count es ≡ 0 → (e : Standing) → In e es → e.settled ≡ true
each_final [] none e i = absurd i
each_final (x ∷ xs) none e (inl is) =
    ap (λ (y : Standing). y.settled) (sym is) ∙ first_final x.settled (open_count xs) none
each_final (x ∷ xs) none e (inr i) = each_final xs (omega (arith, none)) e i

all_so : (test : Standing → Bool) (es : List Standing) → ((e : Standing) → In e es → test e ≡ true)
    → list_all test es ≡ true
all_so test [] each = refl
all_so test (e ∷ es) each = and_from (test e) _ (each e (inl refl)) (all_so test es (λ f i. each f (inr i)))

kept_all : (test : Standing → Bool) (es : List Standing) → ((e : Standing) → In e es → test e ≡ true)
    → length (filter test es) ≡ length es
kept_all test [] each = refl
kept_all test (e ∷ es) each =
    ap length (if_true (test e) (e ∷ filter test es) (filter test es) (each e (inl refl)))
    ∙ ap suc (kept_all test es (λ f i. each f (inr i)))

kept_none : (test : Standing → Bool) (es : List Standing) → ((e : Standing) → In e es → test e ≡ false)
    → filter test es ≡ []
kept_none test [] each = refl
kept_none test (e ∷ es) each =
    if_false (test e) (e ∷ filter test es) (filter test es) (each e (inl refl))
    ∙ kept_none test es (λ f i. each f (inr i))

-- they are all in the line
all_lined : (es : List Standing) → open_count es ≡ 0 → length (line_of es) ≡ length es
all_lined es none =
    length-map (filter (is_delivered es) es) (λ (e : Standing). e.key)
    ∙ kept_all (is_delivered es) es (λ e i. and_from e.settled _ (each_final es none e i)
    (all_so (λ (f : Standing). f.settled || key_below e.key f.key) es
    (λ f j. ap (λ (b : Bool). b || key_below e.key f.key) (each_final es none f j))))

length_with : (e : Standing) (es : List Standing) → length (with_entry e es) ≡ suc (length es)
length_with e [] = refl
length_with e (f ∷ fs) =
    choice (λ (l : List Standing). length l ≡ suc (suc (length fs))) (key_below e.key f.key) (e ∷ f ∷ fs)
    (f ∷ with_entry e fs) (λ _. refl) (λ _. ap suc (length_with e fs))

-- one more that is final leaves as many open
count_with : (key : Key) (es : List Standing)
    → open_count (with_entry (record { key = key; settled = true }) es) ≡ open_count es
count_with key [] = refl
count_with key (f ∷ fs) =
    let e : Standing = record { key = key; settled = true } in
    choice (λ (l : List Standing). open_count l ≡ open_count (f ∷ fs)) (key_below key f.key) (e ∷ f ∷ fs)
    (f ∷ with_entry e fs) (λ _. omega arith) (λ _. let h = count_with key fs in omega (arith, h))

-- What was tested

or_false : (a b : Bool) → a || b ≡ false → (a ≡ false) × (b ≡ false)
or_false true b e = absurd (let f : ⊥ = cc in f)
or_false false b e = (refl, e)

not_false : (b : Bool) → not b ≡ false → b ≡ true
not_false true e = refl
not_false false e = absurd (let f : ⊥ = cc in f)

none_below : (n : ℕ) → nat_lt 0 n ≡ false → n ≡ 0
none_below n e = pick (cases_lt 0 n) where
  pick : (0 < n) ⊎ (n ≤ 0) → n ≡ 0
  pick (inl lt) = absurd (apart _ (lt-ltb 0 n lt) e)
  pick (inr le) = omega (arith, le)

module _ (script : Script) (commands : List Command) (state : State) (command : Command)
    (runs : Runs script commands state) (fit : IsFit script commands command) (c : ℕ) (text : List ℕ)
    (asked : command.what ≡ whats.Only c text) (low : c < script.shape.colours) where
  abbrev u : ℕ
  u = command.client

  abbrev w : World
  w = state.world

  abbrev S : ℕ → Type 0
  S = IsStopped commands state.replies

  abbrev commands' : List Command
  commands' = commands ++ command ∷ []

  abbrev own : ℕ
  own = home_of w u

  abbrev h : List Entry
  h = w.histories own c

  abbrev what : What
  what = whats.Only c text

  abbrev set : Colours
  set = set_of (c ∷ [])

  abbrev id : Id
  id = next_id w u

  going : S u → ⊥
  going = free script commands state command runs fit

  its_members : members set ≡ c ∷ []
  its_members = members-one c (let few = fit.few_colours in omega (arith, low, few))

  abbrev As : World → Answer → Type 0
  As x answer = Does script.objects u what w x answer []

  done : (x : World) (answer : Answer) → As x answer → Finished S x
      → Runs script commands' (answered state command x answer [])
  done x answer d fin =
      runs_done script commands state command runs fit x answer []
      (subst (λ (asks : What). Does script.objects u asks w x answer []) (sym asked) d) fin

  -- MOVED ON

  abbrev moved : Answer
  moved = answers.Moved (length (line h)) (open_count (entries h)) c (length h)

  module _ (test : has_moved w u c ≡ true) where
    so_long : (kept : Kept) → IsKeptBy w u kept
        → IsSoLong (log_of w) (caller_in w script.objects u) kept c (length h) (length (line h)) (open_count (entries h))
    so_long kept k = record {
      unseen = k.seen own c;
      there = omega arith;
      lined_is = ap (λ (x : List Entry). length (line x)) (sym (take_all (length h) h (omega arith)));
      waiting_is = ap (λ (x : List Entry). open_count (entries x)) (sym (take_all (length h) h (omega arith)));
    }

    not_next : (kept : Kept) → IsKeptBy w u kept
        → (open_count (entries h) ≢ 0) ⊎ (length (line h) ≢ at (kept.starts c) own)
    not_next kept k = turn (or_cases (nat_lt 0 (open_count (entries h)))
        (not (length (line h) == at ((w.clients u).played c) own)) test) where
          turn : (nat_lt 0 (open_count (entries h)) ≡ true)
              ⊎ (not (length (line h) == at ((w.clients u).played c) own) ≡ true)
              → (open_count (entries h) ≢ 0) ⊎ (length (line h) ≢ at (kept.starts c) own)
          turn (inl t) = inl (λ e. let lt = ltb-true 0 _ t in let f : ⊥ = omega (arith, lt, e) in f)
          turn (inr t) = inr (λ e. apart (length (line h) == at ((w.clients u).played c) own)
              (eq-eqb _ _ (e ∙ ap (λ (f : ℕ → Counts). at (f c) own) k.starts))
              (not_true (length (line h) == at ((w.clients u).played c) own) t))

    looked_keeps : (kept : Kept) → IsKeptBy w u kept → IsKeptBy w u (kept_after_look kept own c (length h))
    looked_keeps kept k = record {
      floor = k.floor;
      starts = k.starts;
      seen = λ r d. at_updated_at (λ (n : ℕ). n ≤ length (w.histories r d)) kept.seen own c (length h) r d
          (λ er ed. subst (λ (n : ℕ). length h ≤ length (w.histories n d)) (sym er)
          (subst (λ (n : ℕ). length h ≤ length (w.histories own n)) (sym ed) (omega arith)))
          (λ _. k.seen r d);
      known = k.known;
      made = k.made;
      ids = k.ids;
      rows = k.rows;
    }

    did_move : As w moved
    did_move = record {
      steps = [];
      run = refl;
      shape = refl;
      others = λ n ne. refl;
      adds = λ r d. adds_none (MadeBy u what w own r) (w.histories r d);
      keeps = λ kept k. record {
        after = kept_after_look kept own c (length h);
        keeps = looked_keeps kept k;
        explains = (refl, text, refl, so_long kept k, not_next kept k, refl);
      };
    }

  -- NO STAMP

  asks : (x : World) (kept : Kept) → AsksToAppend (caller_in x script.objects u) kept what set text
  asks x kept = (its_members, refl)

  did_end : may_single w u c ≡ false → As w (answers.StampEnd c)
  did_end none = record {
    steps = [];
    run = refl;
    shape = refl;
    others = λ n ne. refl;
    adds = λ r d. adds_none (MadeBy u what w own r) (w.histories r d);
    keeps = λ kept k.
        let a = (did_end_one script.objects u c set text w its_members
        (fits.client_ok script commands state command runs fit)
        (fits.column_ok script commands state command runs fit c low) none).keeps kept k in record {
          after = a.after;
          keeps = a.keeps;
          explains = (
            refl,
            refl,
            by_asks (log_of w) (caller_in w script.objects u) kept what set text (asks w kept) _ a.explains.2,
          );
        };
  }

  -- IT STANDS

  module _ (test : has_moved w u c ≡ false) (ok : may_single w u c ≡ true) where
    none_open : open_count (entries h) ≡ 0
    none_open = none_below (open_count (entries h)) (or_false _ _ test).0

    as_played : length (line h) ≡ at ((w.clients u).played c) own
    as_played = eqb-true _ _ (not_false _ (or_false (nat_lt 0 (open_count (entries h))) _ test).1)

    abbrev e : Entry
    e = single_entry w u c

    abbrev key : Key
    key = entry_key (single_stamp w u c) id

    abbrev w1 : World
    w1 = after_single w u c text

    done_is : after w (Single u c text) ≡ w1
    done_is = if_true (may_single w u c) w1 w ok

    history1 : w1.histories own c ≡ h ++ e ∷ []
    history1 = updated_at-here w.histories own c (h ++ e ∷ [])

    entries1 : entries (w1.histories own c) ≡ with_entry (record { key = key; settled = true }) (entries h)
    entries1 = ap entries history1 ∙ entries-append h e

    none1 : open_count (entries (w1.histories own c)) ≡ 0
    none1 = ap open_count entries1 ∙ (count_with key (entries h) ∙ none_open)

    -- there is nothing to clear
    nothing_below : open_below key (w1.histories own c) ≡ []
    nothing_below = kept_none _ (entries (w1.histories own c))
        (λ x i. ap (λ (b : Bool). not b && key_below x.key key) (each_final (entries (w1.histories own c)) none1 x i))

    stays : all_cleared all_granted u key (c ∷ []) w1 ≡ w1
    stays = ap (λ (l : List Standing). (helped_times (length l) all_granted u c key (record { world = w1; helps = 0 })).world)
        nothing_below

    -- so it is one more in the line
    longer : length (line (w1.histories own c)) ≡ suc (length (line h))
    longer = all_lined (entries (w1.histories own c)) none1
        ∙ (ap length entries1 ∙ (length_with _ (entries h) ∙ ap suc (sym (all_lined (entries h) none_open))))

    abbrev position : ℕ
    position = position_of id (line (w1.histories own c))

    position_is : position ≡ length (line h)
    position_is =
        let behind : length (line h) ≤ position =
        subst (λ (x : World). length (line h) ≤ position_of id (line (x.histories own c))) stays
        (one.behind script.objects S all_granted w runs.reached runs.finished u c text going ok) in
        let there = subst (λ (x : World). slice_get (line (x.histories own c)) (position_of id (line (x.histories own c))) ≡ Some key)
        stays (one.stands script.objects S all_granted w runs.reached runs.finished u c text going ok) in
        let within = get_within (line (w1.histories own c)) position key there in
        omega (arith, behind, within, longer)

    abbrev point : PointPiece
    point = point_in w w1 u id c

    abbrev stood : Answer
    stood = answers.Stood (single_stamp w u c) None (point ∷ [])

    was_next : (kept : Kept) → IsKeptBy w u kept → WasNext (log_of w1) (caller_in w1 script.objects u) kept point
    was_next kept k = (
      length h,
      refl,
      record {
        unseen = k.seen own c;
        there = let a = ap length history1 in let b = length-append h (e ∷ []) in omega (arith, a, b);
        lined_is = position_is ∙ ap (λ (x : List Entry). length (line x)) (sym taken);
        waiting_is = sym none_open ∙ ap (λ (x : List Entry). open_count (entries x)) (sym taken);
      },
      position_is ∙ (as_played ∙ ap (λ (f : ℕ → Counts). at (f c) own) (sym k.starts)),
    ) where
      taken : take (length h) (w1.histories own c) ≡ h
      taken = ap (take (length h)) history1 ∙ take-append_seam h (e ∷ [])

    as_append : Does script.objects u (whats.Append set text) w w1 stood []
    as_append =
        subst (λ (x : World). Does script.objects u (whats.Append set text) w x
        (answers.Stood (single_stamp w u c) None (point_in w x u id c ∷ [])) [])
        (one.after_is script.objects S all_granted w runs.reached runs.finished u c text going ok ∙ stays)
        (one.does script.objects S all_granted w runs.reached runs.finished u c text going ok set its_members refl)

    did_stand : As w1 stood
    did_stand = record {
      steps = Single u c text ∷ [];
      run = done_is;
      shape = as_append.shape;
      others = as_append.others;
      adds = adds_last (λ r _. MadeBy u what w1 own r) (with_client w u (single_client w u c)) own c e
          (record { made = refl; help = λ x. absurd x });
      keeps = λ kept k. let a = as_append.keeps kept k in record {
        after = a.after;
        keeps = a.keeps;
        explains = (
          refl,
          inr (refl, All-cons (WasNext (log_of w1) (caller_in w1 script.objects u) kept) point [] (was_next kept k) (All-nil _)),
          by_asks (log_of w1) (caller_in w1 script.objects u) kept what set text (asks w1 kept) _ a.explains.2,
        );
      };
    }

    finished1 : Finished S w1
    finished1 = subst (Finished S) stays
        (one.finished2 script.objects S all_granted w runs.reached runs.finished u c text going ok)

    runs_stood : Runs script commands' (answered state command (after w (Single u c text))
        (answers.Stood (single_stamp w u c) None (point_in w (after w (Single u c text)) u id c ∷ [])) [])
    runs_stood = subst (λ (x : World). Runs script commands' (answered state command x
        (answers.Stood (single_stamp w u c) None (point_in w x u id c ∷ [])) [])) (sym done_is)
        (done w1 stood did_stand finished1)

  pub runs_only : Runs script commands' (appended_next state command c text)
  runs_only =
      let next = after w (Single u c text) in
      let stood : State = answered state command next (answers.Stood (single_stamp w u c) None (point_in w next u id c ∷ [])) [] in
      let ended : State = answered state command w (answers.StampEnd c) [] in
      choice (Runs script commands') (has_moved w u c) (answered state command w moved [])
      (cond (may_single w u c) stood ended)
      (λ test. done w moved (did_move test) runs.finished)
      (λ test. choice (Runs script commands') (may_single w u c) stood ended (λ ok. runs_stood test ok)
      (λ none. done w (answers.StampEnd c) (did_end none) runs.finished))
