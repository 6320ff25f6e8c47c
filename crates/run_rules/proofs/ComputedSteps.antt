-- The steps that are computed of a report are those of each account at which the first rules hold.
use Rattle.std.proofs.Common.{◌≡◌, ◌∙◌, refl, ap, sym, subst, Bool, true, false, ℕ, suc, ◌+◌, ◌<◌, ◌≤◌, List, [], ◌∷◌, ◌++◌, map, Option, Some, None, ◌⊎◌, inl, inr, arith, append_assoc}
use Rattle.std.specs.Prelude.{◌==◌, ◌&&◌, not, nat_le, nat_lt, IsTrue, slice_get}
use Rattle.std.specs.List.{All, AllZip, filter}
use Rattle.std.proofs.lemmas.Bool.{and_from, and_left, and_right, eqb-true, eq-eqb, false_from_ne_true, not_from_true, not_from_false, lt-ltb, le-leb, le-ltb, lt-leb, or_cases}
use Rattle.std.proofs.lemmas.List.Elements.{All-head, All-tail}
use Rattle.log_node.specs.declared.forms.Version.{Version}
use Rattle.log_node.specs.declared.ids.Id.{Id}
use Rattle.log_node.specs.Order.{same_id}
use Rattle.col_core.specs.declared.Event as events
use Rattle.col_core.specs.declared.Event.TheVariants.{Single, Propose, Settle, Raise, Give, Carry, Trim}
use Rattle.col_core.specs.declared.Entry.{Entry}
use Rattle.col_core.specs.Ids.{IsStepOf}
use Rattle.col_core.specs.Log.{Log, places_of}
use Rattle.col_core.specs.Keeping.{Kept, seen_past}
use Rattle.col_core.proofs.CallerLemmas.{In, any_in, in_append, in_left, in_right, same_id-refl, same_id-true}
use Rattle.script_text.specs.declared.commands.What.{What}
use Rattle.script_text.specs.declared.commands.What.TheVariants as whats
use Rattle.script_text.specs.declared.script.Script.{Script}
use Rattle.script_text.specs.Fitting.{IsFitting, IsWithin}
use Rattle.report_text.specs.declared.report.Answer.{Answer}
use Rattle.report_text.specs.declared.report.Answer.TheVariants as answers
use Rattle.lawful_run.specs.Callers.{Caller, caller_of}
use Rattle.lawful_run.specs.Columns.{row_report}
use Rattle.lawful_run.specs.Reads.{events_until}
use Rattle.lawful_run.proofs.CallerLemmas.{before_is}
use Rattle.run_rules.specs.Told.{AreKeysFound, Untold, Step, Follow, is_several, kept_at, kept_past}
use Rattle.run_rules.specs.Printed.{only_at, printed, printed_at}
use Rattle.run_rules.specs.Telling.{is_step_of, is_step_at, is_among, step_places, low_told, FindKeys, step_finding, steps_finding, last_finding}
use Rattle.run_rules.specs.Naming.{GivesTo}
use Rattle.run_rules.specs.Shown.{begins_row}
use Rattle.run_rules.specs.Agreeing.{HasColumn, KeepSame, AreStepsAlike, IsPulled, began_row}
use Rattle.run_rules.proofs.Lists.{filter_stretch}
use Rattle.run_rules.proofs.Places.{Climbs, Once, climbs_apart, climbs_behind, once_apart, once_behind, places_climb, places_once, seen_below, seen_made}
use Rattle.run_rules.proofs.Growing.{row_part, low_part, step_part, steps_part, one_where, step_grows, follow_grows}
use Rattle.run_rules.proofs.SameKept.{before_same}
use Rattle.run_rules.proofs.SameKept.{behind_same as behind_kept}
use Rattle.run_rules.proofs.ToldAlike.{told_same}
use Rattle.run_rules.proofs.OneAccount.{pull_asked, pulled_part}
use Rattle.run_rules.proofs.LeftOut.{IsLeftOut, Obeys, StandsLeftOut, by_parts, ids_at, in_row, low_gives, no_give, no_low, not_later, one_id, own_part, parts_in, printed_by, row_step, same_entry}

-- THE TESTS

step_is : (id : Id) (event : events.Event) → is_step_of id event ≡ true → IsStepOf id event
step_is id (Propose other floor wants) t = sym (same_id-true id other t)
step_is id (Settle other outcome) t = sym (same_id-true id other t)
step_is id (Single other floor wants) t = absurd (let f : ⊥ = cc (t) in f)
step_is id (Raise to) t = absurd (let f : ⊥ = cc (t) in f)
step_is id (Give region from) t = absurd (let f : ⊥ = cc (t) in f)
step_is id (Carry region start heads) t = absurd (let f : ⊥ = cc (t) in f)
step_is id (Trim counts) t = absurd (let f : ⊥ = cc (t) in f)

is_step : (id : Id) (event : events.Event) → IsStepOf id event → is_step_of id event ≡ true
is_step id (Propose other floor wants) s = ap (same_id id) s ∙ same_id-refl id
is_step id (Settle other outcome) s = ap (same_id id) s ∙ same_id-refl id
is_step id (Single other floor wants) s = absurd s
is_step id (Raise to) s = absurd s
is_step id (Give region from) s = absurd s
is_step id (Carry region start heads) s = absurd s
is_step id (Trim counts) s = absurd s

pub among_in : (place : ℕ) (places : List ℕ) → is_among place places ≡ true → In place places
among_in place [] t = absurd (let f : ⊥ = cc (t) in f)
among_in place (p ∷ ps) t = turn (or_cases (p == place) (is_among place ps) t) (among_in place ps) where
  turn : ((p == place) ≡ true) ⊎ (is_among place ps ≡ true) → (is_among place ps ≡ true → In place ps) → In place (p ∷ ps)
  turn (inl e) more = inl (eqb-true p place e)
  turn (inr e) more = inr (more e)

-- a place is shown, or no step of the id stands there
abbrev NoStep : List Entry → List ℕ → Id → ℕ → Type 0
NoStep history shown id p =
    In p shown ⊎ ((e : Entry) → slice_get history p ≡ Some e → IsStepOf id e.event → ⊥)

module _ (id : Id) (shown : List ℕ) (history : List Entry) where
  abbrev test : ℕ → Bool
  test p = is_step_at id (slice_get history p) && not (is_among p shown)

  not_taken : (p : ℕ) → NoStep history shown id p → test p ≡ false
  not_taken p (inl i) =
      and_right (is_step_at id (slice_get history p)) (not (is_among p shown))
      (not_from_true (is_among p shown) (any_in (λ (q : ℕ). q == p) shown p i (eq-eqb p p refl)))
  not_taken p (inr none) =
      and_left (is_step_at id (slice_get history p)) (not (is_among p shown)) (at (slice_get history p) refl) where
        at : (there : Option Entry) → slice_get history p ≡ there → is_step_at id there ≡ false
        at None e = refl
        at (Some x) e = false_from_ne_true (is_step_of id x.event) (λ t. none x e (step_is id x.event t))

  taken : (p : ℕ) (e : Entry) → slice_get history p ≡ Some e → IsStepOf id e.event → (In p shown → ⊥) → test p ≡ true
  taken p e there step none =
      and_from (is_step_at id (slice_get history p)) (not (is_among p shown))
      (ap (is_step_at id) there ∙ is_step id e.event step)
      (not_from_false (is_among p shown) (false_from_ne_true (is_among p shown) (λ t. none (among_in p shown t))))

-- GIVES

-- those before a give, behind all that was made before
low_stretch : (several : Bool) (kept : Kept) (untold : Untold) (answer : Answer) → IsPulled answer
    → (log : Log) (caller : Caller) (region colour : ℕ) (rest : List ℕ)
    → Climbs (kept.made region colour
    ++ ((row_part (begins_row several answer) caller.own untold.places region colour
    ++ (low_part untold answer (whats.Pull region colour) region colour
    ++ printed caller.own answer (whats.Pull region colour) region colour)) ++ rest))
    → places_of caller.client (log.histories region colour) ≡ kept.made region colour
    ++ ((row_part (begins_row several answer) caller.own untold.places region colour
    ++ (low_part untold answer (whats.Pull region colour) region colour
    ++ printed caller.own answer (whats.Pull region colour) region colour)) ++ rest)
    → untold.too_low ≡ low_told log caller kept (whats.Pull region colour) answer
low_stretch several kept untold (answers.Pulled count give carry) p log caller region colour rest climbs whole =
    sym (ap (filter low) (whole ∙ ap (λ (l : List ℕ). before ++ l) part)
    ∙ filter_stretch low before untold.too_low behind too_early between too_late) where
      before : List ℕ
      before = kept.made region colour

      behind : List ℕ
      behind = events_until give ∷ (printed_at caller.own colour carry region colour ++ rest)

      part : (only_at region colour untold.too_low region colour
          ++ (only_at region colour (events_until give ∷ []) region colour
          ++ printed_at caller.own colour carry region colour)) ++ rest ≡ untold.too_low ++ behind
      part = pulled_part caller.own region colour give carry untold.too_low rest

      low : ℕ → Bool
      low q = nat_le (seen_past 0 before) q && nat_lt q (events_until give)

      in_turn : Climbs (before ++ (untold.too_low ++ behind))
      in_turn = subst Climbs (ap (λ (l : List ℕ). before ++ l) part) climbs

      too_early : (q : ℕ) → In q before → low q ≡ false
      too_early q i =
          and_left (nat_le (seen_past 0 before) q) (nat_lt q (events_until give))
          (lt-leb (seen_past 0 before) q (seen_made before 0 q i))

      between : (q : ℕ) → In q untold.too_low → low q ≡ true
      between q i =
          and_from (nat_le (seen_past 0 before) q) (nat_lt q (events_until give))
          (le-leb (seen_past 0 before) q (seen_below before 0 q (omega arith)
          (λ x j. climbs_apart before (untold.too_low ++ behind) x q in_turn j (in_left q untold.too_low behind i))))
          (lt-ltb q (events_until give)
          (climbs_apart untold.too_low behind q (events_until give)
          (climbs_behind before (untold.too_low ++ behind) in_turn) i (inl refl)))

      not_before : (q : ℕ) → (events_until give ≡ q) ⊎ In q (printed_at caller.own colour carry region colour ++ rest)
          → events_until give ≤ q
      not_before q (inl e) = omega (arith, e)
      not_before q (inr i) =
          let l = (climbs_behind untold.too_low behind (climbs_behind before (untold.too_low ++ behind) in_turn)).0 q i in
          omega (arith, l)

      too_late : (q : ℕ) → In q behind → low q ≡ false
      too_late q i =
          and_right (nat_le (seen_past 0 before) q) (nat_lt q (events_until give))
          (le-ltb q (events_until give) (not_before q i))
low_stretch several kept untold _ p log caller region colour rest climbs whole = absurd p

-- STEPS

kept_made : (s : Step) (r c : ℕ) → (kept_at s).made r c ≡ s.kept.made r c
kept_made s r c = before_is (λ (k : Kept). k.made r c ≡ s.kept.made r c) s.command.what s.kept refl (λ object. refl)

module _ (script : Script) (fits : IsFitting script) (n : ℕ)
    (home : (caller_of script n).own < script.shape.regions) (one two : Log)
    (histories : (r c : ℕ) → HasColumn script r c → one.histories r c ≡ two.histories r c)
    (rows : map (row_report (caller_of script n).own) (one.rows (caller_of script n).own)
    ≡ map (row_report (caller_of script n).own) (two.rows (caller_of script n).own))
    (shown : ℕ → ℕ → List ℕ) (last : Kept)
    (whole : (r c : ℕ) → HasColumn script r c → places_of n (one.histories r c) ≡ last.made r c) where
  abbrev who : Caller
  who = caller_of script n

  abbrev id_of : ℕ → Id
  id_of count = record { client = n; count = count }

  -- no step of an id from this one on stands there, but where it is shown
  abbrev NoStepFrom : ℕ → ℕ → ℕ → ℕ → Type 0
  NoStepFrom ids r c p = (m : ℕ) → ids ≤ m → NoStep (one.histories r c) (shown r c) (id_of m) p

  -- what is known of a client behind some of its steps: no step of a later id stands where it made an event, but where it is shown
  abbrev MadeBefore : Kept → Type 0
  MadeBefore kept = (r c p : ℕ) → HasColumn script r c → In p (kept.made r c) → NoStepFrom kept.ids r c p

  -- and of those to come: what they print is shown, and what is shown is made or they print it
  abbrev AreShown : Kept → List Step → Type 0
  AreShown kept xs = (r c p : ℕ) → HasColumn script r c
      → (In p (printed_by who xs r c) → In p (shown r c)) × (In p (shown r c) → In p (kept.made r c) ⊎ In p (printed_by who xs r c))

  -- all places of a column, by what was made before and by what these steps add
  places_are : (kept : Kept) (xs : List Step) → Follow one who kept xs last → (r c : ℕ) → HasColumn script r c
      → places_of n (one.histories r c) ≡ kept.made r c ++ steps_part who xs r c
  places_are kept xs follow r c has = whole r c has ∙ follow_grows one who kept xs last follow r c

  -- one step, behind which others come
  module _ (x : Step) (xs : List Step) (kept : Kept) (o : Obeys script one who x) (os : All (Obeys script one who) xs)
      (follow : Follow one who kept (x ∷ xs) last) (made : MadeBefore kept) (are : AreShown kept (x ∷ xs)) where
    abbrev past : Kept
    past = kept_past one who x

    abbrev row_of_step : ℕ → ℕ → List ℕ
    row_of_step r c = row_part (began_row who x) who.own x.untold.places r c

    abbrev low_of_step : ℕ → ℕ → List ℕ
    low_of_step r c = low_part x.untold x.reply.answer x.command.what r c

    abbrev shown_of_step : ℕ → ℕ → List ℕ
    shown_of_step r c = printed who.own x.reply.answer x.command.what r c

    its_ids : (kept_at x).ids ≡ kept.ids
    its_ids = ids_at x ∙ ap (λ (k : Kept). k.ids) follow.0

    ids_rise : kept.ids + one_where (began_row who x) ≤ past.ids
    ids_rise = let g = (step_grows one who x).ids in let k = ap (λ (k : Kept). k.ids) follow.0 in omega (arith, g, k)

    past_made : (r c : ℕ) → past.made r c ≡ kept.made r c ++ step_part who x r c
    past_made r c =
        (step_grows one who x).made r c ∙ ap (λ (k : Kept). k.made r c ++ step_part who x r c) follow.0

    -- what the step leaves out is no step of a later id
    none_of_row : (r c p : ℕ) → In p (row_of_step r c) → NoStepFrom past.ids r c p
    none_of_row r c p i m le = inr none where
      none : (e : Entry) → slice_get (one.histories r c) p ≡ Some e → IsStepOf (id_of m) e.event → ⊥
      none e there s =
          let b = in_row (began_row who x) who.own x.untold.places r c p i in
          let h = row_step one who x o.names b.0 c p b.2 in
          let same = same_entry (one.histories who.own c) p h.1.0 e h.1.1
          (ap (λ (k : ℕ). slice_get (one.histories k c) p) (sym b.1) ∙ there) in
          let ids = ap (λ (d : Id). d.count) (one_id (id_of (kept_at x).ids) (id_of m) e.event
          (subst (λ (d : Entry). IsStepOf (id_of (kept_at x).ids) d.event) same h.1.3) s) in
          let k = its_ids in
          let g = ids_rise in
          let w = ap one_where b.0 in
          omega (arith, ids, k, g, w, le)

    none_of_low : (r c p : ℕ) → In p (low_of_step r c) → NoStepFrom past.ids r c p
    none_of_low r c p i m le = inr (λ e there s.
        let g = low_gives one x.untold who (kept_at x) x.command.what x.reply.answer r c p o.names i in
        no_give (id_of m) who.own e.event s
        (subst (λ (d : Entry). GivesTo who.own d.event) (same_entry (one.histories r c) p g.0 e g.1 there) g.2))

    past_before : MadeBefore past
    past_before r c p has i =
        turn (in_append p (kept.made r c) (step_part who x r c) (subst (In p) (past_made r c) i)) where
          behind : In p (low_of_step r c) ⊎ In p (shown_of_step r c) → NoStepFrom past.ids r c p
          behind (inl j) = none_of_low r c p j
          behind (inr j) = λ m le.
              inl ((are r c p has).0 (in_left p (shown_of_step r c) (printed_by who xs r c) j))

          here : In p (row_of_step r c) ⊎ In p (low_of_step r c ++ shown_of_step r c) → NoStepFrom past.ids r c p
          here (inl j) = none_of_row r c p j
          here (inr j) = behind (in_append p (low_of_step r c) (shown_of_step r c) j)

          turn : In p (kept.made r c) ⊎ In p (step_part who x r c) → NoStepFrom past.ids r c p
          turn (inl j) = λ m le. let g = ids_rise in made r c p has j m (omega (arith, g, le))
          turn (inr j) = here (in_append p (row_of_step r c) (low_of_step r c ++ shown_of_step r c) j)

    past_shown : AreShown past xs
    past_shown r c p has = (
      λ i. (are r c p has).0 (in_right p (shown_of_step r c) (printed_by who xs r c) i),
      λ i. turn ((are r c p has).1 i),
    ) where
      is_made : In p (kept.made r c) ⊎ In p (step_part who x r c) → In p (past.made r c)
      is_made (inl j) = subst (In p) (sym (past_made r c)) (in_left p (kept.made r c) (step_part who x r c) j)
      is_made (inr j) = subst (In p) (sym (past_made r c)) (in_right p (kept.made r c) (step_part who x r c) j)

      split : In p (shown_of_step r c) ⊎ In p (printed_by who xs r c) → In p (past.made r c) ⊎ In p (printed_by who xs r c)
      split (inl j) =
          inl (is_made (inr (in_right p (row_of_step r c) (low_of_step r c ++ shown_of_step r c)
          (in_right p (low_of_step r c) (shown_of_step r c) j))))
      split (inr j) = inr j

      turn : In p (kept.made r c) ⊎ In p (printed_by who (x ∷ xs) r c) → In p (past.made r c) ⊎ In p (printed_by who xs r c)
      turn (inl j) = inl (is_made (inl j))
      turn (inr j) = split (in_append p (shown_of_step r c) (printed_by who xs r c) j)

    -- where a row is begun, its places are those of its id that are not shown
    module _ (begun : began_row who x ≡ true) (c : ℕ) (lt : c < script.shape.colours) where
      abbrev behind_row : List ℕ
      behind_row = (low_of_step who.own c ++ shown_of_step who.own c) ++ steps_part who xs who.own c

      has : HasColumn script who.own c
      has = (home, lt)

      all_places : places_of n (one.histories who.own c) ≡ kept.made who.own c ++ (x.untold.places c ++ behind_row)
      all_places =
          places_are kept (x ∷ xs) follow who.own c has
          ∙ ap (λ (l : List ℕ). kept.made who.own c ++ l)
          (append_assoc (row_of_step who.own c) (low_of_step who.own c ++ shown_of_step who.own c) (steps_part who xs who.own c)
          ∙ ap (λ (l : List ℕ). l ++ behind_row) (own_part (began_row who x) who.own x.untold.places c begun))

      once : Once (kept.made who.own c ++ (x.untold.places c ++ behind_row))
      once = subst Once all_places (places_once 0 n (one.histories who.own c))

      abbrev its : ℕ → Bool
      its = test (id_of (kept_at x).ids) (shown who.own c) (one.histories who.own c)

      not_its : (p : ℕ) → NoStepFrom (kept_at x).ids who.own c p → its p ≡ false
      not_its p none =
          not_taken (id_of (kept_at x).ids) (shown who.own c) (one.histories who.own c) p
          (none (kept_at x).ids (omega arith))

      before : (p : ℕ) → In p (kept.made who.own c) → its p ≡ false
      before p i = not_its p (λ m le. let k = its_ids in made who.own c p has i m (omega (arith, k, le)))

      not_shown : (p : ℕ) → In p (x.untold.places c) → In p (shown who.own c) → ⊥
      not_shown p i j = turn ((are who.own c p has).1 j) where
        rest : Once (x.untold.places c ++ behind_row)
        rest = once_behind (kept.made who.own c) (x.untold.places c ++ behind_row) once

        later : In p (shown_of_step who.own c) ⊎ In p (printed_by who xs who.own c) → In p behind_row
        later (inl k) =
            in_left p (low_of_step who.own c ++ shown_of_step who.own c) (steps_part who xs who.own c)
            (in_right p (low_of_step who.own c) (shown_of_step who.own c) k)
        later (inr k) =
            in_right p (low_of_step who.own c ++ shown_of_step who.own c) (steps_part who xs who.own c)
            (by_parts who xs who.own c p k)

        turn : In p (kept.made who.own c) ⊎ In p (printed_by who (x ∷ xs) who.own c) → ⊥
        turn (inl k) =
            once_apart (kept.made who.own c) (x.untold.places c ++ behind_row) p once k
            (in_left p (x.untold.places c) behind_row i)
        turn (inr k) =
            once_apart (x.untold.places c) behind_row p rest i
            (later (in_append p (shown_of_step who.own c) (printed_by who xs who.own c) k))

      here : (p : ℕ) → In p (x.untold.places c) → its p ≡ true
      here p i =
          let h = row_step one who x o.names begun c p i in
          taken (id_of (kept_at x).ids) (shown who.own c) (one.histories who.own c) p h.1.0 h.1.1 h.1.3 (not_shown p i)

      behind : (p : ℕ) → In p behind_row → its p ≡ false
      behind p i = outer (in_append p (low_of_step who.own c ++ shown_of_step who.own c) (steps_part who xs who.own c) i) where
        is_shown : In p (printed_by who (x ∷ xs) who.own c) → its p ≡ false
        is_shown k = not_its p (λ m le. inl ((are who.own c p has).0 k))

        inner : In p (low_of_step who.own c) ⊎ In p (shown_of_step who.own c) → its p ≡ false
        inner (inl k) = absurd (no_low (is_several who (kept_at x) x.command.what) x.untold x.command.what x.reply.answer
            who.own c p begun k)
        inner (inr k) = is_shown (in_left p (shown_of_step who.own c) (printed_by who xs who.own c) k)

        later : In p (printed_by who xs who.own c) ⊎ StandsLeftOut one who past.ids who.own c p → its p ≡ false
        later (inl k) = is_shown (in_right p (shown_of_step who.own c) (printed_by who xs who.own c) k)
        later (inr s) =
            not_taken (id_of (kept_at x).ids) (shown who.own c) (one.histories who.own c) p
            (inr (λ e there step. let k = its_ids in let g = ids_rise in let w = ap one_where begun in
            not_later n who.own past.ids (kept_at x).ids e.event (omega (arith, k, g, w)) step
            (subst (λ (d : Entry). IsLeftOut n who.own past.ids d.event)
            (same_entry (one.histories who.own c) p s.0 e s.1 there) s.2)))

        outer : In p (low_of_step who.own c ++ shown_of_step who.own c) ⊎ In p (steps_part who xs who.own c) → its p ≡ false
        outer (inl k) = inner (in_append p (low_of_step who.own c) (shown_of_step who.own c) k)
        outer (inr k) = later (parts_in script one who xs os past last follow.1 who.own c p k)

      its_places : step_places n (id_of (kept_at x).ids) (shown who.own c) (one.histories who.own c) ≡ x.untold.places c
      its_places =
          ap (filter its) all_places
          ∙ filter_stretch its (kept.made who.own c) (x.untold.places c) behind_row before here behind

    -- the step that is computed, of a client that keeps the same
    module _ (l : Kept) (same : KeepSame script kept l) (f : List Version) (f_keys : AreKeysFound f x.reply.answer) where
      abbrev y : Step
      y = step_finding two who shown f l x.command x.reply

      start : KeepSame script x.kept l
      start = subst (λ (k : Kept). KeepSame script k l) (sym follow.0) same

      at_both : KeepSame script (kept_at x) (kept_at y)
      at_both = before_same script start x.command.what

      places_same : IsTrue (began_row who x) → (c : ℕ) → c < script.shape.colours
          → x.untold.places c ≡ y.untold.places c
      places_same begun c lt =
          sym (its_places begun c lt)
          ∙ (ap (step_places n (id_of (kept_at x).ids) (shown who.own c)) (histories who.own c (home, lt))
          ∙ ap (λ (k : ℕ). step_places n (id_of k) (shown who.own c) (two.histories who.own c)) at_both.ids)

      lows_same : IsPulled x.reply.answer → x.untold.too_low ≡ y.untold.too_low
      lows_same p =
          let a = pull_asked who (kept_at x) x.command.what x.reply.nodes x.reply.answer p o.can in
          let has : HasColumn script a.0 a.1 =
          subst (IsWithin script.shape.regions script.shape.colours) a.2 o.within in
          let several = is_several who (kept_at x) x.command.what in
          let all : What → List ℕ =
          λ what. kept.made a.0 a.1
          ++ ((row_part (begins_row several x.reply.answer) who.own x.untold.places a.0 a.1
          ++ (low_part x.untold x.reply.answer what a.0 a.1 ++ printed who.own x.reply.answer what a.0 a.1))
          ++ steps_part who xs a.0 a.1) in
          let are_all : places_of n (one.histories a.0 a.1) ≡ all (whats.Pull a.0 a.1) =
          places_are kept (x ∷ xs) follow a.0 a.1 has ∙ ap all a.2 in
          low_stretch several kept x.untold x.reply.answer p one who a.0 a.1 (steps_part who xs a.0 a.1)
          (subst Climbs are_all (places_climb 0 n (one.histories a.0 a.1))) are_all
          ∙ (low_alike kept (kept_at y) a.0 a.1 has (made_at a.0 a.1 has) x.reply.answer
          ∙ ap (λ (what : What). low_told two who (kept_at y) what x.reply.answer) (sym a.2))
        where
          made_at : (r c : ℕ) → HasColumn script r c → kept.made r c ≡ (kept_at y).made r c
          made_at r c has = ap (λ (k : Kept). k.made r c) (sym follow.0)
              ∙ (sym (kept_made x r c) ∙ at_both.made r c has)

          low_alike : (k m : Kept) (r c : ℕ) → HasColumn script r c → k.made r c ≡ m.made r c → (answer : Answer)
              → low_told one who k (whats.Pull r c) answer ≡ low_told two who m (whats.Pull r c) answer
          low_alike k m r c column e (answers.Pulled count give carry) =
              ap (λ (h : List Entry). filter (λ p. nat_le (seen_past 0 (k.made r c)) p && nat_lt p (events_until give))
              (places_of n h)) (histories r c column)
              ∙ ap (λ (ps : List ℕ). filter (λ p. nat_le (seen_past 0 ps) p && nat_lt p (events_until give))
              (places_of n (two.histories r c))) e
          low_alike k m r c column e _ = refl

      steps_same : AreStepsAlike script who x y
      steps_same = record { command = refl; reply = refl; kept = start; places = places_same; too_low = lows_same }

      past_same : KeepSame script past (kept_past two who y)
      past_same =
          behind_kept script (told_same script fits n one two histories home rows x.command.what o.within x.untold y.untold
          (kept_at x) (kept_at y) at_both x.reply.nodes x.reply.answer o.can (λ t c has. places_same t c has.1) lows_same
          o.keys f_keys) x.command.what

  -- steps one after another
  pub computed_alike : (xs : List Step) (kept l : Kept) → All (Obeys script one who) xs → Follow one who kept xs last
      → KeepSame script kept l → MadeBefore kept → AreShown kept xs
      → (found : ℕ → List Version) → FindKeys found (map (λ (s : Step). s.reply) xs)
      → AllZip (AreStepsAlike script who) xs
      (steps_finding two who shown found l (map (λ (s : Step). s.command) xs) (map (λ (s : Step). s.reply) xs))
      × KeepSame script last
      (last_finding two who shown found l (map (λ (s : Step). s.command) xs) (map (λ (s : Step). s.reply) xs))
  computed_alike [] kept l o follow same made are found keys =
      (tt, subst (λ (k : Kept). KeepSame script k l) (sym follow) same)
  computed_alike (x ∷ xs) kept l o follow same made are found keys =
      let head = All-head (Obeys script one who) x xs o in
      let tail = All-tail (Obeys script one who) x xs o in
      let rest = computed_alike xs (kept_past one who x)
      (kept_past two who (step_finding two who shown (found 0) l x.command x.reply)) tail
      follow.1 (past_same x xs kept head tail follow made are l same (found 0) keys.0)
      (past_before x xs kept head tail follow made are)
      (past_shown x xs kept head tail follow made are) (λ k. found (suc k)) keys.1 in
      ((steps_same x xs kept head tail follow made are l same (found 0) keys.0, rest.0), rest.1)
