-- A client's own steps of an id stand in the colours of the row with that id.
use Rattle.std.proofs.Common.{◌≡◌, ◌⊎◌, ◌∙◌, inl, inr, refl, ap, sym, subst, true, false, ℕ, zero, suc, ◌+◌, ◌<◌, ◌≤◌, List, [], ◌∷◌, ◌++◌, length, map, take, drop, get_or, Option, Some, None, arith}
use Rattle.std.specs.Prelude.{◌&&◌, not, slice_get, IsSomeAnd}
use Rattle.std.specs.List.{All}
use Rattle.std.proofs.lemmas.Bool.{and_parts, cases_lt, true≢false}
use Rattle.std.proofs.lemmas.List.{drop_more, take-append-drop}
use Rattle.std.proofs.lemmas.List.Elements.{All-contains}
use Rattle.std.proofs.lemmas.Option.{get_or_from_slice_get, slice_get-get_or, slice_get_within}
use lib.Seq.{take-append_seam}
use Rattle.log_node.specs.declared.ids.Id.{Id}
use Rattle.log_node.specs.declared.limits.TheConstants.{MAX_COLOURS}
use Rattle.log_node.specs.declared.marks.ColourMark.{ColourMark}
use Rattle.log_node.specs.declared.marks.Outcome.{Outcome}
use Rattle.log_node.specs.Sets.{members}
use Rattle.log_node.specs.Standings.{Standing, open_entry}
use Rattle.log_node.specs.Order.{same_id}
use Rattle.log_node.proofs.CallerLemmas.{get_map_back, same_id-is, same_some}
use Rattle.col_core.specs.declared.Event.{Event}
use Rattle.col_core.specs.declared.Event.TheVariants.{Single, Propose, Settle, Raise, Give, Carry, Trim}
use Rattle.col_core.specs.declared.Entry.{Entry}
use Rattle.col_core.specs.Computed.{cut, dated}
use Rattle.col_core.specs.Cuts.{Dated, entries_of}
use Rattle.col_core.specs.History.{entries}
use Rattle.col_core.specs.Ids.{Proposes}
use Rattle.col_core.specs.Keeping.{Kept, with_made}
use Rattle.col_core.specs.Legal.{IsColumnHistory, IsLawfulEvent, IsSettling}
use Rattle.col_core.specs.Log.{places_of}
use Rattle.col_core.specs.Rows.{BegunRow, FitsRows}
use Rattle.col_core.proofs.CallerLemmas.{In, contains_in, dates_longer, entries_dated, in_filter, later, lawful_beginning, open_is_proposed, proposes_longer, slice_in}
use Rattle.report_text.specs.declared.report.ReplyLine.{ReplyLine}
use Rattle.report_text.specs.declared.report.RowReport.{RowReport}
use Rattle.lawful_run.specs.Callers.{caller_of}
use Rattle.lawful_run.specs.Moves.{with_places}
use Rattle.column_track.specs.Tracks.{Tracked}
use Rattle.run_rules.specs.Rules.{IsLawfulColumn}
use Rattle.run_rules.specs.Telling.{is_among, is_step_at, is_step_of, journal_among, no_nodes}
use Rattle.walk_law.specs.Behind.{steps_untold}
use Rattle.walk_law.specs.Keepings.{Counted, IsCounted}
use Rattle.walk_law.specs.PlaceTables.{row_with}
use Rattle.walk_law.specs.RowsBeside.{RiseFrom}
use Rattle.walk_law.specs.Third.{rows_in}
use Rattle.walk_law.specs.Walking.{MayWalk, Walked, journal_walked, places_printed}
use Rattle.walk_law.proofs.BehindLemmas.{steps_none}
use Rattle.walk_law.proofs.LeftLemmas.{by_place, journal_is}
use Rattle.walk_law.proofs.MadeLemmas.{first_places, made_all, made_more, made_none, made_on}
use Rattle.walk_law.proofs.NodeRows.{fit_of, found_row, full, full_id, ids_apart, of_row, row_found}
use Rattle.walk_law.proofs.RisingLemmas.{members_rising, rising_below}
use Rattle.walk_law.proofs.SubjectLemmas.{clients_many, column_none}
use Rattle.walk_law.proofs.ThirdLemmas.{few_colours}

none_in : {A : Type 0} (xs : List A) → ((x : A) → In x xs → ⊥) → xs ≡ []
none_in [] none = refl
none_in (x ∷ xs) none = absurd (none x (inl refl))

-- WHAT IS SETTLED WAS PROPOSED

seam_at : {A : Type 0} (xs : List A) (y : A) (ys : List A) → slice_get (xs ++ y ∷ ys) (length xs) ≡ Some y
seam_at [] y ys = refl
seam_at (x ∷ xs) y ys = seam_at xs y ys

module _ (own regions : ℕ) (history : List Entry) (lawful : IsColumnHistory own regions (dated own history)) (place : ℕ) (e : Entry)
    (at : slice_get history place ≡ Some e) where
  abbrev before : List Entry
  before = take place history

  abbrev rest : List Entry
  rest = drop (place + 1) history

  split : before ++ e ∷ rest ≡ history
  split =
      let lt = slice_get_within history place e at in
      let is : get_or history place e ≡ e = get_or_from_slice_get history place e e at in
      ap (λ (l : List Entry). before ++ l)
      (sym (drop_more history place e lt ∙ ap (λ (x : Entry). x ∷ rest) is))
      ∙ take-append-drop place history

  whole : IsColumnHistory own regions (dated own (before ++ e ∷ rest))
  whole = subst (λ (h : List Entry). IsColumnHistory own regions (dated own h)) (sym split) lawful

  event_lawful : IsLawfulEvent own regions (dated own before) e.event e.stamp
  event_lawful =
      let ds = dated own before in
      let d : Dated = record { entry = e; cut_before = cut own ds } in
      let more = later own ds (e ∷ rest) in
      let long = subst (IsColumnHistory own regions) (dates_longer own before (e ∷ rest)) whole in
      subst (λ (l : List Dated). IsLawfulEvent own regions l e.event e.stamp) (take-append_seam ds more)
      (long (length ds) d (seam_at ds d _))

  settled_proposed : (id : Id) (outcome : Outcome) → e.event ≡ Settle id outcome → (stamp : ℕ) × Proposes history id stamp
  settled_proposed id outcome is = by (open_entry id (entries (entries_of (dated own before)))) refl so.1 where
    so : (e.stamp ≡ 0) × IsSomeAnd (open_entry id (entries (entries_of (dated own before)))) (IsSettling outcome)
    so = subst (λ (v : Event). IsLawfulEvent own regions (dated own before) v e.stamp) is event_lawful

    by : (o : Option Standing) → open_entry id (entries (entries_of (dated own before))) ≡ o → IsSomeAnd o (IsSettling outcome)
        → (stamp : ℕ) × Proposes history id stamp
    by None found there = absurd there
    by (Some x) found there =
        let open_so = ap (λ (h : List Entry). open_entry id (entries h)) (sym (entries_dated own before)) ∙ found in
        let p = (open_is_proposed own regions before id x (lawful_beginning own regions before (e ∷ rest) whole) open_so).proposed in (
          x.key.stamp,
          subst (λ (h : List Entry). Proposes h id x.key.stamp) split (proposes_longer before (e ∷ rest) id x.key.stamp p),
        )

-- a step of an id is its proposal, or comes behind it
step_proposed : (own regions : ℕ) (history : List Entry) → IsColumnHistory own regions (dated own history) → (id : Id) (place : ℕ)
    → is_step_at id (slice_get history place) ≡ true → (stamp : ℕ) × Proposes history id stamp
step_proposed own regions history lawful id place step = at (slice_get history place) refl step where
  of : (e : Entry) → slice_get history place ≡ Some e → (v : Event) → e.event ≡ v → is_step_of id v ≡ true
      → (stamp : ℕ) × Proposes history id stamp
  of e there (Propose other floor wants) is t =
      let same = same_id-is id other t in
      (e.stamp, (place, e, floor, wants, there, is ∙ ap (λ (d : Id). Propose d floor wants) (sym same), refl))
  of e there (Settle other outcome) is t =
      let same = same_id-is id other t in
      settled_proposed own regions history lawful place e there id outcome (is ∙ ap (λ (d : Id). Settle d outcome) (sym same))
  of e there (Single other floor wants) is t = absurd (true≢false (sym t))
  of e there (Raise to) is t = absurd (true≢false (sym t))
  of e there (Give region from) is t = absurd (true≢false (sym t))
  of e there (Carry region start heads) is t = absurd (true≢false (sym t))
  of e there (Trim counts) is t = absurd (true≢false (sym t))

  at : (o : Option Entry) → slice_get history place ≡ o → is_step_at id o ≡ true → (stamp : ℕ) × Proposes history id stamp
  at None there t = absurd (true≢false (sym t))
  at (Some e) there t = of e there e.event refl t

-- COLOURS THAT RISE

-- the first number behind the first so many marks, where those from a number on rise
abbrev pub past_marks : ℕ → List ColourMark → ℕ → ℕ
past_marks low marks zero = low
past_marks low [] (suc n) = low
past_marks low (m ∷ ms) (suc n) = past_marks (m.colour + 1) ms n

abbrev colour_of : ColourMark → ℕ
colour_of m = m.colour

rise_low : (low colours : ℕ) (ms : List ColourMark) → RiseFrom low colours ms → (c : ℕ) → In c (map colour_of ms) → low ≤ c
rise_low low colours [] rise c i = absurd i
rise_low low colours (m ∷ ms) rise c (inl e) = let le = rise.0 in omega (arith, le, e)
rise_low low colours (m ∷ ms) rise c (inr i) =
    let le = rise.0 in
    let more = rise_low (m.colour + 1) colours ms rise.2 c i in
    omega (arith, le, more)

past_low : (low colours : ℕ) (ms : List ColourMark) (n : ℕ) → RiseFrom low colours ms → low ≤ past_marks low ms n
past_low low colours ms zero rise = omega arith
past_low low colours [] (suc n) rise = omega arith
past_low low colours (m ∷ ms) (suc n) rise =
    let le = rise.0 in
    let more = past_low (m.colour + 1) colours ms n rise.2 in
    omega (arith, le, more)

-- the mark in a place is the first behind those before
past_at : (low colours : ℕ) (ms : List ColourMark) (n : ℕ) (m : ColourMark) → RiseFrom low colours ms → slice_get ms n ≡ Some m
    → (past_marks low ms n ≤ m.colour) × (past_marks low ms (suc n) ≡ m.colour + 1)
past_at low colours [] n m rise at = absurd (let f : ⊥ = cc (at) in f)
past_at low colours (x ∷ xs) zero m rise at =
    let same : x ≡ m = same_some at in
    let le = rise.0 in
    let e : x.colour ≡ m.colour = ap colour_of same in
    (omega (arith, le, e), ap (λ (c : ℕ). c + 1) e)
past_at low colours (x ∷ xs) (suc n) m rise at = past_at (x.colour + 1) colours xs n m rise.2 at

past_sides : (low colours : ℕ) (ms : List ColourMark) (n : ℕ) (m : ColourMark) → RiseFrom low colours ms → slice_get ms n ≡ Some m
    → (c : ℕ) → In c (map colour_of ms) → (c < past_marks low ms n) ⊎ (m.colour ≤ c)
past_sides low colours [] n m rise at c i = absurd i
past_sides low colours (x ∷ xs) zero m rise at c (inl e) =
    let same = ap colour_of (same_some at) in inr (omega (arith, e, same))
past_sides low colours (x ∷ xs) zero m rise at c (inr i) =
    let same = ap colour_of (same_some at) in
    let more = rise_low (x.colour + 1) colours xs rise.2 c i in
    inr (omega (arith, same, more))
past_sides low colours (x ∷ xs) (suc n) m rise at c (inl e) =
    let more = past_low (x.colour + 1) colours xs n rise.2 in inl (omega (arith, e, more))
past_sides low colours (x ∷ xs) (suc n) m rise at c (inr i) = past_sides (x.colour + 1) colours xs n m rise.2 at c i

past_top : (low colours : ℕ) (ms : List ColourMark) (n : ℕ) → RiseFrom low colours ms → low ≤ colours → past_marks low ms n ≤ colours
past_top low colours ms zero rise le = le
past_top low colours [] (suc n) rise le = le
past_top low colours (m ∷ ms) (suc n) rise le =
    let lt = rise.1 in past_top (m.colour + 1) colours ms n rise.2 (omega (arith, lt))

past_all : (low colours : ℕ) (ms : List ColourMark) → RiseFrom low colours ms → (c : ℕ) → In c (map colour_of ms)
    → c < past_marks low ms (length ms)
past_all low colours [] rise c i = absurd i
past_all low colours (x ∷ xs) rise c (inl e) =
    let more = past_low (x.colour + 1) colours xs (length xs) rise.2 in omega (arith, e, more)
past_all low colours (x ∷ xs) rise c (inr i) = past_all (x.colour + 1) colours xs rise.2 c i

-- THE STEPS OF AN ID

module _ (walked : Walked) (tracks : List Tracked) (may : MayWalk walked.script walked.report tracks) (client : ℕ)
    (walker : client < length walked.report.clients) (count : ℕ) where
  abbrev pub own : ℕ
  own = (caller_of walked.script client).own

  abbrev pub id : Id
  id = record { client = client; count = count }

  abbrev pub steps : ℕ → List ℕ
  steps = steps_untold walked client count

  abbrev colours : ℕ
  colours = walked.script.shape.colours

  home : own < walked.script.shape.regions
  home =
      let many = clients_many walked.script walked.report tracks may in
      may.fitting.shape.homes client 0 (omega (arith, many, walker))

  abbrev rows : List RowReport
  rows = rows_in own walked.report.rows

  abbrev g : RowReport → BegunRow
  g = full walked.script walked.report no_nodes

  lawful_at : (colour : ℕ) → colour < colours → IsColumnHistory own walked.script.shape.regions (dated own (journal_walked walked own colour))
  lawful_at colour low =
      by_place walked.script walked.report may.formed may.first.columns may.second no_nodes
      (λ r k. IsColumnHistory r walked.script.shape.regions (dated r (journal_among walked.report.columns r k)))
      (λ c i. subst (λ (h : List Entry). IsColumnHistory c.region walked.script.shape.regions (dated c.region h))
      (journal_is walked.script walked.report may.formed may.first.columns may.second no_nodes c i)
      (All-contains (IsLawfulColumn walked.script) walked.report.columns c may.second.each (contains_in walked.report.columns c i)).legal)
      own colour home low

  -- a column that proposes an id is that of a colour of its row
  row_of_proposal : (colour stamp : ℕ) → colour < colours → Proposes (journal_walked walked own colour) id stamp
      → (r : RowReport) × (row_with own id walked.report.rows ≡ Some r) × In colour (map colour_of r.marks)
  row_of_proposal colour stamp low p =
      let bs = map g rows in
      let fits = subst (FitsRows bs colour) p.5
      (All-contains (λ (d : Entry). FitsRows bs colour d.event) (journal_walked walked own colour) p.1
      ((may.third.lawful own home).events colour low)
      (contains_in (journal_walked walked own colour) p.1 (slice_in (journal_walked walked own colour) p.0 p.1 p.4))) in
      let back = get_map_back g rows fits.0 fits.1 fits.2 in
      let r = back.0 in
      let i = slice_in rows fits.0 r back.1 in
      let of_id : r.id ≡ id =
      sym (full_id walked.script walked.report no_nodes r) ∙ (ap (λ (b : BegunRow). b.node.id) back.2 ∙ fits.3) in
      let among = subst (λ (b : BegunRow). In colour (members b.node.colours)) (sym back.2)
      (slice_in (members fits.1.node.colours) fits.6 colour fits.7) in (
        r,
        row_found walked.report.rows own (ids_apart walked.script walked.report no_nodes may.third own home) id r i of_id,
        subst (In colour) (sym (fit_of walked.script walked.report no_nodes may.third own home r i).a_mark_each) among,
      )

  -- so there are none in other colours
  steps_of_row : (colour : ℕ) → ((r : RowReport) → row_with own id walked.report.rows ≡ Some r → In colour (map colour_of r.marks) → ⊥)
      → steps colour ≡ []
  steps_of_row colour none = by (cases_lt colour colours) where
    by : (colour < colours) ⊎ (colours ≤ colour) → steps colour ≡ []
    by (inr ge) =
        steps_none walked client count colour (column_none walked.script walked.report tracks may own colour (inr ge))
    by (inl low) =
        none_in (steps colour) (λ p i.
        let history = journal_walked walked own colour in
        let test = λ (x : ℕ). is_step_at id (slice_get history x) && not (is_among x (places_printed walked client own colour)) in
        let kept = in_filter test p (places_of client history) i in
        let step = (and_parts (is_step_at id (slice_get history p)) (not (is_among p (places_printed walked client own colour))) kept.1).0 in
        let proposed = step_proposed own walked.script.shape.regions history (lawful_at colour low) id p step in
        let found = row_of_proposal colour proposed.0 low proposed.1 in
        none found.0 found.1 found.2)

  -- where there is no row with the id
  pub none_at_all : row_with own id walked.report.rows ≡ None → (colour : ℕ) → steps colour ≡ []
  none_at_all none colour = steps_of_row colour (λ r found i. let f : ⊥ = cc (none, found) in f)

  pub none_made : row_with own id walked.report.rows ≡ None → (replies : List ReplyLine) (kept : Kept) (counted : Counted)
      → IsCounted replies kept counted → IsCounted replies (with_made kept own steps) counted
  none_made none replies kept counted s =
      made_all replies kept own counted steps 0
      (λ colour le low. none_at_all none colour)
      (made_none replies kept own counted steps s)

  -- where there is one, with these marks, mark by mark
  module _ (r : RowReport) (found : row_with own id walked.report.rows ≡ Some r) (marks : List ColourMark) (is_its : marks ≡ r.marks) where
    rises : RiseFrom 0 colours marks
    rises =
        let i = (found_row walked.report.rows own id r found).0 in
        subst (RiseFrom 0 colours) (sym is_its)
        (members_rising colours r.marks
        (of_row walked.script walked.report no_nodes may.third own home
        (λ (b : BegunRow). All (λ (m : ColourMark). m.colour < colours) b.marks) (may.third.marked own home) r i)
        (fit_of walked.script walked.report no_nodes may.third own home r i).a_mark_each)

    outside : (colour : ℕ) → (In colour (map colour_of marks) → ⊥) → steps colour ≡ []
    outside colour out =
        steps_of_row colour (λ q at i.
        out (subst (λ (ms : List ColourMark). In colour (map colour_of ms)) (sym is_its)
        (subst (λ (x : RowReport). In colour (map colour_of x.marks)) (same_some (sym at ∙ found)) i)))

    -- up to a mark, at it, and behind all
    pub none_between : (n : ℕ) (m : ColourMark) → slice_get marks n ≡ Some m → (colour : ℕ) → past_marks 0 marks n ≤ colour → colour < m.colour
        → steps colour ≡ []
    none_between n m at colour le lt = outside colour (λ i. between (past_sides 0 colours marks n m rises at colour i)) where
      between : (colour < past_marks 0 marks n) ⊎ (m.colour ≤ colour) → ⊥
      between (inl less) = omega (arith, le, less)
      between (inr more) = omega (arith, lt, more)

    pub mark_here : (n : ℕ) (m : ColourMark) → slice_get marks n ≡ Some m
        → (past_marks 0 marks n ≤ m.colour) × (past_marks 0 marks (n + 1) ≡ m.colour + 1)
    mark_here n m at =
        let so = past_at 0 colours marks n m rises at in
        (so.0, ap (past_marks 0 marks) (let e : n + 1 ≡ suc n = omega arith in e) ∙ so.1)

    pub low_mark : (n : ℕ) (m : ColourMark) → slice_get marks n ≡ Some m → m.colour < colours
    low_mark n m at =
        All-contains (λ (x : ColourMark). x.colour < colours) marks m (rising_below 0 colours marks rises)
        (contains_in marks m (slice_in marks n m at))

    pub behind_all : (n : ℕ) → n ≡ length marks → (colour : ℕ) → past_marks 0 marks n ≤ colour → steps colour ≡ []
    behind_all n end colour le =
        outside colour (λ i.
        let lt = past_all 0 colours marks rises colour i in
        let e = ap (past_marks 0 marks) end in
        let f : ⊥ = omega (arith, le, lt, e) in f)

    pub marks_top : (n : ℕ) → past_marks 0 marks n ≤ colours
    marks_top n = past_top 0 colours marks n rises (omega arith)

    module _ (replies : List ReplyLine) (kept : Kept) (counted : Counted) where
      pub none_yet : IsCounted replies kept counted
          → IsCounted replies (with_made kept own (first_places (past_marks 0 marks 0) steps)) counted
      none_yet = made_none replies kept own counted steps

      pub up_to_mark : (n : ℕ) (m : ColourMark) → slice_get marks n ≡ Some m
          → IsCounted replies (with_made kept own (first_places (past_marks 0 marks n) steps)) counted
          → IsCounted replies (with_made kept own (first_places m.colour steps)) counted
      up_to_mark n m at = made_on replies kept own counted steps (past_marks 0 marks n) m.colour (mark_here n m at).0 (none_between n m at)

      pub past_mark : (n : ℕ) (m : ColourMark) → slice_get marks n ≡ Some m
          → IsCounted replies (with_made kept own (first_places (m.colour + 1) steps)) counted
          → IsCounted replies (with_made kept own (first_places (past_marks 0 marks (n + 1)) steps)) counted
      past_mark n m at s =
          subst (λ (k : ℕ). IsCounted replies (with_made kept own (first_places k steps)) counted) (sym (mark_here n m at).1) s

      pub all_marks : (n : ℕ) → n ≡ length marks
          → IsCounted replies (with_made kept own (first_places (past_marks 0 marks n) steps)) counted
          → IsCounted replies (with_made kept own steps) counted
      all_marks n end s =
          made_all replies kept own counted steps (past_marks 0 marks n) (λ colour le low. behind_all n end colour le) s

    pub colour_low : (n : ℕ) (d : ColourMark) → n < length marks → (get_or marks n d).colour < MAX_COLOURS
    colour_low n d lt =
        let low = low_mark n (get_or marks n d) (slice_get-get_or marks n d lt) in
        let few = few_colours walked.script may.fitting in
        omega (arith, low, few)

    -- with the steps of one mark more
    pub mark_made : (n : ℕ) (d : ColourMark) → n < length marks → (replies : List ReplyLine) (kept : Kept) (old new : Counted)
        (region : ℕ) (places : List ℕ) → region ≡ own → places ≡ steps (get_or marks n d).colour
        → ((before : Kept) → IsCounted replies before old
        → IsCounted replies (with_places before region (get_or marks n d).colour places) new)
        → IsCounted replies (with_made kept own (first_places (past_marks 0 marks n) steps)) old
        → IsCounted replies (with_made kept own (first_places (past_marks 0 marks (n + 1)) steps)) new
    mark_made n d lt replies kept old new region places is_own listed goes s =
        let m = get_or marks n d in
        let at = slice_get-get_or marks n d lt in
        let before : Kept = with_made kept own (first_places m.colour steps) in
        past_mark replies kept new n m at
        (made_more replies kept own new steps m.colour
        (subst (λ (l : List ℕ). IsCounted replies (with_places before own m.colour l) new) listed
        (subst (λ (k : ℕ). IsCounted replies (with_places before k m.colour places) new) is_own
        (goes before (up_to_mark replies kept old n m at s)))))
