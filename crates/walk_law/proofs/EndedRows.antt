-- The row of an append to several colours that was refused for the stamps' end, beside the rows of the log.
use Rattle.std.proofs.Common.{◌≡◌, ◌⊎◌, ◌∙◌, refl, ap, sym, subst, Bool, true, false, cond, ℕ, zero, suc, ◌+◌, ◌<◌, List, [], ◌∷◌, ◌++◌, map, take, drop, Option, Some, None, inl, inr, arith}
use Rattle.std.specs.Prelude.{◌≢◌, ◌==◌, IsTrue}
use Rattle.std.specs.List.{All, Contains, filter, list_any, range_with_len}
use Rattle.std.proofs.lemmas.Bool.{cases_order, eq-eqb, ne_eqb, true≢false}
use Rattle.std.proofs.lemmas.List.{take-append-drop}
use Rattle.std.proofs.lemmas.List.Elements.{All-contains}
use Rattle.log_node.specs.declared.ids.Id.{Id}
use Rattle.log_node.specs.declared.limits.TheConstants.{MAX_COLOURS}
use Rattle.log_node.specs.declared.node.Node.{Node}
use Rattle.log_node.specs.declared.marks.Mark.{Mark}
use Rattle.log_node.specs.declared.marks.Mark.TheVariants as marks
use Rattle.log_node.specs.declared.marks.Outcome.TheVariants.{Open, Gone}
use Rattle.log_node.specs.declared.marks.Why.{Why}
use Rattle.log_node.specs.declared.marks.Why.TheVariants.{Memory, StampEnd}
use Rattle.log_node.specs.declared.marks.ColourMark.{ColourMark}
use Rattle.log_node.specs.Outcomes.{is_missing, is_stamp_end_fence, outcome_of}
use Rattle.log_node.specs.Sets.{has, members}
use Rattle.log_node.specs.Standings.{Standing, open_entry}
use Rattle.col_core.specs.declared.Entry.{Entry}
use Rattle.col_core.specs.Appending.{EndsAtColour}
use Rattle.col_core.specs.Computed.{dated}
use Rattle.col_core.specs.History.{enters, entries, has_entered}
use Rattle.col_core.specs.Ids.{IsOver, Proposes, alone, settled}
use Rattle.col_core.specs.Legal.{IsColumnHistory}
use Rattle.col_core.specs.Log.{Log, HasMark, IsBegunFor}
use Rattle.col_core.specs.Rows.{BegunRow, FitsMarks, IsMarkOf}
use Rattle.col_core.proofs.CallerLemmas.{In, all_in, any_in, contains_in, entered_is_over, if_true, in_contains, in_filter, in_map, in_map-back, in_range, lawful_beginning, open_is_proposed, same_id-refl, settled_stays, singles_stay, slice_in}
use Rattle.script_text.specs.declared.script.Script.{Script}
use Rattle.report_text.specs.declared.report.Report.{Report}
use Rattle.report_text.specs.declared.report.RowReport.{RowReport}
use Rattle.lawful_run.specs.Callers.{Caller}
use Rattle.lawful_run.specs.Appends.{IsSettled, IsSettledIn}
use Rattle.lawful_run.proofs.CallerLemmas.{settled_by_now}
use Rattle.run_rules.specs.Rules.{IsLawfulColumn, Rule2, Rule3}
use Rattle.run_rules.specs.Telling.{IsWellFormed, account_of, journal_among, log_of}
use Rattle.walk_law.specs.Columns.{AreAllColumns}
use Rattle.walk_law.specs.Eleventh.{IsEndMark, IsEndedRow, lookups_of}
use Rattle.walk_law.specs.LeftOpen.{is_open_among}
use Rattle.walk_law.specs.Third.{rows_in}
use Rattle.walk_law.proofs.LeftLemmas.{by_place, closed_among, closed_in, journal_is}
use Rattle.walk_law.proofs.NodeRows.{fit_of, full, full_id, its_region, of_row, one_row, proposed_as}

-- COLOURS OF A SET

-- no number is there twice
abbrev AreApart : List ℕ → Type 0
AreApart [] = Unit {0}
AreApart (c ∷ cs) = (In c cs → ⊥) × AreApart cs

range_apart : (n a : ℕ) (p : ℕ → Bool) → AreApart (filter p (range_with_len a n))
range_apart zero a p = tt
range_apart (suc n) a p = by (p a) (range_apart n (a + 1) p) where
  by : (b : Bool) → AreApart (filter p (range_with_len (a + 1) n))
      → AreApart (cond b (a ∷ filter p (range_with_len (a + 1) n)) (filter p (range_with_len (a + 1) n)))
  by true rest =
      (λ i. let le = (in_range (a + 1) n a (in_filter p a (range_with_len (a + 1) n) i).0).0 in let f : ⊥ = omega (arith, le) in f, rest)
  by false rest = rest

marks_apart : (ms : List ColourMark) → AreApart (map (λ (m : ColourMark). m.colour) ms) → (m k : ColourMark) → In m ms → In k ms
    → m.colour ≡ k.colour → m ≡ k
marks_apart [] apart m k i j e = absurd i
marks_apart (x ∷ xs) apart m k (inl e) (inl f) same = sym e ∙ f
marks_apart (x ∷ xs) apart m k (inl e) (inr j) same =
    absurd (apart.0 (subst (λ (c : ℕ). In c (map (λ (y : ColourMark). y.colour) xs)) (sym same ∙ ap (λ (y : ColourMark). y.colour) (sym e))
    (in_map-back (λ (y : ColourMark). y.colour) xs k j)))
marks_apart (x ∷ xs) apart m k (inr i) (inl f) same =
    absurd (apart.0 (subst (λ (c : ℕ). In c (map (λ (y : ColourMark). y.colour) xs)) (same ∙ ap (λ (y : ColourMark). y.colour) (sym f))
    (in_map-back (λ (y : ColourMark). y.colour) xs m i)))
marks_apart (x ∷ xs) apart m k (inr i) (inr j) same = marks_apart xs apart.1 m k i j same

-- FENCES

no_fence : (mark : Mark) → mark ≢ marks.Fenced StampEnd → is_stamp_end_fence mark ≡ false
no_fence marks.None ne = refl
no_fence (marks.Number s) ne = refl
no_fence (marks.Fenced Memory) ne = refl
no_fence (marks.Fenced StampEnd) ne = absurd (ne refl)

fence_is : (mark : Mark) → is_stamp_end_fence mark ≡ true → mark ≡ marks.Fenced StampEnd
fence_is marks.None t = absurd (true≢false (sym t))
fence_is (marks.Number s) t = absurd (true≢false (sym t))
fence_is (marks.Fenced Memory) t = absurd (true≢false (sym t))
fence_is (marks.Fenced StampEnd) t = refl

-- where an outcome stands no mark is missing
none_missing : (all : List Mark) → outcome_of all ≡ Gone StampEnd → list_any is_missing all ≡ false
none_missing all is = by (list_any is_missing all) refl where
  by : (b : Bool) → list_any is_missing all ≡ b → b ≡ false
  by false e = refl
  by true e =
      let open_still : outcome_of all ≡ Open = if_true (list_any is_missing all) Open _ e in
      absurd (let f : ⊥ = cc (open_still, is) in f)

-- WHAT IS CLOSED STAYS CLOSED

proposed_entered : (history : List Entry) (id : Id) (stamp : ℕ) → Proposes history id stamp → has_entered id history ≡ true
proposed_entered history id stamp p =
    any_in (λ (e : Entry). enters id e.event) history p.1 (slice_in history p.0 p.1 p.4) (ap (enters id) p.5 ∙ same_id-refl id)

closed_stays : (own regions : ℕ) (history : List Entry) → IsColumnHistory own regions (dated own history) → (id : Id) (events : ℕ)
    → open_entry id (entries (take events history)) ≡ None
    → (has_entered id (take events history) ≡ true) ⊎ ((stamp : ℕ) → Proposes history id stamp → ⊥)
    → open_entry id (entries history) ≡ None
closed_stays own regions history lawful id events none (inl entered) =
    by (entered_is_over own regions before id (lawful_beginning own regions before more longer) entered none) where
      before : List Entry
      before = take events history

      more : List Entry
      more = drop events history

      whole : take events history ++ drop events history ≡ history
      whole = take-append-drop events history

      longer : IsColumnHistory own regions (dated own (before ++ more))
      longer = subst (λ (h : List Entry). IsColumnHistory own regions (dated own h)) (sym whole) lawful

      by : IsOver before id → open_entry id (entries history) ≡ None
      by (alone stamp s) =
          subst (λ (h : List Entry). open_entry id (entries h) ≡ None) whole (singles_stay own regions before more id stamp longer s).closed
      by (settled outcome s) =
          subst (λ (h : List Entry). open_entry id (entries h) ≡ None) whole
          (settled_stays own regions before more id outcome longer s).closed
closed_stays own regions history lawful id events none (inr never) = by (open_entry id (entries history)) refl where
  by : (o : Option Standing) → open_entry id (entries history) ≡ o → open_entry id (entries history) ≡ None
  by None e = e
  by (Some x) e = absurd (never x.key.stamp (open_is_proposed own regions history id x lawful e).proposed)

-- ROWS

module _ (script : Script) (report : Report) (well : IsWellFormed script report)
    (columns : AreAllColumns script.shape.regions script.shape.colours report.columns) (second : Rule2 script report)
    (nodes : ℕ → List Node) (third : Rule3 script (account_of script report nodes)) (caller : Caller)
    (lt : caller.own < script.shape.regions) where
  abbrev own : ℕ
  own = caller.own

  abbrev log : Log
  log = log_of report nodes

  abbrev H : ℕ → List Entry
  H = journal_among report.columns own

  abbrev rows : List RowReport
  rows = rows_in own report.rows

  abbrev g : RowReport → BegunRow
  g = full script report nodes

  lawful_at : (colour : ℕ) → colour < script.shape.colours → IsColumnHistory own script.shape.regions (dated own (H colour))
  lawful_at colour low =
      by_place script report well columns second nodes
      (λ r k. IsColumnHistory r script.shape.regions (dated r (journal_among report.columns r k)))
      (λ c i. subst (λ (h : List Entry). IsColumnHistory c.region script.shape.regions (dated c.region h))
      (journal_is script report well columns second nodes c i)
      (All-contains (IsLawfulColumn script) report.columns c second.each (contains_in report.columns c i)).legal) own colour lt low

  module _ (r : RowReport) (i : In r rows) (node : Node) (is : (g r).node ≡ node) (in_it : node.region ≡ own) where
    id_is : node.id ≡ r.id
    id_is = ap (λ (x : Node). x.id) (sym is) ∙ full_id script report nodes r

    pub begun : IsBegunFor log node (g r)
    begun = record {
      begun = subst (λ (k : ℕ). Contains (log.rows k) (g r)) (sym in_it) (contains_in (map g rows) (g r) (in_map-back g rows r i));
      of_node = is;
    }

    -- no other row is begun for the node
    row_is : (q : BegunRow) → IsBegunFor log node q → g r ≡ q
    row_is q b =
        let back = in_map g rows q (in_contains (map g rows) q (subst (λ (k : ℕ). Contains (log.rows k) q) in_it b.begun)) in
        let same : r ≡ back.0 =
        one_row script report nodes third own lt r back.0 i back.1
        (sym id_is
        ∙ (ap (λ (x : Node). x.id) (sym b.of_node)
        ∙ (ap (λ (x : BegunRow). x.node.id) (sym back.2) ∙ full_id script report nodes back.0))) in
        ap g same ∙ back.2

    mark_in : (colour : ℕ) (mark : Mark) → HasMark log node colour mark → In (record { colour = colour; mark = mark }) r.marks
    mark_in colour mark h =
        in_contains r.marks (record { colour = colour; mark = mark })
        (subst (λ (q : BegunRow). Contains q.marks (record { colour = colour; mark = mark })) (sym (row_is h.0 h.1)) h.2)

    mark_has : (m : ColourMark) → In m r.marks → HasMark log node m.colour m.mark
    mark_has m j = (g r, begun, contains_in r.marks m j)

    colours_are : map (λ (m : ColourMark). m.colour) r.marks ≡ members node.colours
    colours_are = (fit_of script report nodes third own lt r i).a_mark_each ∙ ap (λ (x : Node). members x.colours) is

    one_mark : (m k : ColourMark) → In m r.marks → In k r.marks → m.colour ≡ k.colour → m ≡ k
    one_mark = marks_apart r.marks (subst AreApart (sym colours_are) (range_apart MAX_COLOURS 0 (has node.colours)))

    -- the mark of a colour
    marked : (colour : ℕ) → In colour (members node.colours) → (m : ColourMark) × In m r.marks × (m.colour ≡ colour)
    marked colour j = in_map (λ (m : ColourMark). m.colour) r.marks colour (subst (In colour) (sym colours_are) j)

    low_mark : (m : ColourMark) → In m r.marks → m.colour < script.shape.colours
    low_mark m j =
        All-contains (λ (x : ColourMark). x.colour < script.shape.colours) r.marks m
        (of_row script report nodes third own lt (λ (b : BegunRow). All (λ (x : ColourMark). x.colour < script.shape.colours) b.marks)
        (third.marked own lt) r i)
        (contains_in r.marks m j)

    is_mark : (m : ColourMark) → In m r.marks → IsMarkOf (H m.colour) node m.mark
    is_mark m j =
        subst (λ (x : Node). IsMarkOf (H m.colour) x m.mark) is
        (All-contains (λ (x : ColourMark). IsMarkOf (H x.colour) (g r).node x.mark) r.marks m
        (of_row script report nodes third own lt (λ (b : BegunRow). All (λ (x : ColourMark). IsMarkOf (H x.colour) b.node x.mark) b.marks)
        (third.lawful own lt).marks r i)
        (contains_in r.marks m j))

    -- FROM WHAT THE ANSWER SAYS

    module _ (colour : ℕ) (ends : EndsAtColour log node colour) (settles : IsSettled log caller node) where
      end_mark : (m : ColourMark) → In m r.marks → IsEndMark colour m
      end_mark m j le = by (cases_order m.colour colour) where
        as_has : (mark : Mark) → HasMark log node m.colour mark → m.mark ≡ mark
        as_has mark h =
            ap (λ (x : ColourMark). x.mark)
            (one_mark m (record { colour = m.colour; mark = mark }) j (mark_in m.colour mark h) refl)

        by : (m.colour ≡ colour) ⊎ ((m.colour < colour) ⊎ (colour < m.colour))
            → is_stamp_end_fence m.mark ≡ (m.colour == colour)
        by (inl e) =
            ap is_stamp_end_fence (as_has (marks.Fenced StampEnd)
            (subst (λ (k : ℕ). HasMark log node k (marks.Fenced StampEnd)) (sym e) ends.fence))
            ∙ sym (eq-eqb m.colour colour e)
        by (inr (inl less)) =
            let h = All-contains (λ other. other < colour
            → (mark : Mark) × (mark ≢ marks.None) × (mark ≢ marks.Fenced StampEnd) × HasMark log node other mark)
            (members node.colours) m.colour ends.least
            (contains_in (members node.colours) m.colour
            (subst (In m.colour) colours_are (in_map-back (λ (x : ColourMark). x.colour) r.marks m j))) less in
            ap is_stamp_end_fence (as_has h.0 h.3)
            ∙ (no_fence h.0 h.2 ∙ sym (ne_eqb m.colour colour (λ e. let f : ⊥ = omega (arith, less, e) in f)))
        by (inr (inr more)) = absurd (let f : ⊥ = omega (arith, le, more) in f)

      closed_member : (c : ℕ) → In c (members node.colours) → open_entry node.id (entries (H c)) ≡ None
      closed_member c j =
          let s = All-contains (IsSettledIn log caller node) (members node.colours) c settles (contains_in (members node.colours) c j) in
          closed_stays own script.shape.regions (H c) (lawful_at c low) node.id s.0 s.2.not_open (how s.0 s.2.for_good) where
            m : (x : ColourMark) × In x r.marks × (x.colour ≡ c)
            m = marked c j

            low : c < script.shape.colours
            low = subst (λ (k : ℕ). k < script.shape.colours) m.2 (low_mark m.0 m.1)

            never : (why : Why) → IsMarkOf (H c) node (marks.Fenced why) → (stamp : ℕ) → Proposes (H c) node.id stamp → ⊥
            never Memory h = h
            never StampEnd h = h.0

            how : (events : ℕ)
                → ((why : Why) × HasMark log node c (marks.Fenced why)) ⊎ IsTrue (has_entered node.id (take events (H c)))
                → (has_entered node.id (take events (H c)) ≡ true) ⊎ ((stamp : ℕ) → Proposes (H c) node.id stamp → ⊥)
            how events (inl h) = inr (never h.0 (is_mark (record { colour = c; mark = marks.Fenced h.0 }) (mark_in c (marks.Fenced h.0) h.1)))
            how events (inr t) = inl t

      closed_here : (c : ℕ) → c < script.shape.colours → open_entry r.id (entries (H c)) ≡ None
      closed_here c low = by (open_entry r.id (entries (H c))) refl where
        by : (o : Option Standing) → open_entry r.id (entries (H c)) ≡ o → open_entry r.id (entries (H c)) ≡ None
        by None e = e
        by (Some x) e =
            let p = (open_is_proposed own script.shape.regions (H c) r.id x (lawful_at c low) e).proposed in
            let told = proposed_as script report nodes third own lt r i c low p.1 p.2 p.3 (slice_in (H c) p.0 p.1 p.4) p.5 in
            subst (λ (d : Id). open_entry d (entries (H c)) ≡ None) id_is
            (closed_member c (subst (λ (y : Node). In c (members y.colours)) is told.among))

      pub ended_row : IsEndedRow (lookups_of report).is_open colour r
      ended_row = record {
        gone = ap (λ (q : BegunRow). q.last) (row_is ends.outcome.0 ends.outcome.1) ∙ ends.outcome.2;
        marks = all_in (IsEndMark colour) r.marks end_mark;
        closed = subst (λ (k : ℕ). is_open_among k report.columns r.id ≡ false) (sym (its_region script report nodes third own lt r i))
            (closed_among script report well columns second nodes own r.id closed_here);
      }

    -- AND TO IT

    module _ (colour : ℕ) (one : In colour (members node.colours)) (ended : IsEndedRow (lookups_of report).is_open colour r) where
      all_set : (m : ColourMark) → In m r.marks → m.mark ≢ marks.None
      all_set m j e =
          let fits = of_row script report nodes third own lt
          (λ (b : BegunRow). FitsMarks (map (λ (x : ColourMark). x.mark) b.marks) b.last) (third.lawful own lt).outcomes r i in
          let none = none_missing (map (λ (x : ColourMark). x.mark) r.marks)
          (subst (FitsMarks (map (λ (x : ColourMark). x.mark) r.marks)) ended.gone fits) in
          true≢false (sym (any_in is_missing (map (λ (x : ColourMark). x.mark) r.marks) m.mark
          (in_map-back (λ (x : ColourMark). x.mark) r.marks m j) (ap is_missing e)) ∙ none)

      said_of : (m : ColourMark) → In m r.marks → IsEndMark colour m
      said_of m j = All-contains (IsEndMark colour) r.marks m ended.marks (contains_in r.marks m j)

      pub ends_there : EndsAtColour log node colour
      ends_there = record {
        outcome = (g r, begun, ended.gone);
        fence =
            let m = marked colour one in
            let e = m.2 in
            let t : is_stamp_end_fence m.0.mark ≡ true =
            said_of m.0 m.1 (omega (arith, e)) ∙ eq-eqb m.0.colour colour m.2 in
            subst (λ (k : Mark). HasMark log node colour k) (fence_is m.0.mark t)
            (subst (λ (k : ℕ). HasMark log node k m.0.mark) m.2 (mark_has m.0 m.1));
        least = all_in (λ other. other < colour
            → (mark : Mark) × (mark ≢ marks.None) × (mark ≢ marks.Fenced StampEnd) × HasMark log node other mark)
            (members node.colours) (λ other j less.
            let m = marked other j in
            let e = m.2 in
            let f : is_stamp_end_fence m.0.mark ≡ false =
            said_of m.0 m.1 (omega (arith, e, less))
            ∙ ne_eqb m.0.colour colour (λ same. let f : ⊥ = omega (arith, same, e, less) in f) in (
              m.0.mark,
              all_set m.0 m.1,
              λ is. true≢false (ap is_stamp_end_fence (sym is) ∙ f),
              subst (λ (k : ℕ). HasMark log node k m.0.mark) m.2 (mark_has m.0 m.1),
            ));
      }

      pub settled_there : IsSettled log caller node
      settled_there = all_in (IsSettledIn log caller node) (members node.colours) (λ c j.
          settled_by_now log caller node c (record { not_open = not_open c j; for_good = for_good c j })) where
            not_open : (c : ℕ) → In c (members node.colours) → open_entry node.id (entries (H c)) ≡ None
            not_open c j =
                let m = marked c j in
                subst (λ (d : Id). open_entry d (entries (H c)) ≡ None) (sym id_is)
                (closed_in script report well columns second nodes own c r.id lt
                (subst (λ (k : ℕ). k < script.shape.colours) m.2 (low_mark m.0 m.1))
                (subst (λ (k : ℕ). is_open_among k report.columns r.id ≡ false) (its_region script report nodes third own lt r i)
                ended.closed))

            for_good : (c : ℕ) → In c (members node.colours)
                → ((why : Why) × HasMark log node c (marks.Fenced why)) ⊎ IsTrue (has_entered node.id (H c))
            for_good c j = by m.0.mark refl where
              m : (x : ColourMark) × In x r.marks × (x.colour ≡ c)
              m = marked c j

              by : (mark : Mark) → m.0.mark ≡ mark
                  → ((why : Why) × HasMark log node c (marks.Fenced why)) ⊎ IsTrue (has_entered node.id (H c))
              by marks.None e = absurd (all_set m.0 m.1 e)
              by (marks.Number s) e =
                  inr (proposed_entered (H c) node.id s
                  (subst (λ (k : ℕ). Proposes (H k) node.id s) m.2
                  (subst (λ (k : Mark). IsMarkOf (H m.0.colour) node k) e (is_mark m.0 m.1))))
              by (marks.Fenced why) e =
                  inl (
                    why,
                    subst (λ (k : Mark). HasMark log node c k) e
                        (subst (λ (k : ℕ). HasMark log node k m.0.mark) m.2 (mark_has m.0 m.1)),
                  )
