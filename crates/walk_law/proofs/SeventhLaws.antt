-- The seventh rule, at the account with the nodes of the commands, is what is looked at of stops.
use Rattle.std.proofs.Common.{◌≡◌, ◌⊎◌, ◌∙◌, refl, ap, sym, subst, true, false, ℕ, zero, suc, ◌+◌, ◌<◌, ◌≤◌, List, [], ◌∷◌, ◌++◌, length, map, take, drop, get_or, Option, Some, None, inl, inr, arith}
use Rattle.std.specs.Prelude.{◌≢◌, ◌↔◌, ◌==◌, ◌&&◌, IsTrue, slice_get}
use Rattle.std.specs.List.{All, Contains}
use Rattle.std.proofs.lemmas.Bool.{and_parts, cases_Bool, eq-eqb, eqb-true}
use Rattle.std.proofs.lemmas.List.{length-map, take-append-drop, take_all}
use Rattle.std.proofs.lemmas.List.Elements.{All-contains}
use Rattle.log_node.specs.declared.ids.Id.{Id}
use Rattle.log_node.specs.declared.ids.Colours.{Colours}
use Rattle.log_node.specs.declared.node.Node.{Node}
use Rattle.log_node.specs.declared.marks.Why.{Why}
use Rattle.log_node.specs.declared.marks.Why.TheVariants.{Memory, StampEnd}
use Rattle.log_node.specs.declared.marks.Mark.{Mark}
use Rattle.log_node.specs.declared.marks.Mark.TheVariants as marks
use Rattle.log_node.specs.declared.marks.ColourMark.{ColourMark}
use Rattle.log_node.specs.declared.marks.Outcome.TheVariants.{Open}
use Rattle.log_node.specs.Standings.{Standing, open_entry}
use Rattle.log_node.specs.Sets.{members}
use Rattle.log_node.proofs.CallerLemmas.{get_map, get_map_back, same_some}
use Rattle.col_core.specs.declared.Entry.{Entry}
use Rattle.col_core.specs.Appending.{IsClosedFor, IsDecided}
use Rattle.col_core.specs.Computed.{dated}
use Rattle.col_core.specs.History.{entries, has_entered}
use Rattle.col_core.specs.Ids.{IsOver, Proposes, alone, settled}
use Rattle.col_core.specs.Legal.{IsColumnHistory}
use Rattle.col_core.specs.Log.{Log, HasMark, IsBegunFor}
use Rattle.col_core.specs.Keeping.{Kept, with_made, with_row}
use Rattle.col_core.specs.Rows.{BegunRow, IsMarkOf}
use Rattle.col_core.proofs.CallerLemmas.{In, contains_in, entered_is_over, entered_longer, if_false, if_true, in_contains, in_slice, lawful_beginning, open_is_proposed, settled_stays, singles_stay, slice_in}
use Rattle.script_text.specs.declared.commands.What.{What}
use Rattle.script_text.specs.declared.commands.What.TheVariants as whats
use Rattle.script_text.specs.declared.script.Script.{Script}
use Rattle.report_text.specs.declared.report.Answer.{Answer}
use Rattle.report_text.specs.declared.report.Answer.TheVariants as answers
use Rattle.report_text.specs.declared.report.ClientReport.{ClientReport}
use Rattle.report_text.specs.declared.report.ColumnReport.{ColumnReport}
use Rattle.report_text.specs.declared.report.Report.{Report}
use Rattle.report_text.specs.declared.report.RowReport.{RowReport}
use Rattle.lawful_run.specs.Callers.{Caller, caller_of, node_of}
use Rattle.lawful_run.specs.Appends.{IsSettledIn}
use Rattle.lawful_run.specs.Deeds.{AsksToAppend}
use Rattle.lawful_run.specs.Stops.{Stops, StopsAfter, stopped_after, stopped_at_once}
use Rattle.run_rules.specs.Told.{Untold, kept_after_stop, kept_at}
use Rattle.run_rules.specs.Telling.{account_of, journal_among, log_of, no_nodes}
use Rattle.run_rules.specs.Naming.{Names, NamesSteps}
use Rattle.run_rules.specs.Rules.{HasNode, HasOwnNodes, IsLawfulColumn, Rule1, Rule2, Rule3, Rule4, Rule5, Rule7, StopsAsTold, UsesNode, with_room}
use Rattle.run_rules.specs.Nodes.{nodes_told}
use Rattle.run_rules.proofs.CallerLemmas.{rule1, rule2, rule3, rule4, rule5}
use Rattle.walk_law.specs.Fifth.{Finding, next_id}
use Rattle.walk_law.specs.Seventh.{FindsOpen, IsClosed, IsEarlyAt, Opening, SeventhIsStopping, StopsBeside, StopsBy, StopsOn, StopsOnRow}
use Rattle.walk_law.specs.Sixth.{FindsRows}
use Rattle.walk_law.proofs.NextRows.{begun_row, marks_fit, marks_low, row_begun, row_fits, steps_named}
use Rattle.walk_law.proofs.NodeRows.{full}
use Rattle.walk_law.proofs.RisingLemmas.{members_once}
use Rattle.walk_law.proofs.SixthLaws.{home_low}

-- CLOSED FOR GOOD

-- what no proposal entered is not open
never_open : (own regions : ℕ) (history : List Entry) (id : Id) → IsColumnHistory own regions (dated own history)
    → ((stamp : ℕ) → Proposes history id stamp → ⊥) → open_entry id (entries history) ≡ None
never_open own regions history id lawful never = by (open_entry id (entries history)) refl where
  by : (o : Option Standing) → open_entry id (entries history) ≡ o → o ≡ None
  by None found = refl
  by (Some e) found = absurd (never e.key.stamp (open_is_proposed own regions history id e lawful found).proposed)

-- a fence stands where its column proposed nothing
fenced_never : (history : List Entry) (node : Node) (why : Why) → IsMarkOf history node (marks.Fenced why) → (stamp : ℕ)
    → Proposes history node.id stamp → ⊥
fenced_never history node Memory is = is
fenced_never history node StampEnd is = is.0

-- what is over stays so
over_stays : (own regions : ℕ) (history more : List Entry) (id : Id) → IsColumnHistory own regions (dated own (history ++ more))
    → IsOver history id → open_entry id (entries (history ++ more)) ≡ None
over_stays own regions history more id lawful (alone stamp s) = (singles_stay own regions history more id stamp lawful s).closed
over_stays own regions history more id lawful (settled outcome s) = (settled_stays own regions history more id outcome lawful s).closed

record IsEnteredClosed (history : List Entry) (id : Id) : Type 0 where
  pub entered : IsTrue (has_entered id history)
  pub not_open : open_entry id (entries history) ≡ None

entered_closed : (own regions : ℕ) (history : List Entry) (id : Id) (n : ℕ) → IsColumnHistory own regions (dated own history)
    → IsEnteredClosed (take n history) id → IsEnteredClosed history id
entered_closed own regions history id n lawful is =
    subst (λ (h : List Entry). IsEnteredClosed h id) (take-append-drop n history) (record {
      entered = entered_longer (take n history) (drop n history) id is.entered;
      not_open = over_stays own regions (take n history) (drop n history) id longer
          (entered_is_over own regions (take n history) id
          (lawful_beginning own regions (take n history) (drop n history) longer) is.entered is.not_open);
    }) where
      longer : IsColumnHistory own regions (dated own (take n history ++ drop n history))
      longer = subst (λ (h : List Entry). IsColumnHistory own regions (dated own h)) (sym (take-append-drop n history)) lawful

-- the journals of a report that keeps the second rule are lawful
no_events : (own regions : ℕ) → IsColumnHistory own regions (dated own [])
no_events own regions n d at = absurd (let f : ⊥ = cc (at) in f)

lawful_among : (regions region colour : ℕ) (cs : List ColumnReport)
    → ((c : ColumnReport) → In c cs → IsColumnHistory c.region regions (dated c.region c.journal))
    → IsColumnHistory region regions (dated region (journal_among cs region colour))
lawful_among regions region colour [] each = no_events region regions
lawful_among regions region colour (c ∷ cs) each =
    by (cases_Bool ((c.region == region) && (c.colour == colour))) (lawful_among regions region colour cs (λ d i. each d (inr i))) where
      by : (((c.region == region) && (c.colour == colour)) ≡ true) ⊎ (((c.region == region) && (c.colour == colour)) ≡ false)
          → IsColumnHistory region regions (dated region (journal_among cs region colour))
          → IsColumnHistory region regions (dated region (journal_among (c ∷ cs) region colour))
      by (inl t) rest =
          let two = and_parts (c.region == region) (c.colour == colour) t in
          subst (λ (j : List Entry). IsColumnHistory region regions (dated region j))
          (sym (if_true ((c.region == region) && (c.colour == colour)) c.journal (journal_among cs region colour) t))
          (subst (λ (r : ℕ). IsColumnHistory r regions (dated r c.journal)) (eqb-true c.region region two.0) (each c (inl refl)))
      by (inr f) rest =
          subst (λ (j : List Entry). IsColumnHistory region regions (dated region j))
          (sym (if_false ((c.region == region) && (c.colour == colour)) c.journal (journal_among cs region colour) f)) rest

pub lawful_journals : (script : Script) (report : Report) → Rule2 script report → (region colour : ℕ)
    → IsColumnHistory region script.shape.regions (dated region (journal_among report.columns region colour))
lawful_journals script report second region colour =
    lawful_among script.shape.regions region colour report.columns (λ c i.
    (All-contains (IsLawfulColumn script) report.columns c second.each (contains_in report.columns c i)).legal)

-- WHAT IS KEPT

append_left : (xs ys zs : List ℕ) → xs ++ ys ≡ xs ++ zs → ys ≡ zs
append_left [] ys zs e = e
append_left (x ∷ xs) ys zs e = append_left xs ys zs (let t : xs ++ ys ≡ xs ++ zs = cc (e) in t)

-- with events made at places nothing else is kept than with them at those
same_made : (kept : Kept) (own : ℕ) (one other : ℕ → List ℕ) → with_made kept own one ≡ with_made kept own other → (colour : ℕ)
    → one colour ≡ other colour
same_made kept own one other e colour = append_left (kept.made own colour) (one colour) (other colour)
    (sym (here one) ∙ (ap (λ (k : Kept). k.made own colour) e ∙ here other)) where
      here : (places : ℕ → List ℕ) → (with_made kept own places).made own colour ≡ kept.made own colour ++ places colour
      here places =
          ap (λ (f : ℕ → List ℕ). f colour)
          (if_true (own == own) (λ (c : ℕ). kept.made own c ++ places c) (kept.made own) (eq-eqb own own refl))

-- a stop after a step or more
stopped_from : (log : Log) (caller : Caller) (kept : Kept) (node : Node) (k : ℕ) (places : ℕ → List ℕ)
    → StopsAfter log caller kept node (suc k) places
    → Stops log caller kept node (suc k) (with_made (with_row kept) caller.own places)
stopped_from log caller kept node k places s =
    let e : k + 1 ≡ suc k = omega arith in
    subst (λ (n : ℕ). Stops log caller kept node n (with_made (with_row kept) caller.own places)) e
    (stopped_after k places (subst (λ (n : ℕ). StopsAfter log caller kept node n places) (sym e) s))

stopped_so : (log : Log) (caller : Caller) (kept : Kept) (node : Node) (steps : ℕ) (after : Kept) → Stops log caller kept node steps after
    → (n : ℕ) → steps ≡ suc n
    → (places : ℕ → List ℕ) × StopsAfter log caller kept node steps places × (after ≡ with_made (with_row kept) caller.own places)
stopped_so log caller kept node steps after stopped_at_once n is = absurd (let f : ⊥ = omega (arith, is) in f)
stopped_so log caller kept node steps after (stopped_after k places s) n is = (places, s, refl)

-- OF ONE STOP

module _ (script : Script) (report : Report) (nodes : ℕ → List Node) (third : Rule3 script (account_of script report nodes))
    (lawful : (region colour : ℕ)
    → IsColumnHistory region script.shape.regions (dated region (journal_among report.columns region colour)))
    (finding : Finding) (finds : FindsRows report finding) (opens : Opening) (opening : FindsOpen script report opens) (n : ℕ) (home : (caller_of script n).own < script.shape.regions)
    (own : HasOwnNodes script (account_of script report nodes) n) (kept : Kept) (untold : Untold) (colours : Colours) (text : List ℕ)
    (next : slice_get (nodes n) kept.ids ≡ Some (node_of (caller_of script n) kept colours text)) where
  abbrev who : Caller
  who = caller_of script n

  abbrev node : Node
  node = node_of who kept colours text

  abbrev whole : Log
  whole = log_of report nodes

  abbrev bare : Log
  bare = log_of report no_nodes

  abbrev h : ℕ → List Entry
  h = journal_among report.columns who.own

  module _ (r : RowReport) (found : finding who.own (next_id who kept) ≡ Some r) where
    abbrev b : BegunRow
    b = full script report nodes r

    begun : IsBegunFor whole node b
    begun = begun_row script report nodes third finding finds n home own kept colours text next r found

    its_colours : map (λ (m : ColourMark). m.colour) r.marks ≡ members colours
    its_colours =
        (row_fits script report nodes third finding finds n home own kept colours text next r found).a_mark_each
        ∙ ap (λ (x : Node). members x.colours) begun.of_node

    as_many : length r.marks ≡ length (members colours)
    as_many = sym (length-map r.marks (λ (m : ColourMark). m.colour)) ∙ ap length its_colours

    -- the mark of the n-th colour
    mark_at : (k c : ℕ) → slice_get (members colours) k ≡ Some c
        → (m : ColourMark) × (slice_get r.marks k ≡ Some m) × (m.colour ≡ c)
    mark_at k c at =
        get_map_back (λ (m : ColourMark). m.colour) r.marks k c (ap (λ (l : List ℕ). slice_get l k) its_colours ∙ at)

    colour_at : (k : ℕ) (m : ColourMark) → slice_get r.marks k ≡ Some m → slice_get (members colours) k ≡ Some m.colour
    colour_at k m at =
        sym (ap (λ (l : List ℕ). slice_get l k) its_colours) ∙ get_map (λ (x : ColourMark). x.colour) r.marks k m at

    has_mark : (k : ℕ) (m : ColourMark) → slice_get r.marks k ≡ Some m → (c : ℕ) → m.colour ≡ c → HasMark whole node c m.mark
    has_mark k m at c is = (
      b,
      begun,
      subst (λ (x : ℕ). let d : ColourMark = record { colour = x; mark = m.mark } in Contains r.marks d) is
          (contains_in r.marks m (slice_in r.marks k m at)),
    )

    -- a mark that the row has for the colour of one is that one's
    same_mark : (k : ℕ) (m : ColourMark) → slice_get r.marks k ≡ Some m → (mark : Mark) → HasMark whole node m.colour mark
        → m.mark ≡ mark
    same_mark k m at mark (x, is, has) =
        let back = row_begun script report nodes third finding finds n home own kept colours text next x is in
        let one : back.0 ≡ r = same_some (sym back.1 ∙ found) in
        let d : ColourMark = record { colour = m.colour; mark = mark } in
        let among : In d r.marks =
        subst (λ (y : RowReport). In d y.marks) one
        (subst (λ (y : BegunRow). In d y.marks) (sym back.2) (in_contains x.marks d has)) in
        let there = in_slice r.marks d among in
        let place : there.0 ≡ k = members_once colours there.0 k m.colour (colour_at there.0 d there.1) (colour_at k m at) in
        ap (λ (y : ColourMark). y.mark) (same_some (sym at ∙ (ap (slice_get r.marks) (sym place) ∙ there.1)))

    its_opening : (k : ℕ) (m : ColourMark) → slice_get r.marks k ≡ Some m
        → (opens who.own m.colour (next_id who kept) ≡ false) ↔ (open_entry (next_id who kept) (entries (h m.colour)) ≡ None)
    its_opening k m at = opening who.own m.colour home
        (All-contains (λ (x : ColourMark). x.colour < script.shape.colours) r.marks m
        (marks_low script report nodes third finding finds n home own kept colours text next r found)
        (contains_in r.marks m (slice_in r.marks k m at))) (next_id who kept)

    closed_so : (k : ℕ) (m : ColourMark) → slice_get r.marks k ≡ Some m → IsSettledIn whole (with_room who kept) node m.colour
        → IsClosed (opens who.own m.colour (next_id who kept)) (h m.colour) (next_id who kept) m.mark
    closed_so k m at (count, within, closed) = by closed.for_good where
      by : ((why : Why) × HasMark whole node m.colour (marks.Fenced why))
          ⊎ IsTrue (has_entered node.id (take count (h m.colour))) → IsClosed (opens who.own m.colour (next_id who kept)) (h m.colour) (next_id who kept) m.mark
      by (inl (why, has)) =
          let same = same_mark k m at (marks.Fenced why) has in
          let fits = All-contains (λ (x : ColourMark). IsMarkOf (h x.colour) b.node x.mark) r.marks m
          (marks_fit script report nodes third finding finds n home own kept colours text next r found)
          (contains_in r.marks m (slice_in r.marks k m at)) in record {
            not_open = (its_opening k m at).1
                (never_open who.own script.shape.regions (h m.colour) (next_id who kept) (lawful who.own m.colour)
                (fenced_never (h m.colour) node why
                (subst (IsMarkOf (h m.colour) node) same
                (subst (λ (x : Node). IsMarkOf (h m.colour) x m.mark) begun.of_node fits))));
            for_good = inl (why, same);
          }
      by (inr entered) =
          let now = entered_closed who.own script.shape.regions (h m.colour) (next_id who kept) count (lawful who.own m.colour)
          (record { entered = entered; not_open = closed.not_open }) in
          record { not_open = (its_opening k m at).1 now.not_open; for_good = inr now.entered }

    settled_so : (k : ℕ) (m : ColourMark) → slice_get r.marks k ≡ Some m → IsClosed (opens who.own m.colour (next_id who kept)) (h m.colour) (next_id who kept) m.mark
        → IsSettledIn whole (with_room who kept) node m.colour
    settled_so k m at closed = (
      length (h m.colour),
      omega arith,
      subst (λ (x : List Entry). IsClosedFor whole x node m.colour) (sym (take_all (length (h m.colour)) (h m.colour) (omega arith)))
          (record { not_open = (its_opening k m at).0 closed.not_open; for_good = by closed.for_good }),
    ) where
      by : ((why : Why) × (m.mark ≡ marks.Fenced why)) ⊎ IsTrue (has_entered node.id (h m.colour))
          → ((why : Why) × HasMark whole node m.colour (marks.Fenced why)) ⊎ IsTrue (has_entered node.id (h m.colour))
      by (inl (why, is)) = inl (why, subst (HasMark whole node m.colour) is (has_mark k m at m.colour refl))
      by (inr entered) = inr entered

    module _ (steps : ℕ) where
      -- FROM WHAT IS LOOKED AT

      stops_told : NamesSteps whole who kept untold.places → StopsOn opens bare who kept untold.places steps r
          → StopsAfter whole (with_room who kept) kept node steps untold.places
      stops_told names so = record {
        begins = record {
          several = subst (λ (x : Node). 2 ≤ length (members x.colours)) begun.of_node
              (row_fits script report nodes third finding finds n home own kept colours text next r found).several;
          next = next;
          room = omega arith;
          row = b;
          begun = begun;
          steps = steps_named whole who kept colours text untold.places names;
        };
        marked = λ k c at lt.
            let m = mark_at k c at in (m.0.mark, (so.each k m.0 m.1).marked lt, has_mark k m.0 m.1 c m.2);
        decided = λ le. let many = as_many in (r.last, so.decided (omega (arith, le, many)), (b, begun, refl));
        settled = λ k c at lt.
            let m = mark_at k c at in
            let many = as_many in
            subst (IsSettledIn whole (with_room who kept) node) m.2
            (settled_so k m.0 m.1 ((so.each k m.0 m.1).settled (omega (arith, lt, many))));
        no_later = λ k c at.
            let m = mark_at k c at in
            subst (λ (x : ℕ). All (IsEarlyAt (h c) k x steps) (untold.places c)) as_many
            (subst (λ (x : ℕ). All (IsEarlyAt (h x) k (length r.marks) steps) (untold.places x)) m.2 (so.each k m.0 m.1).no_later);
      }

      -- AND BACK

      stops_so : (places : ℕ → List ℕ) → ((c : ℕ) → places c ≡ untold.places c)
          → StopsAfter whole (with_room who kept) kept node steps places → StopsOn opens bare who kept untold.places steps r
      stops_so places same is = record {
        decided = λ le. let many = as_many in decided_so (is.decided (omega (arith, le, many)));
        each = λ k m at. record {
          marked = λ lt none.
              let mark = is.marked k m.colour (colour_at k m at) lt in mark.1 (sym (same_mark k m at mark.0 mark.2) ∙ none);
          settled = λ lt.
              let many = as_many in closed_so k m at (is.settled k m.colour (colour_at k m at) (omega (arith, lt, many)));
          no_later =
              subst (λ (x : ℕ). All (IsEarlyAt (h m.colour) k x steps) (untold.places m.colour)) (sym as_many)
              (subst (λ (l : List ℕ). All (IsEarlyAt (h m.colour) k (length (members colours)) steps) l) (same m.colour)
              (is.no_later k m.colour (colour_at k m at)));
        };
      } where
        decided_so : IsDecided whole node → r.last ≢ Open
        decided_so (outcome, ne, (x, its, last)) none =
            let back = row_begun script report nodes third finding finds n home own kept colours text next x its in
            let one : back.0 ≡ r = same_some (sym back.1 ∙ found) in
            ne (sym last ∙ (ap (λ (y : BegunRow). y.last) (sym back.2) ∙ (ap (λ (y : RowReport). y.last) one ∙ none)))

-- OF ONE ANSWER

module _ (script : Script) (report : Report) (nodes : ℕ → List Node) (third : Rule3 script (account_of script report nodes))
    (lawful : (region colour : ℕ)
    → IsColumnHistory region script.shape.regions (dated region (journal_among report.columns region colour)))
    (finding : Finding) (finds : FindsRows report finding) (opens : Opening) (opening : FindsOpen script report opens) (n : ℕ) (home : (caller_of script n).own < script.shape.regions)
    (own : HasOwnNodes script (account_of script report nodes) n) (kept : Kept) (untold : Untold) (what : What) where
  abbrev it : Caller
  it = caller_of script n

  abbrev full_log : Log
  full_log = log_of report nodes

  abbrev bare_log : Log
  bare_log = log_of report no_nodes

  -- the command's node is the next one
  node_next : (steps : ℕ) (colours : Colours) (text : List ℕ) → what ≡ whats.Stop steps colours text → HasNode full_log it kept what
      → slice_get (nodes n) kept.ids ≡ Some (node_of it kept colours text)
  node_next steps colours text is (set, words, asks, next) =
      let says = subst (λ (w : What). AsksToAppend it kept w set words) is asks in
      next
      ∙ (ap (λ (s : Colours). let o : Option Node = Some (node_of it kept s words) in o) says.0
      ∙ ap (λ (t : List ℕ). let o : Option Node = Some (node_of it kept colours t) in o) says.1)

  row_told : (o : Option RowReport) → finding it.own (next_id it kept) ≡ o → (colours : Colours) (text : List ℕ)
      → slice_get (nodes n) kept.ids ≡ Some (node_of it kept colours text) → (steps : ℕ) → NamesSteps full_log it kept untold.places
      → StopsOnRow opens bare_log it kept untold.places steps o
      → StopsAfter full_log (with_room it kept) kept (node_of it kept colours text) steps untold.places
  row_told None found colours text next steps names so = absurd so
  row_told (Some r) found colours text next steps names so =
      stops_told script report nodes third lawful finding finds opens opening n home own kept untold colours text next r found steps names so

  pub answer_told : (answer : Answer) → Names full_log untold it kept what answer → UsesNode full_log it kept what answer
      → StopsBy finding opens bare_log untold it kept what answer → StopsAsTold full_log untold it kept what answer
  answer_told (answers.Stopped zero) names uses ((colours, text, is), so) = (colours, text, is, stopped_at_once)
  answer_told (answers.Stopped (suc k)) names uses ((colours, text, is), so) = (
    colours,
    text,
    is,
    stopped_from full_log (with_room it kept) kept (node_of it kept colours text) k untold.places
        (row_told (finding it.own (next_id it kept)) refl colours text (node_next (suc k) colours text is uses) (suc k) names so),
  )
  answer_told _ names uses so = tt

  -- and back
  stops_looked : (k : ℕ) (colours : Colours) (text : List ℕ)
      → Stops full_log (with_room it kept) kept (node_of it kept colours text) (suc k) (kept_after_stop untold it kept (suc k))
      → StopsOnRow opens bare_log it kept untold.places (suc k) (finding it.own (next_id it kept))
  stops_looked k colours text stops =
      let made = stopped_so full_log (with_room it kept) kept (node_of it kept colours text) (suc k)
      (kept_after_stop untold it kept (suc k)) stops k refl in
      let is = made.1 in
      let back = row_begun script report nodes third finding finds n home own kept colours text is.begins.next is.begins.row
      is.begins.begun in
      subst (StopsOnRow opens bare_log it kept untold.places (suc k)) (sym back.1)
      (stops_so script report nodes third lawful finding finds opens opening n home own kept untold colours text is.begins.next back.0 back.1 (suc k)
      made.0 (same_made (with_row kept) it.own made.0 untold.places (sym made.2)) is)

  pub answer_looked : (answer : Answer) → StopsAsTold full_log untold it kept what answer
      → StopsBy finding opens bare_log untold it kept what answer
  answer_looked (answers.Stopped zero) (colours, text, is, stops) = ((colours, text, is), tt)
  answer_looked (answers.Stopped (suc k)) (colours, text, is, stops) = ((colours, text, is), stops_looked k colours text stops)
  answer_looked _ so = tt

-- THE RULE

pub seventh_is_stopping : SeventhIsStopping
seventh_is_stopping script report finding opens fits formed finds opening rules = (forth, back) where
  first : Rule1 script report (account_of script report (nodes_told script report))
  first = rule1 rules.0.0.0.0.0.1

  third : Rule3 script (account_of script report (nodes_told script report))
  third = rule3 rules.0.0.0.1

  fourth : Rule4 script report (account_of script report (nodes_told script report))
  fourth = rule4 rules.0.0.1

  fifth : Rule5 script report (account_of script report (nodes_told script report))
  fifth = rule5 rules.0.1

  lawful : (region colour : ℕ)
      → IsColumnHistory region script.shape.regions (dated region (journal_among report.columns region colour))
  lawful = lawful_journals script report (rule2 rules.0.0.0.0.1)

  forth : ((n : ℕ) (c : ClientReport) → slice_get report.clients n ≡ Some c
      → All (StopsBeside finding opens (record { script = script; report = report }) (caller_of script n))
      ((account_of script report (nodes_told script report)).steps n))
      → Rule7 script report (account_of script report (nodes_told script report))
  forth so = record {
    stops = λ n c at k d lt.
        let s = get_or ((account_of script report (nodes_told script report)).steps n) k d in
        answer_told script report (nodes_told script report) third lawful finding finds opens opening n
        (home_low script report (account_of script report (nodes_told script report)) fits first n c at) (fifth.own n c at) (kept_at s) s.untold
        s.command.what s.reply.answer (fourth.named n c at k d lt) (fifth.used n c at k d lt) (so n c at k d lt);
  }

  back : Rule7 script report (account_of script report (nodes_told script report))
      → (n : ℕ) (c : ClientReport) → slice_get report.clients n ≡ Some c
      → All (StopsBeside finding opens (record { script = script; report = report }) (caller_of script n))
      ((account_of script report (nodes_told script report)).steps n)
  back rule n c at k d lt =
      let s = get_or ((account_of script report (nodes_told script report)).steps n) k d in
      answer_looked script report (nodes_told script report) third lawful finding finds opens opening n
      (home_low script report (account_of script report (nodes_told script report)) fits first n c at) (fifth.own n c at) (kept_at s) s.untold
      s.command.what s.reply.answer (rule.stops n c at k d lt)
