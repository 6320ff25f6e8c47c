-- The sixth rule, at the account with the nodes of the commands, is what is looked at of appends that stand.
use Rattle.std.proofs.Common.{◌≡◌, ◌∙◌, refl, ap, sym, subst, ℕ, ◌<◌, List, [], ◌∷◌, length, map, get_or, Option, Some, None, inl, inr, arith}
use Rattle.std.specs.Prelude.{slice_get}
use Rattle.std.specs.List.{All, find}
use Rattle.std.proofs.lemmas.List.{length-map}
use Rattle.std.proofs.lemmas.List.Elements.{All-contains}
use Rattle.std.proofs.lemmas.Option.{slice_get_within}
use Rattle.log_node.specs.declared.ids.Id.{Id}
use Rattle.log_node.specs.declared.ids.Colours.{Colours}
use Rattle.log_node.specs.declared.ids.Counts.{Counts}
use Rattle.log_node.specs.declared.node.At.{At}
use Rattle.log_node.specs.declared.node.At.TheVariants as ats
use Rattle.log_node.specs.declared.node.Node.{Node}
use Rattle.log_node.specs.declared.marks.Outcome.TheVariants.{Final}
use Rattle.log_node.specs.Order.{same_id}
use Rattle.log_node.specs.Outcomes.{final_number}
use Rattle.log_node.specs.Sets.{members}
use Rattle.log_node.proofs.CallerLemmas.{same_some}
use Rattle.col_core.specs.declared.Event.{Event}
use Rattle.col_core.specs.declared.Event.TheVariants.{Single, Propose}
use Rattle.col_core.specs.declared.Entry.{Entry}
use Rattle.col_core.specs.Appending.{EntersBehind}
use Rattle.col_core.specs.Log.{Log, HasOutcome}
use Rattle.col_core.specs.Keeping.{Kept, kept_after_single}
use Rattle.col_core.specs.Rows.{BegunRow, node_wants}
use Rattle.col_core.proofs.CallerLemmas.{In, all_in, by_test, contains_in, if_true, if_false, in_map-back}
use Rattle.script_text.specs.declared.commands.What.{What}
use Rattle.script_text.specs.declared.commands.What.TheVariants as whats
use Rattle.script_text.specs.declared.script.Script.{Script}
use Rattle.script_text.specs.Fitting.{IsFitting}
use Rattle.report_text.specs.declared.report.Answer.{Answer}
use Rattle.report_text.specs.declared.report.Answer.TheVariants as answers
use Rattle.report_text.specs.declared.report.Ended.{Ended}
use Rattle.report_text.specs.declared.report.Ended.TheVariants as ends
use Rattle.report_text.specs.declared.report.ClientReport.{ClientReport}
use Rattle.report_text.specs.declared.report.PointPiece.{PointPiece}
use Rattle.report_text.specs.declared.report.Report.{Report}
use Rattle.report_text.specs.declared.report.RowReport.{RowReport}
use Rattle.lawful_run.specs.Callers.{Caller, caller_of, node_of}
use Rattle.lawful_run.specs.Appends.{Appends, StandsAt}
use Rattle.lawful_run.specs.Deeds.{AsksToAppend}
use Rattle.lawful_run.specs.Reads.{events_until}
use Rattle.run_rules.specs.Told.{Account, Untold, colours_asked, kept_after_append, kept_appending, kept_at, kept_deciding, last_of, stamp_of, stamp_told}
use Rattle.run_rules.specs.Telling.{account_of, journal_among, log_of, no_nodes}
use Rattle.run_rules.specs.Naming.{Names, NamesAppend, NamesEnd, NamesPlace, NamesPoint, EntersOf}
use Rattle.run_rules.specs.Answering.{CanEnd, CanHave, HasPoints}
use Rattle.run_rules.specs.Rules.{EntersAsNode, HasNode, HasOwnNodes, Rule1, Rule3, Rule4, Rule5, Rule6, Stands, StandsAsTold, StandsAtEnd, UsesEnd, UsesNode, with_room}
use Rattle.run_rules.specs.Nodes.{nodes_told}
use Rattle.run_rules.proofs.CallerLemmas.{rule1, rule3, rule4, rule5}
use Rattle.walk_law.specs.Fifth.{Finding, next_id}
use Rattle.walk_law.specs.Sixth.{FindsRows, HasEnteredBy, IsFinalUnder, IsProposedBy, OfStood, OfStoodEnd, SixthIsStanding, StandsBeside, StandsSo, StandsThere}
use Rattle.walk_law.specs.Third.{rows_in}
use Rattle.walk_law.proofs.FifthLaws.{node_colours, wants_own}
use Rattle.walk_law.proofs.NextRows.{begun_row, row_begun, steps_named}
use Rattle.walk_law.proofs.NodeRows.{full, full_id}

-- WITH WHATEVER NODES

-- the stamp of an append that does not print it is the same
module _ (script : Script) (report : Report) (nodes : ℕ → List Node) where
  abbrev f : RowReport → BegunRow
  f = full script report nodes

  abbrev b : RowReport → BegunRow
  b = full script report no_nodes

  last_same : (id : Id) (rows : List RowReport)
      → last_of (find (λ (r : BegunRow). same_id id r.node.id) (map f rows))
      ≡ last_of (find (λ (r : BegunRow). same_id id r.node.id) (map b rows))
  last_same id [] = refl
  last_same id (r ∷ rs) =
      let e = ap (same_id id) (full_id script report nodes r) in
      let d = ap (same_id id) (full_id script report no_nodes r) in
      by_test
      (last_of (find (λ (x : BegunRow). same_id id x.node.id) (map f (r ∷ rs)))
      ≡ last_of (find (λ (x : BegunRow). same_id id x.node.id) (map b (r ∷ rs))))
      (same_id id r.id)
      (λ t. ap last_of (if_true (same_id id (f r).node.id) (Some (f r)) (find (λ (x : BegunRow). same_id id x.node.id) (map f rs)) (e ∙ t))
      ∙ sym (ap last_of
      (if_true (same_id id (b r).node.id) (Some (b r)) (find (λ (x : BegunRow). same_id id x.node.id) (map b rs)) (d ∙ t))))
      (λ n. ap last_of (if_false (same_id id (f r).node.id) (Some (f r)) (find (λ (x : BegunRow). same_id id x.node.id) (map f rs)) (e ∙ n))
      ∙ (last_same id rs
      ∙ sym (ap last_of
      (if_false (same_id id (b r).node.id) (Some (b r)) (find (λ (x : BegunRow). same_id id x.node.id) (map b rs)) (d ∙ n)))))

  pub stamp_same : (caller : Caller) (kept : Kept) (row : Option ℕ) (points : List PointPiece)
      → stamp_told (log_of report nodes) caller kept row points ≡ stamp_told (log_of report no_nodes) caller kept row points
  stamp_same caller kept None [] = refl
  stamp_same caller kept None (point ∷ points) = refl
  stamp_same caller kept (Some number) points =
      ap final_number (last_same (record { client = caller.client; count = kept.ids }) (rows_in caller.own report.rows))

-- one entry, by its parts
entry_is : (e : Entry) (by : ℕ) (event : Event) (stamp : ℕ) → e.by ≡ by → e.event ≡ event → e.stamp ≡ stamp
    → e ≡ record { by = by; event = event; stamp = stamp }
entry_is e by event stamp of is under =
    ap (λ (x : ℕ). let d : Entry = record { by = x; event = e.event; stamp = e.stamp } in d) of
    ∙ (ap (λ (x : Event). let d : Entry = record { by = by; event = x; stamp = e.stamp } in d) is
    ∙ ap (λ (x : ℕ). let d : Entry = record { by = by; event = event; stamp = x } in d) under)

-- OF ONE APPEND

module _ (script : Script) (report : Report) (nodes : ℕ → List Node) (third : Rule3 script (account_of script report nodes))
    (finding : Finding) (finds : FindsRows report finding) (n : ℕ) (home : (caller_of script n).own < script.shape.regions)
    (own : HasOwnNodes script (account_of script report nodes) n) (kept : Kept) (untold : Untold) (what : What) (colours : Colours)
    (text : List ℕ) (asks : AsksToAppend (caller_of script n) kept what colours text)
    (next : slice_get (nodes n) kept.ids ≡ Some (node_of (caller_of script n) kept colours text)) where
  abbrev who : Caller
  who = caller_of script n

  abbrev node : Node
  node = node_of who kept colours text

  abbrev whole : Log
  whole = log_of report nodes

  abbrev bare : Log
  bare = log_of report no_nodes

  abbrev h : ℕ → List Entry
  h = journal_among report.columns who.own

  -- the points are of the node's colours
  own_colour : (points : List PointPiece) → map (λ (p : PointPiece). p.colour) points ≡ members colours
      → (p : PointPiece) → In p points → In p.colour (members colours)
  own_colour points are p i = subst (In p.colour) are (in_map-back (λ (q : PointPiece). q.colour) points p i)

  event_wants : (c : ℕ) → In c (members colours)
      → (let e : Event = Propose node.id node.floor (node_wants node c) in e) ≡ Propose (next_id who kept) kept.floor (kept.starts c)
  event_wants c i =
      ap (λ (w : Counts). let e : Event = Propose (next_id who kept) kept.floor w in e) (wants_own kept.starts (members colours) c i)

  entered_behind : (c : ℕ) → In c (members colours) → (at : At)
      → NamesPlace whole who kept who.own c (EntersOf who.client) at → IsProposedBy bare who kept c at
      → EntersBehind (kept.seen who.own c) (h c) who.client node c at
  entered_behind c i (ats.Event place) names (e, (there, is)) =
      let same : names.1.0 ≡ e = same_some (sym names.1.1 ∙ there) in
      (names.0, e, there, ap (λ (x : Entry). x.by) (sym same) ∙ names.1.2, is ∙ sym (event_wants c i))
  entered_behind c i (ats.Look seen) names (place, less, e, (there, is), other) =
      (names.0, names.1, place, less, e, there, other, is ∙ sym (event_wants c i))

  proposed_by : (c : ℕ) → In c (members colours) → (at : At) → EntersBehind (kept.seen who.own c) (h c) who.client node c at
      → IsProposedBy bare who kept c at
  proposed_by c i (ats.Event place) (late, e, there, of, is) = (e, (there, is ∙ event_wants c i))
  proposed_by c i (ats.Look seen) (late, within, place, less, e, there, other, is) =
      (place, less, e, (there, is ∙ event_wants c i), other)

  module _ (stamp : ℕ) where
    -- FROM WHAT IS LOOKED AT

    abbrev after : Option ℕ → List PointPiece → Kept
    after row points = kept_after_append untold who kept stamp row points

    alone : (p : PointPiece) → members colours ≡ p.colour ∷ [] → EntersAsNode whole who kept None (p ∷ [])
        → NamesPoint whole who kept p → kept.floor < stamp → StandsThere bare who kept stamp None p
        → Appends whole (with_room who kept) kept node stamp None (p ∷ []) (after None (p ∷ []))
    alone p is enters names above stands = by p.at refl where
      by : (at : At) → p.at ≡ at → Appends whole (with_room who kept) kept node stamp None (p ∷ []) (after None (p ∷ []))
      by (ats.Look seen) e = absurd (subst (λ (a : At). HasEnteredBy bare who kept stamp None (record p { at = a })) e stands.entered)
      by (ats.Event place) e =
          let named = subst (NamesPlace whole who kept who.own p.colour (EntersOf who.client)) e names.0 in
          let d = named.1.0 in
          let there = named.1.1 in
          let gave : d.stamp ≡ stamp =
          sym (ap stamp_of there) ∙ subst (λ (a : At). HasEnteredBy bare who kept stamp None (record p { at = a })) e stands.entered in
          let single = enters d (ap (λ (a : At). slice_get (h p.colour) (events_until a)) e ∙ there) in (
            is,
            place,
            e,
            record {
              next = next;
              entered = there
                  ∙ ap (λ (x : Entry). Some x)
                  (entry_is d who.client (Single node.id kept.floor (kept.starts p.colour)) stamp named.1.2 single gave);
              unseen = named.0;
              stands = stands.in_line;
              behind = names.1;
              above = above;
            },
            ap (λ (a : At). kept_after_single kept who.own p.colour (events_until a) stamp p.position) e,
          )

    final_begun : (o : Option RowReport) → finding who.own (next_id who kept) ≡ o → IsFinalUnder stamp o
        → (r : RowReport) × (finding who.own (next_id who kept) ≡ Some r) × (r.last ≡ Final stamp)
    final_begun None found last = absurd last
    final_begun (Some r) found last = (r, found, last)

    stands_told : (row : Option ℕ) (points : List PointPiece) → HasPoints (colours_asked who kept what) row points
        → EntersAsNode whole who kept row points → NamesAppend whole untold who kept row points
        → StandsSo finding bare who kept stamp row points
        → Appends whole (with_room who kept) kept node stamp row points (after row points)
    stands_told None [] are enters names so =
        let none = ap length are.0 in
        let one = are.1 in absurd (let f : ⊥ = omega (arith, none, one) in f)
    stands_told None (p ∷ []) are enters names so =
        alone p (node_colours who kept what colours text asks ∙ sym are.0) enters (names 0 p (omega arith)) so.above
        (so.points_are 0 p (omega arith))
    stands_told None (p ∷ q ∷ points) are enters names so =
        let some = ap length are.0 in
        let one = are.1 in absurd (let f : ⊥ = omega (arith, some, one) in f)
    stands_told (Some number) points are enters names so =
        let last = final_begun (finding who.own (next_id who kept)) refl so.row_is.1 in
        let r = last.0 in
        let begun = begun_row script report nodes third finding finds n home own kept colours text next r last.1 in
        let own_colours = node_colours who kept what colours text asks in
        let long = ap length own_colours in
        let two = are.1 in (
          so.row_is.0,
          untold.places,
          record {
            begins = record {
              several = omega (arith, long, two);
              next = next;
              room = omega arith;
              row = full script report nodes r;
              begun = begun;
              steps = steps_named whole who kept colours text untold.places names.1;
            };
            outcome = (full script report nodes r, begun, last.2);
            colours = are.0 ∙ sym own_colours;
            each = all_in (StandsAt whole (with_room who kept) kept node stamp) points (λ p i.
                let named = All-contains (NamesPoint whole who kept) points p names.0 (contains_in points p i) in
                let there = All-contains (StandsThere bare who kept stamp (Some number)) points p so.points_are (contains_in points p i) in
                record {
                  entered = entered_behind p.colour (own_colour points (are.0 ∙ sym own_colours) p i) p.at named.0 there.entered;
                  stands = there.in_line;
                  behind = named.1;
                });
            above = so.above;
          },
          refl,
        )

    -- AND BACK

    stands_so : (row : Option ℕ) (points : List PointPiece) → (end : Kept)
        → Appends whole (with_room who kept) kept node stamp row points end → StandsSo finding bare who kept stamp row points
    stands_so None [] end is = absurd is
    stands_so None (p ∷ []) end (colour, place, e, one, same) = record {
      above = one.above;
      row_is = tt;
      points_are = all_in (StandsThere bare who kept stamp None) (p ∷ []) (λ q i. only q i);
    } where
      here : StandsThere bare who kept stamp None p
      here = record {
        entered = subst (λ (a : At). HasEnteredBy bare who kept stamp None (record p { at = a })) (sym e) (ap stamp_of one.entered);
        in_line = one.stands;
      }

      only : (q : PointPiece) → In q (p ∷ []) → StandsThere bare who kept stamp None q
      only q (inl same_point) = subst (StandsThere bare who kept stamp None) same_point here
      only q (inr none) = absurd none
    stands_so None (p ∷ q ∷ points) end is = absurd is
    stands_so (Some number) points end (same, places, several, is) = record {
      above = several.above;
      row_is = (same, final several.outcome);
      points_are = all_in (StandsThere bare who kept stamp (Some number)) points (λ p i.
          let at = All-contains (StandsAt whole (with_room who kept) kept node stamp) points p several.each (contains_in points p i) in
          record {
            entered = proposed_by p.colour (own_colour points several.colours p i) p.at at.entered;
            in_line = at.stands;
          });
    } where
      final : HasOutcome whole node (Final stamp) → IsFinalUnder stamp (finding who.own (next_id who kept))
      final (x, begun, last) =
          let back = row_begun script report nodes third finding finds n home own kept colours text next x begun in
          subst (IsFinalUnder stamp) (sym back.1) (ap (λ (y : BegunRow). y.last) back.2 ∙ last)

-- OF ONE ANSWER

module _ (script : Script) (report : Report) (nodes : ℕ → List Node) (third : Rule3 script (account_of script report nodes))
    (finding : Finding) (finds : FindsRows report finding) (n : ℕ) (home : (caller_of script n).own < script.shape.regions)
    (own : HasOwnNodes script (account_of script report nodes) n) (untold : Untold) (what : What) where
  abbrev it : Caller
  it = caller_of script n

  abbrev full_log : Log
  full_log = log_of report nodes

  abbrev bare_log : Log
  bare_log = log_of report no_nodes

  as_told : (kept : Kept) (stamp : ℕ) (row : Option ℕ) (points : List PointPiece) → HasPoints (colours_asked it kept what) row points
      → HasNode full_log it kept what → EntersAsNode full_log it kept row points → NamesAppend full_log untold it kept row points
      → StandsSo finding bare_log it kept stamp row points → StandsAsTold full_log untold it kept what stamp row points
  as_told kept stamp row points are (colours, text, asks, next) enters names so = (
    colours,
    text,
    asks,
    stands_told script report nodes third finding finds n home own kept untold what colours text asks next
        stamp row points are enters names so,
  )

  as_looked : (kept : Kept) (stamp : ℕ) (row : Option ℕ) (points : List PointPiece) → HasNode full_log it kept what
      → StandsAsTold full_log untold it kept what stamp row points → StandsSo finding bare_log it kept stamp row points
  as_looked kept stamp row points has (colours, text, asks, is) =
      stands_so script report nodes third finding finds n home own kept untold what colours text asks (next row points is) stamp row points
      (kept_after_append untold it kept stamp row points) is where
        next : (row : Option ℕ) (points : List PointPiece)
            → Appends full_log (with_room it kept) kept (node_of it kept colours text) stamp row points
            (kept_after_append untold it kept stamp row points)
            → slice_get (nodes n) kept.ids ≡ Some (node_of it kept colours text)
        next None [] s = absurd s
        next None (p ∷ []) s = s.3.next
        next None (p ∷ q ∷ ps) s = absurd s
        next (Some number) ps s = s.2.begins.next

  -- at the stamp that is told
  by_stamp : (kept : Kept) (row : Option ℕ) (points : List PointPiece)
      → StandsSo finding bare_log it kept (stamp_told bare_log it kept row points) row points
      → StandsSo finding bare_log it kept (stamp_told full_log it kept row points) row points
  by_stamp kept row points =
      subst (λ (k : ℕ). StandsSo finding bare_log it kept k row points) (sym (stamp_same script report nodes it kept row points))

  from_stamp : (kept : Kept) (row : Option ℕ) (points : List PointPiece)
      → StandsSo finding bare_log it kept (stamp_told full_log it kept row points) row points
      → StandsSo finding bare_log it kept (stamp_told bare_log it kept row points) row points
  from_stamp kept row points =
      subst (λ (k : ℕ). StandsSo finding bare_log it kept k row points) (stamp_same script report nodes it kept row points)

  -- a decide appends on the same colours whatever is kept
  decides_on : (kept middle : Kept) (object : ℕ) (key : List ℕ) → what ≡ whats.Decide object key
      → colours_asked it kept what ≡ colours_asked it middle what
  decides_on kept middle object key is =
      subst (λ (w : What). colours_asked it kept w ≡ colours_asked it middle w) (sym is) refl

  end_told : (kept middle : Kept) (ended : Ended) → colours_asked it kept what ≡ colours_asked it middle what
      → CanEnd (colours_asked it kept what) ended → NamesEnd full_log untold it middle ended → UsesEnd full_log it middle what ended
      → OfStoodEnd (StandsSo finding bare_log it) middle ended → StandsAtEnd full_log untold it middle what ended
  end_told kept middle (ends.Stood stamp point) same can names uses so =
      as_told middle stamp None (point ∷ []) (subst (λ (cs : List ℕ). HasPoints cs None (point ∷ [])) same can) uses.0 uses.1 names so
  end_told kept middle _ same can names uses so = tt

  end_looked : (middle : Kept) (ended : Ended) → UsesEnd full_log it middle what ended → StandsAtEnd full_log untold it middle what ended
      → OfStoodEnd (StandsSo finding bare_log it) middle ended
  end_looked middle (ends.Stood stamp point) uses stands = as_looked middle stamp None (point ∷ []) uses.0 stands
  end_looked middle _ uses stands = tt

  pub answer_told : (kept : Kept) (shown : _) (answer : Answer) → CanHave it kept what shown answer
      → Names full_log untold it kept what answer → UsesNode full_log it kept what answer
      → OfStood (StandsSo finding bare_log it) bare_log it (kept_appending bare_log it kept answer) answer
      → Stands full_log untold it kept what answer
  answer_told kept shown (answers.Stood stamp row points) can names uses so =
      as_told kept stamp row points can.2 uses.0 uses.1 names so
  answer_told kept shown (answers.Ruled conflict stamp row points read_stamp raises syncs) can names uses so =
      as_told kept (stamp_told full_log it kept row points) row points can.2 uses.0 uses.1 names.0 (by_stamp kept row points so)
  answer_told kept shown (answers.Changed failed stamp row points read_stamp raises syncs) can names uses so =
      as_told kept (stamp_told full_log it kept row points) row points can.2 uses.0 uses.1 names.0 (by_stamp kept row points so)
  answer_told kept shown (answers.Took value point sync) can names uses so =
      as_told kept (stamp_told full_log it kept None (point ∷ [])) None (point ∷ []) can.2 uses.0 uses.1 names.0
      (by_stamp kept None (point ∷ []) so)
  answer_told kept shown (answers.Decided commits stamp sync read_stamp raises syncs ended) can names uses so =
      let middle = kept_deciding full_log it kept sync read_stamp raises syncs in
      end_told kept middle ended (decides_on kept middle can.2.0 can.2.1 can.2.2) can.4 names.2 uses so
  answer_told kept shown _ can names uses so = tt

  pub answer_looked : (kept : Kept) (answer : Answer) → UsesNode full_log it kept what answer
      → Stands full_log untold it kept what answer
      → OfStood (StandsSo finding bare_log it) bare_log it (kept_appending bare_log it kept answer) answer
  answer_looked kept (answers.Stood stamp row points) uses stands = as_looked kept stamp row points uses.0 stands
  answer_looked kept (answers.Ruled conflict stamp row points read_stamp raises syncs) uses stands =
      from_stamp kept row points (as_looked kept (stamp_told full_log it kept row points) row points uses.0 stands)
  answer_looked kept (answers.Changed failed stamp row points read_stamp raises syncs) uses stands =
      from_stamp kept row points (as_looked kept (stamp_told full_log it kept row points) row points uses.0 stands)
  answer_looked kept (answers.Took value point sync) uses stands =
      from_stamp kept None (point ∷ [])
      (as_looked kept (stamp_told full_log it kept None (point ∷ [])) None (point ∷ []) uses.0 stands)
  answer_looked kept (answers.Decided commits stamp sync read_stamp raises syncs ended) uses stands =
      end_looked (kept_deciding full_log it kept sync read_stamp raises syncs) ended uses stands
  answer_looked kept _ uses stands = tt

-- THE RULE

-- a client's region is one of the shape
pub home_low : (script : Script) (report : Report) (account : Account) → IsFitting script → Rule1 script report account → (n : ℕ)
    (c : ClientReport) → slice_get report.clients n ≡ Some c → (caller_of script n).own < script.shape.regions
home_low script report account fits first n c at =
    let names = ap length first.names in
    let long = length-map report.clients (λ (x : ClientReport). x.name) in
    let many = fits.clients in
    let lt = slice_get_within report.clients n c at in
    fits.shape.homes n 0 (omega (arith, names, long, many, lt))

pub sixth_is_standing : SixthIsStanding
sixth_is_standing script report finding fits formed finds rules = (forth, back) where
  nodes : ℕ → List Node
  nodes = nodes_told script report

  first : Rule1 script report (account_of script report (nodes_told script report))
  first = rule1 rules.0.0.0.0.1

  third : Rule3 script (account_of script report (nodes_told script report))
  third = rule3 rules.0.0.1

  fourth : Rule4 script report (account_of script report (nodes_told script report))
  fourth = rule4 rules.0.1

  fifth : Rule5 script report (account_of script report (nodes_told script report))
  fifth = rule5 rules.1

  forth : ((n : ℕ) (c : ClientReport) → slice_get report.clients n ≡ Some c
      → All (StandsBeside finding (record { script = script; report = report }) (caller_of script n))
      ((account_of script report (nodes_told script report)).steps n))
      → Rule6 script report (account_of script report (nodes_told script report))
  forth so = record {
    stands = λ n c at k d lt.
        let s = get_or ((account_of script report (nodes_told script report)).steps n) k d in
        answer_told script report (nodes_told script report) third finding finds n
        (home_low script report (account_of script report (nodes_told script report)) fits first n c at) (fifth.own n c at) s.untold s.command.what
        (kept_at s) s.reply.nodes s.reply.answer (first.replies n c at k d lt).answer (fourth.named n c at k d lt)
        (fifth.used n c at k d lt) (so n c at k d lt);
  }

  back : Rule6 script report (account_of script report (nodes_told script report))
      → (n : ℕ) (c : ClientReport) → slice_get report.clients n ≡ Some c
      → All (StandsBeside finding (record { script = script; report = report }) (caller_of script n))
      ((account_of script report (nodes_told script report)).steps n)
  back rule n c at k d lt =
      let s = get_or ((account_of script report (nodes_told script report)).steps n) k d in
      answer_looked script report (nodes_told script report) third finding finds n
      (home_low script report (account_of script report (nodes_told script report)) fits first n c at) (fifth.own n c at) s.untold s.command.what
      (kept_at s) s.reply.answer (fifth.used n c at k d lt) (rule.stands n c at k d lt)
