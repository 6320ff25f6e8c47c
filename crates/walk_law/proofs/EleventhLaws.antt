-- The eleventh rule, at the account with what reads found and node lines show, is what is looked at of each step.
use Rattle.std.proofs.Common.{◌≡◌, ◌⊎◌, ◌∙◌, refl, ap, sym, subst, Bool, true, false, ℕ, ◌<◌, ◌≤◌, List, [], ◌∷◌, length, map, Option, Some, None, inl, inr, arith}
use Rattle.std.specs.Prelude.{IsTrue, nat_lt, slice_get}
use Rattle.std.specs.List.{All, Contains}
use Rattle.std.proofs.lemmas.Bool.{lt-ltb, ltb-true}
use Rattle.std.proofs.lemmas.List.Elements.{All-contains}
use Rattle.log_node.specs.declared.ids.Colours.{Colours}
use Rattle.log_node.specs.declared.ids.Id.{Id}
use Rattle.log_node.specs.declared.node.Node.{Node}
use Rattle.log_node.specs.Seen.{PlacedNode}
use Rattle.log_node.specs.Sets.{members}
use Rattle.log_node.proofs.CallerLemmas.{same_some}
use Rattle.col_core.specs.Log.{Log}
use Rattle.col_core.specs.Keeping.{Kept}
use Rattle.col_core.specs.Rows.{BegunRow}
use Rattle.col_core.proofs.CallerLemmas.{In, contains_in, in_contains, in_map, in_map-back}
use Rattle.script_text.specs.declared.commands.What.{What}
use Rattle.script_text.specs.declared.script.Command.{Command}
use Rattle.script_text.specs.declared.script.Script.{Script}
use Rattle.script_text.specs.Fitting.{IsFitting, IsWithin, UsesObject}
use Rattle.report_text.specs.declared.report.Answer.{Answer}
use Rattle.report_text.specs.declared.report.Answer.TheVariants as answers
use Rattle.report_text.specs.declared.report.ClientReport.{ClientReport}
use Rattle.report_text.specs.declared.report.Ended.{Ended}
use Rattle.report_text.specs.declared.report.Ended.TheVariants as ends
use Rattle.report_text.specs.declared.report.RaisePiece.{RaisePiece}
use Rattle.report_text.specs.declared.report.SyncPiece.{SyncPiece}
use Rattle.report_text.specs.declared.report.ReplyLine.{ReplyLine}
use Rattle.report_text.specs.declared.report.Report.{Report}
use Rattle.report_text.specs.declared.report.RowReport.{RowReport}
use Rattle.lawful_run.specs.Callers.{Caller, caller_of, node_of}
use Rattle.lawful_run.specs.Appends.{HadNoStamp, HasNoRowLeft, HasNoStamp, IsGoneAtEnd, none_for_one, none_for_several}
use Rattle.lawful_run.specs.Asks.{home_asked}
use Rattle.lawful_run.specs.Deeds.{colours_synced}
use Rattle.lawful_run.specs.Refusals.{IsAway, IsHomeRefusal, kept_before, kept_behind}
use Rattle.lawful_run.specs.Shapes.{AppendsBy}
use Rattle.run_rules.specs.Told.{Account, OfEachStep, Step, Untold, colours_asked, is_several, kept_after_row, kept_appending, kept_at, kept_deciding, kept_past, kept_told, kept_where}
use Rattle.run_rules.specs.Telling.{IsWellFormed, account_of, log_of, no_nodes}
use Rattle.run_rules.specs.Agreeing.{AreStepsAlike, KeepSame, began_row}
use Rattle.run_rules.specs.Answering.{CanHave}
use Rattle.run_rules.specs.Deciding.{account_showing, nodes_showing}
use Rattle.run_rules.specs.Keeping.{RulesTo}
use Rattle.run_rules.specs.Laws.{ComputedAccountAgrees, FindsTell}
use Rattle.run_rules.specs.Naming.{Names, NamesSteps}
use Rattle.run_rules.specs.Rules.{HasNode, IsReplyTo, Rule1, Rule2, Rule3, Rule4, Rule5, UsesNode, with_room}
use Rattle.run_rules.specs.Shown.{EndHasCause, HasCause, begins_row}
use Rattle.run_rules.proofs.CallerLemmas.{rule1, rule2, rule3, rule4, rule5}
use Rattle.walk_law.specs.Columns.{AreAllColumns}
use Rattle.walk_law.specs.Eleventh.{EleventhIsCauses, HasEnd, HasEndedRow, HasItsCause, HasLateEnd, IsCaused, Lookups, lookups_of}
use Rattle.walk_law.specs.Fifth.{next_id}
use Rattle.walk_law.specs.PlaceTables.{row_with}
use Rattle.walk_law.specs.Third.{rows_in}
use Rattle.walk_law.specs.Walking.{Walked, log_walked}
use Rattle.walk_law.proofs.AskedNodes.{node_asked}
use Rattle.walk_law.proofs.EndedRows.{ended_row, ends_there, begun, settled_there}
use Rattle.walk_law.proofs.FifthLaws.{node_colours}
use Rattle.walk_law.proofs.NodeRows.{found_row, full, full_id, ids_apart, own_id, row_found}
use Rattle.walk_law.proofs.SameKeeping.{asked_same, before_same, had_same, trimmed_same, turned, unread_same}
use Rattle.walk_law.proofs.ShapeColours.{appended_within, synced_within}
use Rattle.walk_law.proofs.ShownSteps.{home_low, its_object, its_within, to_bare, to_shown}

-- no stamp was left: for one colour nothing was done, and for several a row was begun
no_stamp_of : (log : Log) (caller : Caller) (kept : Kept) (node : Node) (colour : ℕ) (after : Kept)
    → HasNoStamp log caller kept node colour after
    → ((members node.colours ≡ colour ∷ []) × HadNoStamp log caller kept colour)
    ⊎ ((places : ℕ → List ℕ) × IsGoneAtEnd log caller kept node colour places)
no_stamp_of log caller kept node colour after (none_for_one only had) = inl (only, had)
no_stamp_of log caller kept node colour after (none_for_several places gone) = inr (places, gone)

module _ (script : Script) (report : Report) (fits : IsFitting script) (well : IsWellFormed script report)
    (columns : AreAllColumns script.shape.regions script.shape.colours report.columns) (second : Rule2 script report)
    (nodes : ℕ → List Node) (third : Rule3 script (account_of script report nodes)) (n : ℕ)
    (home : (caller_of script n).own < script.shape.regions)
    (row_nodes : (r : BegunRow) → Contains ((log_of report nodes).rows (caller_of script n).own) r → r.row.client ≡ n
    → slice_get (nodes n) r.node.id.count ≡ Some r.node) where
  abbrev who : Caller
  who = caller_of script n

  abbrev own : ℕ
  own = who.own

  abbrev whole_log : Log
  whole_log = log_of report nodes

  abbrev bare_log : Log
  bare_log = log_of report no_nodes

  abbrev both_of : Walked
  both_of = record { script = script; report = report }

  abbrev looks : Lookups
  looks = lookups_of report

  abbrev g : RowReport → BegunRow
  g = full script report nodes

  abbrev find : Id → Option RowReport
  find id = row_with own id report.rows

  roomy : {log : Log} {kept : Kept} {colour : ℕ} → HadNoStamp log who kept colour → HadNoStamp log (with_room who kept) kept colour
  roomy h = record { events = h.events; unseen = h.unseen; there = h.there; ended = h.ended }

  unroomy : {log : Log} {kept : Kept} {colour : ℕ} → HadNoStamp log (with_room who kept) kept colour → HadNoStamp log who kept colour
  unroomy h = record { events = h.events; unseen = h.unseen; there = h.there; ended = h.ended }

  -- a of the account with nodes, and b of the one without
  module _ (what : What) (within : IsWithin script.shape.regions script.shape.colours what)
      (uses : UsesObject script.objects what) (u : Untold) (a b : Kept) (s : KeepSame script a b) where
    asked : colours_asked who a what ≡ colours_asked who b what
    asked = asked_same who what s

    low : (colour : ℕ) → In colour (colours_asked who a what) → colour < script.shape.colours
    low colour i = appended_within script fits n a what within colour i

    -- by the row that is found
    module _ (colour : ℕ) where
      several_end : (cs : List ℕ) → 2 ≤ length cs → HasEndedRow looks.is_open colour (find (next_id who b))
          → HasEnd looks both_of who b colour cs
      several_end [] two has = absurd (let f : ⊥ = omega (arith, two) in f)
      several_end (one ∷ []) two has = absurd (let f : ⊥ = omega (arith, two) in f)
      several_end (one ∷ other ∷ more) two has = has

      row_end : (x : Colours) (t : List ℕ) (places : ℕ → List ℕ)
          → IsGoneAtEnd whole_log (with_room who a) a (node_of who a x t) colour places
          → HasEndedRow looks.is_open colour (find (next_id who b))
      row_end x t places gone =
          let node = node_of who a x t in
          let back = in_map g (rows_in own report.rows) gone.begins.row
          (in_contains (map g (rows_in own report.rows)) gone.begins.row gone.begins.begun.begun) in
          let is : (g back.0).node ≡ node = ap (λ (q : BegunRow). q.node) back.2 ∙ gone.begins.begun.of_node in
          let same : back.0.id ≡ next_id who b =
          sym (full_id script report nodes back.0)
          ∙ (ap (λ (k : Node). k.id) is ∙ ap (λ (k : ℕ). let i : Id = record { client = n; count = k } in i) s.ids) in
          subst (HasEndedRow looks.is_open colour)
          (sym (row_found report.rows own (ids_apart script report nodes third own home) (next_id who b) back.0 back.1 same))
          (ended_row script report well columns second nodes third (with_room who a) home back.0 back.1 node is refl colour gone.ends
          gone.settled)

    end_onto : (colour : ℕ) → AppendsBy who a what (λ colours text.
        HasNoStamp whole_log (with_room who a) a (node_of who a colours text) colour
        (kept_where (is_several who a what) (kept_after_row u who a) a))
        → HasEnd looks both_of who b colour (colours_asked who b what)
    end_onto colour x =
        turn (no_stamp_of whole_log (with_room who a) a (node_of who a x.0 x.1) colour
        (kept_where (is_several who a what) (kept_after_row u who a) a) x.3) where
          its : members x.0 ≡ colours_asked who a what
          its = node_colours who a what x.0 x.1 x.2

          turn : ((members x.0 ≡ colour ∷ []) × HadNoStamp whole_log (with_room who a) a colour)
              ⊎ ((places : ℕ → List ℕ) × IsGoneAtEnd whole_log (with_room who a) a (node_of who a x.0 x.1) colour places)
              → HasEnd looks both_of who b colour (colours_asked who b what)
          turn (inl y) =
              subst (HasEnd looks both_of who b colour) (sym y.0 ∙ (its ∙ asked)) (
                refl,
                had_same script n whole_log bare_log (λ c. refl) home s colour
                    (low colour (subst (In colour) (sym y.0 ∙ its) (inl refl))) (unroomy y.1),
              )
          turn (inr y) =
              subst (HasEnd looks both_of who b colour) (its ∙ asked)
              (several_end colour (members x.0) y.1.begins.several (row_end colour x.0 x.1 y.0 y.1))

    end_back : (colour : ℕ) → In colour (colours_asked who a what)
        → (IsTrue (is_several who a what) → NamesSteps whole_log who a u.places)
        → (IsTrue (is_several who a what) → HasNode whole_log who a what) → HasEnd looks both_of who b colour (colours_asked who b what)
        → AppendsBy who a what (λ colours text. HasNoStamp whole_log (with_room who a) a (node_of who a colours text) colour
        (kept_where (is_several who a what) (kept_after_row u who a) a))
    end_back colour of_it named node x = by (colours_asked who a what) refl (subst (HasEnd looks both_of who b colour) (sym asked) x) where
      after : Bool → Kept
      after t = kept_where t (kept_after_row u who a) a

      by : (cs : List ℕ) → colours_asked who a what ≡ cs → HasEnd looks both_of who b colour cs
          → AppendsBy who a what (λ colours text. HasNoStamp whole_log (with_room who a) a (node_of who a colours text) colour
          (kept_where (is_several who a what) (kept_after_row u who a) a))
      by [] e h = absurd h
      by (one ∷ []) e h =
          let long = ap length e in
          let m = node_asked script fits n a what within uses (omega (arith, long)) in
          let only : members m.0 ≡ colour ∷ [] =
          node_colours who a what m.0 m.1 m.2 ∙ (e ∙ ap (λ (k : ℕ). k ∷ []) h.0) in
          let single : false ≡ is_several who a what = ap (λ (l : List ℕ). nat_lt 1 (length l)) (sym e) in (
            m.0,
            m.1,
            m.2,
            subst (λ (t : Bool). HasNoStamp whole_log (with_room who a) a (node_of who a m.0 m.1) colour
                (kept_where t (kept_after_row u who a) a)) single
                (none_for_one only (roomy (had_same script n bare_log whole_log (λ c. refl) home (turned s) colour (low colour of_it) h.1))),
          )
      by (one ∷ other ∷ more) e h =
          let long = ap length e in
          let many : true ≡ is_several who a what =
          sym (lt-ltb 1 (length (colours_asked who a what)) (omega (arith, long))) in
          let m = node (sym many) in (
            m.0,
            m.1,
            m.2,
            subst (λ (t : Bool). HasNoStamp whole_log (with_room who a) a (node_of who a m.0 m.1) colour
                (kept_where t (kept_after_row u who a) a)) many
                (none_for_several u.places (gone m (named (sym many)) (find (next_id who b)) refl h)),
          ) where
            gone : (m : HasNode whole_log who a what) → NamesSteps whole_log who a u.places → (o : Option RowReport)
                → find (next_id who b) ≡ o → HasEndedRow looks.is_open colour o
                → IsGoneAtEnd whole_log (with_room who a) a (node_of who a m.0 m.1) colour u.places
            gone m steps None found ended = absurd ended
            gone m steps (Some r) found ended = record {
              begins = record {
                several = let long = ap length e in let l = ap length its in omega (arith, long, l);
                next = m.3;
                room = omega arith;
                row = g r;
                begun = begun script report well columns second nodes third (with_room who a) home r there.0 node_is is refl;
                steps = λ c k d lt. let t = steps c k d lt in (t.0, t.1.0, t.1.1, t.1.2, t.1.3);
              };
              ends = ends_there script report well columns second nodes third (with_room who a) home r there.0 node_is is refl colour
                  mine ended;
              settled = settled_there script report well columns second nodes third (with_room who a) home r there.0 node_is is refl
                  colour mine ended;
            } where
              node_is : Node
              node_is = node_of who a m.0 m.1

              its : members m.0 ≡ colours_asked who a what
              its = node_colours who a what m.0 m.1 m.2

              mine : In colour (members m.0)
              mine = subst (In colour) (sym its) of_it

              there : In r (rows_in own report.rows) × (r.id ≡ next_id who b)
              there = found_row report.rows own (next_id who b) r found

              of_client : r.row.client ≡ n
              of_client = sym (own_id script report nodes third own home r there.0) ∙ ap (λ (i : Id). i.client) there.1

              is : (g r).node ≡ node_of who a m.0 m.1
              is =
                  let count : (g r).node.id.count ≡ a.ids =
                  ap (λ (i : Id). i.count) (full_id script report nodes r ∙ there.1) ∙ sym s.ids in
                  same_some (sym (row_nodes (g r)
                  (contains_in (map g (rows_in own report.rows)) (g r) (in_map-back g (rows_in own report.rows) r there.0)) of_client)
                  ∙ (ap (slice_get (nodes n)) count ∙ m.3))

    full_back : (used : ℕ) → IsTrue (is_several who a what) → used ≡ b.rows → b.rows ≡ who.rows
        → AppendsBy who a what (λ colours text. HasNoRowLeft who a colours used)
    full_back used many is all =
        let lt = ltb-true 1 (length (colours_asked who a what)) many in
        let m = node_asked script fits n a what within uses (omega (arith, lt)) in
        let long = ap length (node_colours who a what m.0 m.1 m.2) in (
          m.0,
          m.1,
          m.2,
          record { several = omega (arith, lt, long); shown = is ∙ sym s.rows; all = s.rows ∙ all },
        )

  -- A DECISION'S NODE

  module _ (what : What) (within : IsWithin script.shape.regions script.shape.colours what)
      (uses : UsesObject script.objects what) (k l : Kept) (s : KeepSame script k l) where
    late_onto : (ended : Ended) → EndHasCause whole_log who k what ended → HasLateEnd both_of who l what ended
    late_onto (ends.StampEnd colour) x =
        let its : colours_asked who k what ≡ colour ∷ [] = sym (node_colours who k what x.0 x.1 x.2) ∙ x.3.0 in (
          sym (asked_same who what s) ∙ its,
          had_same script n whole_log bare_log (λ c. refl) home s colour
              (appended_within script fits n k what within colour (subst (In colour) (sym its) (inl refl))) x.3.1,
        )
    late_onto (ends.Stood stamp point) x = tt
    late_onto ends.NoMemory x = tt

    late_back : (ended : Ended) → HasLateEnd both_of who l what ended → EndHasCause whole_log who k what ended
    late_back (ends.StampEnd colour) x =
        let its : colours_asked who k what ≡ colour ∷ [] = asked_same who what s ∙ x.0 in
        let long = ap length its in
        let m = node_asked script fits n k what within uses (omega (arith, long)) in (
          m.0,
          m.1,
          m.2,
          (
            node_colours who k what m.0 m.1 m.2 ∙ its,
            had_same script n bare_log whole_log (λ c. refl) home (turned s) colour
                (appended_within script fits n k what within colour (subst (In colour) (sym its) (inl refl))) x.1,
          ),
        )
    late_back (ends.Stood stamp point) x = tt
    late_back ends.NoMemory x = tt

  -- ANSWERS

  module _ (what : What) (within : IsWithin script.shape.regions script.shape.colours what)
      (uses : UsesObject script.objects what) (u v : Untold) (a b : Kept) (s : KeepSame script a b) (shown : List PlacedNode) where
    -- what is kept behind the answer too
    abbrev Past : Answer → Type 0
    Past answer =
        KeepSame script (kept_behind what (kept_told whole_log u who a what answer)) (kept_behind what (kept_told bare_log v who b what answer))

    -- behind a decide that found no stamp nothing has changed
    module _ (commits : Bool) (stamp : ℕ) (sync : SyncPiece) (read_stamp : ℕ)
        (raises : List RaisePiece)
        (syncs : List SyncPiece) where
      abbrev decided : Ended → Answer
      decided ended = answers.Decided commits stamp sync read_stamp raises syncs ended

      late_same : (colour : ℕ) → CanHave who a what shown (decided (ends.StampEnd colour)) → Past (decided (ends.StampEnd colour))
          → KeepSame script (kept_deciding whole_log who a sync read_stamp raises syncs) (kept_deciding bare_log who b sync read_stamp raises syncs)
      late_same colour can past =
          subst (λ (w : What). KeepSame script (kept_behind w (kept_told whole_log u who a w (decided (ends.StampEnd colour))))
          (kept_behind w (kept_told bare_log v who b w (decided (ends.StampEnd colour))))) can.2.2 past

      decided_onto : (ended : Ended) → CanHave who a what shown (decided ended) → Past (decided ended)
          → HasCause whole_log u who a what (decided ended) → IsCaused looks both_of who (kept_appending bare_log who b (decided ended)) what (decided ended)
      decided_onto (ends.StampEnd colour) can past x =
          late_onto what within uses (kept_deciding whole_log who a sync read_stamp raises syncs)
          (kept_deciding bare_log who b sync read_stamp raises syncs) (late_same colour can past) (ends.StampEnd colour) x
      decided_onto (ends.Stood at point) can past x = tt
      decided_onto ends.NoMemory can past x = tt

      decided_back : (ended : Ended) → CanHave who a what shown (decided ended) → Past (decided ended)
          → IsCaused looks both_of who (kept_appending bare_log who b (decided ended)) what (decided ended) → HasCause whole_log u who a what (decided ended)
      decided_back (ends.StampEnd colour) can past x =
          late_back what within uses (kept_deciding whole_log who a sync read_stamp raises syncs)
          (kept_deciding bare_log who b sync read_stamp raises syncs) (late_same colour can past) (ends.StampEnd colour) x
      decided_back (ends.Stood at point) can past x = tt
      decided_back ends.NoMemory can past x = tt

    caused_onto : (answer : Answer) → CanHave who a what shown answer → Past answer → HasCause whole_log u who a what answer
        → IsCaused looks both_of who (kept_appending bare_log who b answer) what answer
    caused_onto (answers.StampEnd colour) can past x = (x.0, end_onto what within uses u a b s colour x.1)
    caused_onto (answers.Full used) can past x = (x.0, x.1.3.shown ∙ s.rows, sym s.rows ∙ x.1.3.all)
    caused_onto answers.SameRegion can past x = x
    caused_onto (answers.Decided commits stamp sync read_stamp raises syncs ended) can past x =
        decided_onto commits stamp sync read_stamp raises syncs ended can past x
    caused_onto answers.NoTx can past x = (x.0, x.1, x.2, x.3, unread_same s x.0 x.4)
    caused_onto (answers.Trimmed colour base) can past x =
        trimmed_same script n whole_log bare_log (λ c. refl) home s colour
        (synced_within script fits n what within colour (in_contains (colours_synced who what) colour can.1)) base x
    caused_onto (answers.NotHome home_told) can past x = x
    caused_onto _ can past x = tt

    caused_back : (answer : Answer) → CanHave who a what shown answer → Past answer → Names whole_log u who a what answer
        → UsesNode whole_log who a what answer → IsCaused looks both_of who (kept_appending bare_log who b answer) what answer → HasCause whole_log u who a what answer
    caused_back (answers.StampEnd colour) can past named used x =
        (x.0, end_back what within uses u a b s colour (in_contains (colours_asked who a what) colour can.1) named used x.1)
    caused_back (answers.Full begun) can past named used x = (x.0, full_back what within uses u a b s begun can.1 x.1 x.2)
    caused_back answers.SameRegion can past named used x = x
    caused_back (answers.Decided commits stamp sync read_stamp raises syncs ended) can past named used x =
        decided_back commits stamp sync read_stamp raises syncs ended can past x
    caused_back answers.NoTx can past named used x = (x.0, x.1, x.2, x.3, unread_same (turned s) x.0 x.4)
    caused_back (answers.Trimmed colour base) can past named used x =
        trimmed_same script n bare_log whole_log (λ c. refl) home (turned s) colour
        (synced_within script fits n what within colour (in_contains (colours_synced who what) colour can.1)) base x
    caused_back (answers.NotHome home_told) can past named used x = x
    caused_back _ can past named used x = tt

-- THE RULE

module _ (tell : FindsTell) (agrees : ComputedAccountAgrees) (script : Script) (report : Report) (fits : IsFitting script)
    (well : IsWellFormed script report) (rules : RulesTo script report (account_showing script report) 5) where
  abbrev shown : Account
  shown = account_showing script report

  abbrev bare : Account
  bare = account_of script report no_nodes

  abbrev nodes : ℕ → List Node
  nodes = nodes_showing script report

  abbrev walked : Walked
  walked = record { script = script; report = report }

  first : Rule1 script report shown
  first = rule1 rules.0.0.0.0.1

  second : Rule2 script report
  second = rule2 rules.0.0.0.1

  third : Rule3 script (account_of script report nodes)
  third =
      let t = rule3 rules.0.0.1 in record { of_clients = t.of_clients; lawful = t.lawful; marked = t.marked; copies = t.copies }

  fourth : Rule4 script report shown
  fourth = rule4 rules.0.1

  fifth : Rule5 script report shown
  fifth = rule5 rules.1

  module _ (n : ℕ) (c : ClientReport) (there : slice_get report.clients n ≡ Some c) where
    abbrev it : Caller
    it = caller_of script n

    home : it.own < script.shape.regions
    home = home_low tell agrees script report fits well rules.0 n c there

    -- what the eleventh rule says of a step
    pub record Keeps (x : Step) : Type 0 where
      pub caused : HasCause shown.log x.untold it (kept_at x) x.command.what x.reply.answer
      pub room : IsTrue (began_row it x) → (kept_at x).rows < it.rows
      pub away : IsAway it (home_asked it x.command.what) → IsHomeRefusal x.reply.answer

    -- what it looks at, where the command and the answer are these
    record LooksAt (kept : Kept) (command : Command) (reply : ReplyLine) : Type 0 where
      pub caused : IsCaused (lookups_of report) walked it (kept_appending (log_walked walked) it (kept_before command.what kept) reply.answer) command.what reply.answer
      pub room : IsTrue (begins_row (is_several it (kept_before command.what kept) command.what) reply.answer)
          → (kept_before command.what kept).rows < it.rows
      pub away : IsAway it (home_asked it command.what) → IsHomeRefusal reply.answer

    looked : (x y : Step) → AreStepsAlike script it x y → LooksAt y.kept x.command x.reply → HasItsCause (lookups_of report) walked it y
    looked x y s h =
        let m : LooksAt y.kept y.command y.reply =
        subst (λ (d : Command). LooksAt y.kept d y.reply) s.command (subst (λ (r : ReplyLine). LooksAt y.kept x.command r) s.reply h) in
        record { caused = m.caused; room = m.room; away = m.away }

    unlooked : (x y : Step) → AreStepsAlike script it x y → HasItsCause (lookups_of report) walked it y → LooksAt y.kept x.command x.reply
    unlooked x y s h =
        subst (λ (r : ReplyLine). LooksAt y.kept x.command r) (sym s.reply)
        (subst (λ (d : Command). LooksAt y.kept d y.reply) (sym s.command)
        (record { caused = h.caused; room = h.room; away = h.away }))

    -- what is kept behind the step by the other account, where its command and reply are those of this one
    past_of : (x y : Step) → AreStepsAlike script it x y → KeepSame script (kept_past shown.log it x) (kept_past bare.log it y)
        → KeepSame script (kept_past shown.log it x)
        (kept_behind x.command.what
        (kept_told bare.log y.untold it (kept_before x.command.what y.kept) x.command.what x.reply.answer))
    past_of x y s past =
        subst (λ (r : ReplyLine). KeepSame script (kept_past shown.log it x) (kept_behind x.command.what
        (kept_told bare.log y.untold it (kept_before x.command.what y.kept) x.command.what r.answer))) (sym s.reply)
        (subst (λ (d : Command). KeepSame script (kept_past shown.log it x) (kept_behind d.what
        (kept_told bare.log y.untold it (kept_before d.what y.kept) d.what y.reply.answer))) (sym s.command) past)

    can_of : (x : Step) → In x (shown.steps n) → CanHave it (kept_at x) x.command.what x.reply.nodes x.reply.answer
    can_of x i =
        (All-contains (IsReplyTo it) (shown.steps n) x (first.replies n c there) (contains_in (shown.steps n) x i)).answer

    named_of : (x : Step) → In x (shown.steps n) → Names shown.log x.untold it (kept_at x) x.command.what x.reply.answer
    named_of x i =
        All-contains (λ (y : Step). Names shown.log y.untold it (kept_at y) y.command.what y.reply.answer) (shown.steps n) x
        (fourth.named n c there) (contains_in (shown.steps n) x i)

    used_of : (x : Step) → In x (shown.steps n) → UsesNode shown.log it (kept_at x) x.command.what x.reply.answer
    used_of x i =
        All-contains (λ (y : Step). UsesNode shown.log it (kept_at y) y.command.what y.reply.answer) (shown.steps n) x
        (fifth.used n c there) (contains_in (shown.steps n) x i)

    several : (x y : Step) → AreStepsAlike script it x y
        → is_several it (kept_at x) x.command.what ≡ is_several it (kept_before x.command.what y.kept) x.command.what
    several x y s =
        ap (λ (cs : List ℕ). nat_lt 1 (length cs)) (asked_same it x.command.what (before_same s.kept x.command.what))

    onto : All Keeps (shown.steps n) → All (HasItsCause (lookups_of report) walked it) (bare.steps n)
    onto = to_bare tell agrees script report fits well rules.0 n c there Keeps (HasItsCause (lookups_of report) walked it) (λ x y i r h.
        let s = before_same r.alike.kept x.command.what in
        looked x y r.alike (record {
          caused = caused_onto script report fits well first.columns second nodes third n home (fifth.own n c there).row_nodes
              x.command.what (its_within tell agrees script report fits well rules.0 n c there x i)
              (its_object tell agrees script report fits well rules.0 n c there x i) x.untold y.untold (kept_at x)
              (kept_before x.command.what y.kept) s x.reply.nodes x.reply.answer (can_of x i) (past_of x y r.alike r.past) h.caused;
          room = λ t. subst (λ (k : ℕ). k < it.rows) s.rows
              (h.room (subst (λ (b : Bool). IsTrue (begins_row b x.reply.answer)) (sym (several x y r.alike)) t));
          away = h.away;
        }))

    back : All (HasItsCause (lookups_of report) walked it) (bare.steps n) → All Keeps (shown.steps n)
    back = to_shown tell agrees script report fits well rules.0 n c there Keeps (HasItsCause (lookups_of report) walked it) (λ x y i r q.
        let s = before_same r.alike.kept x.command.what in
        let h = unlooked x y r.alike q in
        record {
          caused = caused_back script report fits well first.columns second nodes third n home (fifth.own n c there).row_nodes
              x.command.what (its_within tell agrees script report fits well rules.0 n c there x i)
              (its_object tell agrees script report fits well rules.0 n c there x i) x.untold y.untold (kept_at x)
              (kept_before x.command.what y.kept) s x.reply.nodes x.reply.answer (can_of x i) (past_of x y r.alike r.past)
              (named_of x i) (used_of x i) h.caused;
          room = λ t. subst (λ (k : ℕ). k < it.rows) (sym s.rows)
              (h.room (subst (λ (b : Bool). IsTrue (begins_row b x.reply.answer)) (several x y r.alike) t));
          away = h.away;
        })

pub eleventh_is_causes : FindsTell → ComputedAccountAgrees → EleventhIsCauses
eleventh_is_causes tell agrees script report fits well rules = (
  λ causes. record {
    caused = λ n c there k d lt. (kept_of n c there causes k d lt).caused;
    room = λ n c there k d lt. (kept_of n c there causes k d lt).room;
    away = λ n c there k d lt. (kept_of n c there causes k d lt).away;
  },
  λ rule n c there. onto tell agrees script report fits well five n c there (λ k d lt. record {
    caused = rule.caused n c there k d lt;
    room = rule.room n c there k d lt;
    away = rule.away n c there k d lt;
  }),
) where
  five : RulesTo script report (account_showing script report) 5
  five = rules.0.0.0.0.0

  kept_of : (n : ℕ) (c : ClientReport) (there : slice_get report.clients n ≡ Some c)
      → OfEachStep script report (account_of script report no_nodes)
      (HasItsCause (lookups_of report) (record { script = script; report = report }))
      → All (Keeps tell agrees script report fits well five n c there) ((account_showing script report).steps n)
  kept_of n c there causes = back tell agrees script report fits well five n c there (causes n c there)
