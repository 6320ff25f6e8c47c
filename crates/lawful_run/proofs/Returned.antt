-- Appends that returned stand in the closing lines.
use Rattle.std.proofs.Common.{◌≡◌, ℕ, zero, suc, List, [], ◌∷◌, Option, Some, None, slice_get, refl, ap, sym, subst, ◌∙◌}
use Rattle.std.specs.Prelude.{◌≢◌}
use Rattle.std.specs.List.{Contains}
use Rattle.std.proofs.lemmas.List.Elements.{All-contains}
use Rattle.log_node.specs.declared.ids.Id.{Id}
use Rattle.log_node.specs.declared.ids.Key.{Key}
use Rattle.log_node.specs.declared.ids.Colours.{Colours}
use Rattle.log_node.specs.Seen.{PlacedNode}
use Rattle.log_node.specs.Sets.{members}
use Rattle.part_fold.specs.Decisions.{decision_text}
use Rattle.col_core.specs.History.{line, entry_key}
use Rattle.col_core.specs.Appending.{StandsUnder}
use Rattle.col_core.specs.Keeping.{Kept}
use Rattle.script_text.specs.declared.commands.What.{What}
use Rattle.script_text.specs.declared.script.Script.{Script}
use Rattle.report_text.specs.declared.report.Answer.{Answer}
use Rattle.report_text.specs.declared.report.Answer.TheVariants as answers
use Rattle.report_text.specs.declared.report.Ended.{Ended}
use Rattle.report_text.specs.declared.report.Ended.TheVariants as ends
use Rattle.report_text.specs.declared.report.PointPiece.{PointPiece}
use Rattle.report_text.specs.declared.report.ReplyLine.{ReplyLine}
use Rattle.report_text.specs.declared.report.ClientReport.{ClientReport}
use Rattle.report_text.specs.declared.report.Report.{Report}
use Rattle.lawful_run.specs.Callers.{Caller, caller_of, node_of}
use Rattle.lawful_run.specs.Asks.{rising}
use Rattle.lawful_run.specs.Deeds.{AsksToAppend}
use Rattle.lawful_run.specs.Appends.{Appends, AppendsUnshown, one_unshown, several_unshown, StandsAt}
use Rattle.lawful_run.specs.Columns.{IsColumnReport}
use Rattle.lawful_run.specs.Parts.{EndsAs}
use Rattle.lawful_run.specs.Refusals.{kept_before}
use Rattle.lawful_run.specs.Explains.{Explains}
use Rattle.lawful_run.specs.Stops.{Stops, stopped_at_once, stopped_after}
use Rattle.lawful_run.specs.Lawful.{LawfulRun}
use Rattle.lawful_run.specs.Readings.{IsLogged, kept_at, kept_of, Nowhere, Under, told, told_end, StandsAtEnd, StandsAtPoints, StandsAs, ReturnedAppendsStand}
use Rattle.lawful_run.proofs.Replies.{step_of}
use Rattle.lawful_run.proofs.Traces.{one_of}
use Rattle.lawful_run.proofs.LettingGo.{asks_before}
use Rattle.lawful_run.proofs.Used.{before_ids}
use Rattle.lawful_run.proofs.Decisions.{decide_asks, reads_behind}
use Rattle.lawful_run.proofs.Clients.{shown_there}

module _ (script : Script) (report : Report) (run : LawfulRun script report) (client : ℕ) where
  abbrev caller : Caller
  caller = caller_of script client

  -- the id that is next over what the client keeps
  abbrev id : Kept → Id
  id kept = record { client = client; count = kept.ids }

  -- where a key stands in a line of the log it stands in the closing line
  closing : (colour position : ℕ) (key : Key) → slice_get (line (run.log.histories caller.own colour)) position
      ≡ Some key
      → StandsAtEnd report caller.own colour position key
  closing colour position key stands column there own same =
      let c = All-contains (IsColumnReport run.log script) report.columns column run.columns.each there in
      let shown : column.line ≡ line (run.log.histories caller.own colour) =
      c.closing.line_shown ∙ (ap line c.history ∙ (ap (λ (r : ℕ). line (run.log.histories r column.colour)) own
      ∙ ap (λ (d : ℕ). line (run.log.histories caller.own d)) same)) in
      ap (λ (l : List Key). slice_get l position) shown ∙ stands

  pub at_points : (kept : Kept) (colours : Colours) (text : List ℕ) (stamp : ℕ) (row : Option ℕ) (points : List PointPiece)
      (after : Kept) → Appends run.log caller kept (node_of caller kept colours text) stamp row points after
      → StandsAtPoints report caller.own (id kept) colours stamp points
  at_points kept colours text stamp None [] after a = absurd a
  at_points kept colours text stamp None (p ∷ []) after a = record {
    all = sym a.0;
    each = λ q there. subst (λ (x : PointPiece). StandsAtEnd report caller.own x.colour x.position (entry_key stamp (id kept)))
        (one_of p q there)
        (closing p.colour p.position (entry_key stamp (id kept)) a.3.stands);
  }
  at_points kept colours text stamp None (p ∷ q ∷ points) after a = absurd a
  at_points kept colours text stamp (Some number) points after a = record {
    all = a.2.colours;
    each = λ q there. closing q.colour q.position (entry_key stamp (id kept))
        (All-contains (StandsAt run.log caller kept
        (node_of caller kept colours text) stamp) points q a.2.each there).stands;
  }

  -- the log has a node with this text where the client's next one is
  abbrev pub IsNextLogged : ℕ → List ℕ → Type 0
  IsNextLogged count text = IsLogged run.log (record { client = client; count = count }) text

  pub in_log : (kept : Kept) (colours : Colours) (text : List ℕ) (stamp : ℕ) (row : Option ℕ) (points : List PointPiece)
      (after : Kept) → Appends run.log caller kept (node_of caller kept colours text) stamp row points after
      → IsNextLogged kept.ids text
  in_log kept colours text stamp None [] after a = absurd a
  in_log kept colours text stamp None (p ∷ []) after a = (node_of caller kept colours text, a.3.next, refl)
  in_log kept colours text stamp None (p ∷ q ∷ points) after a = absurd a
  in_log kept colours text stamp (Some number) points after a = (node_of caller kept colours text, a.2.begins.next, refl)

  unshown_logged : (kept : Kept) (colours : Colours) (text : List ℕ) (stamp : ℕ) (after : Kept)
      → AppendsUnshown run.log caller kept (node_of caller kept colours text) stamp after → IsNextLogged kept.ids text
  unshown_logged kept colours text stamp after (one_unshown colour place position only a) =
      (node_of caller kept colours text, a.next, refl)
  unshown_logged kept colours text stamp after (several_unshown places begins outcome stand above) =
      (node_of caller kept colours text, begins.next, refl)

  stopped_logged : (kept : Kept) (colours : Colours) (text : List ℕ) (steps : ℕ) (after : Kept)
      → Stops run.log caller kept (node_of caller kept colours text) steps after → steps ≢ 0 → IsNextLogged kept.ids text
  stopped_logged kept colours text steps after stopped_at_once some = absurd (some refl)
  stopped_logged kept colours text steps after (stopped_after before places s) some =
      (node_of caller kept colours text, s.begins.next, refl)

  unshown : (kept : Kept) (colours : Colours) (text : List ℕ) (stamp : ℕ) (after : Kept)
      → AppendsUnshown run.log caller kept (node_of caller kept colours text) stamp after
      → StandsAs report caller.own (id kept) colours (Under stamp)
  unshown kept colours text stamp after (one_unshown colour place position only a) c there = (
    position,
    subst (λ d. StandsAtEnd report caller.own d position (entry_key stamp (id kept)))
        (one_of colour c (subst (λ (l : List ℕ). Contains l c) only there))
        (closing colour position (entry_key stamp (id kept)) a.stands),
  )
  unshown kept colours text stamp after (several_unshown places begins outcome stand above) c there =
      let s = All-contains (λ colour. (position : ℕ) × StandsUnder (run.log.histories caller.own colour)
      (node_of caller kept colours text) stamp position)
      (members colours) c stand there in
      (s.0, closing c s.0 (entry_key stamp (id kept)) s.1)

  -- how the append of a decision ended, where its node stands
  ended : (kept : Kept) (what : What) (said : List ℕ) (end : Ended) (after : Kept)
      → EndsAs run.log caller kept what said end after → told_end end ≢ Nowhere
      → (colours : Colours) × (text : List ℕ) × AsksToAppend caller kept what colours text
      × StandsAs report caller.own (id kept) colours (told_end end) × IsNextLogged kept.ids text
  ended kept what said (ends.Stood stamp point) after a n = (
    a.0,
    a.1,
    a.2,
    at_points kept a.0 a.1 stamp None (point ∷ []) after a.3.1,
    in_log kept a.0 a.1 stamp None (point ∷ []) after a.3.1,
  )
  ended kept what said (ends.StampEnd colour) after a n = absurd (n refl)
  ended kept what said ends.NoMemory after a n = absurd (n refl)

  -- an answer that tells of a node
  returned : (kept : Kept) (what : What) (answer : Answer) (nodes : List PlacedNode) (after : Kept)
      → Explains run.log caller kept what answer nodes after
      → told answer ≢ Nowhere
      → (colours : Colours) × (text : List ℕ) × AsksToAppend caller kept what colours text
      × StandsAs report caller.own (id kept) colours (told answer) × IsNextLogged kept.ids text
  returned kept what answers.NoMemory nodes after e n = absurd (n refl)
  returned kept what (answers.Stood stamp row points) nodes after e n = (
    e.2.0,
    e.2.1,
    e.2.2,
    at_points kept e.2.0 e.2.1 stamp row points after e.2.3,
    in_log kept e.2.0 e.2.1 stamp row points after e.2.3,
  )
  returned kept what (answers.StampEnd colour) nodes after e n = absurd (n refl)
  returned kept what (answers.Full used) nodes after e n = absurd (n refl)
  returned kept what (answers.Stopped zero) nodes after e n = absurd (n refl)
  returned kept what (answers.Stopped (suc steps)) nodes after e n = (
    e.1,
    e.2,
    subst (λ (w : What). AsksToAppend caller kept w e.1 e.2) (sym e.3) (refl, refl),
    tt,
    stopped_logged kept e.1 e.2 (suc steps) after e.4 (λ none. let f : ⊥ = cc (none) in f),
  )
  returned kept what (answers.Synced sync plays) nodes after e n = absurd (n refl)
  returned kept what (answers.Scanned stamp count raises syncs) nodes after e n = absurd (n refl)
  returned kept what (answers.Pulled count give carry) nodes after e n = absurd (n refl)
  returned kept what answers.SameRegion nodes after e n = absurd (n refl)
  returned kept what (answers.Based shown base) nodes after e n = absurd (n refl)
  returned kept what (answers.Got value sync) nodes after e n = absurd (n refl)
  returned kept what (answers.GotMany values sync) nodes after e n = absurd (n refl)
  returned kept what (answers.GotKeys stamp shown raises syncs) nodes after e n = absurd (n refl)
  returned kept what (answers.Ruled conflict stamp row points read_stamp raises syncs) nodes after e n =
      let a = e.1.1 in
      let s = a.3 in
      (a.0, a.1, a.2, (s.0, at_points kept a.0 a.1 s.0 row points s.1 s.2), in_log kept a.0 a.1 s.0 row points s.1 s.2)
  returned kept what (answers.Changed failed stamp row points read_stamp raises syncs) nodes after e n =
      let a = e.1.1 in
      let s = a.3 in
      (a.0, a.1, a.2, (s.0, at_points kept a.0 a.1 s.0 row points s.1 s.2), in_log kept a.0 a.1 s.0 row points s.1 s.2)
  returned kept what (answers.Listed names stamp raises syncs) nodes after e n = absurd (n refl)
  returned kept what (answers.Undecided stamp sync) nodes after e n = absurd (n refl)
  returned kept what (answers.Decided commits stamp sync read_stamp raises syncs end) nodes after e n =
      let d = e.3 in
      let quiet = reads_behind run.log caller kept sync (rising e.1) read_stamp raises syncs d.read d.tells.0 in
      let r = ended d.read what (decision_text (record { key = d.waits; commits = commits })) end after d.ends n in (
        r.0,
        r.1,
        decide_asks caller d.read kept what sync e.1 e.2 r.0 r.1 r.2,
        subst (λ (m : ℕ). StandsAs report caller.own (record { client = client; count = m }) r.0 (told_end end)) quiet.ids r.3,
        subst (λ (m : ℕ). IsNextLogged m r.1) quiet.ids r.4,
      )
  returned kept what (answers.Moved lined waiting colour events) nodes after e n = absurd (n refl)
  returned kept what answers.NoTx nodes after e n = absurd (n refl)
  returned kept what (answers.Took value point sync) nodes after e n =
      let a = e.3 in
      let s = a.3 in (
        a.0,
        a.1,
        a.2,
        (s.0, at_points kept a.0 a.1 s.0 None (point ∷ []) s.1 s.2),
        in_log kept a.0 a.1 s.0 None (point ∷ []) s.1 s.2,
      )
  returned kept what (answers.UnreadTrimmed stamp colour base) nodes after e n =
      let a = e.2 in
      let s = a.3 in
      (a.0, a.1, a.2, unshown kept a.0 a.1 stamp s.0 s.1, unshown_logged kept a.0 a.1 stamp s.0 s.1)
  returned kept what (answers.UnreadNoMemory stamp) nodes after e n =
      let a = e.2 in
      let s = a.3 in
      (a.0, a.1, a.2, unshown kept a.0 a.1 stamp s.0 s.1, unshown_logged kept a.0 a.1 stamp s.0 s.1)
  returned kept what (answers.Trimmed colour base) nodes after e n = absurd (n refl)
  returned kept what (answers.NotHome home) nodes after e n = absurd (n refl)

pub returned_appends_stand : ReturnedAppendsStand
returned_appends_stand script report run client k reply there n =
    let c = shown_there run client there.0 there.1 in
    let replied : slice_get c.0.shown.replies k ≡ Some reply = ap (λ (x : ClientReport). slice_get x.replies k) c.1
    ∙ there.2 in
    let s = step_of (run.clients client c.0.shown c.0.of_client).explained k reply replied in
    let step = s.0 in
    let is = s.1 in
    let kept = kept_at (run.clients client c.0.shown c.0.of_client).explained k in
    let same = c.0.numbered k in
    let own = (caller_of script client).own in
    let r = returned script report run client (kept_before step.command.what kept) step.command.what step.reply.answer
    step.reply.nodes
    step.answers.answered step.answers.explained (subst (λ (x : ReplyLine). told x.answer ≢ Nowhere) (sym is) n) in
    let asks = asks_before (caller_of script client) step.command.what kept r.0 r.1 r.2 in (
      record { client = client; count = (kept_of run client k).ids },
      r.0,
      r.1,
      record {
        replied = (c.0.shown, c.0.of_client, replied);
        command = step.command;
        asked = step.asked;
        asks = subst (λ (x : Kept). AsksToAppend (caller_of script client) x step.command.what r.0 r.1) (sym same) asks;
        id_is = refl;
        logged = subst (λ (m : ℕ). IsLogged run.log (record { client = client; count = m }) r.1)
            (before_ids step.command.what kept ∙ ap (λ (x : Kept). x.ids) (sym same)) r.4;
      },
      subst (λ (x : ReplyLine). StandsAs report own (record { client = client; count = (kept_of run client k).ids }) r.0
          (told x.answer)) is
          (subst (λ (m : ℕ). StandsAs report own (record { client = client; count = m }) r.0 (told step.reply.answer))
          (before_ids step.command.what kept ∙ ap (λ (x : Kept). x.ids) (sym same)) r.3),
    )
