-- From the causes of refusals, as they are looked up, to what is told of a step and of the report.
use mathlib.Core.Path.{fun_ext}
use Rattle.std.proofs.Common.{◌≡◌, ◌∙◌, refl, ap, sym, subst, Bool, false, ℕ, ◌<◌, ◌≤◌, List, Option, Some, None, inl, inr, arith}
use Rattle.std.specs.Prelude.{◌==◌, ◌&&◌, IsTrue, slice_get}
use Rattle.std.proofs.lemmas.Bool.{cases_Bool, cases_lt, eqb-true}
use Rattle.std.proofs.lemmas.List.Elements.{All-contains}
use Rattle.std.proofs.lemmas.Option.{slice_get_within}
use Rattle.log_node.specs.declared.ids.Id.{Id}
use Rattle.log_node.specs.Seen.{PlacedNode}
use Rattle.log_node.proofs.CallerLemmas.{get_within, same_some}
use Rattle.col_core.specs.Keeping.{Kept}
use Rattle.col_core.proofs.CallerLemmas.{In, contains_in, in_contains, in_filter, slice_in}
use Rattle.script_text.specs.declared.commands.What.{What}
use Rattle.script_text.specs.declared.script.Command.{Command}
use Rattle.script_text.specs.declared.script.Script.{Script}
use Rattle.script_text.specs.Fitting.{IsFitting, IsWithin}
use Rattle.report_text.specs.declared.report.Answer.{Answer}
use Rattle.report_text.specs.declared.report.Answer.TheVariants as answers
use Rattle.report_text.specs.declared.report.ColumnReport.{ColumnReport}
use Rattle.report_text.specs.declared.report.Ended.{Ended}
use Rattle.report_text.specs.declared.report.Ended.TheVariants as ends
use Rattle.report_text.specs.declared.report.ReplyLine.{ReplyLine}
use Rattle.report_text.specs.declared.report.Report.{Report}
use Rattle.lawful_run.specs.Callers.{Caller, caller_of, commands_of}
use Rattle.lawful_run.specs.Asks.{home_asked}
use Rattle.lawful_run.specs.Deeds.{colours_synced}
use Rattle.lawful_run.specs.Refusals.{IsAway, IsHomeRefusal}
use Rattle.column_track.specs.Tracks.{Tells, Tracked}
use Rattle.run_rules.specs.Told.{OfEachStep, Step, colours_asked, is_several, kept_appending, kept_at}
use Rattle.run_rules.specs.Telling.{account_of, no_nodes, replies_to}
use Rattle.run_rules.specs.Answering.{CanEnd, CanHave}
use Rattle.run_rules.specs.Deciding.{account_showing}
use Rattle.run_rules.specs.Keeping.{RulesTo}
use Rattle.run_rules.specs.Shown.{Rule11, begins_row}
use Rattle.walk_law.specs.declared.eleventh.Causes.{Causes}
use Rattle.walk_law.specs.declared.row_table.RowTable.{RowTable}
use Rattle.walk_law.specs.Columns.{AreAllColumns}
use Rattle.walk_law.specs.Eleventh.{AreOpenIds, EleventhIsCauses, HasItsCause, HasLowColour, HasLowEnd, IsCaused, Lookups, is_left, is_put, lookups_of, looks_in}
use Rattle.walk_law.specs.Fifth.{Finding}
use Rattle.walk_law.specs.Keepings.{Counted}
use Rattle.walk_law.specs.LeftOpen.{is_open_among, is_open_in}
use Rattle.walk_law.specs.RowPlaces.{AreRowPlaces}
use Rattle.walk_law.specs.Walking.{DecidesEachStep, IsSeen, MayWalk, Walked, log_walked}
use Rattle.walk_law.proofs.ColumnPlaces.{column_within}
use Rattle.walk_law.proofs.LeftLemmas.{none_there}
use Rattle.walk_law.proofs.Members.{told_as}
use Rattle.walk_law.proofs.ShapeColours.{appended_within, synced_within}

-- THE COLOUR OF A REFUSAL

module _ (script : Script) (fits : IsFitting script) (n : ℕ) where
  -- it is one of the shape
  pub low_of : (what : What) → IsWithin script.shape.regions script.shape.colours what → (kept : Kept) (nodes : List PlacedNode)
      (answer : Answer) → CanHave (caller_of script n) kept what nodes answer → HasLowColour script.shape.colours answer
  low_of what within kept nodes (answers.StampEnd colour) can =
      appended_within script fits n kept what within colour (in_contains (colours_asked (caller_of script n) kept what) colour can.1)
  low_of what within kept nodes (answers.Trimmed colour base) can =
      synced_within script fits n what within colour (in_contains (colours_synced (caller_of script n) what) colour can.1)
  low_of what within kept nodes (answers.Decided commits stamp sync read_stamp raises syncs ended) can = by ended can.4 where
    by : (e : Ended) → CanEnd (colours_asked (caller_of script n) kept what) e → HasLowEnd script.shape.colours e
    by (ends.StampEnd colour) has =
        appended_within script fits n kept what within colour (in_contains (colours_asked (caller_of script n) kept what) colour has)
    by (ends.Stood stamp point) has = tt
    by ends.NoMemory has = tt
  low_of what within kept nodes _ can = tt

-- A STEP

-- what is asked of a step, where the command and the answer are these
abbrev pub IsCausedSo : Lookups → Walked → Caller → Kept → What → Answer → Type 0
IsCausedSo looks walked caller kept what answer =
    (IsTrue (begins_row (is_several caller kept what) answer) → kept.rows < caller.rows)
    × (IsAway caller (home_asked caller what) → IsHomeRefusal answer)
    × IsCaused looks walked caller (kept_appending (log_walked walked) caller kept answer) what answer

module _ (walked : Walked) (tracks : List Tracked) (may : MayWalk walked.script walked.report tracks) (client place : ℕ)
    (before : Counted) (step : Step) (seen : IsSeen walked client place before step) (command : Command)
    (asks : slice_get (commands_of walked.script client) place ≡ Some command) (reply : ReplyLine)
    (replied : slice_get (replies_to walked.report client) place ≡ Some reply) where
  abbrev caller : Caller
  caller = caller_of walked.script client

  command_is : step.command ≡ command
  command_is = same_some (sym seen.command ∙ asks)

  reply_is : step.reply ≡ reply
  reply_is = same_some (sym seen.reply ∙ replied)

  pub low_colour : HasLowColour walked.script.shape.colours reply.answer
  low_colour =
      subst (λ (r : ReplyLine). HasLowColour walked.script.shape.colours r.answer) reply_is
      (low_of walked.script may.fitting client step.command.what
      (All-contains (λ (d : Command). IsWithin walked.script.shape.regions walked.script.shape.colours d.what) walked.script.commands
      step.command may.fitting.commands (contains_in walked.script.commands step.command
      (in_filter (λ (d : Command). d.client == client) step.command walked.script.commands
      (slice_in (commands_of walked.script client) place step.command seen.command)).0))
      (kept_at step) step.reply.nodes step.reply.answer seen.can.answer)

  module _ (looks : Lookups) where
    pub cause_so : HasItsCause looks walked caller step
        → IsCausedSo looks walked caller (kept_at step) command.what reply.answer
    cause_so h =
        subst (λ (d : Command). IsCausedSo looks walked caller (kept_at step) d.what reply.answer) command_is
        (subst (λ (r : ReplyLine). IsCausedSo looks walked caller (kept_at step) step.command.what r.answer) reply_is
        (h.room, h.away, h.caused))

    pub cause_from : IsCausedSo looks walked caller (kept_at step) command.what reply.answer
        → HasItsCause looks walked caller step
    cause_from h =
        let m = subst (λ (d : Command). IsCausedSo looks walked caller (kept_at step) d.what step.reply.answer) (sym command_is)
        (subst (λ (r : ReplyLine). IsCausedSo looks walked caller (kept_at step) command.what r.answer) (sym reply_is) h) in
        record { room = m.0; away = m.1; caused = m.2 }

-- THE REPORT

module _ (script : Script) (report : Report) (causes : Causes) (rows : AreRowPlaces report.rows causes.places)
    (open_ids : AreOpenIds script.shape.regions report.columns causes.open.items)
    (columns : AreAllColumns script.shape.regions script.shape.colours report.columns) where
  not_open : (region : ℕ) (id : Id) → script.shape.regions ≤ region → is_open_among region report.columns id ≡ false
  not_open region id ge = none_there (λ (c : ColumnReport). (c.region == region) && is_open_in id c) report.columns each where
    each : (c : ColumnReport) → In c report.columns → ((c.region == region) && is_open_in id c) ≡ false
    each c i = elim (cases_Bool (c.region == region)) [
      | inl t ↦
          let e = eqb-true c.region region t in
          let lt = (column_within script.shape.regions script.shape.colours report.columns columns c i).0 in
          absurd (let f : ⊥ = omega (arith, e, lt, ge) in f)
      | inr f ↦ ap (λ (b : Bool). b && is_open_in id c) f
    ]

  left_same : (region : ℕ) (id : Id) → is_left causes region id ≡ is_open_among region report.columns id
  left_same region id = elim (cases_lt region script.shape.regions) [
    | inl lt ↦
        let many = open_ids.many in
        let table = get_within causes.open.items region (omega (arith, lt, many)) in
        ap (λ (o : Option RowTable). is_put o id) table.1 ∙ open_ids.each region table.0 table.1 id
    | inr ge ↦ by ge (slice_get causes.open.items region) refl
  ] where
    by : script.shape.regions ≤ region → (o : Option RowTable) → slice_get causes.open.items region ≡ o
        → is_put o id ≡ is_open_among region report.columns id
    by ge None at = sym (not_open region id ge)
    by ge (Some t) at =
        let lt = slice_get_within causes.open.items region t at in
        let many = open_ids.many in
        absurd (let f : ⊥ = omega (arith, lt, many, ge) in f)

  looks_same : looks_in causes report.rows ≡ lookups_of report
  looks_same =
      ap (λ (f : Finding). let l : Lookups = record { row = f; is_open = is_left causes } in l)
      (fun_ext (λ region. fun_ext (λ id. rows region id)))
      ∙ ap (λ (g : ℕ → Id → Bool). let l : Lookups = record { row = (lookups_of report).row; is_open = g } in l)
      (fun_ext (λ region. fun_ext (λ id. left_same region id)))

  abbrev walked : Walked
  walked = record { script = script; report = report }

  pub eleventh_told : EleventhIsCauses → (tracks : List Tracked) → MayWalk script report tracks
      → RulesTo script report (account_showing script report) 10 → (b : Bool)
      → DecidesEachStep walked (λ caller step. HasItsCause (looks_in causes report.rows) walked caller step) b
      → Tells b (Rule11 script report (account_showing script report))
  eleventh_told law tracks may rules b told =
      let both = law script report may.fitting may.formed rules in
      told_as b (OfEachStep script report (account_of script report no_nodes) (HasItsCause (lookups_of report) walked))
      (Rule11 script report (account_showing script report)) both.0 both.1
      (subst (λ (l : Lookups). Tells b (OfEachStep script report (account_of script report no_nodes) (HasItsCause l walked))) looks_same
      (told no_nodes))
