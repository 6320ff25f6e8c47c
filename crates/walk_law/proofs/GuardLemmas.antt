-- Appends that may only stand next, by what is looked up of open entries.
use Rattle.std.proofs.Common.{◌≡◌, ◌∙◌, refl, ap, sym, subst, Bool, true, false, ℕ, ◌+◌, ◌*◌, ◌<◌, ◌≤◌, List, length, take, drop, Some, inl, inr, arith}
use Rattle.std.specs.Prelude.{◌==◌, slice_get}
use Rattle.std.specs.List.{All}
use Rattle.std.proofs.lemmas.Bool.{cases_Bool, eq-eqb, eqb-true, true≢false}
use Rattle.std.proofs.lemmas.List.{length-map, take-append-drop}
use Rattle.std.proofs.lemmas.List.Elements.{All-contains}
use Rattle.log_node.specs.declared.node.At.TheVariants.{Event}
use Rattle.log_node.specs.Seen.{PlacedNode}
use Rattle.log_node.specs.Vectors.{at}
use Rattle.log_node.proofs.CallerLemmas.{get_map_back, same_some}
use Rattle.col_core.specs.declared.Entry.{Entry}
use Rattle.col_core.specs.Computed.{cut, dated}
use Rattle.col_core.specs.History.{entries, line, open_count}
use Rattle.col_core.specs.IdLaws.{OwnLineWithin}
use Rattle.col_core.specs.Legal.{IsColumnHistory}
use Rattle.col_core.specs.Log.{Log}
use Rattle.col_core.specs.Keeping.{Kept}
use Rattle.col_core.proofs.CallerLemmas.{In, all_in, contains_in, in_filter, in_map-back, lawful_beginning, slice_in}
use Rattle.script_text.specs.declared.commands.What.{What}
use Rattle.script_text.specs.declared.script.Command.{Command}
use Rattle.script_text.specs.declared.script.Script.{Script}
use Rattle.script_text.specs.Fitting.{IsFitting, IsWithin}
use Rattle.report_text.specs.declared.report.Answer.{Answer}
use Rattle.report_text.specs.declared.report.Answer.TheVariants as answers
use Rattle.report_text.specs.declared.report.ClientReport.{ClientReport}
use Rattle.report_text.specs.declared.report.ColumnReport.{ColumnReport}
use Rattle.report_text.specs.declared.report.PointPiece.{PointPiece}
use Rattle.report_text.specs.declared.report.ReplyLine.{ReplyLine}
use Rattle.report_text.specs.declared.report.Report.{Report}
use Rattle.lawful_run.specs.Callers.{Caller, caller_of, commands_of}
use Rattle.lawful_run.specs.Appends.{IsSoLong, WasNext}
use Rattle.column_track.specs.Tracks.{Tells, Tracked, mark_after}
use Rattle.column_track.specs.declared.marks.Mark.{Mark}
use Rattle.run_rules.proofs.CallerLemmas.{reports_tell}
use Rattle.run_rules.specs.Told.{Account, IsTold, OfEachStep, Step, colours_asked, kept_at}
use Rattle.run_rules.specs.Telling.{account_of, no_nodes, replies_to}
use Rattle.run_rules.specs.Answering.{CanHave}
use Rattle.run_rules.specs.Deciding.{account_showing}
use Rattle.run_rules.specs.Keeping.{RulesTo}
use Rattle.run_rules.specs.Rules.{IsReplyTo}
use Rattle.run_rules.specs.Shown.{Rule12, StandsNext}
use Rattle.walk_law.specs.Journals.{track_shown}
use Rattle.walk_law.specs.Keepings.{Counted, IsCell, IsCounted, seen_at}
use Rattle.walk_law.specs.Twelfth.{AreOfColumns, HasLowPoints, IsGuarded, IsLong, Opening, StandsFirst, TwelfthIsBare, WasFirst, open_in, opens_in}
use Rattle.walk_law.specs.Walking.{DecidesEachStep, IsSeen, MayWalk, Walked, journal_walked, log_walked}
use Rattle.walk_law.proofs.Members.{told_as}
use Rattle.walk_law.proofs.OpenLemmas.{opens_at}
use Rattle.walk_law.proofs.ShapeColours.{appended_within, home_within}
use Rattle.walk_law.proofs.SubjectLemmas.{column_at}
use Rattle.walk_law.proofs.TwelfthLaws.{point_asked}

-- whether two numbers are one
pub same_told : (a b : ℕ) → Tells (a == b) (a ≡ b)
same_told a b = elim (cases_Bool (a == b)) [
  | inl t ↦ subst (λ (v : Bool). Tells v (a ≡ b)) (sym t) (eqb-true a b t)
  | inr f ↦ subst (λ (v : Bool). Tells v (a ≡ b)) (sym f) (λ e. true≢false (sym (eq-eqb a b e) ∙ f))
]

-- what is asked where something holds, that does hold
pub where_told : {P : Type 0} (Q : Type 0) → P → (b : Bool) → Tells b Q → Tells b (P → Q)
where_told Q p true q = λ x. q
where_told Q p false fails = λ f. fails (f p)

-- A COLUMN

module _ (walked : Walked) (n own : ℕ) (is_own : own ≡ (caller_of walked.script n).own) (kept : Kept) (counted : Counted)
    (is : IsCounted (replies_to walked.report n) kept counted) (colour : ℕ) (cell : IsCell own colour) (track : Tracked)
    (region : track.region ≡ own) (journal : track.journal ≡ journal_walked walked own colour)
    (lawful : IsColumnHistory track.region track.regions (dated track.region track.journal)) (within : OwnLineWithin)
    (opens : Opening) (events : ℕ) (there : events ≤ length (journal_walked walked own colour)) (mark : Mark)
    (mark_is : mark ≡ mark_after track.region track.regions (take events track.journal)) where
  abbrev who : Caller
  who = caller_of walked.script n

  abbrev H : List Entry
  H = (log_walked walked).histories who.own colour

  history_is : track.journal ≡ (log_walked walked).histories who.own colour
  history_is = journal ∙ ap (λ (o : ℕ). journal_walked walked o colour) is_own

  -- the length of the own line is that of the cut
  line_is : at mark.cut own ≡ length (line (take events ((log_walked walked).histories who.own colour)))
  line_is =
      let few = cell.0 in
      let begun : IsColumnHistory track.region track.regions (dated track.region (take events track.journal)) =
      lawful_beginning track.region track.regions (take events track.journal) (drop events track.journal)
      (subst (λ (h : List Entry). IsColumnHistory track.region track.regions (dated track.region h))
      (sym (take-append-drop events track.journal)) lawful) in
      ap (λ (m : Mark). at m.cut own) mark_is
      ∙ (ap (at (cut track.region (dated track.region (take events track.journal)))) (sym region)
      ∙ (within track.region track.regions (take events track.journal) (omega (arith, few, region)) begun
      ∙ ap (λ (h : List Entry). length (line (take events h))) history_is))

  pub not_long : (lined waiting length_shown : ℕ) → length_shown ≡ at mark.cut own → (length_shown ≡ lined → ⊥)
      → IsLong opens (log_walked walked) who kept colour events lined waiting → ⊥
  not_long lined waiting shown same other long = other (same ∙ (line_is ∙ sym long.lined_is))

  pub long_told : (seen : ℕ) → seen ≡ seen_at counted own colour → seen ≤ events → (lined waiting length_shown number : ℕ)
      → length_shown ≡ at mark.cut own → length_shown ≡ lined → number ≡ opens own colour events → (b : Bool)
      → Tells b (number ≡ waiting) → Tells b (IsLong opens (log_walked walked) who kept colour events lined waiting)
  long_told seen seen_so le lined waiting shown number same lined_so number_is true e = record {
    unseen =
        let s = seen_so ∙ (is.seen own colour cell ∙ ap (λ (o : ℕ). kept.seen o colour) is_own) in
        omega (arith, s, le);
    there = subst (λ (o : ℕ). events ≤ length (journal_walked walked o colour)) is_own there;
    lined_is = sym lined_so ∙ (same ∙ line_is);
    waiting_is = sym e ∙ (number_is ∙ ap (λ (o : ℕ). opens o colour events) is_own);
  }
  long_told seen seen_so le lined waiting shown number same lined_so number_is false ne = λ long.
      ne (number_is ∙ (ap (λ (o : ℕ). opens o colour events) is_own ∙ sym long.waiting_is))

pub first_told : (opens : Opening) (log : Log) (caller : Caller) (kept : Kept) (point : PointPiece) (place : ℕ)
    → point.at ≡ Event place → IsLong opens log caller kept point.colour place point.position 0 → (b : Bool)
    → Tells b (point.position ≡ at (kept.starts point.colour) caller.own) → Tells b (WasFirst opens log caller kept point)
first_told opens log caller kept point place is long true played = (place, is, long, played)
first_told opens log caller kept point place is long false fails = λ was. fails was.3

-- ANSWERS

module _ (script : Script) (log : Log) (caller : Caller) (opens : Opening)
    (same : (colour events : ℕ) → colour < script.shape.colours → events ≤ length (log.histories caller.own colour)
    → opens caller.own colour events ≡ open_count (entries (take events (log.histories caller.own colour)))) (kept : Kept) where
  long_to : (colour events lined waiting : ℕ) → colour < script.shape.colours
      → IsLong opens log caller kept colour events lined waiting → IsSoLong log caller kept colour events lined waiting
  long_to colour events lined waiting lt x = record {
    unseen = x.unseen;
    there = x.there;
    lined_is = x.lined_is;
    waiting_is = x.waiting_is ∙ same colour events lt x.there;
  }

  long_from : (colour events lined waiting : ℕ) → colour < script.shape.colours
      → IsSoLong log caller kept colour events lined waiting → IsLong opens log caller kept colour events lined waiting
  long_from colour events lined waiting lt x = record {
    unseen = x.unseen;
    there = x.there;
    lined_is = x.lined_is;
    waiting_is = x.waiting_is ∙ sym (same colour events lt x.there);
  }

  pub first_next : (what : What) (answer : Answer) → HasLowPoints script.shape.colours answer
      → StandsFirst opens log caller kept what answer → StandsNext log caller kept what answer
  first_next what (answers.Stood stamp row points) low h = λ guards.
      all_in (WasNext log caller kept) points (λ p i.
      let was = All-contains (WasFirst opens log caller kept) points p (h guards) (contains_in points p i) in
      let lt = All-contains (λ (q : PointPiece). q.colour < script.shape.colours) points p low (contains_in points p i) in
      (was.0, was.1, long_to p.colour was.0 p.position 0 lt was.2, was.3))
  first_next what (answers.Moved lined waiting colour events) low h =
      (h.asks.0, h.asks.1, long_to colour events lined waiting low h.long, h.moved)
  first_next what _ low h = tt

  pub next_first : (what : What) (answer : Answer) → HasLowPoints script.shape.colours answer
      → StandsNext log caller kept what answer → StandsFirst opens log caller kept what answer
  next_first what (answers.Stood stamp row points) low h = λ guards.
      all_in (WasFirst opens log caller kept) points (λ p i.
      let was = All-contains (WasNext log caller kept) points p (h guards) (contains_in points p i) in
      let lt = All-contains (λ (q : PointPiece). q.colour < script.shape.colours) points p low (contains_in points p i) in
      (was.0, was.1, long_from p.colour was.0 p.position 0 lt was.2, was.3))
  next_first what (answers.Moved lined waiting colour events) low h =
      record { asks = (h.0, h.1); long = long_from colour events lined waiting low h.2; moved = h.3 }
  next_first what _ low h = tt

-- the colours that answers name are those of the shape
pub low_points : (script : Script) → IsFitting script → (n : ℕ) (what : What)
    → IsWithin script.shape.regions script.shape.colours what → (kept : Kept) (nodes : List PlacedNode) (answer : Answer)
    → CanHave (caller_of script n) kept what nodes answer → HasLowPoints script.shape.colours answer
low_points script fits n what within kept nodes (answers.Stood stamp row points) can =
    all_in (λ (p : PointPiece). p.colour < script.shape.colours) points (λ p i.
    appended_within script fits n kept what within p.colour
    (point_asked (colours_asked (caller_of script n) kept what) row points can.2 p i))
low_points script fits n what within kept nodes (answers.Moved lined waiting colour events) can =
    subst (IsWithin script.shape.regions script.shape.colours) can.2 within
low_points script fits n what within kept nodes _ can = tt

-- A STEP

module _ (walked : Walked) (tracks : List Tracked) (may : MayWalk walked.script walked.report tracks) (client place : ℕ)
    (before : Counted) (step : Step) (seen : IsSeen walked client place before step) (command : Command)
    (asks : slice_get (commands_of walked.script client) place ≡ Some command) (reply : ReplyLine)
    (replied : slice_get (replies_to walked.report client) place ≡ Some reply) where
  abbrev its : Caller
  its = caller_of walked.script client

  command_is : step.command ≡ command
  command_is = same_some (sym seen.command ∙ asks)

  reply_is : step.reply ≡ reply
  reply_is = same_some (sym seen.reply ∙ replied)

  pub low_named : HasLowPoints walked.script.shape.colours reply.answer
  low_named =
      subst (λ (r : ReplyLine). HasLowPoints walked.script.shape.colours r.answer) reply_is
      (low_points walked.script may.fitting client step.command.what
      (All-contains (λ (d : Command). IsWithin walked.script.shape.regions walked.script.shape.colours d.what) walked.script.commands
      step.command may.fitting.commands (contains_in walked.script.commands step.command
      (in_filter (λ (d : Command). d.client == client) step.command walked.script.commands
      (slice_in (commands_of walked.script client) place step.command seen.command)).0))
      (kept_at step) step.reply.nodes step.reply.answer seen.can.answer)

  pub guarded_told : (opens : Opening) (b : Bool)
      → Tells b (StandsFirst opens (log_walked walked) its (kept_at step) command.what reply.answer)
      → Tells b (IsGuarded opens walked its step)
  guarded_told opens b told =
      subst (λ (r : ReplyLine). Tells b (StandsFirst opens (log_walked walked) its (kept_at step) step.command.what r.answer))
      (sym reply_is)
      (subst (λ (d : Command). Tells b (StandsFirst opens (log_walked walked) its (kept_at step) d.what reply.answer))
      (sym command_is) told)

-- THE REPORT

pub of_columns : (script : Script) (report : Report) (tracks : List Tracked) → MayWalk script report tracks
    → AreOfColumns report.columns tracks
of_columns script report tracks may = record {
  many = ap length may.tracks_are ∙ length-map report.columns (track_shown script.shape.regions);
  each = λ n c t at_c at_t.
      let back = get_map_back (track_shown script.shape.regions) report.columns n t
      (ap (λ (l : List Tracked). slice_get l n) (sym may.tracks_are) ∙ at_t) in
      ap (λ (x : Tracked). x.journal) (sym back.2) ∙ ap (λ (x : ColumnReport). x.journal) (same_some (sym back.1 ∙ at_c));
}

module _ (script : Script) (report : Report) (tracks : List Tracked) (may : MayWalk script report tracks) where
  abbrev walked : Walked
  walked = record { script = script; report = report }

  abbrev opening : Opening
  opening = open_in script.shape.colours (opens_in report.columns)

  abbrev bare : Account
  bare = account_of script report no_nodes

  opens_same : (region : ℕ) → region < script.shape.regions → (colour events : ℕ) → colour < script.shape.colours
      → events ≤ length (journal_walked walked region colour)
      → opening region colour events ≡ open_count (entries (take events (journal_walked walked region colour)))
  opens_same region low colour events lt le =
      let c = column_at script report tracks may region colour (region * script.shape.colours + colour) low lt refl in
      opens_at report.columns (region * script.shape.colours + colour) c.0 c.1 events
      (subst (λ (h : List Entry). events ≤ length h) (sym c.2) le)
      ∙ ap (λ (h : List Entry). open_count (entries (take events h))) c.2

  module _ (n : ℕ) (c : ClientReport) (there : slice_get report.clients n ≡ Some c) where
    abbrev it : Caller
    it = caller_of script n

    home : it.own < script.shape.regions
    home = home_within script report may.fitting may.first.names n c there

    low_at : (x : Step) → In x (bare.steps n) → HasLowPoints script.shape.colours x.reply.answer
    low_at x i =
        low_points script may.fitting n x.command.what
        (All-contains (λ (d : Command). IsWithin script.shape.regions script.shape.colours d.what) script.commands x.command
        may.fitting.commands (contains_in script.commands x.command
        (in_filter (λ (d : Command). d.client == n) x.command script.commands
        (subst (In x.command) (told.clients n c there).commands (in_map-back (λ (s : Step). s.command) (bare.steps n) x i))).0))
        (kept_at x) x.reply.nodes x.reply.answer
        (All-contains (IsReplyTo it) (bare.steps n) x (may.first.replies n c there) (contains_in (bare.steps n) x i)).answer where
          told : IsTold script report (account_of script report no_nodes)
          told = reports_tell script report no_nodes may.formed

    abbrev Next : Step → Type 0
    Next x = StandsNext bare.log it (kept_at x) x.command.what x.reply.answer

    all_next : All (IsGuarded opening walked it) (bare.steps n) → All Next (bare.steps n)
    all_next all = all_in Next (bare.steps n) (λ x i.
        first_next script bare.log it opening (λ k m lt le. opens_same it.own home k m lt le) (kept_at x) x.command.what x.reply.answer
        (low_at x i)
        (All-contains (IsGuarded opening walked it) (bare.steps n) x all (contains_in (bare.steps n) x i)))

    all_guarded : All Next (bare.steps n) → All (IsGuarded opening walked it) (bare.steps n)
    all_guarded all = all_in (IsGuarded opening walked it) (bare.steps n) (λ x i.
        next_first script bare.log it opening (λ k m lt le. opens_same it.own home k m lt le) (kept_at x) x.command.what x.reply.answer
        (low_at x i)
        (All-contains Next (bare.steps n) x all (contains_in (bare.steps n) x i)))

  pub twelfth_told : TwelfthIsBare → RulesTo script report (account_showing script report) 10 → (lists : List (List ℕ))
      → lists ≡ opens_in report.columns → (b : Bool)
      → DecidesEachStep walked (λ caller step. IsGuarded (open_in script.shape.colours lists) walked caller step) b
      → Tells b (Rule12 script report (account_showing script report))
  twelfth_told law rules lists are b told =
      let both = law script report may.fitting may.formed rules in
      told_as b (OfEachStep script report bare (IsGuarded opening walked)) (Rule12 script report (account_showing script report))
      (λ all. both.0 (record { next = λ n c there. all_next n c there (all n c there) }))
      (λ rule n c there. all_guarded n c there ((both.1 rule).next n c there))
      (subst (λ (l : List (List ℕ)). Tells b (OfEachStep script report bare (IsGuarded (open_in script.shape.colours l) walked))) are
      (told no_nodes))
