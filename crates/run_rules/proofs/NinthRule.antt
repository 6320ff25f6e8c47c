-- Rule 9 of accounts that agree, by the texts that node lines show.
use Rattle.std.proofs.Common.{◌≡◌, ◌∙◌, ap, sym, subst, Bool, ℕ, ◌<◌, map, Some}
use Rattle.std.specs.Prelude.{IsTrue, slice_get}
use Rattle.std.proofs.lemmas.List.Elements.{All-contains}
use Rattle.log_node.specs.declared.ids.Id.{Id}
use Rattle.log_node.specs.Seen.{PlacedNode}
use Rattle.col_core.specs.Log.{Log, HasText}
use Rattle.col_core.proofs.CallerLemmas.{In, all_in, contains_in, in_flat_map-back, in_map-back, slice_in}
use Rattle.col_core.specs.Keeping.{Kept}
use Rattle.script_text.specs.declared.script.Command.{Command}
use Rattle.script_text.specs.declared.script.Script.{Script}
use Rattle.script_text.specs.Fitting.{IsFitting, IsWithin}
use Rattle.report_text.specs.declared.report.ClientReport.{ClientReport}
use Rattle.report_text.specs.declared.report.ReplyLine.{ReplyLine}
use Rattle.report_text.specs.declared.report.Report.{Report}
use Rattle.lawful_run.specs.Callers.{Caller, caller_of}
use Rattle.lawful_run.specs.Columns.{row_report}
use Rattle.lawful_run.specs.Refusals.{kept_before}
use Rattle.run_rules.specs.Told.{Step, Account, IsTold, kept_at}
use Rattle.run_rules.specs.Answering.{CanHave}
use Rattle.run_rules.specs.Rules.{IsReplyTo, Rule1}
use Rattle.run_rules.specs.Shown.{Rule9, Shows, begins_row}
use Rattle.run_rules.specs.Agreeing.{Agree, AreStepsAlike, HasColumn, IsPulled, KeepSame, began_row}
use Rattle.run_rules.specs.Keeping.{RulesTo, all_replies}
use Rattle.run_rules.specs.Said.{node_lines}
use Rattle.run_rules.proofs.FirstAlike.{first_alike}
use Rattle.run_rules.proofs.LeftOut.{Obeys}
use Rattle.run_rules.proofs.LinesShown.{zip_before, zip_behind}
use Rattle.run_rules.proofs.Numbers.{rule1, rule4}
use Rattle.run_rules.proofs.OneAccount.{obeys, step_with}
use Rattle.run_rules.proofs.Reached.{home_within}
use Rattle.run_rules.proofs.SameKept.{before_same}
use Rattle.run_rules.proofs.ShowsAlike.{shows_alike}
use Rattle.run_rules.proofs.TextsAlike.{AreKnown, ShownAlike}
use Rattle.run_rules.proofs.ToldAlike.{several_same}

keep_back : (script : Script) {a b : Kept} → KeepSame script a b → KeepSame script b a
keep_back script s = record {
  floor = sym s.floor;
  starts = λ c. sym (s.starts c);
  seen = λ r c has. sym (s.seen r c has);
  known = λ c. sym (s.known c);
  made = λ r c has. sym (s.made r c has);
  ids = sym s.ids;
  rows = sym s.rows;
  reads = λ object. sym (s.reads object);
}

-- what rule 9 says of a step
abbrev ShowsAt : Log → Caller → Step → Type 0
ShowsAt log caller s = Shows log s.untold caller (kept_at s) s.command.what s.reply.nodes s.reply.answer

-- what node lines show of texts by the one log they show by the other
abbrev pub LinesAlike : Report → Log → Log → Type 0
LinesAlike report one two = (item : PlacedNode) → In item (node_lines report)
    → HasText one item.head.key.id item.node.text → HasText two item.head.key.id item.node.text

module _ (script : Script) (fits : IsFitting script) (n : ℕ) (one two : Log)
    (histories : (r c : ℕ) → HasColumn script r c → one.histories r c ≡ two.histories r c)
    (home : (caller_of script n).own < script.shape.regions)
    (rows : map (row_report (caller_of script n).own) (one.rows (caller_of script n).own)
    ≡ map (row_report (caller_of script n).own) (two.rows (caller_of script n).own)) where
  abbrev who : Caller
  who = caller_of script n

  abbrev All-known : Id → Type 0
  All-known id = Unit {0}

  all_known : AreKnown script n one All-known
  all_known = record {
    of_line = λ colour lt events key i. tt;
    of_chain = λ colour lt events place head s. tt;
    of_own = λ count. tt;
  }

  -- of two steps of one command with one reply
  step_shows : (x y : Step) → x.command ≡ y.command → x.reply ≡ y.reply → KeepSame script x.kept y.kept
      → IsWithin script.shape.regions script.shape.colours x.command.what
      → CanHave who (kept_at x) x.command.what x.reply.nodes x.reply.answer
      → (IsTrue (began_row who x) → (c : ℕ) → c < script.shape.colours → x.untold.places c ≡ y.untold.places c)
      → (IsPulled x.reply.answer → x.untold.too_low ≡ y.untold.too_low)
      → ShownAlike one two All-known x.reply.nodes → ShowsAt one who x → ShowsAt two who y
  step_shows x y command reply kept within can places low said shows =
      let z : Step = record { command = x.command; reply = x.reply; kept = y.kept; untold = y.untold } in
      subst (ShowsAt two who) (sym (step_with y x.command x.reply command reply))
      (shows_alike script fits n one two histories home rows All-known all_known x.command.what within x.untold y.untold
      (kept_at x) (kept_at z) (before_same script kept x.command.what) x.reply.nodes x.reply.answer can said
      (λ t k has. places t k has.1) low shows)

module _ (script : Script) (report : Report) (a b : Account) (fits : IsFitting script) (ta : IsTold script report a)
    (tb : IsTold script report b) (ra : RulesTo script report a 4) (agree : Agree script report a b) where
  a1 : Rule1 script report a
  a1 = rule1 ra.0.0.0.1

  b1 : Rule1 script report b
  b1 = first_alike script report a b ta tb a1

  module _ (n : ℕ) (c : ClientReport) (there : slice_get report.clients n ≡ Some c) where
    abbrev caller : Caller
    caller = caller_of script n

    own : caller.own < script.shape.regions
    own = home_within script report fits a1.names n c there

    its : (x : Step) → In x (a.steps n) → Obeys script a.log caller x
    its x i = All-contains (Obeys script a.log caller) (a.steps n) x (obeys script fits report a ta a1 (rule4 ra.1) n c there)
        (contains_in (a.steps n) x i)

    -- the node lines of a reply are the report's
    among : (s : Step) → In s.reply c.replies → (item : PlacedNode) → In item s.reply.nodes → In item (node_lines report)
    among s i item j =
        in_flat_map-back (λ (r : ReplyLine). r.nodes) (all_replies report) s.reply item
        (in_flat_map-back (λ (d : ClientReport). d.replies) report.clients c s.reply (slice_in report.clients n c there) i) j

    replied : (account : Account) → IsTold script report account → (s : Step) → In s (account.steps n) → In s.reply c.replies
    replied account told s i =
        subst (In s.reply) (told.clients n c there).replied (in_map-back (λ (t : Step). t.reply) (account.steps n) s i)

    forth_at : LinesAlike report a.log b.log → (x y : Step) → In x (a.steps n) → AreStepsAlike script caller x y
        → ShowsAt a.log caller x → ShowsAt b.log caller y
    forth_at lines x y i r shows =
        let o = its x i in
        step_shows script fits n a.log b.log agree.histories own (agree.rows caller.own own) x y r.command r.reply r.kept o.within
        o.can r.places r.too_low (λ item j known. lines item (among x (replied a ta x i) item j)) shows

    back_at : LinesAlike report b.log a.log → (x y : Step) → In x (a.steps n) → In y (b.steps n)
        → AreStepsAlike script caller x y → ShowsAt b.log caller y → ShowsAt a.log caller x
    back_at lines x y i j r shows =
        let before : KeepSame script (kept_at x) (kept_before x.command.what y.kept) =
        before_same script r.kept x.command.what in
        let began : began_row caller y ≡ began_row caller x =
        ap (λ (z : Step). began_row caller z) (step_with y x.command x.reply r.command r.reply)
        ∙ ap (λ (t : Bool). begins_row t x.reply.answer) (sym (several_same script caller x.command.what before)) in
        step_shows script fits n b.log a.log (λ r k has. sym (agree.histories r k has)) own (sym (agree.rows caller.own own)) y x
        (sym r.command) (sym r.reply) (keep_back script r.kept)
        (subst (λ (c : Command). IsWithin script.shape.regions script.shape.colours c.what) r.command (its x i).within)
        (All-contains (IsReplyTo caller) (b.steps n) y (b1.replies n c there) (contains_in (b.steps n) y j)).answer
        (λ t k lt. sym (r.places (sym began ∙ t) k lt))
        (λ p. sym (r.too_low (subst (λ (q : ReplyLine). IsPulled q.answer) (sym r.reply) p)))
        (λ item k known. lines item (among y (replied b tb y j) item k)) shows

  pub ninth_forth : LinesAlike report a.log b.log → Rule9 script report a → Rule9 script report b
  ninth_forth lines ninth = record {
    shows = λ n c there. all_in (ShowsAt b.log (caller_of script n)) (b.steps n) (λ y j.
        let z = zip_before (AreStepsAlike script (caller_of script n)) (a.steps n) (b.steps n) (agree.steps n c there) y j in
        forth_at n c there lines z.0 y z.1 z.2
        (All-contains (ShowsAt a.log (caller_of script n)) (a.steps n) z.0 (ninth.shows n c there)
        (contains_in (a.steps n) z.0 z.1)));
  }

  pub ninth_back : LinesAlike report b.log a.log → Rule9 script report b → Rule9 script report a
  ninth_back lines ninth = record {
    shows = λ n c there. all_in (ShowsAt a.log (caller_of script n)) (a.steps n) (λ x i.
        let z = zip_behind (AreStepsAlike script (caller_of script n)) (a.steps n) (b.steps n) (agree.steps n c there) x i in
        back_at n c there lines x z.0 i z.1 z.2
        (All-contains (ShowsAt b.log (caller_of script n)) (b.steps n) z.0 (ninth.shows n c there)
        (contains_in (b.steps n) z.0 z.1)));
  }
