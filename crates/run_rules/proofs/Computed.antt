-- The account that is computed of a report keeps the first rules where some told account does.
use Rattle.std.proofs.Common.{◌≡◌, ◌∙◌, refl, ap, sym, subst, ℕ, suc, ◌<◌, ◌≤◌, List, [], ◌∷◌, map, Some, inl, inr, arith}
use Rattle.std.specs.Prelude.{◌==◌, ◌&&◌, slice_get}
use Rattle.std.specs.List.{All, AllZip, Contains, range_with_len}
use Rattle.std.proofs.lemmas.Bool.{eqb-true}
use Rattle.std.proofs.lemmas.List.Elements.{All-nil, All-cons}
use Rattle.log_node.specs.declared.node.Node.{Node}
use Rattle.log_node.specs.declared.forms.Version.{Version}
use Rattle.col_core.specs.declared.Entry.{Entry}
use Rattle.col_core.specs.Log.{Log, places_of}
use Rattle.col_core.specs.Keeping.{Kept, nothing_kept}
use Rattle.col_core.proofs.CallerLemmas.{In, both, by_test, if_false, in_flat_map, in_map, in_map-back, in_range}
use Rattle.script_text.specs.declared.script.Command.{Command}
use Rattle.script_text.specs.declared.script.Script.{Script}
use Rattle.script_text.specs.Fitting.{IsFitting}
use Rattle.report_text.specs.declared.report.ReplyLine.{ReplyLine}
use Rattle.report_text.specs.declared.report.ColumnReport.{ColumnReport}
use Rattle.report_text.specs.declared.report.ClientReport.{ClientReport}
use Rattle.report_text.specs.declared.report.Report.{Report}
use Rattle.lawful_run.specs.Callers.{Caller, caller_of, commands_of}
use Rattle.lawful_run.specs.Columns.{column_numbers, row_report}
use Rattle.run_rules.specs.Told.{Step, Account, IsTold, kept_at, kept_past}
use Rattle.run_rules.specs.Printed.{printed_all}
use Rattle.run_rules.specs.Telling.{IsWellFormed, journal_among, no_nodes, places_shown, replies_in, replies_to, FindKeys, account_with, step_finding, step_places, steps_finding, last_finding}
use Rattle.run_rules.specs.Naming.{Names}
use Rattle.run_rules.specs.Rules.{Rule1, Rule3, Rule4}
use Rattle.run_rules.specs.Keeping.{RulesTo, one, two, three, four}
use Rattle.run_rules.specs.Agreeing.{HasColumn, KeepSame, AreStepsAlike, Agree}
use Rattle.run_rules.specs.Laws.{ComputedAccountAgrees, ComputedAccountKeeps, FindsKeep}
use Rattle.run_rules.proofs.Lists.{zip_onto}
use Rattle.run_rules.proofs.Numbers.{rule1, rule2, rule3, rule4}
use Rattle.run_rules.proofs.Reached.{home_within}
use Rattle.run_rules.proofs.SameKept.{before_same}
use Rattle.run_rules.proofs.LeftOut.{Obeys, printed_by}
use Rattle.run_rules.proofs.NamesAlike.{names_same}
use Rattle.run_rules.proofs.FirstAlike.{first_alike}
use Rattle.run_rules.proofs.OneAccount.{histories_alike, rows_alike, obeys, step_with}
use Rattle.run_rules.proofs.ComputedSteps.{computed_alike}
use Rattle.run_rules.proofs.ReportsTell.{finds_tell, unnamed_account, unnamed_by, unnamed_keys}
use Rattle.run_rules.proofs.RowsTold.{third}

-- BEYOND THE SHAPE

-- a column that is not shown has no journal
journal_none : (cs : List ColumnReport) (region colour : ℕ) → ((d : ColumnReport) → In d cs → d.colour ≡ colour → ⊥)
    → journal_among cs region colour ≡ []
journal_none [] region colour none = refl
journal_none (d ∷ ds) region colour none =
    by_test _ ((d.region == region) && (d.colour == colour))
    (λ t. absurd (none d (inl refl) (eqb-true d.colour colour (both (d.region == region) (d.colour == colour) t).1)))
    (λ f. if_false ((d.region == region) && (d.colour == colour)) d.journal (journal_among ds region colour) f
    ∙ journal_none ds region colour (λ x i. none x (inr i)))

-- each column that is shown has a colour of the shape
column_within : (script : Script) (report : Report) → map (λ (c : ColumnReport). (c.region, c.colour)) report.columns
    ≡ column_numbers script.shape.regions script.shape.colours
    → (d : ColumnReport) → In d report.columns → d.colour < script.shape.colours
column_within script report columns d i =
    let there = subst (In (d.region, d.colour)) columns
    (in_map-back (λ (c : ColumnReport). (c.region, c.colour)) report.columns d i) in
    let f = in_flat_map (λ (r : ℕ). map (λ (c : ℕ). (r, c)) (range_with_len 0 script.shape.colours))
    (range_with_len 0 script.shape.regions) (d.region, d.colour) there in
    let m = in_map (λ (c : ℕ). (f.0, c)) (range_with_len 0 script.shape.colours) (d.region, d.colour) f.2 in
    let l = (in_range 0 script.shape.colours m.0 m.1).1 in
    let e : m.0 ≡ d.colour = ap (λ (p : ℕ × ℕ). p.1) m.2 in
    omega (arith, l, e)

-- where no history is beyond the shape, no place of an own step is
abbrev HasNoneBeyond : Script → Step → Type 0
HasNoneBeyond script step = (c : ℕ) → script.shape.colours ≤ c → step.untold.places c ≡ []

none_beyond : (script : Script) (log : Log) (caller : Caller) (shown : ℕ → ℕ → List ℕ)
    → ((c : ℕ) → script.shape.colours ≤ c → log.histories caller.own c ≡ [])
    → (found : ℕ → List Version) (kept : Kept) (cs : List Command) (rs : List ReplyLine)
    → All (HasNoneBeyond script) (steps_finding log caller shown found kept cs rs)
none_beyond script log caller shown empty found kept [] rs = All-nil (HasNoneBeyond script)
none_beyond script log caller shown empty found kept (c ∷ cs) [] = All-nil (HasNoneBeyond script)
none_beyond script log caller shown empty found kept (c ∷ cs) (r ∷ rs) =
    let step = step_finding log caller shown (found 0) kept c r in
    All-cons (HasNoneBeyond script) step
    (steps_finding log caller shown (λ k. found (suc k)) (kept_past log caller step) cs rs)
    (λ colour le. ap (step_places caller.client (record { client = caller.client; count = (kept_at step).ids })
    (shown caller.own colour)) (empty colour le))
    (none_beyond script log caller shown empty (λ k. found (suc k)) (kept_past log caller step) cs rs)

-- STEPS

-- what rule 4 says of a step is so of one that is alike
module _ (script : Script) (fits : IsFitting script) (n : ℕ) (one two : Log)
    (histories : (r c : ℕ) → HasColumn script r c → one.histories r c ≡ two.histories r c)
    (home : (caller_of script n).own < script.shape.regions)
    (rows : map (row_report (caller_of script n).own) (one.rows (caller_of script n).own)
    ≡ map (row_report (caller_of script n).own) (two.rows (caller_of script n).own)) where
  abbrev who : Caller
  who = caller_of script n

  abbrev NamesAt : Log → Step → Type 0
  NamesAt log s = Names log s.untold who (kept_at s) s.command.what s.reply.answer

  step_names : (x y : Step) → AreStepsAlike script who x y → Obeys script one who x → HasNoneBeyond script y → NamesAt two y
  step_names x y r o none =
      let z : Step = record { command = x.command; reply = x.reply; kept = y.kept; untold = y.untold } in
      subst (NamesAt two) (sym (step_with y x.command x.reply r.command r.reply))
      (names_same script fits n one two histories home rows x.command.what o.within x.untold y.untold (kept_at x) (kept_at z)
      (before_same script r.kept x.command.what) x.reply.nodes none x.reply.answer o.can r.places r.too_low o.names)

-- ACCOUNTS

module _ (script : Script) (report : Report) (nodes : ℕ → List Node) (found : ℕ → ℕ → List Version) (a : Account)
    (fits : IsFitting script) (well : IsWellFormed script report)
    (keys : (n : ℕ) (c : ClientReport) → slice_get report.clients n ≡ Some c → FindKeys (found n) c.replies)
    (ta : IsTold script report a) (a1 : Rule1 script report a) (a4 : Rule4 script report a) where
  abbrev b : Account
  b = account_with script report nodes found

  tb : IsTold script report b
  tb = finds_tell script report nodes found well keys

  alike : (r c : ℕ) → HasColumn script r c → a.log.histories r c ≡ b.log.histories r c
  alike = histories_alike script report a b ta tb a1

  its_rows : (region : ℕ) → region < script.shape.regions
      → map (row_report region) (a.log.rows region) ≡ map (row_report region) (b.log.rows region)
  its_rows = rows_alike script report a b ta tb

  module _ (n : ℕ) (c : ClientReport) (there : slice_get report.clients n ≡ Some c) where
    own : (caller_of script n).own < script.shape.regions
    own = home_within script report fits a1.names n c there

    shown_is : (r k : ℕ) → printed_by (caller_of script n) (a.steps n) r k ≡ places_shown script report n r k
    shown_is r k =
        ap (λ (cs : List Command). printed_all (caller_of script n).own cs (map (λ (s : Step). s.reply) (a.steps n)) r k)
        (ta.clients n c there).commands
        ∙ ap (λ (rs : List ReplyLine). printed_all (caller_of script n).own (commands_of script n) rs r k)
        ((ta.clients n c there).replied ∙ sym (ap replies_in there))

    abbrev ends : List Command → List ReplyLine → Type 0
    ends cs rs =
        AllZip (AreStepsAlike script (caller_of script n)) (a.steps n)
        (steps_finding b.log (caller_of script n) (places_shown script report n) (found n) nothing_kept cs rs)
        × KeepSame script (a.last n)
        (last_finding b.log (caller_of script n) (places_shown script report n) (found n) nothing_kept cs rs)

    client_alike : ends (commands_of script n) (replies_to report n)
    client_alike =
        subst (ends (commands_of script n)) ((ta.clients n c there).replied ∙ sym (ap replies_in there))
        (subst (λ (cs : List Command). ends cs (map (λ (s : Step). s.reply) (a.steps n))) (ta.clients n c there).commands
        (computed_alike script fits n own a.log b.log alike (its_rows (caller_of script n).own own)
        (places_shown script report n) (a.last n) (λ r k has. a4.made n c there r k has.0 has.1) (a.steps n) nothing_kept
        nothing_kept (obeys script fits report a ta a1 a4 n c there) (ta.clients n c there).follow
        (record {
          floor = refl;
          starts = λ x. refl;
          seen = λ r x has. refl;
          known = λ x. refl;
          made = λ r x has. refl;
          ids = refl;
          rows = refl;
          reads = λ object. refl;
        })
        (λ r k p has i. absurd i)
        (λ r k p has. (
          λ i. subst (In p) (shown_is r k) i,
          λ i. inr (subst (In p) (sym (shown_is r k)) i),
        ))
        (found n) (subst (FindKeys (found n)) (sym (ta.clients n c there).replied) (keys n c there))))

    beyond : All (HasNoneBeyond script) (b.steps n)
    beyond =
        none_beyond script b.log (caller_of script n) (places_shown script report n)
        (λ k le. journal_none report.columns (caller_of script n).own k (λ d i e.
        let l = column_within script report a1.columns d i in let f : ⊥ = omega (arith, l, le, e) in f))
        (found n) nothing_kept (commands_of script n) (replies_to report n)

    named : All (λ (s : Step). Names b.log s.untold (caller_of script n) (kept_at s) s.command.what s.reply.answer) (b.steps n)
    named =
        zip_onto {R = AreStepsAlike script (caller_of script n)} {P = Obeys script a.log (caller_of script n)}
        {Q = HasNoneBeyond script}
        {S = λ (s : Step). Names b.log s.untold (caller_of script n) (kept_at s) s.command.what s.reply.answer} (a.steps n)
        (b.steps n) client_alike.0 (obeys script fits report a ta a1 a4 n c there) beyond
        (step_names script fits n a.log b.log alike own (its_rows (caller_of script n).own own))

  computed_agrees : Agree script report a b
  computed_agrees = record {
    histories = alike;
    rows = its_rows;
    steps = λ n c there. (client_alike n c there).0;
    last = λ n c there. (client_alike n c there).1;
  }

  first : Rule1 script report b
  first = first_alike script report a b ta tb a1

  fourth : Rule4 script report b
  fourth = record {
    named = named;
    made = λ n c there r k lr lk.
        ap (places_of n) (sym (alike r k (lr, lk)))
        ∙ (a4.made n c there r k lr lk ∙ (client_alike n c there).1.made r k (lr, lk));
    helpers = λ r k e lr lk among help.
        a4.helpers r k e lr lk (subst (λ (h : List Entry). Contains h e) (sym (alike r k (lr, lk))) among) help;
  }

pub finds_agree_too : FindsKeep
finds_agree_too script report nodes found account fits well keys told rules =
    let a1 = rule1 rules.0.0.0.1 in
    let a4 = rule4 rules.1 in (
      computed_agrees script report nodes found account fits well keys told a1 a4,
      λ third. (
        (((tt, one (first script report nodes found account fits well keys told a1 a4)), two (rule2 rules.0.0.1)), three third),
        four (fourth script report nodes found account fits well keys told a1 a4),
      ),
    )

pub computed_account_agrees : ComputedAccountAgrees
computed_account_agrees script report nodes account fits well told rules =
    subst (λ (b : Account). Agree script report account b × (Rule3 script b → RulesTo script report b 4))
    (unnamed_account script report nodes)
    (finds_agree_too script report nodes (λ n. unnamed_by (replies_to report n)) account fits well (λ n c there.
    subst (FindKeys (unnamed_by (replies_to report n))) (ap replies_in there) (unnamed_keys (replies_to report n))) told rules)

pub computed_account_keeps : ComputedAccountKeeps
computed_account_keeps script report account fits well told rules =
    (computed_account_agrees script report no_nodes account fits well told rules).1
    (third script report account well told (rule1 rules.0.0.0.1) (rule3 rules.0.1))
