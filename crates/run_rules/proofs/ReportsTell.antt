-- A report that is well formed tells an account.
use Rattle.std.proofs.Common.{◌≡◌, ◌∙◌, ℕ, zero, suc, subst, true, List, [], ◌∷◌, length, map, Option, Some, None, refl, ap, sym, ◌⊎◌, inl, inr, arith, ◌++◌}
use Rattle.std.specs.Prelude.{◌≢◌, ◌==◌, ◌&&◌, slice_get}
use Rattle.std.specs.List.{All, AllPairs, filter, flat_map, range_with_len}
use Rattle.std.proofs.lemmas.Bool.{eqb-true, eq-eqb}
use Rattle.std.proofs.lemmas.List.Elements.{All-nil, All-cons}
use Rattle.log_node.specs.declared.node.Node.{Node}
use Rattle.log_node.specs.declared.ids.Id.{Id}
use Rattle.log_node.specs.declared.forms.Version.{Version}
use Rattle.log_node.specs.Order.{same_id}
use Rattle.col_core.specs.declared.Entry.{Entry}
use Rattle.col_core.specs.Log.{Log}
use Rattle.col_core.specs.Keeping.{Kept, nothing_kept}
use Rattle.col_core.proofs.CallerLemmas.{In, all_in, both, by_test, choice, contains_in, if_true, if_false, same_id-true}
use Rattle.script_text.specs.declared.script.Command.{Command}
use Rattle.report_text.specs.declared.report.Answer.{Answer}
use Rattle.report_text.specs.declared.report.Answer.TheVariants as answers
use Rattle.report_text.specs.declared.report.ReplyLine.{ReplyLine}
use Rattle.report_text.specs.declared.report.RowReport.{RowReport}
use Rattle.report_text.specs.declared.report.ColumnReport.{ColumnReport}
use Rattle.script_text.specs.declared.script.Script.{Script}
use Rattle.report_text.specs.declared.report.Report.{Report}
use Rattle.lawful_run.specs.Callers.{Caller, caller_of, commands_of}
use Rattle.lawful_run.specs.Columns.{row_report}
use Rattle.run_rules.specs.Told.{Step, Follow, AreKeysFound, IsTold, kept_past}
use Rattle.run_rules.specs.Telling.{FindKeys, account_of, account_with, step_finding, steps_finding, last_finding, journal_among, unnamed, step_of, steps_of, last_of_steps, bare_node, node_or, row_of, is_in, log_of, replies_in, replies_to, places_shown}
use Rattle.run_rules.specs.Laws.{FindsTell, ReportsTell}
use Rattle.run_rules.proofs.Lists.{map_map}

-- COLUMNS

abbrev Apart : ColumnReport → ColumnReport → Type 0
Apart c d = c.region ≡ d.region → c.colour ≢ d.colour

-- the first column with a column's numbers is this one
journal_at : (cs : List ColumnReport) → AllPairs Apart cs → (c : ColumnReport) → In c cs
    → c.journal ≡ journal_among cs c.region c.colour
journal_at [] apart c i = absurd i
journal_at (d ∷ ds) apart c i = turn i (journal_at ds (λ k m x lt within. apart (suc k) (suc m) x (omega (arith, lt)) (omega (arith, within))) c) where
  same : (d.region == c.region) && (d.colour == c.colour) ≡ true → (d.region ≡ c.region) × (d.colour ≡ c.colour)
  same t = let b = both (d.region == c.region) (d.colour == c.colour) t in
      (eqb-true d.region c.region b.0, eqb-true d.colour c.colour b.1)

  itself : d ≡ c → ((d.region == c.region) && (d.colour == c.colour)) ≡ true
  itself e =
      let r = eq-eqb d.region c.region (ap (λ (x : ColumnReport). x.region) e) in
      let k = eq-eqb d.colour c.colour (ap (λ (x : ColumnReport). x.colour) e) in
      ap (λ b. b && (d.colour == c.colour)) r ∙ k

  turn : (d ≡ c) ⊎ In c ds → (In c ds → c.journal ≡ journal_among ds c.region c.colour)
      → c.journal ≡ journal_among (d ∷ ds) c.region c.colour
  turn (inl e) more =
      ap (λ (x : ColumnReport). x.journal) (sym e)
      ∙ sym (if_true ((d.region == c.region) && (d.colour == c.colour)) d.journal (journal_among ds c.region c.colour) (itself e))
  turn (inr j) more =
      by_test _ ((d.region == c.region) && (d.colour == c.colour))
      (λ t. let s = same t in
      let k = contains_in ds c j in
      let l = k.1 in
      absurd (apart 0 (suc k.0) c (omega arith) (omega (arith, l))
      (s.0 ∙ ap (λ (x : ColumnReport). x.region) (sym k.2)) (s.1 ∙ ap (λ (x : ColumnReport). x.colour) (sym k.2))))
      (λ f. more j
      ∙ sym (if_false ((d.region == c.region) && (d.colour == c.colour)) d.journal (journal_among ds c.region c.colour) f))

-- ROWS

module _ (histories : ℕ → ℕ → List Entry) (nodes : ℕ → List Node) where
  pub its_id : (r : RowReport) (shown : Option Node) → (node_or histories r shown).id ≡ r.id
  its_id r None = refl
  its_id r (Some node) =
      choice (λ (n : Node). n.id ≡ r.id) (same_id node.id r.id) node (bare_node histories r) (same_id-true node.id r.id) (λ f. refl)

  shown_again : (region : ℕ) (r : RowReport) → r.region ≡ region → row_report region (row_of histories nodes r) ≡ r
  shown_again region r e =
      ap (λ (n : ℕ). row_report n (row_of histories nodes r)) (sym e)
      ∙ ap (λ (id : Id). record { region = r.region; row = r.row; id = id; marks = r.marks; last = r.last })
      (its_id r (slice_get (nodes r.id.client) r.id.count))

  pub rows_again : (region : ℕ) (rs : List RowReport)
      → map (row_report region) (map (row_of histories nodes) (filter (is_in region) rs)) ≡ filter (is_in region) rs
  rows_again region [] = refl
  rows_again region (r ∷ rs) =
      by_test _ (is_in region r)
      (λ t. let e = if_true (is_in region r) (r ∷ filter (is_in region) rs) (filter (is_in region) rs) t in
      ap (λ (l : List RowReport). map (row_report region) (map (row_of histories nodes) l)) e
      ∙ (ap (λ (x : RowReport). x ∷ map (row_report region) (map (row_of histories nodes) (filter (is_in region) rs)))
      (shown_again region r (eqb-true r.region region t))
      ∙ (ap (λ (l : List RowReport). r ∷ l) (rows_again region rs) ∙ sym e)))
      (λ f. let e = if_false (is_in region r) (r ∷ filter (is_in region) rs) (filter (is_in region) rs) f in
      ap (λ (l : List RowReport). map (row_report region) (map (row_of histories nodes) l)) e ∙ (rows_again region rs ∙ sym e))

  all_rows : (regions : List ℕ) (rs : List RowReport)
      → flat_map (λ region. map (row_report region) (map (row_of histories nodes) (filter (is_in region) rs))) regions
      ≡ flat_map (λ region. filter (is_in region) rs) regions
  all_rows [] rs = refl
  all_rows (region ∷ regions) rs =
      ap (λ (l : List RowReport). l ++ flat_map (λ x. map (row_report x) (map (row_of histories nodes) (filter (is_in x) rs))) regions)
      (rows_again region rs)
      ∙ ap (λ (l : List RowReport). filter (is_in region) rs ++ l) (all_rows regions rs)

-- STEPS

pub keys_unnamed : (answer : Answer) → AreKeysFound (unnamed answer) answer
keys_unnamed (answers.GotKeys stamp shown raises syncs) = map_map (λ (v : Version). v.key) _ shown
keys_unnamed (answers.Stood stamp row points) = tt
keys_unnamed (answers.StampEnd colour) = tt
keys_unnamed (answers.Full used) = tt
keys_unnamed (answers.Stopped steps) = tt
keys_unnamed (answers.Synced sync plays) = tt
keys_unnamed (answers.Scanned stamp count raises syncs) = tt
keys_unnamed (answers.Pulled count give carry) = tt
keys_unnamed answers.SameRegion = tt
keys_unnamed (answers.Based given base) = tt
keys_unnamed (answers.Got value sync) = tt
keys_unnamed (answers.GotMany values sync) = tt
keys_unnamed (answers.Ruled conflict stamp row points read_stamp raises syncs) = tt
keys_unnamed (answers.Changed failed stamp row points read_stamp raises syncs) = tt
keys_unnamed (answers.Listed names stamp raises syncs) = tt
keys_unnamed (answers.Undecided stamp sync) = tt
keys_unnamed (answers.Decided commits stamp sync read_stamp raises syncs ended) = tt
keys_unnamed (answers.Moved lined waiting colour events) = tt
keys_unnamed answers.NoTx = tt
keys_unnamed (answers.Took value point sync) = tt
keys_unnamed (answers.UnreadTrimmed stamp colour base) = tt
keys_unnamed (answers.UnreadNoMemory stamp) = tt
keys_unnamed (answers.Trimmed colour base) = tt
keys_unnamed (answers.NotHome home) = tt
keys_unnamed answers.NoMemory = tt

-- what is unnamed
abbrev pub unnamed_by : List ReplyLine → ℕ → List Version
unnamed_by [] k = []
unnamed_by (r ∷ rs) zero = unnamed r.answer
unnamed_by (r ∷ rs) (suc k) = unnamed_by rs k

pub unnamed_keys : (rs : List ReplyLine) → FindKeys (unnamed_by rs) rs
unnamed_keys [] = tt
unnamed_keys (r ∷ rs) = (keys_unnamed r.answer, unnamed_keys rs)

module _ (log : Log) (caller : Caller) (shown : ℕ → ℕ → List ℕ) where
  pub unnamed_steps : (kept : Kept) (cs : List Command) (rs : List ReplyLine)
      → steps_finding log caller shown (unnamed_by rs) kept cs rs ≡ steps_of log caller shown kept cs rs
  unnamed_steps kept [] rs = refl
  unnamed_steps kept (c ∷ cs) [] = refl
  unnamed_steps kept (c ∷ cs) (r ∷ rs) =
      ap (λ (l : List Step). step_of log caller shown kept c r ∷ l)
      (unnamed_steps (kept_past log caller (step_of log caller shown kept c r)) cs rs)

  pub unnamed_last : (kept : Kept) (cs : List Command) (rs : List ReplyLine)
      → last_finding log caller shown (unnamed_by rs) kept cs rs ≡ last_of_steps log caller shown kept cs rs
  unnamed_last kept [] rs = refl
  unnamed_last kept (c ∷ cs) [] = refl
  unnamed_last kept (c ∷ cs) (r ∷ rs) = unnamed_last (kept_past log caller (step_of log caller shown kept c r)) cs rs

-- the account with no writers named is the one that is told
pub unnamed_account : (script : Script) (report : Report) (nodes : ℕ → List Node)
    → account_with script report nodes (λ n. unnamed_by (replies_to report n)) ≡ account_of script report nodes
unnamed_account script report nodes = λ i. record {
  log = log_of report nodes;
  steps = λ n. unnamed_steps (log_of report nodes) (caller_of script n) (places_shown script report n) nothing_kept
      (commands_of script n) (replies_to report n) i;
  last = λ n. unnamed_last (log_of report nodes) (caller_of script n) (places_shown script report n) nothing_kept
      (commands_of script n) (replies_to report n) i;
}

module _ (log : Log) (caller : Caller) (shown : ℕ → ℕ → List ℕ) where
  abbrev KeysAt : Step → Type 0
  KeysAt s = AreKeysFound s.untold.found s.reply.answer

  steps_asked : (found : ℕ → List Version) (kept : Kept) (cs : List Command) (rs : List ReplyLine) → length cs ≡ length rs
      → map (λ (s : Step). s.command) (steps_finding log caller shown found kept cs rs) ≡ cs
  steps_asked found kept [] rs e = refl
  steps_asked found kept (c ∷ cs) [] e = absurd (let f : ⊥ = omega (arith, e) in f)
  steps_asked found kept (c ∷ cs) (r ∷ rs) e =
      ap (λ (l : List Command). c ∷ l)
      (steps_asked (λ k. found (suc k)) (kept_past log caller (step_finding log caller shown (found 0) kept c r)) cs rs
      (omega (arith, e)))

  steps_replied : (found : ℕ → List Version) (kept : Kept) (cs : List Command) (rs : List ReplyLine) → length cs ≡ length rs
      → map (λ (s : Step). s.reply) (steps_finding log caller shown found kept cs rs) ≡ rs
  steps_replied found kept [] [] e = refl
  steps_replied found kept [] (r ∷ rs) e = absurd (let f : ⊥ = omega (arith, e) in f)
  steps_replied found kept (c ∷ cs) [] e = refl
  steps_replied found kept (c ∷ cs) (r ∷ rs) e =
      ap (λ (l : List ReplyLine). r ∷ l)
      (steps_replied (λ k. found (suc k)) (kept_past log caller (step_finding log caller shown (found 0) kept c r)) cs rs
      (omega (arith, e)))

  steps_follow : (found : ℕ → List Version) (kept : Kept) (cs : List Command) (rs : List ReplyLine)
      → Follow log caller kept (steps_finding log caller shown found kept cs rs) (last_finding log caller shown found kept cs rs)
  steps_follow found kept [] rs = refl
  steps_follow found kept (c ∷ cs) [] = refl
  steps_follow found kept (c ∷ cs) (r ∷ rs) =
      (refl, steps_follow (λ k. found (suc k)) (kept_past log caller (step_finding log caller shown (found 0) kept c r)) cs rs)

  steps_keys : (found : ℕ → List Version) (kept : Kept) (cs : List Command) (rs : List ReplyLine) → FindKeys found rs
      → All KeysAt (steps_finding log caller shown found kept cs rs)
  steps_keys found kept [] rs f = All-nil KeysAt
  steps_keys found kept (c ∷ cs) [] f = All-nil KeysAt
  steps_keys found kept (c ∷ cs) (r ∷ rs) f =
      let step = step_finding log caller shown (found 0) kept c r in
      All-cons KeysAt step (steps_finding log caller shown (λ k. found (suc k)) (kept_past log caller step) cs rs) f.0
      (steps_keys (λ k. found (suc k)) (kept_past log caller step) cs rs f.1)

pub finds_tell : FindsTell
finds_tell script report nodes found well keys = record {
  histories = all_in (λ (c : ColumnReport). c.journal ≡ journal_among report.columns c.region c.colour) report.columns
      (journal_at report.columns well.apart);
  rows = well.rows ∙ sym (all_rows (journal_among report.columns) nodes (range_with_len 0 script.shape.regions) report.rows);
  clients = λ n c there.
      let log = log_of report nodes in
      let caller = caller_of script n in
      let places = places_shown script report n in
      let shown : replies_to report n ≡ c.replies = ap replies_in there in
      let long = well.replied n c there ∙ ap length (sym shown) in record {
        commands = steps_asked log caller places (found n) nothing_kept (commands_of script n) (replies_to report n) long;
        replied = steps_replied log caller places (found n) nothing_kept (commands_of script n) (replies_to report n) long ∙ shown;
        follow = steps_follow log caller places (found n) nothing_kept (commands_of script n) (replies_to report n);
        keys = steps_keys log caller places (found n) nothing_kept (commands_of script n) (replies_to report n)
            (subst (FindKeys (found n)) (sym shown) (keys n c there));
      };
}

pub reports_tell : ReportsTell
reports_tell script report nodes well =
    subst (IsTold script report) (unnamed_account script report nodes)
    (finds_tell script report nodes (λ n. unnamed_by (replies_to report n)) well (λ n c there.
    subst (FindKeys (unnamed_by (replies_to report n))) (ap replies_in there) (unnamed_keys (replies_to report n))))
