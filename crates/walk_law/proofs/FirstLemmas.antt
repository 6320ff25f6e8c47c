-- The first rule is what a report lists, and the replies beside their commands.
use Rattle.std.proofs.Common.{◌≡◌, ◌∙◌, refl, ap, sym, subst, ℕ, suc, ◌<◌, ◌≤◌, Bool, List, [], ◌∷◌, length, Some, arith}
use Rattle.std.specs.List.{All}
use Rattle.std.proofs.lemmas.List.{length-map}
use Rattle.std.proofs.lemmas.List.Elements.{All-nil, All-cons, All-head, All-tail, All-weaker}
use Rattle.log_node.specs.declared.limits.TheConstants.{MAX_COLOURS}
use Rattle.col_core.specs.Log.{Log}
use Rattle.col_core.specs.Keeping.{Kept, nothing_kept}
use Rattle.script_text.specs.declared.script.Command.{Command}
use Rattle.script_text.specs.declared.script.Kind.{Kind}
use Rattle.script_text.specs.declared.script.Kind.TheVariants as kinds
use Rattle.script_text.specs.declared.script.Object.{Object}
use Rattle.script_text.specs.declared.script.Script.{Script}
use Rattle.script_text.specs.Fitting.{IsFitting, IsKindWithin}
use Rattle.report_text.specs.declared.report.ClientReport.{ClientReport}
use Rattle.report_text.specs.declared.report.ReplyLine.{ReplyLine}
use Rattle.report_text.specs.declared.report.Report.{Report}
use Rattle.lawful_run.specs.Asks.{object_colours}
use Rattle.lawful_run.specs.Callers.{Caller, caller_of, commands_of}
use Rattle.column_track.specs.Tracks.{Tells}
use Rattle.run_rules.specs.Told.{kept_past}
use Rattle.run_rules.specs.Telling.{log_of, no_nodes, places_shown, replies_in, step_of, steps_of}
use Rattle.run_rules.specs.Rules.{IsReplyTo}
use Rattle.run_rules.specs.Keeping.{Keeps, one}
use Rattle.run_rules.proofs.CallerLemmas.{OnceEach, columns_apart, first_rules_decided, once_rows, rule1}
use Rattle.walk_law.specs.Asking.{AreLow, HaveLowColours}
use Rattle.walk_law.specs.Lists.{HasLists}
use Rattle.walk_law.specs.Replies.{AreAllReplies, AreReplies}
use Rattle.walk_law.proofs.Members.{told_as}
use Rattle.walk_law.proofs.ThirdLemmas.{few_colours}

-- WHAT A SCRIPT HAS THAT IS READ

module _ (regions colours : ℕ) (few : colours ≤ MAX_COLOURS) where
  below_low : (of : List ℕ) → All (λ c. c < colours) of → AreLow of
  below_low of below = All-weaker (λ c. c < colours) (λ c. c < MAX_COLOURS) (λ c lt. omega (arith, lt, few)) of below

  one_low : (colour : ℕ) → colour < colours → AreLow (colour ∷ [])
  one_low colour lt = All-cons (λ c. c < MAX_COLOURS) colour [] (omega (arith, lt, few)) (All-nil (λ c. c < MAX_COLOURS))

  kind_low : (kind : Kind) → IsKindWithin regions colours kind → AreLow (object_colours (Some kind))
  kind_low (kinds.Map home of) k = below_low of k.1.below
  kind_low (kinds.Tx home of) k = below_low of k.1.below
  kind_low (kinds.Causal colour) k = one_low colour k
  kind_low (kinds.Queue home colour) k = one_low colour k.1
  kind_low (kinds.Tree home of) k = below_low of k.1.below
  kind_low (kinds.Parts home of) k = below_low of k.1.below

pub low_objects : (script : Script) → IsFitting script → HaveLowColours script.objects
low_objects script fits =
    All-weaker (λ (o : Object). IsKindWithin script.shape.regions script.shape.colours o.kind)
    (λ (o : Object). AreLow (object_colours (Some o.kind)))
    (λ o k. kind_low script.shape.regions script.shape.colours (few_colours script fits) o.kind k) script.objects fits.objects

pub callers_shown : (script : Script) (report : Report) (clients : List ClientReport) → clients ≡ report.clients → IsFitting script
    → HasLists script report → All (λ (c : Command). c.client < length clients) script.commands
callers_shown script report clients same fits lists =
    let long = sym (length-map report.clients (λ (c : ClientReport). c.name)) ∙ ap length lists.names in
    let many = fits.clients in
    let all = ap length same in
    All-weaker (λ (c : Command). c.client < length script.shape.homes) (λ (c : Command). c.client < length clients)
    (λ c lt. omega (arith, lt, long, many, all)) script.commands fits.callers

-- STEPS

module _ (log : Log) (caller : Caller) (shown : ℕ → ℕ → List ℕ) where
  as_many : (kept : Kept) (cs : List Command) (rs : List ReplyLine) → AreReplies log caller shown kept cs rs → length cs ≡ length rs
  as_many kept [] [] are = refl
  as_many kept [] (r ∷ rs) are = absurd are
  as_many kept (c ∷ cs) [] are = absurd are
  as_many kept (c ∷ cs) (r ∷ rs) are =
      ap suc (as_many (kept_past log caller (step_of log caller shown kept c r)) cs rs are.1)

  each_step : (kept : Kept) (cs : List Command) (rs : List ReplyLine) → AreReplies log caller shown kept cs rs
      → All (IsReplyTo caller) (steps_of log caller shown kept cs rs)
  each_step kept [] [] are = All-nil (IsReplyTo caller)
  each_step kept [] (r ∷ rs) are = absurd are
  each_step kept (c ∷ cs) [] are = absurd are
  each_step kept (c ∷ cs) (r ∷ rs) are =
      let step = step_of log caller shown kept c r in
      All-cons (IsReplyTo caller) step (steps_of log caller shown (kept_past log caller step) cs rs) are.0
      (each_step (kept_past log caller step) cs rs are.1)

  steps_each : (kept : Kept) (cs : List Command) (rs : List ReplyLine) → length cs ≡ length rs
      → All (IsReplyTo caller) (steps_of log caller shown kept cs rs) → AreReplies log caller shown kept cs rs
  steps_each kept [] [] long all = tt
  steps_each kept [] (r ∷ rs) long all = absurd (let f : ⊥ = omega (arith, long) in f)
  steps_each kept (c ∷ cs) [] long all = absurd (let f : ⊥ = omega (arith, long) in f)
  steps_each kept (c ∷ cs) (r ∷ rs) long all =
      let step = step_of log caller shown kept c r in
      let later = steps_of log caller shown (kept_past log caller step) cs rs in (
        All-head (IsReplyTo caller) step later all,
        steps_each (kept_past log caller step) cs rs (omega (arith, long)) (All-tail (IsReplyTo caller) step later all),
      )

-- THE RULE

module _ (script : Script) (report : Report) (fits : IsFitting script) where
  abbrev log : Log
  log = log_of report no_nodes

  abbrev Replies : Type 0
  Replies = AreAllReplies log (places_shown script report) script report.clients

  pub first_kept : HasLists script report → Replies → Keeps script report 1
  first_kept lists are = (first_rules_decided script report fits 1 (omega arith) (omega arith)).1 (
    record {
      replied = λ n c at.
          as_many log (caller_of script n) (places_shown script report n) nothing_kept (commands_of script n) c.replies (are n c at);
      apart = columns_apart report.columns
          (subst OnceEach (sym lists.columns) (once_rows script.shape.colours 0 script.shape.regions));
      rows = lists.rows;
    },
    (
      tt,
      one (record {
        version = lists.version;
        names = lists.names;
        replies = λ n c at.
            subst (λ (rs : List ReplyLine). All (IsReplyTo (caller_of script n))
            (steps_of log (caller_of script n) (places_shown script report n) nothing_kept (commands_of script n) rs))
            (sym (ap replies_in at))
            (each_step log (caller_of script n) (places_shown script report n) nothing_kept (commands_of script n) c.replies (are n c at));
        columns = lists.columns;
        named = lists.named;
        by_client = lists.by_client;
      }),
    ),
  )

  pub lists_kept : Keeps script report 1 → HasLists script report
  lists_kept keeps =
      let decided = (first_rules_decided script report fits 1 (omega arith) (omega arith)).0 keeps in
      let first = rule1 decided.1.1 in record {
        version = first.version;
        names = first.names;
        columns = first.columns;
        named = first.named;
        rows = decided.0.rows;
        by_client = first.by_client;
      }

  pub replies_kept : Keeps script report 1 → Replies
  replies_kept keeps n c at =
      let decided = (first_rules_decided script report fits 1 (omega arith) (omega arith)).0 keeps in
      let first = rule1 decided.1.1 in
      steps_each log (caller_of script n) (places_shown script report n) nothing_kept (commands_of script n) c.replies
      (decided.0.replied n c at)
      (subst (λ (rs : List ReplyLine). All (IsReplyTo (caller_of script n))
      (steps_of log (caller_of script n) (places_shown script report n) nothing_kept (commands_of script n) rs))
      (ap replies_in at) (first.replies n c at))

  pub first_told : HasLists script report → (b : Bool) → Tells b Replies → Tells b (Keeps script report 1)
  first_told lists b told = told_as b Replies (Keeps script report 1) (first_kept lists) replies_kept told
