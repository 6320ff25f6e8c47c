-- Which rules a report keeps of one client alone, with one column and no row.
use Rattle.std.proofs.Common.{◌≡◌, ◌∙◌, ◌⊎◌, inl, ℕ, zero, suc, ◌<◌, List, [], ◌∷◌, length, Some, true, refl, ap, arith}
use Rattle.std.specs.Prelude.{slice_get, codes}
use Rattle.std.specs.List.{All, Contains}
use Rattle.std.proofs.lemmas.List.Elements.{All-nil, All-cons, All-contains, All-weaker}
use Rattle.log_node.specs.declared.ids.Key.{Key}
use Rattle.log_node.specs.declared.ids.Counts.{Counts}
use Rattle.log_node.specs.declared.node.Node.{Node}
use Rattle.log_node.specs.Standings.{Standing}
use Rattle.col_core.specs.declared.Entry.{Entry}
use Rattle.col_core.specs.Computed.{dated}
use Rattle.col_core.specs.Legal.{IsColumnHistory}
use Rattle.col_core.specs.History.{entries}
use Rattle.col_core.specs.Log.{places_of}
use Rattle.col_core.specs.Rows.{FitsRows}
use Rattle.script_text.specs.declared.script.Object.{Object}
use Rattle.script_text.specs.declared.script.Command.{Command}
use Rattle.script_text.specs.declared.script.Script.{Script}
use Rattle.report_text.specs.declared.report.QueueKey.{QueueKey}
use Rattle.report_text.specs.declared.report.ClientReport.{ClientReport}
use Rattle.report_text.specs.declared.report.ColumnReport.{ColumnReport}
use Rattle.report_text.specs.declared.report.ReplyLine.{ReplyLine}
use Rattle.report_text.specs.declared.report.Report.{Report}
use Rattle.lawful_run.specs.Callers.{Caller, caller_of, commands_of}
use Rattle.lawful_run.specs.Columns.{ShowsClosing}
use Rattle.lawful_run.specs.Lawful.{IsHelp, HasStopped}
use Rattle.run_rules.specs.Told.{Account, Step, IsTold, OfEachStep, kept_at}
use Rattle.run_rules.specs.Telling.{account_of}
use Rattle.run_rules.specs.Naming.{Names}
use Rattle.run_rules.specs.Rules.{Rule1, Rule2, Rule3, Rule4, Rule5, Rule8, IsReplyTo, UsesNode, IsNamed, IsLawfulColumn, HasOwnNodes, Stands, StopsAsTold, Rule6, Rule7}
use Rattle.run_rules.proofs.CallerLemmas.{reports_tell}
use Rattle.wrong_reports.specs.Cases.{script, shows, to_a, column, e, x}

-- a list of one
pub one_of : {A : Type 0} (P : A → Type 0) (a : A) → P a → All P (a ∷ [])
one_of P a p = All-cons P a [] p (All-nil P)

-- a list of two
pub two_of : {A : Type 0} (P : A → Type 0) (a b : A) → P a → P b → All P (a ∷ b ∷ [])
two_of P a b p q = All-cons P a (b ∷ []) p (one_of P b q)

module _ (version : ℕ) (objects : List Object) (commands : List Command) (lines : List ReplyLine)
    (journal : List Entry) (clock : ℕ) (line : List Key) (queue : List QueueKey) (cut base : Counts) (nodes : List Node) where
  abbrev pub scr : Script
  scr = record (script 1 1 (e ∷ []) objects commands) { version = version }

  abbrev pub col : ColumnReport
  col = column e x journal clock line queue cut base

  abbrev pub rep : Report
  rep = record (shows (to_a lines) [] (col ∷ [])) { version = version }

  abbrev pub acc : Account
  acc = account_of scr rep (λ _. nodes)

  abbrev pub caller : Caller
  caller = caller_of scr 0

  abbrev pub steps : List Step
  steps = acc.steps 0

  pub of_steps : (P : Caller → Step → Type 0) → All (P caller) steps → OfEachStep scr rep acc P
  of_steps P all zero c there = all
  of_steps P all (suc n) c there = absurd (let f : ⊥ = cc (there) in f)

  pub told : length (commands_of scr 0) ≡ length lines → IsTold scr rep acc
  told long = reports_tell scr rep (λ _. nodes) (record {
    replied = replied;
    apart = λ i j d lt within. absurd (let f : ⊥ = omega (arith, lt, within) in f);
    rows = refl;
  }) where
    replied : (n : ℕ) (c : ClientReport) → slice_get rep.clients n ≡ Some c → length (commands_of scr n) ≡ length c.replies
    replied zero c there =
        let same : record { name = codes "a"; replies = lines } ≡ c = cc (there) in
        long ∙ ap (λ (y : ClientReport). length y.replies) same
    replied (suc n) c there = absurd (let f : ⊥ = cc (there) in f)

  pub rule1_of : All (IsReplyTo caller) steps → Rule1 scr rep acc
  rule1_of replies = record {
    version = refl;
    names = refl;
    replies = of_steps IsReplyTo replies;
    columns = refl;
    named = one_of (IsNamed scr) col (record { region = refl; colour = refl });
    by_client = λ region lt i j d le within. absurd (let f : ⊥ = omega (arith, within) in f);
  }

  pub rule2_of : IsColumnHistory 0 1 (dated 0 journal) → All (λ (y : Entry). y.by < 1) journal → ShowsClosing 1 journal col
      → Rule2 scr rep
  rule2_of legal makers closing = record { each = one_of (IsLawfulColumn scr) col (record { legal = legal; makers = makers; closing = closing }) }

  -- of the one column
  pub first_column : (P : ℕ → ℕ → Type 0) → P 0 0 → (region colour : ℕ) → region < 1 → colour < 1 → P region colour
  first_column P p zero zero r c = p
  first_column P p zero (suc colour) r c = absurd (let f : ⊥ = omega (arith, c) in f)
  first_column P p (suc region) colour r c = absurd (let f : ⊥ = omega (arith, r) in f)

  pub rule3_of : All (λ (y : Entry). FitsRows [] 0 y.event) journal → Rule3 scr acc
  rule3_of fits = record {
    of_clients = λ region lt k d within. absurd (let f : ⊥ = omega (arith, within) in f);
    lawful = λ region lt. record {
      in_order = λ client. refl;
      fit = λ k d within. absurd (let f : ⊥ = omega (arith, within) in f);
      ids_differ = λ i j d less within. absurd (let f : ⊥ = omega (arith, within) in f);
      marks = λ k d within. absurd (let f : ⊥ = omega (arith, within) in f);
      outcomes = λ k d within. absurd (let f : ⊥ = omega (arith, within) in f);
      events = λ colour less. first_column
          (λ r c. All (λ (y : Entry). FitsRows [] c y.event) (acc.log.histories r c)) fits region colour lt less;
    };
    marked = λ region lt k d within. absurd (let f : ⊥ = omega (arith, within) in f);
    copies = λ colour less origin copier a b apart. absurd (apart (let f : origin ≡ copier = omega (arith, a, b) in f));
  }

  pub rule4_of : All (λ (s : Step). Names acc.log s.untold caller (kept_at s) s.command.what s.reply.answer) steps
      → places_of 0 journal ≡ (acc.last 0).made 0 0 → All (λ (y : Entry). IsHelp y.by y.event → ⊥) journal
      → Rule4 scr rep acc
  rule4_of named made none = record {
    named = of_steps (λ c s. Names acc.log s.untold c (kept_at s) s.command.what s.reply.answer) named;
    made = all_made;
    helpers = λ region colour y r c among help. absurd (first_column
        (λ a b. Contains (acc.log.histories a b) y → ⊥)
        (λ i. All-contains (λ (z : Entry). IsHelp z.by z.event → ⊥) journal y none i help) region colour r c among);
  } where
    all_made : (n : ℕ) (c : ClientReport) → slice_get rep.clients n ≡ Some c
        → (region colour : ℕ) → region < 1 → colour < 1
        → places_of n (acc.log.histories region colour) ≡ (acc.last n).made region colour
    all_made zero c there region colour r l =
        first_column (λ a b. places_of 0 (acc.log.histories a b) ≡ (acc.last 0).made a b) made region colour r l
    all_made (suc n) c there region colour r l = absurd (let f : ⊥ = cc (there) in f)

  pub rule5_of : All (λ (s : Step). UsesNode acc.log caller (kept_at s) s.command.what s.reply.answer) steps
      → length nodes ≡ (acc.last 0).ids → 0 ≡ (acc.last 0).rows → Rule5 scr rep acc
  rule5_of used ids rows = record {
    used = of_steps (λ c s. UsesNode acc.log c (kept_at s) s.command.what s.reply.answer) used;
    own = own;
  } where
    own : (n : ℕ) (c : ClientReport) → slice_get rep.clients n ≡ Some c → HasOwnNodes scr acc n
    own zero c there = record {
      nodes = ids;
      rows = rows;
      row_nodes = λ r among same. absurd (let l = among.1 in let f : ⊥ = omega (arith, l) in f);
    }
    own (suc n) c there = absurd (let f : ⊥ = cc (there) in f)

  pub rule6_of : All (λ (s : Step). Stands acc.log s.untold caller (kept_at s) s.command.what s.reply.answer) steps
      → Rule6 scr rep acc
  rule6_of stands = record {
    stands = of_steps (λ c s. Stands acc.log s.untold c (kept_at s) s.command.what s.reply.answer) stands;
  }

  pub rule7_of : All (λ (s : Step). StopsAsTold acc.log s.untold caller (kept_at s) s.command.what s.reply.answer) steps
      → Rule7 scr rep acc
  rule7_of stops = record {
    stops = of_steps (λ c s. StopsAsTold acc.log s.untold c (kept_at s) s.command.what s.reply.answer) stops;
  }

  pub rule8_of : All (λ (y : Entry). IsHelp y.by y.event → ⊥) journal → All (λ (z : Standing). z.settled ≡ true) (entries journal) → Rule8 scr rep acc
  rule8_of none closed = record {
    left_open = record {
      ids = λ region colour r c. first_column
          (λ a b. All (λ (z : Standing). (z.settled ≡ true) ⊎ HasStopped rep z.key.id.client) (entries (acc.log.histories a b)))
          (All-weaker (λ (z : Standing). z.settled ≡ true) (λ (z : Standing). (z.settled ≡ true) ⊎ HasStopped rep z.key.id.client)
          (λ z t. inl t) (entries journal) closed) region colour r c;
      rows = λ region lt k d within. absurd (let f : ⊥ = omega (arith, within) in f);
    };
    helped = λ region colour y row r c among help begun step.
        absurd (let l = begun.1 in let f : ⊥ = omega (arith, l) in f);
  }
