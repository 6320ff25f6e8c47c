-- Two told accounts of one report at which the first rules hold agree.
use Rattle.std.proofs.Common.{◌≡◌, ◌∙◌, refl, ap, sym, subst, Bool, true, ℕ, zero, suc, ◌+◌, ◌<◌, ◌≤◌, List, [], ◌∷◌, ◌++◌, map, Some, ◌⊎◌, inl, inr, arith, append_assoc}
use Rattle.std.specs.Prelude.{◌==◌, IsTrue, slice_get}
use Rattle.std.specs.List.{All, AllZip, flat_map, range_with_len}
use Rattle.std.proofs.lemmas.Bool.{cases_lt}
use Rattle.std.proofs.lemmas.List.Elements.{All-contains, All-head, All-tail}
use Rattle.log_node.specs.declared.node.At.{At}
use Rattle.col_core.specs.declared.Entry.{Entry}
use Rattle.col_core.specs.Ids.{IsStepOf}
use Rattle.col_core.specs.Log.{Log, places_of}
use Rattle.col_core.specs.Rows.{BegunRow}
use Rattle.col_core.specs.Keeping.{Kept, nothing_kept}
use Rattle.col_core.proofs.CallerLemmas.{In, in_append, in_left, in_right, contains_in, in_map, in_map-back, in_flat_map, in_flat_map-back, in_filter, in_range, range_has, all_in}
use Rattle.script_text.specs.declared.commands.What.{What}
use Rattle.script_text.specs.declared.commands.What.TheVariants as whats
use Rattle.script_text.specs.declared.script.Command.{Command}
use Rattle.script_text.specs.declared.script.Script.{Script}
use Rattle.script_text.specs.Fitting.{IsFitting, IsWithin}
use Rattle.report_text.specs.declared.report.Answer.{Answer}
use Rattle.report_text.specs.declared.report.Answer.TheVariants as answers
use Rattle.report_text.specs.declared.report.ReplyLine.{ReplyLine}
use Rattle.report_text.specs.declared.report.RowReport.{RowReport}
use Rattle.report_text.specs.declared.report.ColumnReport.{ColumnReport}
use Rattle.report_text.specs.declared.report.ClientReport.{ClientReport}
use Rattle.report_text.specs.declared.report.Report.{Report}
use Rattle.lawful_run.specs.Callers.{Caller, caller_of}
use Rattle.lawful_run.specs.Columns.{row_report, column_numbers}
use Rattle.lawful_run.specs.Reads.{events_until}
use Rattle.run_rules.specs.Told.{Untold, Step, Account, IsTold, Follow, AreKeysFound, is_several, kept_at, kept_past}
use Rattle.run_rules.specs.Naming.{Names}
use Rattle.run_rules.specs.Answering.{CanHave}
use Rattle.run_rules.specs.Rules.{IsReplyTo, Rule1, Rule4}
use Rattle.run_rules.specs.Shown.{begins_row}
use Rattle.run_rules.specs.Agreeing.{HasColumn, KeepSame, AreStepsAlike, IsPulled, began_row}
use Rattle.run_rules.specs.Laws.{ToldAccountsAgree}
use Rattle.run_rules.proofs.Numbers.{rule1, rule4}
use Rattle.run_rules.proofs.Places.{Once, once_apart, once_behind, places_once, behind_same, one_beginning, one_before}
use Rattle.run_rules.specs.Printed.{only_at, printed, printed_at}
use Rattle.run_rules.proofs.Growing.{row_part, low_part, step_part, steps_part, one_where, step_grows, follow_grows}
use Rattle.run_rules.proofs.Reached.{home_within}
use Rattle.run_rules.proofs.SameKept.{before_same}
use Rattle.run_rules.proofs.SameKept.{behind_same as behind_kept}
use Rattle.run_rules.proofs.ToldAlike.{several_same, told_same}
use Rattle.run_rules.proofs.LeftOut.{Obeys, StandsLeftOut, steps_in, own_part, only_own, row_step, no_low, not_later, same_entry, ids_at}

-- ROWS AND COLUMNS

-- Lists of regions one after another, each of which has its own items, are one where all of them are.
one_by_one : (f g : ℕ → List RowReport) → ((x : ℕ) (p : RowReport) → In p (f x) → p.region ≡ x)
    → ((x : ℕ) (p : RowReport) → In p (g x) → p.region ≡ x) → (from k : ℕ)
    → flat_map f (range_with_len from k) ≡ flat_map g (range_with_len from k)
    → (x : ℕ) → from ≤ x → x < from + k → f x ≡ g x
one_by_one f g of_f of_g from zero e x le lt = absurd (let h : ⊥ = omega (arith, le, lt) in h)
one_by_one f g of_f of_g from (suc k) e x le lt =
    let first : f from ≡ g from = one_beginning (f from) (g from) (flat_map f (range_with_len (from + 1) k))
    (flat_map g (range_with_len (from + 1) k)) e
    (λ p i j. apart f g of_f of_g p i j) (λ p i j. apart g f of_g of_f p i j) in
    let rest : flat_map f (range_with_len (from + 1) k) ≡ flat_map g (range_with_len (from + 1) k) =
    behind_same (g from) (flat_map f (range_with_len (from + 1) k)) (flat_map g (range_with_len (from + 1) k))
    (ap (λ (l : List RowReport). l ++ flat_map f (range_with_len (from + 1) k)) (sym first) ∙ e) in
    turn first (one_by_one f g of_f of_g (from + 1) k rest x) (cases_lt from x) where
      apart : (a b : ℕ → List RowReport) → ((y : ℕ) (p : RowReport) → In p (a y) → p.region ≡ y)
          → ((y : ℕ) (p : RowReport) → In p (b y) → p.region ≡ y) → (p : RowReport) → In p (a from)
          → In p (flat_map b (range_with_len (from + 1) k)) → ⊥
      apart a b of_a of_b p i j =
          let y = in_flat_map b (range_with_len (from + 1) k) p j in
          let r = in_range (from + 1) k y.0 y.1 in
          let l = r.0 in
          let m = of_a from p i in
          let n = of_b y.0 p y.2 in
          omega (arith, l, m, n)

      turn : f from ≡ g from → (from + 1 ≤ x → x < from + 1 + k → f x ≡ g x) → (from < x) ⊎ (x ≤ from) → f x ≡ g x
      turn first more (inl l) = more (omega (arith, l)) (omega (arith, lt))
      turn first more (inr l) =
          let s : from ≡ x = omega (arith, le, l) in subst (λ (n : ℕ). f n ≡ g n) s first

-- a row of a region shows it
pub shows_region : (rows : ℕ → List BegunRow) (x : ℕ) (p : RowReport) → In p (map (row_report x) (rows x)) → p.region ≡ x
shows_region rows x p i =
    let r = in_map (row_report x) (rows x) p i in ap (λ (q : RowReport). q.region) (sym r.2)

module _ (script : Script) (report : Report) where
  pub column_there : map (λ (c : ColumnReport). (c.region, c.colour)) report.columns
      ≡ column_numbers script.shape.regions script.shape.colours
      → (region colour : ℕ) → HasColumn script region colour
      → (c : ColumnReport) × In c report.columns × (c.region ≡ region) × (c.colour ≡ colour)
  column_there columns region colour has =
      let lr = has.0 in
      let lc = has.1 in
      let i = in_flat_map-back (λ (r : ℕ). map (λ (c : ℕ). (r, c)) (range_with_len 0 script.shape.colours))
      (range_with_len 0 script.shape.regions) region (region, colour)
      (range_has 0 script.shape.regions region (omega arith) (omega (arith, lr)))
      (in_map-back (λ (c : ℕ). (region, c)) (range_with_len 0 script.shape.colours) colour
      (range_has 0 script.shape.colours colour (omega arith) (omega (arith, lc)))) in
      let m = in_map (λ (c : ColumnReport). (c.region, c.colour)) report.columns (region, colour)
      (subst (In (region, colour)) (sym columns) i) in
      (m.0, m.1, ap (λ (p : ℕ × ℕ). p.0) m.2, ap (λ (p : ℕ × ℕ). p.1) m.2)

  pub history_is : (account : Account) → IsTold script report account → (c : ColumnReport) → In c report.columns
      → (region colour : ℕ) → c.region ≡ region → c.colour ≡ colour → c.journal ≡ account.log.histories region colour
  history_is account told c i region colour er ec =
      All-contains (λ (x : ColumnReport). x.journal ≡ account.log.histories x.region x.colour) report.columns c
      told.histories (contains_in report.columns c i)
      ∙ (ap (λ (r : ℕ). account.log.histories r c.colour) er ∙ ap (account.log.histories region) ec)

  -- two accounts that are told have one log, but for nodes
  module _ (a b : Account) (ta : IsTold script report a) (tb : IsTold script report b) where
    pub histories_alike : Rule1 script report a → (r c : ℕ) → HasColumn script r c
        → a.log.histories r c ≡ b.log.histories r c
    histories_alike first r c has =
        let column = column_there first.columns r c has in
        sym (history_is a ta column.0 column.1 r c column.2 column.3)
        ∙ history_is b tb column.0 column.1 r c column.2 column.3

    pub rows_alike : (region : ℕ) → region < script.shape.regions
        → map (row_report region) (a.log.rows region) ≡ map (row_report region) (b.log.rows region)
    rows_alike region lt =
        one_by_one (λ (x : ℕ). map (row_report x) (a.log.rows x)) (λ (x : ℕ). map (row_report x) (b.log.rows x))
        (shows_region a.log.rows) (shows_region b.log.rows) 0 script.shape.regions (sym ta.rows ∙ tb.rows) region
        (omega arith) (omega (arith, lt))

-- STEPS

-- a step of this command with this reply
pub step_with : (step : Step) (command : Command) (reply : ReplyLine) → command ≡ step.command → reply ≡ step.reply
    → step ≡ record { command = command; reply = reply; kept = step.kept; untold = step.untold }
step_with step command reply e f =
    ap (λ (c : Command). record { command = c; reply = step.reply; kept = step.kept; untold = step.untold }) (sym e)
    ∙ ap (λ (a : ReplyLine). record { command = command; reply = a; kept = step.kept; untold = step.untold }) (sym f)

-- what a pull adds to a column that it gives in: gives that were too low, then its give
pub pulled_part : (own region colour : ℕ) (give carry : At) (xs rest : List ℕ)
    → (only_at region colour xs region colour
    ++ (only_at region colour (events_until give ∷ []) region colour ++ printed_at own colour carry region colour)) ++ rest
    ≡ xs ++ events_until give ∷ (printed_at own colour carry region colour ++ rest)
pulled_part own region colour give carry xs rest =
    ap (λ (l : List ℕ). (l ++ (only_at region colour (events_until give ∷ []) region colour ++ printed_at own colour carry region colour)) ++ rest)
    (only_own region colour xs)
    ∙ (ap (λ (l : List ℕ). (xs ++ (l ++ printed_at own colour carry region colour)) ++ rest) (only_own region colour (events_until give ∷ []))
    ∙ append_assoc xs (events_until give ∷ printed_at own colour carry region colour) rest)

-- gives that were too low, before the give of their pull
low_alike : (own : ℕ) (s t : Bool) (u v : Untold) (answer : Answer) → IsPulled answer → (region colour : ℕ) (more less : List ℕ)
    → (row_part (begins_row s answer) own u.places region colour
    ++ (low_part u answer (whats.Pull region colour) region colour
    ++ printed own answer (whats.Pull region colour) region colour)) ++ more
    ≡ (row_part (begins_row t answer) own v.places region colour
    ++ (low_part v answer (whats.Pull region colour) region colour
    ++ printed own answer (whats.Pull region colour) region colour)) ++ less
    → Once ((row_part (begins_row s answer) own u.places region colour
    ++ (low_part u answer (whats.Pull region colour) region colour
    ++ printed own answer (whats.Pull region colour) region colour)) ++ more)
    → Once ((row_part (begins_row t answer) own v.places region colour
    ++ (low_part v answer (whats.Pull region colour) region colour
    ++ printed own answer (whats.Pull region colour) region colour)) ++ less)
    → u.too_low ≡ v.too_low
low_alike own s t u v (answers.Pulled count give carry) p region colour more less e o q =
    one_before (events_until give) u.too_low v.too_low (printed_at own colour carry region colour ++ more) (printed_at own colour carry region colour ++ less)
    (sym (pulled_part own region colour give carry u.too_low more) ∙ (e ∙ pulled_part own region colour give carry v.too_low less)) (subst Once (pulled_part own region colour give carry u.too_low more) o)
    (subst Once (pulled_part own region colour give carry v.too_low less) q)
low_alike own s t u v _ p region colour more less e o q = absurd p

-- a pull is answered so
pub pull_asked : (caller : Caller) (kept : Kept) (what : What) (nodes : _) (answer : Answer) → IsPulled answer
    → CanHave caller kept what nodes answer → (region : ℕ) × (colour : ℕ) × (what ≡ whats.Pull region colour)
pull_asked caller kept what nodes (answers.Pulled count give carry) p can = (can.1, can.2, can.3)
pull_asked caller kept what nodes _ p can = absurd p

module _ (script : Script) (fits : IsFitting script) (n : ℕ)
    (home : (caller_of script n).own < script.shape.regions) where
  abbrev who : Caller
  who = caller_of script n

  -- The places of a row's steps are none of those behind them by the other.
  module _ (one two : Log) (alike : (r c : ℕ) → HasColumn script r c → one.histories r c ≡ two.histories r c)
      (x y : Step) (ours theirs : List ℕ) (obeys : Obeys script one who x) (colour : ℕ) (lt : colour < script.shape.colours)
      (begun : began_row who x ≡ true) (begun_too : began_row who y ≡ true)
      (shown : printed who.own y.reply.answer y.command.what who.own colour
      ≡ printed who.own x.reply.answer x.command.what who.own colour)
      (once : Once (x.untold.places colour
      ++ ((low_part x.untold x.reply.answer x.command.what who.own colour
      ++ printed who.own x.reply.answer x.command.what who.own colour) ++ ours)))
      (more : (p : ℕ) → In p theirs → In p ours ⊎ StandsLeftOut two who (kept_past two who y).ids who.own colour p)
      (ids : x.kept.ids ≡ y.kept.ids) where
    abbrev low_of : Step → List ℕ
    low_of s = low_part s.untold s.reply.answer s.command.what who.own colour

    abbrev shown_of : Step → List ℕ
    shown_of s = printed who.own s.reply.answer s.command.what who.own colour

    not_after : (p : ℕ) → In p (x.untold.places colour)
        → StandsLeftOut two who (kept_past two who y).ids who.own colour p → ⊥
    not_after p i s =
        let h = row_step one who x obeys.names begun colour p i in
        let same = same_entry (two.histories who.own colour) p h.1.0 s.0
        (ap (λ (l : List Entry). slice_get l p) (sym (alike who.own colour (home, lt))) ∙ h.1.1) s.1 in
        let a = ids_at x in
        let g = (step_grows two who y).ids in
        let w = ap one_where begun_too in
        not_later who.client who.own (kept_past two who y).ids (kept_at x).ids s.0.event (omega (arith, a, ids, g, w))
        (subst (λ (e : Entry). IsStepOf (record { client = who.client; count = (kept_at x).ids }) e.event) same h.1.3) s.2

    disjoint : (p : ℕ) → In p (x.untold.places colour) → In p ((low_of y ++ shown_of y) ++ theirs) → ⊥
    disjoint p i j = outer (in_append p (low_of y ++ shown_of y) theirs j) where
      ours_not : In p ((low_of x ++ shown_of x) ++ ours) → ⊥
      ours_not k = once_apart (x.untold.places colour) ((low_of x ++ shown_of x) ++ ours) p once i k

      inner : In p (low_of y) ⊎ In p (shown_of y) → ⊥
      inner (inl k) =
          no_low (is_several who (kept_at y) y.command.what) y.untold y.command.what y.reply.answer who.own colour p
          begun_too k
      inner (inr k) =
          ours_not (in_left p (low_of x ++ shown_of x) ours
          (in_right p (low_of x) (shown_of x) (subst (In p) shown k)))

      later : In p ours ⊎ StandsLeftOut two who (kept_past two who y).ids who.own colour p → ⊥
      later (inl k) = ours_not (in_right p (low_of x ++ shown_of x) ours k)
      later (inr s) = not_after p i s

      outer : In p (low_of y ++ shown_of y) ⊎ In p theirs → ⊥
      outer (inl k) = inner (in_append p (low_of y) (shown_of y) k)
      outer (inr k) = later (more p k)

  module _ (log other : Log)
      (histories : (r c : ℕ) → HasColumn script r c → log.histories r c ≡ other.histories r c)
      (rows : map (row_report (caller_of script n).own) (log.rows (caller_of script n).own)
      ≡ map (row_report (caller_of script n).own) (other.rows (caller_of script n).own)) where
    -- one command with one reply, by both
    module _ (command : Command) (reply : ReplyLine) (k l : Kept) (u v : Untold) where
      abbrev x : Step
      x = record { command = command; reply = reply; kept = k; untold = u }

      abbrev y : Step
      y = record { command = command; reply = reply; kept = l; untold = v }

      module _ (ox : Obeys script log who x) (oy : Obeys script other who y) (kept : KeepSame script k l)
          (later latter : ℕ → ℕ → List ℕ)
          (same : (r c : ℕ) → HasColumn script r c → step_part who x r c ++ later r c ≡ step_part who y r c ++ latter r c)
          (x_once : (r c : ℕ) → HasColumn script r c → Once (step_part who x r c ++ later r c))
          (y_once : (r c : ℕ) → HasColumn script r c → Once (step_part who y r c ++ latter r c))
          (x_later : (r c p : ℕ) → In p (later r c)
          → In p (latter r c) ⊎ StandsLeftOut log who (kept_past log who x).ids r c p)
          (y_later : (r c p : ℕ) → In p (latter r c)
          → In p (later r c) ⊎ StandsLeftOut other who (kept_past other who y).ids r c p) where
        before : KeepSame script (kept_at x) (kept_at y)
        before = before_same script kept command.what

        began_same : began_row who x ≡ began_row who y
        began_same = ap (λ (t : Bool). begins_row t reply.answer) (several_same script who command.what before)

        opened : (s : Step) → began_row who s ≡ true → (c : ℕ) (rest : List ℕ)
            → step_part who s who.own c ++ rest
            ≡ s.untold.places c
            ++ ((low_part s.untold s.reply.answer s.command.what who.own c
            ++ printed who.own s.reply.answer s.command.what who.own c) ++ rest)
        opened s t c rest =
            append_assoc (row_part (began_row who s) who.own s.untold.places who.own c)
            (low_part s.untold s.reply.answer s.command.what who.own c
            ++ printed who.own s.reply.answer s.command.what who.own c) rest
            ∙ ap (λ (m : List ℕ). m
            ++ ((low_part s.untold s.reply.answer s.command.what who.own c
            ++ printed who.own s.reply.answer s.command.what who.own c) ++ rest))
            (own_part (began_row who s) who.own s.untold.places c t)

        places_alike : IsTrue (began_row who x) → (c : ℕ) → c < script.shape.colours → u.places c ≡ v.places c
        places_alike t c lt =
            let t_too = sym began_same ∙ t in
            let has : HasColumn script who.own c = (home, lt) in
            let first = opened x t c (later who.own c) in
            let second = opened y t_too c (latter who.own c) in
            one_beginning (u.places c) (v.places c) _ _ (sym first ∙ (same who.own c has ∙ second))
            (disjoint log other histories x y (later who.own c) (latter who.own c) ox c lt t t_too refl
            (subst Once first (x_once who.own c has)) (y_later who.own c) kept.ids)
            (disjoint other log (λ r d h. sym (histories r d h)) y x (latter who.own c) (later who.own c) oy c lt t_too t refl
            (subst Once second (y_once who.own c has)) (x_later who.own c) (sym kept.ids))

        lows_alike : IsPulled reply.answer → u.too_low ≡ v.too_low
        lows_alike p =
            let a = pull_asked who (kept_at x) command.what reply.nodes reply.answer p ox.can in
            let has : HasColumn script a.0 a.1 =
            subst (IsWithin script.shape.regions script.shape.colours) a.2 ox.within in
            let part : Bool → Untold → What → List ℕ =
            λ s w what. row_part (begins_row s reply.answer) who.own w.places a.0 a.1
            ++ (low_part w reply.answer what a.0 a.1 ++ printed who.own reply.answer what a.0 a.1) in
            let sx = is_several who (kept_at x) command.what in
            let sy = is_several who (kept_at y) command.what in
            low_alike who.own sx sy u v reply.answer p a.0 a.1 (later a.0 a.1) (latter a.0 a.1)
            (subst (λ (what : What). part sx u what ++ later a.0 a.1 ≡ part sy v what ++ latter a.0 a.1) a.2 (same a.0 a.1 has))
            (subst (λ (what : What). Once (part sx u what ++ later a.0 a.1)) a.2 (x_once a.0 a.1 has))
            (subst (λ (what : What). Once (part sy v what ++ latter a.0 a.1)) a.2 (y_once a.0 a.1 has))

        step_alike : AreStepsAlike script who x y
        step_alike = record {
          command = refl;
          reply = refl;
          kept = kept;
          places = places_alike;
          too_low = lows_alike;
        }

        past_alike : KeepSame script (kept_past log who x) (kept_past other who y)
        past_alike =
            behind_kept script (told_same script fits n log other histories home rows command.what ox.within u v (kept_at x)
            (kept_at y) before reply.nodes reply.answer ox.can (λ t c has. places_alike t c has.1) lows_alike ox.keys oy.keys)
            command.what

    -- steps one after another
    steps_alike : (xs ys : List Step) → map (λ (s : Step). s.command) xs ≡ map (λ (s : Step). s.command) ys
        → map (λ (s : Step). s.reply) xs ≡ map (λ (s : Step). s.reply) ys
        → All (Obeys script log who) xs → All (Obeys script other who) ys → (k l last latest : Kept)
        → Follow log who k xs last → Follow other who l ys latest → KeepSame script k l
        → ((r c : ℕ) → HasColumn script r c → steps_part who xs r c ≡ steps_part who ys r c)
        → ((r c : ℕ) → HasColumn script r c → Once (steps_part who xs r c))
        → AllZip (AreStepsAlike script who) xs ys × KeepSame script last latest
    steps_alike [] [] e f ox oy k l last latest fx fy kept same once =
        (tt, subst (λ (z : Kept). KeepSame script z latest) (sym fx) (subst (KeepSame script k) (sym fy) kept))
    steps_alike [] (y ∷ ys) e f ox oy k l last latest fx fy kept same once = absurd (let g : ⊥ = cc (e) in g)
    steps_alike (x ∷ xs) [] e f ox oy k l last latest fx fy kept same once = absurd (let g : ⊥ = cc (e) in g)
    steps_alike (x ∷ xs) (y ∷ ys) e f ox oy k l last latest fx fy kept same once =
        let command : x.command ≡ y.command = cc (e) in
        let reply : x.reply ≡ y.reply = cc (f) in
        let commands : map (λ (s : Step). s.command) xs ≡ map (λ (s : Step). s.command) ys = cc (e) in
        let replies : map (λ (s : Step). s.reply) xs ≡ map (λ (s : Step). s.reply) ys = cc (f) in
        let z : Step = record { command = x.command; reply = x.reply; kept = y.kept; untold = y.untold } in
        let is : y ≡ z = step_with y x.command x.reply command reply in
        let o = All-head (Obeys script log who) x xs ox in
        let q = subst (Obeys script other who) is (All-head (Obeys script other who) y ys oy) in
        let os = All-tail (Obeys script log who) x xs ox in
        let qs = All-tail (Obeys script other who) y ys oy in
        let fz = subst (λ (s : Step). Follow other who (kept_past other who s) ys latest) is fy.1 in
        let start : KeepSame script x.kept y.kept =
        subst (λ (a : Kept). KeepSame script a y.kept) (sym fx.0) (subst (KeepSame script k) (sym fy.0) kept) in
        let both : (r c : ℕ) → HasColumn script r c
        → step_part who x r c ++ steps_part who xs r c ≡ step_part who z r c ++ steps_part who ys r c =
        λ r c has. same r c has ∙ ap (λ (s : Step). step_part who s r c ++ steps_part who ys r c) is in
        let here = step_alike x.command x.reply x.kept y.kept x.untold y.untold o q start (steps_part who xs)
        (steps_part who ys) both once (λ r c has. subst Once (both r c has) (once r c has))
        (steps_in script log who xs ys commands replies os (kept_past log who x) last fx.1)
        (steps_in script other who ys xs (sym commands) (sym replies) qs (kept_past other who z) latest fz) in
        let past = past_alike x.command x.reply x.kept y.kept x.untold y.untold o q start (steps_part who xs)
        (steps_part who ys) both once (λ r c has. subst Once (both r c has) (once r c has))
        (steps_in script log who xs ys commands replies os (kept_past log who x) last fx.1)
        (steps_in script other who ys xs (sym commands) (sym replies) qs (kept_past other who z) latest fz) in
        let parts : (r c : ℕ) → HasColumn script r c → step_part who x r c ≡ step_part who z r c =
        λ r c has. behind_same (x.kept.made r c) (step_part who x r c) (step_part who z r c)
        (sym ((step_grows log who x).made r c)
        ∙ (past.made r c has
        ∙ ((step_grows other who z).made r c
        ∙ ap (λ (m : List ℕ). m ++ step_part who z r c) (sym (start.made r c has))))) in
        let rest = steps_alike xs ys commands replies os qs (kept_past log who x) (kept_past other who z) last latest fx.1 fz past
        (λ r c has. behind_same (step_part who x r c) (steps_part who xs r c) (steps_part who ys r c)
        (both r c has ∙ ap (λ (m : List ℕ). m ++ steps_part who ys r c) (sym (parts r c has))))
        (λ r c has. once_behind (step_part who x r c) (steps_part who xs r c) (once r c has)) in
        ((subst (AreStepsAlike script who x) (sym is) here, rest.0), rest.1)

-- ACCOUNTS

module _ (script : Script) (fits : IsFitting script) (report : Report) where
  pub obeys : (account : Account) → IsTold script report account → Rule1 script report account → Rule4 script report account
      → (n : ℕ) (c : ClientReport) → slice_get report.clients n ≡ Some c
      → All (Obeys script account.log (caller_of script n)) (account.steps n)
  obeys account told first fourth n c there =
      all_in (Obeys script account.log (caller_of script n)) (account.steps n) (λ s i. record {
        can = (All-contains (IsReplyTo (caller_of script n)) (account.steps n) s (first.replies n c there)
            (contains_in (account.steps n) s i)).answer;
        names = All-contains (λ (x : Step). Names account.log x.untold (caller_of script n) (kept_at x) x.command.what
            x.reply.answer) (account.steps n) s (fourth.named n c there) (contains_in (account.steps n) s i);
        keys = All-contains (λ (x : Step). AreKeysFound x.untold.found x.reply.answer) (account.steps n) s
            (told.clients n c there).keys (contains_in (account.steps n) s i);
        within = All-contains (λ (x : Command). IsWithin script.shape.regions script.shape.colours x.what) script.commands
            s.command fits.commands (contains_in script.commands s.command
            (in_filter (λ (x : Command). x.client == n) s.command script.commands (subst (In s.command)
            (told.clients n c there).commands (in_map-back (λ (x : Step). x.command) (account.steps n) s i))).0);
      })

  module _ (a b : Account) (ta : IsTold script report a) (tb : IsTold script report b)
      (a1 : Rule1 script report a) (b1 : Rule1 script report b)
      (a4 : Rule4 script report a) (b4 : Rule4 script report b) where
    abbrev alike : (r c : ℕ) → HasColumn script r c → a.log.histories r c ≡ b.log.histories r c
    alike = histories_alike script report a b ta tb a1

    clients_alike : (n : ℕ) (c : ClientReport) → slice_get report.clients n ≡ Some c
        → AllZip (AreStepsAlike script (caller_of script n)) (a.steps n) (b.steps n)
        × KeepSame script (a.last n) (b.last n)
    clients_alike n c there =
        let own = home_within script report fits a1.names n c there in
        let of_a = ta.clients n c there in
        let of_b = tb.clients n c there in
        let who = caller_of script n in
        let grown_a = follow_grows a.log who nothing_kept (a.steps n) (a.last n) of_a.follow in
        let grown_b = follow_grows b.log who nothing_kept (b.steps n) (b.last n) of_b.follow in
        steps_alike script fits n own a.log b.log alike (rows_alike script report a b ta tb who.own own) (a.steps n) (b.steps n)
        (of_a.commands ∙ sym of_b.commands) (of_a.replied ∙ sym of_b.replied) (obeys a ta a1 a4 n c there)
        (obeys b tb b1 b4 n c there) nothing_kept nothing_kept (a.last n) (b.last n) of_a.follow of_b.follow
        (record {
          floor = refl;
          starts = λ x. refl;
          seen = λ r x has. refl;
          known = λ x. refl;
          made = λ r x has. refl;
          ids = refl;
          rows = refl;
          reads = λ object. refl;
        })
        (λ r x has. sym (grown_a r x)
        ∙ (sym (a4.made n c there r x has.0 has.1)
        ∙ (ap (places_of n) (alike r x has) ∙ (b4.made n c there r x has.0 has.1 ∙ grown_b r x))))
        (λ r x has. subst Once (a4.made n c there r x has.0 has.1 ∙ grown_a r x)
        (places_once 0 n (a.log.histories r x)))

pub told_accounts_agree : ToldAccountsAgree
told_accounts_agree script report a b fits ta tb ra rb =
    let a1 = rule1 ra.0.0.0.1 in
    let b1 = rule1 rb.0.0.0.1 in
    let a4 = rule4 ra.1 in
    let b4 = rule4 rb.1 in record {
      histories = histories_alike script report a b ta tb a1;
      rows = rows_alike script report a b ta tb;
      steps = λ n c there. (clients_alike script fits report a b ta tb a1 b1 a4 b4 n c there).0;
      last = λ n c there. (clients_alike script fits report a b ta tb a1 b1 a4 b4 n c there).1;
    }
