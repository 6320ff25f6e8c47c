-- Where decisions say the same below a stamp, so do the nodes of which the floors are below it.
use Rattle.std.proofs.Common.{◌≡◌, ◌∙◌, refl, ap, sym, subst, Bool, true, false, ℕ, ◌+◌, ◌<◌, ◌≤◌, List, length, Option, Some, None, ◌⊎◌, inl, inr, arith}
use Rattle.std.specs.Prelude.{slice_get}
use Rattle.std.specs.List.{AllZip}
use Rattle.std.proofs.lemmas.Bool.{cases_lt, ltb-true}
use Rattle.log_node.specs.declared.forms.Version.{Version}
use Rattle.log_node.specs.declared.ids.Colours.{Colours}
use Rattle.log_node.specs.declared.node.Node.{Node}
use Rattle.log_node.specs.Seen.{PlacedNode}
use Rattle.tree_fold.specs.declared.change.Change.{Change}
use Rattle.tree_fold.specs.Readings.{below_root_of, make_of, remove_of, move_of}
use Rattle.part_fold.specs.declared.decision.Decision.{Decision}
use Rattle.part_fold.specs.Decisions.{decision_text}
use Rattle.col_core.specs.Log.{Log}
use Rattle.col_core.specs.Keeping.{Kept, nothing_kept}
use Rattle.script_text.specs.Commands.{use_of}
use Rattle.script_text.specs.declared.commands.What.{What}
use Rattle.script_text.specs.declared.commands.What.TheVariants as whats
use Rattle.script_text.specs.declared.script.Kind.{Kind}
use Rattle.script_text.specs.declared.script.Script.{Script}
use Rattle.script_text.specs.Fitting.{IsFitting}
use Rattle.report_text.specs.declared.report.Answer.{Answer}
use Rattle.report_text.specs.declared.report.Answer.TheVariants as answers
use Rattle.report_text.specs.declared.report.ClientReport.{ClientReport}
use Rattle.report_text.specs.declared.report.Ended.TheVariants as ends
use Rattle.report_text.specs.declared.report.Report.{Report}
use Rattle.lawful_run.specs.Asks.{Appending, Deciding, Guarding, colours_of_object, kind_asked, object_colours}
use Rattle.lawful_run.specs.Callers.{Caller, caller_of, node_of}
use Rattle.lawful_run.specs.Deeds.{TextSaid, Exactly, ADecision, Saying, SaysNode, IsText, found_by, manner_of, saying_of, says_change}
use Rattle.lawful_run.specs.Reads.{kept_after_piece}
use Rattle.lawful_run.proofs.CallerLemmas.{not_several}
use Rattle.run_rules.specs.Told.{Account, IsTold, Step, Untold, colours_asked, is_several, kept_after_read, kept_after_row, kept_appending, kept_at, kept_deciding, kept_past, kept_told, kept_where}
use Rattle.run_rules.specs.Answering.{CanHave}
use Rattle.run_rules.specs.Rules.{HasNode}
use Rattle.run_rules.specs.Shown.{SaysSo}
use Rattle.run_rules.specs.Agreeing.{Agree, AreStepsAlike}
use Rattle.run_rules.specs.Finding.{KeepReads}
use Rattle.run_rules.specs.Keeping.{RulesTo}
use Rattle.run_rules.proofs.ByNumber.{Numbered, zip_numbered}
use Rattle.run_rules.proofs.DecisionsSaid.{SaysDecision}
use Rattle.run_rules.proofs.FindsAlike.{found_by_same, over_reads, read_floor, zip_both}
use Rattle.run_rules.proofs.FurtherRules.{before_keep}
use Rattle.run_rules.proofs.LeftOut.{Obeys}
use Rattle.run_rules.proofs.NodesAlike.{NodesAt, all_at_places, found_ids, nodes_from, over, over_same, pulled_ids, read_ids, trimmed_ids}
use Rattle.run_rules.proofs.NodesTold.{behind_ids}
use Rattle.run_rules.proofs.Numbers.{rule1, rule4, rule5}
use Rattle.run_rules.proofs.OneAccount.{obeys, step_with, told_accounts_agree}
use Rattle.run_rules.proofs.Reached.{home_within}

-- a decision's node says this, where the stamp of the decision's read is below one
abbrev pub SaysBelow : ℕ → Decision → Log → Caller → Kept → Answer → Type 0
SaysBelow w decision log caller kept (answers.Decided commits stamp sync read_stamp raises syncs ended) =
    read_stamp < w → SaysSo log caller (kept_deciding log caller kept sync read_stamp raises syncs) (decision_text decision) ended
SaysBelow w decision log caller kept _ = Unit {0}

-- the floor of a node is at the stamp or above, or the other has its text
abbrev pub TextBelow : ℕ → Node → Node → Type 0
TextBelow w p q = (w ≤ p.floor) ⊎ (p.text ≡ q.text)

-- below the stamp both logs have one text of a decision
abbrev BothSay : ℕ → Log → Log → Caller → Kept → Kept → Answer → Type 0
BothSay w one two caller a b (answers.Decided commits stamp sync read_stamp raises syncs ended) =
    read_stamp < w → (text : List ℕ) × SaysSo one caller (kept_deciding one caller a sync read_stamp raises syncs) text ended
    × SaysSo two caller (kept_deciding two caller b sync read_stamp raises syncs) text ended
BothSay w one two caller a b _ = Unit {0}

both_say : (w : ℕ) (decision : Decision) (one two : Log) (caller : Caller) (a b : Kept) (answer : Answer)
    → SaysBelow w decision one caller a answer → SaysDecision decision two caller b answer
    → BothSay w one two caller a b answer
both_say w decision one two caller a b (answers.Decided commits stamp sync read_stamp raises syncs ended) s t = λ lt.
    (decision_text decision, s lt, t)
both_say w decision one two caller a b _ s t = tt

-- WHAT COMMANDS SAY

-- just one text is said, or the command decides
abbrev IsExact : What → TextSaid → Type 0
IsExact what (Exactly text) = Unit {0}
IsExact what ADecision = manner_of what ≡ Deciding

abbrev SaysExact : What → Option Saying → Type 0
SaysExact what None = Unit {0}
SaysExact what (Some saying) = IsExact what saying.text

change_exact : (what : What) (change : Option Change) → SaysExact what (says_change change)
change_exact what None = tt
change_exact what (Some change) = tt

says_exact : (kind : Option Kind) (found : Option (List Version)) (what : What) → SaysExact what (saying_of kind found what)
says_exact kind None (whats.Commit object pairs) = tt
says_exact kind (Some versions) (whats.Commit object pairs) = tt
says_exact kind found (whats.Mk object path value) = change_exact (whats.Mk object path value) (make_of (below_root_of path) value)
says_exact kind found (whats.Rm object path) = change_exact (whats.Rm object path) (remove_of (below_root_of path))
says_exact kind found (whats.Mv object source target) =
    change_exact (whats.Mv object source target) (move_of (below_root_of source) (below_root_of target))
says_exact kind found (whats.Decide object key) = refl
says_exact kind found _ = tt

text_or : (what : What) (own : List ℕ) (saying : Option Saying) → SaysExact what saying → (x y : Colours) (t u : List ℕ)
    → SaysNode own saying x t → SaysNode own saying y u → (t ≡ u) ⊎ (manner_of what ≡ Deciding)
text_or what own None exact x y t u p q = absurd p
text_or what own (Some saying) exact x y t u p q = by saying.text exact p.1 q.1 where
  by : (said : TextSaid) → IsExact what said → IsText said t → IsText said u → (t ≡ u) ⊎ (manner_of what ≡ Deciding)
  by (Exactly text) d e f = inl (e ∙ sym f)
  by ADecision d e f = inr d

-- a command that decides appends on one colour
decides_alone : (caller : Caller) (kept : Kept) (what : What) → manner_of what ≡ Deciding → is_several caller kept what ≡ true → ⊥
decides_alone caller kept (whats.Decide object key) e t =
    let lt = ltb-true 1 (length (colours_asked caller kept (whats.Decide object key))) t in
    not_several (colours_of_object caller object) key (colours_asked caller kept (whats.Decide object key)) refl
    (omega (arith, lt))
decides_alone caller kept _ e t = let f : ⊥ = cc (e) in f

-- STEPS

module _ (w : ℕ) (one two : Log) (untold : Untold) (caller : Caller) (a b : Kept) (what : What) (nodes : List PlacedNode)
    (decides : manner_of what ≡ Deciding) (x y : Colours) (t u : List ℕ) where
  -- the nodes that both append have these texts
  abbrev AreThere : Answer → Type 0
  AreThere answer =
      (slice_get (one.nodes caller.client) (kept_appending one caller a answer).ids
      ≡ Some (node_of caller (kept_appending one caller a answer) x t))
      × (slice_get (two.nodes caller.client) (kept_appending two caller b answer).ids
      ≡ Some (node_of caller (kept_appending two caller b answer) y u))

  abbrev IsBelow : Answer → Type 0
  IsBelow answer = (w ≤ (kept_appending one caller a answer).floor) ⊎ (t ≡ u)

  abbrev Adds : Kept → Type 0
  Adds after = after.ids ≡ a.ids + 1

  none : (after : Kept) → after.ids ≡ a.ids → Adds after → ⊥
  none after e f = let g : ⊥ = omega (arith, e, f) in g

  not_appending : (manner_of what ≡ Appending) ⊎ (manner_of what ≡ Guarding) → ⊥
  not_appending (inl e) = let f : ⊥ = cc (e, decides) in f
  not_appending (inr e) = let f : ⊥ = cc (e, decides) in f

  where_none : (several : Bool) → is_several caller a what ≡ several
      → Adds (kept_where several (kept_after_row untold caller a) a) → ⊥
  where_none true s f = decides_alone caller a what decides s
  where_none false s f = none a refl f

  -- an answer with which an id is used up is that of a decision whose node stands
  its_text : (answer : Answer) → CanHave caller a what nodes answer → Adds (kept_told one untold caller a what answer)
      → BothSay w one two caller a b answer → AreThere answer → IsBelow answer
  its_text (answers.Stood stamp row points) can adds say there = absurd (not_appending can.1)
  its_text (answers.StampEnd colour) can adds say there = absurd (where_none (is_several caller a what) refl adds)
  its_text (answers.Stopped steps) can adds say there = absurd (let e = can.1 in let f : ⊥ = cc (e, decides) in f)
  its_text (answers.Scanned stamp count raises syncs) can adds say there =
      absurd (none (kept_after_read one caller a stamp raises syncs) (read_ids one caller a stamp raises syncs) adds)
  its_text (answers.Pulled count give carry) can adds say there =
      absurd (none (kept_told one untold caller a what (answers.Pulled count give carry))
      (pulled_ids one untold caller a what what give carry) adds)
  its_text (answers.Based given base) can adds say there =
      absurd (none (kept_told one untold caller a what (answers.Based given base))
      (trimmed_ids one untold caller a what what given) adds)
  its_text (answers.GotKeys stamp shown raises syncs) can adds say there =
      absurd (none (kept_told one untold caller a what (answers.GotKeys stamp shown raises syncs))
      (found_ids one untold caller a what (use_of what) untold.found (kept_after_read one caller a stamp raises syncs)
      ∙ read_ids one caller a stamp raises syncs) adds)
  its_text (answers.Ruled conflict stamp row points read_stamp raises syncs) can adds say there =
      absurd (let e = can.1 in let f : ⊥ = cc (e, decides) in f)
  its_text (answers.Changed failed stamp row points read_stamp raises syncs) can adds say there =
      absurd (let e = can.1 in let f : ⊥ = cc (e, decides) in f)
  its_text (answers.Listed names stamp raises syncs) can adds say there =
      absurd (none (kept_after_read one caller a stamp raises syncs) (read_ids one caller a stamp raises syncs) adds)
  its_text (answers.Decided commits stamp sync read_stamp raises syncs (ends.Stood own point)) can adds say there =
      by (cases_lt read_stamp w) where
        by : (read_stamp < w) ⊎ (w ≤ read_stamp)
            → IsBelow (answers.Decided commits stamp sync read_stamp raises syncs (ends.Stood own point))
        by (inl lt) =
            let both = say lt in
            let mine = both.1.1 in
            let yours = both.2.1 in
            let here = there.0 in
            let other = there.1 in
            let p : both.1.0 ≡ node_of caller (kept_deciding one caller a sync read_stamp raises syncs) x t = cc (mine, here) in
            let q : both.2.0 ≡ node_of caller (kept_deciding two caller b sync read_stamp raises syncs) y u = cc (yours, other) in
            inr (sym (ap (λ (m : Node). m.text) p) ∙ (both.1.3 ∙ (sym both.2.3 ∙ ap (λ (m : Node). m.text) q)))
        by (inr le) =
            let f = (read_floor one caller (kept_after_piece one caller a sync) read_stamp raises syncs).1 in
            inl (omega (arith, le, f))
  its_text (answers.Decided commits stamp sync read_stamp raises syncs _) can adds say there =
      absurd (none (kept_deciding one caller a sync read_stamp raises syncs)
      (read_ids one caller (kept_after_piece one caller a sync) read_stamp raises syncs) adds)
  its_text (answers.Took value point sync) can adds say there =
      absurd (let e = can.1 in let f : ⊥ = cc (e, decides) in f)
  its_text _ can adds say there = absurd (none a refl adds)

-- ACCOUNTS

module _ (script : Script) (report : Report) (a b : Account) (fits : IsFitting script) (ta : IsTold script report a)
    (tb : IsTold script report b) (ra : RulesTo script report a 5) (rb : RulesTo script report b 5) (w n : ℕ)
    (c : ClientReport) (there : slice_get report.clients n ≡ Some c) where
  abbrev who : Caller
  who = caller_of script n

  agree : Agree script report a b
  agree = told_accounts_agree script report a b fits ta tb ra.0 rb.0

  -- the step of the other account, with the command and the reply of this one
  abbrev with_of : Step → Step → Step
  with_of x y = record { command = x.command; reply = x.reply; kept = y.kept; untold = y.untold }

  abbrev IsAlike : Step → Step → Type 0
  IsAlike x y = AreStepsAlike script who x y
      × (KeepReads x.kept y.kept × BothSay w a.log b.log who (kept_at x) (kept_at (with_of x y)) x.reply.answer)

  at_node : (x y : Step) → IsAlike x y → Obeys script a.log who x → (kept_past a.log who x).ids ≡ (kept_at x).ids + 1
      → HasNode a.log who (over a.log who x) x.command.what → HasNode b.log who (over b.log who y) x.command.what
      → NodesAt (TextBelow w) (a.log.nodes n) (b.log.nodes n) (over a.log who x).ids
  at_node x y r o adds p q =
      let z = with_of x y in
      let is : y ≡ z = step_with y x.command x.reply r.0.command r.0.reply in
      let what = x.command.what in
      let home = home_within script report fits (rule1 ra.0.0.0.0.1).names n c there in
      let ids = (over_same script fits n a.log b.log agree.histories home (agree.rows who.own home) x y r.0 o).ids in
      let yours : HasNode b.log who (over b.log who z) what = subst (λ (s : Step). HasNode b.log who (over b.log who s) what) is q in
      let reads : KeepReads (over a.log who x) (over b.log who z) = λ object.
      ap (λ (f : ℕ → Option (List Version)). f object) (over_reads a.log who (kept_at x) x.reply.answer)
      ∙ (before_keep what x.kept y.kept r.1.0 object
      ∙ ap (λ (f : ℕ → Option (List Version)). f object) (sym (over_reads b.log who (kept_at z) x.reply.answer))) in
      let own = object_colours (kind_asked who what) in
      let found = found_by (use_of what) (over b.log who z) in
      let said : SaysNode own (saying_of (kind_asked who what) found what) p.0 p.1 =
      subst (λ (f : Option (List Version)). SaysNode own (saying_of (kind_asked who what) f what) p.0 p.1)
      (found_by_same (use_of what) (over a.log who x) (over b.log who z) reads) p.2 in (
        node_of who (over a.log who x) p.0 p.1,
        node_of who (over b.log who z) yours.0 yours.1,
        p.3,
        ap (slice_get (b.log.nodes n)) (ids ∙ ap (λ (s : Step). (over b.log who s).ids) is) ∙ yours.3,
        by yours (text_or what own (saying_of (kind_asked who what) found what) (says_exact (kind_asked who what) found what)
            p.0 yours.0 p.1 yours.1 said yours.2),
      ) where
        by : (yours : HasNode b.log who (over b.log who (with_of x y)) x.command.what)
            → (p.1 ≡ yours.1) ⊎ (manner_of x.command.what ≡ Deciding)
            → (w ≤ (over a.log who x).floor) ⊎ (p.1 ≡ yours.1)
        by yours (inl same) = inr same
        by yours (inr decides) =
            its_text w a.log b.log x.untold who (kept_at x) (kept_at (with_of x y)) x.command.what x.reply.nodes decides p.0 yours.0
            p.1 yours.1 x.reply.answer o.can
            (sym (behind_ids x.command.what (kept_told a.log x.untold who (kept_at x) x.command.what x.reply.answer)) ∙ adds)
            r.1.1 (p.3, yours.3)

  pub texts_below : AllZip (λ (x y : Step). KeepReads x.kept y.kept) (a.steps n) (b.steps n) → (decided : ℕ → Decision)
      → Numbered (λ k s. SaysBelow w (decided k) a.log who (kept_at s) s.reply.answer) (a.steps n)
      → Numbered (λ k s. SaysDecision (decided k) b.log who (kept_at s) s.reply.answer) (b.steps n)
      → AllZip (TextBelow w) (a.log.nodes n) (b.log.nodes n)
  texts_below reads decided mine yours =
      let a5 = rule5 ra.1 in
      let b5 = rule5 rb.1 in
      let of_a = (a5.own n c there).nodes in
      let of_b = (b5.own n c there).nodes in
      let last = agree.last n c there in
      let same = last.ids in
      let steps = zip_numbered (λ (x y : Step). AreStepsAlike script who x y × KeepReads x.kept y.kept) IsAlike
      (λ (k : ℕ) (s : Step). SaysBelow w (decided k) a.log who (kept_at s) s.reply.answer)
      (λ (k : ℕ) (s : Step). SaysDecision (decided k) b.log who (kept_at s) s.reply.answer) (a.steps n) (b.steps n)
      (zip_both (AreStepsAlike script who) (λ (x y : Step). KeepReads x.kept y.kept) (a.steps n) (b.steps n) (agree.steps n c there)
      reads) mine yours (λ k x y r p q.
      let is : y ≡ with_of x y = step_with y x.command x.reply r.0.command r.0.reply in (
        r.0,
        (
          r.1,
          both_say w (decided k) a.log b.log who (kept_at x) (kept_at (with_of x y)) x.reply.answer p
              (subst (λ (s : Step). SaysDecision (decided k) b.log who (kept_at s) s.reply.answer) is q),
        ),
      )) in
      all_at_places (TextBelow w) (a.log.nodes n) (b.log.nodes n) (of_a ∙ (same ∙ sym of_b))
      (λ i lt. nodes_from script who a.log b.log (TextBelow w) IsAlike (λ x y r. r.0) at_node
      (a.steps n) (b.steps n) nothing_kept nothing_kept (a.last n) (b.last n) steps
      (obeys script fits report a ta (rule1 ra.0.0.0.0.1) (rule4 ra.0.1) n c there) (a5.used n c there) (b5.used n c there)
      (ta.clients n c there).follow (tb.clients n c there).follow last i (omega arith) (omega (arith, lt, of_a)))
