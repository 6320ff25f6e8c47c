-- Which rules a report keeps of one command of one client alone, with one column in which nothing happened; and replies of such
-- reports that break one.
use Rattle.std.proofs.Common.{◌≡◌, ◌∙◌, inl, inr, ℕ, ◌<◌, ◌≤◌, List, [], ◌∷◌, length, Option, Some, None, true, false, refl, ap, sym, subst, arith, codes, take}
use Rattle.std.specs.Prelude.{IsTrue}
use Rattle.std.specs.List.{All}
use Rattle.std.proofs.lemmas.List.Elements.{All-nil}
use Rattle.log_node.specs.declared.ids.Counts.{Counts}
use Rattle.log_node.specs.declared.node.At.TheVariants.{Look}
use Rattle.log_node.specs.Vectors.{at}
use Rattle.object_fold.specs.Maps.{shard_value}
use Rattle.col_core.specs.declared.Entry.{Entry}
use Rattle.col_core.specs.Rows.{FitsRows}
use Rattle.col_core.specs.Computed.{dated}
use Rattle.col_core.specs.Keeping.{Kept, nothing_kept}
use Rattle.col_core.proofs.CallerLemmas.{cut-is_greatest, cut_unique}
use Rattle.script_text.specs.declared.script.Kind.{Kind}
use Rattle.script_text.specs.declared.script.Object.{Object}
use Rattle.script_text.specs.declared.script.Script.{Script}
use Rattle.script_text.specs.declared.commands.What.{What}
use Rattle.script_text.specs.declared.commands.What.TheVariants as whats
use Rattle.script_text.specs.declared.commands.Word.TheVariants as words
use Rattle.report_text.specs.declared.report.Answer.TheVariants as answers
use Rattle.report_text.specs.declared.report.ColumnReport.{ColumnReport}
use Rattle.report_text.specs.declared.report.ReplyLine.{ReplyLine}
use Rattle.report_text.specs.declared.report.Report.{Report}
use Rattle.lawful_run.specs.Callers.{Caller, caller_of}
use Rattle.lawful_run.specs.Asks.{home_asked}
use Rattle.lawful_run.specs.Lawful.{IsHelp}
use Rattle.lawful_run.specs.Parts.{HasValue}
use Rattle.lawful_run.specs.Refusals.{IsAway, IsHomeRefusal}
use Rattle.lawful_run.proofs.CallerLemmas.{asked_kind}
use Rattle.run_rules.specs.Told.{Account, Step, IsTold, kept_at, is_several, kept_after_raises, kept_after_syncs, OfEachStep}
use Rattle.run_rules.specs.Telling.{places_shown, step_of}
use Rattle.run_rules.specs.Naming.{Names}
use Rattle.run_rules.specs.Rules.{IsReplyTo, UsesNode, Stands, StopsAsTold}
use Rattle.run_rules.specs.Shown.{Shows, AnswersRight, HasCause, begins_row, StandsNext, TreeAnswers, PartAnswers}
use Rattle.run_rules.specs.Keeping.{Keeps, RulesTo, one, two, three, four, five, six, seven, eight, nine, ten, eleven, twelve, thirteen}
use Rattle.run_rules.proofs.CallerLemmas.{rule4, rule9, rule10, rule11, rule12, rule13, rule14}
use Rattle.wrong_reports.specs.Cases.{a, e, x, asks, counts, look, replies}
use Rattle.least_rules.specs.Breaking.{Breaks}
use Rattle.wrong_reports.specs.Replies.{more_plays_than_nodes, a_look_at_what_is_not_there, a_snapshot_of_what_is_not_there}
use Rattle.wrong_reports.specs.Objects.{a_value_of_nothing, map, refused_at_home}
use Rattle.wrong_reports.specs.Parts.{undecided_where_nothing_waits}
use Rattle.wrong_reports.specs.Guarded.{a_moved_that_was_not}
use Rattle.wrong_reports.specs.Reads.{raise}
use Rattle.wrong_reports.specs.Trees.{a_path_that_is_not_missing}
use Rattle.part_fold.specs.Agreement.{part_at}
use Rattle.part_fold.specs.Parts.{undecided_after}
use Rattle.tree_fold.specs.Paths.{Path}
use Rattle.tree_fold.specs.Readings.{path_of}
use Rattle.tree_fold.specs.Trees.{tree_after, is_there}
use Rattle.least_rules.proofs.Tools.{client_tells, breaks_next}
use Rattle.least_rules.proofs.Alone.{scr, rep, acc, told, of_steps, rule1_of, rule2_of, rule3_of, rule4_of, rule5_of, rule6_of, rule7_of, rule8_of, one_of}
use Rattle.least_rules.proofs.Lists.{all_at, some_same}
use Rattle.least_rules.proofs.Lists.{no_nodes, no_value}
use Rattle.std.specs.Prelude.{max, slice_get}
use Rattle.col_core.specs.Log.{Log}
use Rattle.log_node.specs.declared.ids.Colours.{Colours}
use Rattle.log_node.specs.declared.node.Node.{Node}
use Rattle.log_node.specs.Sets.{members}
use Rattle.log_node.specs.Standings.{Standing}
use Rattle.col_core.specs.History.{clock, last_stamp}
use Rattle.lawful_run.specs.Appends.{HadNoStamp, HasNoStamp, none_for_one, none_for_several}
use Rattle.wrong_reports.specs.Cases.{on_x}
use Rattle.wrong_reports.specs.Naming.{an_event_that_is_not_there, no_stamp_with_stamps_left, trimmed_at}
use Rattle.wrong_reports.specs.Reads.{a_scan_of_more_nodes, scanned}

module _ (version : ℕ) (objects : List Object) (n : ℕ) (what : What) (line : ReplyLine) where
  abbrev s : Script
  s = scr version objects (asks n a what ∷ []) (line ∷ []) [] 0 [] [] (counts 0 0) (counts 0 0) []

  abbrev r : Report
  r = rep version objects (asks n a what ∷ []) (line ∷ []) [] 0 [] [] (counts 0 0) (counts 0 0) []

  abbrev its : Account
  its = acc version objects (asks n a what ∷ []) (line ∷ []) [] 0 [] [] (counts 0 0) (counts 0 0) []

  abbrev its_caller : Caller
  its_caller = caller_of s 0

  abbrev step : Step
  step = step_of its.log its_caller (places_shown s r 0) nothing_kept (asks n a what) line

  -- what the rules to the eighth say of the reply, which uses no id
  record Quiet : Type 0 where
    replied : IsReplyTo its_caller step
    names : Names its.log step.untold its_caller (kept_at step) what line.answer
    used : UsesNode its.log its_caller (kept_at step) what line.answer
    stands : Stands its.log step.untold its_caller (kept_at step) what line.answer
    stops : StopsAsTold its.log step.untold its_caller (kept_at step) what line.answer
    ids : 0 ≡ (its.last 0).ids
    rows : 0 ≡ (its.last 0).rows
    made : [] ≡ (its.last 0).made 0 0

  its_told : IsTold s r its
  its_told = told version objects (asks n a what ∷ []) (line ∷ []) [] 0 [] [] (counts 0 0) (counts 0 0) [] refl

  rules_3 : IsReplyTo its_caller step → RulesTo s r its 3
  rules_3 replied = (
    (
      (
        tt,
        one (rule1_of version objects (asks n a what ∷ []) (line ∷ []) [] 0 [] [] (counts 0 0) (counts 0 0) []
            (one_of (IsReplyTo its_caller) step replied)),
      ),
      two (rule2_of version objects (asks n a what ∷ []) (line ∷ []) [] 0 [] [] (counts 0 0) (counts 0 0) []
          (λ k d there. absurd (let f : ⊥ = cc (there) in f)) (All-nil (λ (y : Entry). y.by < 1))
          (record {
            clock_shown = refl;
            line_shown = refl;
            queue_shown = refl;
            cut_shown = cut-is_greatest 0 (dated 0 []);
            base_shown = refl;
          })),
    ),
    three (rule3_of version objects (asks n a what ∷ []) (line ∷ []) [] 0 [] [] (counts 0 0) (counts 0 0) []
        (All-nil (λ (y : Entry). FitsRows [] 0 y.event))),
  )

  helps_none : All (λ (y : Entry). IsHelp y.by y.event → ⊥) []
  helps_none = All-nil (λ (y : Entry). IsHelp y.by y.event → ⊥)

  -- a rule on steps alone
  of_step : (P : Caller → Step → Type 0) → P its_caller step → OfEachStep s r its P
  of_step P p =
      of_steps version objects (asks n a what ∷ []) (line ∷ []) [] 0 [] [] (counts 0 0) (counts 0 0) [] P
      (one_of (P its_caller) step p)

  rules_8 : Quiet → RulesTo s r its 8
  rules_8 q = (
    (
      (
        (
          (
            rules_3 q.replied,
            four (rule4_of version objects (asks n a what ∷ []) (line ∷ []) [] 0 [] [] (counts 0 0) (counts 0 0) []
                (one_of (λ (t : Step). Names its.log t.untold its_caller (kept_at t) t.command.what t.reply.answer) step
                q.names) q.made helps_none),
          ),
          five (rule5_of version objects (asks n a what ∷ []) (line ∷ []) [] 0 [] [] (counts 0 0) (counts 0 0) []
              (one_of (λ (t : Step). UsesNode its.log its_caller (kept_at t) t.command.what t.reply.answer) step q.used)
              q.ids q.rows),
        ),
        six (rule6_of version objects (asks n a what ∷ []) (line ∷ []) [] 0 [] [] (counts 0 0) (counts 0 0) []
            (one_of (λ (t : Step). Stands its.log t.untold its_caller (kept_at t) t.command.what t.reply.answer) step
            q.stands)),
      ),
      seven (rule7_of version objects (asks n a what ∷ []) (line ∷ []) [] 0 [] [] (counts 0 0) (counts 0 0) []
          (one_of (λ (t : Step). StopsAsTold its.log t.untold its_caller (kept_at t) t.command.what t.reply.answer) step
          q.stops)),
    ),
    eight (rule8_of version objects (asks n a what ∷ []) (line ∷ []) [] 0 [] [] (counts 0 0) (counts 0 0) [] helps_none
        (All-nil (λ (z : Standing). z.settled ≡ true))),
  )

  rules_9 : Quiet → Shows its.log step.untold its_caller (kept_at step) what line.nodes line.answer → RulesTo s r its 9
  rules_9 q shows = (
    rules_8 q,
    nine (record {
      shows = of_step (λ c t. Shows its.log t.untold c (kept_at t) t.command.what t.reply.nodes t.reply.answer) shows;
    }),
  )

  rules_10 : Quiet → Shows its.log step.untold its_caller (kept_at step) what line.nodes line.answer
      → AnswersRight its.log step.untold its_caller (kept_at step) what line.answer → RulesTo s r its 10
  rules_10 q shows right = (
    rules_9 q shows,
    ten (record {
      right = of_step (λ c t. AnswersRight its.log t.untold c (kept_at t) t.command.what t.reply.answer) right;
    }),
  )

  rules_11 : Quiet → Shows its.log step.untold its_caller (kept_at step) what line.nodes line.answer
      → AnswersRight its.log step.untold its_caller (kept_at step) what line.answer
      → HasCause its.log step.untold its_caller (kept_at step) what line.answer
      → (IsTrue (begins_row (is_several its_caller (kept_at step) what) line.answer) → (kept_at step).rows < its_caller.rows)
      → (IsAway its_caller (home_asked its_caller what) → IsHomeRefusal line.answer) → RulesTo s r its 11
  rules_11 q shows right caused room away = (
    rules_10 q shows right,
    eleven (record {
      caused = of_step (λ c t. HasCause its.log t.untold c (kept_at t) t.command.what t.reply.answer) caused;
      room = of_step (λ c t. IsTrue (begins_row (is_several c (kept_at t) t.command.what) t.reply.answer)
          → (kept_at t).rows < c.rows) room;
      away = of_step (λ c t. IsAway c (home_asked c t.command.what) → IsHomeRefusal t.reply.answer) away;
    }),
  )

  -- and with the twelfth, where the answer is to no append that may only stand next
  rules_12 : RulesTo s r its 11 → StandsNext its.log its_caller (kept_at step) what line.answer → RulesTo s r its 12
  rules_12 before next = (
    before,
    twelve (record {
      next = of_step (λ c t. StandsNext its.log c (kept_at t) t.command.what t.reply.answer) next;
    }),
  )

  -- and with the thirteenth, where it is to no command of a tree
  rules_13 : RulesTo s r its 12 → TreeAnswers its.log its_caller (kept_at step) what line.answer → RulesTo s r its 13
  rules_13 before tree = (
    before,
    thirteen (record {
      tree = of_step (λ c t. TreeAnswers its.log c (kept_at t) t.command.what t.reply.answer) tree;
    }),
  )

  keeps : (m : ℕ) → RulesTo s r its m → Keeps s r m
  keeps m rules = (its, its_told, rules)

-- SYNCS
-- a sync of the empty column
abbrev synced : ℕ → Counts → ℕ → ReplyLine
synced events snapshot plays = replies 6 words.Sync (answers.Synced (look x events snapshot) plays)

sync_quiet : (snapshot : Counts) (plays : ℕ) → Quiet 1 [] 6 (whats.Sync x) (synced 0 snapshot plays)
sync_quiet snapshot plays = record {
  replied = record { line = refl; word = refl; answer = refl };
  names = ((omega arith, omega arith), omega arith);
  used = tt;
  stands = tt;
  stops = tt;
  ids = refl;
  rows = refl;
  made = refl;
}

pub look_beyond : Breaks a_look_at_what_is_not_there 4
look_beyond = breaks_next a_look_at_what_is_not_there 3 (omega arith) (omega arith)
    (keeps 1 [] 6 (whats.Sync x) (synced 1 (counts 0 0) 0) 3
    (rules_3 1 [] 6 (whats.Sync x) (synced 1 (counts 0 0) 0) (record { line = refl; word = refl; answer = refl })))
    (λ keeps.
    let t = client_tells a_look_at_what_is_not_there.script a_look_at_what_is_not_there.report keeps.0 keeps.1
    (λ c t. Names keeps.0.log t.untold c (kept_at t) t.command.what t.reply.answer) (rule4 keeps.2.1).named 0 _ refl in
    let h = all_at (λ (c : ColumnReport). c.journal ≡ keeps.0.log.histories c.region c.colour)
    a_look_at_what_is_not_there.report.columns 0 _ refl keeps.1.histories in
    let l : 1 ≤ 0 = subst (λ (es : List Entry). 1 ≤ length es) (sym h) t.1.0.1 in omega (arith, l))

pub more_plays : Breaks more_plays_than_nodes 9
more_plays = breaks_next more_plays_than_nodes 8 (omega arith) (omega arith)
    (keeps 1 [] 6 (whats.Sync x) (synced 0 (counts 0 0) 1) 8
    (rules_8 1 [] 6 (whats.Sync x) (synced 0 (counts 0 0) 1) (sync_quiet (counts 0 0) 1)))
    (λ keeps.
    let t = client_tells more_plays_than_nodes.script more_plays_than_nodes.report keeps.0 keeps.1
    (λ c t. Shows keeps.0.log t.untold c (kept_at t) t.command.what t.reply.nodes t.reply.answer) (rule9 keeps.2.1).shows 0 _
    refl in
    let f : 1 ≡ 0 = t.1.0 in omega (arith, f))

pub snapshot_beyond : Breaks a_snapshot_of_what_is_not_there 9
snapshot_beyond = breaks_next a_snapshot_of_what_is_not_there 8 (omega arith) (omega arith)
    (keeps 1 [] 6 (whats.Sync x) (synced 0 (counts 1 0) 0) 8
    (rules_8 1 [] 6 (whats.Sync x) (synced 0 (counts 1 0) 0) (sync_quiet (counts 1 0) 0)))
    (λ keeps.
    let t = client_tells a_snapshot_of_what_is_not_there.script a_snapshot_of_what_is_not_there.report keeps.0 keeps.1
    (λ c t. Shows keeps.0.log t.untold c (kept_at t) t.command.what t.reply.nodes t.reply.answer) (rule9 keeps.2.1).shows 0 _
    refl in
    let h = cut_unique _ _ _ t.1.1.cut (cut-is_greatest 0 (dated 0 [])) in
    let f : 1 ≡ 0 = ap (λ (v : Counts). at v 0) h in omega (arith, f))

-- OBJECTS
pub value_of_nothing : Breaks a_value_of_nothing 10
value_of_nothing = breaks_next a_value_of_nothing 9 (omega arith) (omega arith)
    (keeps 1 a_value_of_nothing.script.objects 7 (whats.Get 0 (codes "k"))
    (replies 7 words.Get (answers.Got (Some (codes "v")) (look x 0 (counts 0 0)))) 9
    (rules_9 1 a_value_of_nothing.script.objects 7 (whats.Get 0 (codes "k"))
    (replies 7 words.Get (answers.Got (Some (codes "v")) (look x 0 (counts 0 0)))) (record {
      replied = record { line = refl; word = refl; answer = (refl, (codes "k", (0, record { uses = refl; gets = refl }, refl, refl))) };
      names = ((omega arith, omega arith), omega arith);
      used = tt;
      stands = tt;
      stops = tt;
      ids = refl;
      rows = refl;
      made = refl;
    }) (record {
      unseen = omega arith;
      there = omega arith;
      cut = cut-is_greatest 0 (dated 0 []);
      not_trimmed = refl;
      within = omega arith;
    })))
    (λ keeps.
    let t = client_tells a_value_of_nothing.script a_value_of_nothing.report keeps.0 keeps.1
    (λ c t. AnswersRight keeps.0.log t.untold c (kept_at t) t.command.what t.reply.answer) (rule10 keeps.2.1).right 0 _ refl in
    let p = t.1 in
    let nodes = no_nodes keeps.0.log p.0 p.1 in
    elim p.2 [
      | inl g ↦
          let kind : Some map ≡ g.0 = asked_kind (caller_of a_value_of_nothing.script 0) (whats.Get 0 (codes "k"))
          (look x 0 (counts 0 0)) g.0 g.1 g.2 in
          let value = subst (λ (k : Option Kind). HasValue k x g.1 (Some (codes "v")) p.0) (sym kind) g.3 in
          let f : Some (codes "v") ≡ None =
          value ∙ ap (λ ns. shard_value (x ∷ []) x ns g.1) nodes ∙ no_value (x ∷ []) x g.1 in cc (f)
      | inr g ↦ let w = g.1.2 in cc (w)
    ])

pub at_home : Breaks refused_at_home 11
at_home = breaks_next refused_at_home 10 (omega arith) (omega arith)
    (keeps 1 refused_at_home.script.objects 7 (whats.Put 0 (codes "k") (codes "v"))
    (replies 7 words.Put (answers.NotHome e)) 10
    (rules_10 1 refused_at_home.script.objects 7 (whats.Put 0 (codes "k") (codes "v"))
    (replies 7 words.Put (answers.NotHome e)) (record {
      replied = record { line = refl; word = refl; answer = (refl, e, refl) };
      names = tt;
      used = tt;
      stands = tt;
      stops = tt;
      ids = refl;
      rows = refl;
      made = refl;
    }) tt tt))
    (λ keeps.
    let t = client_tells refused_at_home.script refused_at_home.report keeps.0 keeps.1
    (λ c t. HasCause keeps.0.log t.untold c (kept_at t) t.command.what t.reply.answer) (rule11 keeps.2.1).caused 0 _ refl in
    t.1.1 refl)

-- APPENDS THAT MAY ONLY STAND NEXT
pub was_next : Breaks a_moved_that_was_not 12
was_next = breaks_next a_moved_that_was_not 11 (omega arith) (omega arith)
    (keeps 2 [] 6 (whats.Only x (codes "s")) (replies 6 words.Only (answers.Moved 0 0 x 0)) 11
    (rules_11 2 [] 6 (whats.Only x (codes "s")) (replies 6 words.Only (answers.Moved 0 0 x 0)) (record {
      replied = record { line = refl; word = refl; answer = (refl, codes "s", refl) };
      names = (omega arith, omega arith);
      used = tt;
      stands = tt;
      stops = tt;
      ids = refl;
      rows = refl;
      made = refl;
    }) tt tt tt (λ t. absurd (let f : ⊥ = cc (t) in f)) (λ away. absurd away)))
    (λ keeps.
    let t = client_tells a_moved_that_was_not.script a_moved_that_was_not.report keeps.0 keeps.1
    (λ c t. StandsNext keeps.0.log c (kept_at t) t.command.what t.reply.answer) (rule12 keeps.2.1).next 0 _ refl in
    elim t.1.3 [ inl other ↦ other refl | inr other ↦ other refl ])

-- SCANS
pub more_nodes : Breaks a_scan_of_more_nodes 9
more_nodes = breaks_next a_scan_of_more_nodes 8 (omega arith) (omega arith)
    (keeps 1 [] 6 (whats.Scan on_x) (scanned 6 0 (raise x (Look 0) ∷ []) (look x 0 (counts 0 0) ∷ []) 1 []) 8
    (rules_8 1 [] 6 (whats.Scan on_x) (scanned 6 0 (raise x (Look 0) ∷ []) (look x 0 (counts 0 0) ∷ []) 1 []) (record {
      replied = record { line = refl; word = refl; answer = (on_x, refl, (refl, refl)) };
      names = (((omega arith, omega arith), omega arith, tt), (((omega arith, omega arith), omega arith), tt));
      used = tt;
      stands = tt;
      stops = tt;
      ids = refl;
      rows = refl;
      made = refl;
    })))
    (λ keeps.
    let t = client_tells a_scan_of_more_nodes.script a_scan_of_more_nodes.report keeps.0 keeps.1
    (λ c t. Shows keeps.0.log t.untold c (kept_at t) t.command.what t.reply.nodes t.reply.answer) (rule9 keeps.2.1).shows 0 _
    refl in
    let f : 1 ≡ 0 = t.1.0 in omega (arith, f))

-- EVENTS
pub not_there : Breaks an_event_that_is_not_there 4
not_there = breaks_next an_event_that_is_not_there 3 (omega arith) (omega arith)
    (keeps 1 [] 6 (whats.Trim x) (trimmed_at 6 0) 3
    (rules_3 1 [] 6 (whats.Trim x) (trimmed_at 6 0) (record { line = refl; word = refl; answer = (refl, x, refl) })))
    (λ keeps.
    let t = client_tells an_event_that_is_not_there.script an_event_that_is_not_there.report keeps.0 keeps.1
    (λ c t. Names keeps.0.log t.untold c (kept_at t) t.command.what t.reply.answer) (rule4 keeps.2.1).named 0 _ refl in
    let h = all_at (λ (c : ColumnReport). c.journal ≡ keeps.0.log.histories c.region c.colour)
    an_event_that_is_not_there.report.columns 0 _ refl keeps.1.histories in
    let colour : ◌≡◌ {A = ℕ} 0 t.1.0 = (let w = t.1.1 in cc (w)) in
    let g = ap (λ (es : List Entry). slice_get es 0) h
    ∙ (ap (λ (c : ℕ). slice_get (keeps.0.log.histories 0 c) 0) colour ∙ t.1.2.1.1) in cc (g))

-- THE STAMPS' END
no_stamp_for : (log : Log) (c : Caller) (kept after : Kept) (node : Node) (colour : ℕ) → length (members node.colours) ≡ 1
    → HasNoStamp log c kept node colour after → HadNoStamp log c kept colour
no_stamp_for log c kept _ node colour single (none_for_one is had) = had
no_stamp_for log c kept _ node colour single (none_for_several places gone) =
    absurd (let m = gone.begins.several in let f : ⊥ = omega (arith, m, single) in f)

pub stamps_left : Breaks no_stamp_with_stamps_left 11
stamps_left = breaks_next no_stamp_with_stamps_left 10 (omega arith) (omega arith)
    (keeps 1 [] 6 (whats.Append on_x (codes "s")) (replies 6 words.Append (answers.StampEnd x)) 10
    (rules_10 1 [] 6 (whats.Append on_x (codes "s")) (replies 6 words.Append (answers.StampEnd x)) (record {
      replied = record { line = refl; word = refl; answer = (refl, (0, omega arith, refl)) };
      names = λ t. absurd (let f : ⊥ = cc (t) in f);
      used = λ t. absurd (let f : ⊥ = cc (t) in f);
      stands = tt;
      stops = tt;
      ids = refl;
      rows = refl;
      made = refl;
    }) tt tt))
    (λ keeps.
    let t = client_tells no_stamp_with_stamps_left.script no_stamp_with_stamps_left.report keeps.0 keeps.1
    (λ c t. HasCause keeps.0.log t.untold c (kept_at t) t.command.what t.reply.answer) (rule11 keeps.2.1).caused 0 _ refl in
    let h = all_at (λ (c : ColumnReport). c.journal ≡ keeps.0.log.histories c.region c.colour)
    no_stamp_with_stamps_left.report.columns 0 _ refl keeps.1.histories in
    let c = t.1.1 in
    let single = ap (λ (k : Colours). length (members k)) c.2.0 in
    let had = no_stamp_for keeps.0.log _ _ _ _ _ single c.3 in
    let ended = had.ended in
    let there = had.there in
    let l : length (keeps.0.log.histories 0 0) ≡ 0 = ap length (sym h) in
    let m : had.events ≡ 0 = omega (arith, there, l) in
    let w = ap (λ (es : List Entry). clock es) (ap (λ k. take k (keeps.0.log.histories 0 0)) m) in
    let f : 0 ≡ last_stamp = sym (ap (λ k. max k 0) w) ∙ ended in
    omega (arith, f))

-- TREES
-- a list of the names in the root of an empty tree, which is told to be missing
module _ (names : Option (List (List ℕ))) where
  abbrev listed : ReplyLine
  listed = replies 7 words.Ls (answers.Listed names 0 (raise x (Look 0) ∷ []) (look x 0 (counts 0 0) ∷ []))

  list_quiet : Quiet 2 a_path_that_is_not_missing.script.objects 7 (whats.Ls 0 (codes "/")) listed
  list_quiet = record {
    replied = record { line = refl; word = refl; answer = (refl, 0, codes "/", refl, (refl, refl)) };
    names = (((omega arith, omega arith), omega arith, tt), (((omega arith, omega arith), omega arith), tt));
    used = tt;
    stands = tt;
    stops = tt;
    ids = refl;
    rows = refl;
    made = refl;
  }

  list_shows : Shows (its 2 a_path_that_is_not_missing.script.objects 7 (whats.Ls 0 (codes "/")) listed).log
      (step 2 a_path_that_is_not_missing.script.objects 7 (whats.Ls 0 (codes "/")) listed).untold
      (its_caller 2 a_path_that_is_not_missing.script.objects 7 (whats.Ls 0 (codes "/")) listed)
      (kept_at (step 2 a_path_that_is_not_missing.script.objects 7 (whats.Ls 0 (codes "/")) listed))
      (whats.Ls 0 (codes "/")) listed.nodes listed.answer
  list_shows = record {
    raised_colours = refl;
    synced_colours = refl;
    above_floor = omega arith;
    above_clocks = λ k d lt. (omega arith, omega arith);
    chosen = inl refl;
    raised = kept_after_raises (its_caller 2 a_path_that_is_not_missing.script.objects 7 (whats.Ls 0 (codes "/")) listed)
        nothing_kept (raise x (Look 0) ∷ []);
    raising = ((omega arith, omega arith, omega arith, omega arith), refl);
    synced = kept_after_syncs (its 2 a_path_that_is_not_missing.script.objects 7 (whats.Ls 0 (codes "/")) listed).log
        (its_caller 2 a_path_that_is_not_missing.script.objects 7 (whats.Ls 0 (codes "/")) listed)
        (kept_after_raises (its_caller 2 a_path_that_is_not_missing.script.objects 7 (whats.Ls 0 (codes "/")) listed)
        nothing_kept (raise x (Look 0) ∷ [])) (look x 0 (counts 0 0) ∷ []);
    syncing = (
      record {
        unseen = omega arith;
        there = omega arith;
        cut = cut-is_greatest 0 (dated 0 []);
        not_trimmed = refl;
        within = omega arith;
      },
      (λ k d lt. absurd (let f : ⊥ = omega (arith, lt) in f)),
      refl,
    );
    after_is = refl;
  }

same_path : (object other : ℕ) (path more : List ℕ) → whats.Ls object path ≡ whats.Ls other more → path ≡ more
same_path object other path more e = cc (e)

pub not_missing : Breaks a_path_that_is_not_missing 13
not_missing = breaks_next a_path_that_is_not_missing 12 (omega arith) (omega arith)
    (keeps 2 a_path_that_is_not_missing.script.objects 7 (whats.Ls 0 (codes "/")) (listed None) 12
    (rules_12 2 a_path_that_is_not_missing.script.objects 7 (whats.Ls 0 (codes "/")) (listed None)
    (rules_11 2 a_path_that_is_not_missing.script.objects 7 (whats.Ls 0 (codes "/")) (listed None) (list_quiet None)
    (list_shows None) tt tt (λ t. absurd (let f : ⊥ = cc (t) in f)) (λ away. absurd (away refl))) tt))
    (λ keeps.
    let t = client_tells a_path_that_is_not_missing.script a_path_that_is_not_missing.report keeps.0 keeps.1
    (λ c t. TreeAnswers keeps.0.log c (kept_at t) t.command.what t.reply.answer) (rule13 keeps.2.1).tree 0 _ refl in
    let shows = t.1.3.4 in
    let root : [] ≡ shows.0 = some_same [] shows.0 (ap path_of (same_path _ _ _ _ t.1.2) ∙ shows.1) in
    let f : true ≡ false = subst (λ (p : Path). is_there (tree_after t.1.3.2) p ≡ false) (sym root) shows.2 in
    cc (f))

-- PARTS
-- a peek that is undecided in an empty column
abbrev peeks : What
peeks = whats.Peek 0 (codes "k")

abbrev undecided : ReplyLine
undecided = replies 7 words.Peek (answers.Undecided 1 (look x 0 (counts 0 0)))

pub nothing_waits : Breaks undecided_where_nothing_waits 14
nothing_waits = breaks_next undecided_where_nothing_waits 13 (omega arith) (omega arith)
    (keeps 2 undecided_where_nothing_waits.script.objects 7 peeks undecided 13
    (rules_13 2 undecided_where_nothing_waits.script.objects 7 peeks undecided
    (rules_12 2 undecided_where_nothing_waits.script.objects 7 peeks undecided
    (rules_11 2 undecided_where_nothing_waits.script.objects 7 peeks undecided (record {
      replied = record {
        line = refl;
        word = refl;
        answer = (refl, e, x ∷ [], codes "k", (0, record { uses = refl; gets = refl }, refl, refl));
      };
      names = ((omega arith, omega arith), omega arith);
      used = tt;
      stands = tt;
      stops = tt;
      ids = refl;
      rows = refl;
      made = refl;
    }) (record {
      unseen = omega arith;
      there = omega arith;
      cut = cut-is_greatest 0 (dated 0 []);
      not_trimmed = refl;
      within = omega arith;
    }) tt tt (λ t. absurd (let f : ⊥ = cc (t) in f)) (λ away. absurd (away refl))) tt) tt))
    (λ keeps.
    let t = client_tells undecided_where_nothing_waits.script undecided_where_nothing_waits.report keeps.0 keeps.1
    (λ c t. PartAnswers keeps.0.log c (kept_at t) t.command.what t.reply.answer) (rule14 keeps.2.1).part 0 _ refl in
    let p = t.1 in
    let u = p.2 in
    let f : None ≡ Some u.4 =
    ap (undecided_after (part_at u.1 u.6.0)) (sym (no_nodes keeps.0.log p.0 p.1)) ∙ u.6.2 in cc (f))
