-- Which rules a report keeps of an append and a sync behind it, of one client alone; and a node line that breaks the ninth.
use Rattle.std.proofs.Common.{◌≡◌, ◌∙◌, ℕ, zero, suc, ◌<◌, List, [], ◌∷◌, take, true, false, Some, inl, refl, ap, sym, subst, arith, codes}
use Rattle.std.specs.Prelude.{◌==◌, slice_get}
use Rattle.std.specs.List.{AllZip}
use Rattle.std.proofs.lemmas.Bool.{false_from_ne_true, eqb-true}
use Rattle.log_node.specs.declared.ids.Key.{Key}
use Rattle.log_node.specs.declared.node.Head.{Head}
use Rattle.log_node.specs.declared.node.Node.{Node}
use Rattle.log_node.specs.Seen.{PlacedNode}
use Rattle.log_node.specs.Standings.{Standing}
use Rattle.log_node.specs.Reach.{Chains}
use Rattle.col_core.specs.declared.Entry.{Entry}
use Rattle.col_core.specs.Computed.{dated}
use Rattle.col_core.specs.Cuts.{chain}
use Rattle.col_core.specs.PlayOrder.{Place}
use Rattle.col_core.specs.Log.{first}
use Rattle.col_core.specs.Rows.{FitsRows}
use Rattle.col_core.specs.Keeping.{nothing_kept}
use Rattle.col_core.proofs.CallerLemmas.{cut-is_greatest}
use Rattle.script_text.specs.declared.script.Command.{Command}
use Rattle.script_text.specs.declared.script.Script.{Script}
use Rattle.script_text.specs.declared.commands.What.TheVariants as whats
use Rattle.script_text.specs.declared.commands.Word.TheVariants as words
use Rattle.report_text.specs.declared.report.Answer.TheVariants as answers
use Rattle.report_text.specs.declared.report.ReplyLine.{ReplyLine}
use Rattle.report_text.specs.declared.report.Report.{Report}
use Rattle.lawful_run.specs.Callers.{Caller, caller_of}
use Rattle.lawful_run.specs.Lawful.{IsHelp}
use Rattle.lawful_run.specs.Reads.{ShowsNode}
use Rattle.run_rules.specs.Told.{Account, Step, kept_at, kept_past}
use Rattle.run_rules.specs.Telling.{places_shown, step_of}
use Rattle.run_rules.specs.Naming.{Names, NamesPoint}
use Rattle.run_rules.specs.Rules.{IsReplyTo, UsesNode, Stands, StopsAsTold}
use Rattle.run_rules.specs.Shown.{Shows}
use Rattle.run_rules.specs.Keeping.{Keeps, one, two, three, four, five, six, seven, eight}
use Rattle.run_rules.proofs.CallerLemmas.{rule9}
use Rattle.wrong_reports.specs.Cases.{a, x, asks, counts, id, key, enters, look, on_x, point}
use Rattle.wrong_reports.specs.Naming.{append, stood_at}
use Rattle.wrong_reports.specs.Shown.{shown, a_node_under_another_stamp}
use Rattle.least_rules.specs.Breaking.{Breaks}
use Rattle.least_rules.proofs.Lists.{all_at, some_same}
use Rattle.least_rules.proofs.Tools.{client_tells, breaks_next}
use Rattle.least_rules.proofs.Alone.{scr, rep, acc, told, rule1_of, rule2_of, rule3_of, rule4_of, rule5_of, rule6_of, rule7_of, rule8_of, one_of, two_of}
use Rattle.least_rules.proofs.OneNode.{its_node, legal_one}
use Rattle.report_text.specs.declared.report.ColumnReport.{ColumnReport}

abbrev entry : Entry
entry = enters a (id a 0) 0 1

abbrev asked : List Command
asked = append 6 ∷ asks 7 a (whats.Sync x) ∷ []

-- the sync plays one node, and shows these
abbrev synced : List PlacedNode → ReplyLine
synced items = record { line = 7; word = words.Sync; answer = answers.Synced (look x 1 (counts 1 0)) 1; nodes = items }

abbrev nodes : List Node
nodes = its_node (record { client = 0; own = 0; regions = 1; rows = 1; objects = [] }) ∷ []

abbrev keys : List Key
keys = key 1 (id a 0) ∷ []

module _ (items : List PlacedNode) where
  abbrev lines : List ReplyLine
  lines = stood_at 6 1 0 0 ∷ synced items ∷ []

  abbrev s : Script
  s = scr 1 [] asked lines (entry ∷ []) 1 keys [] (counts 1 0) (counts 0 0) nodes

  abbrev r : Report
  r = rep 1 [] asked lines (entry ∷ []) 1 keys [] (counts 1 0) (counts 0 0) nodes

  abbrev its : Account
  its = acc 1 [] asked lines (entry ∷ []) 1 keys [] (counts 1 0) (counts 0 0) nodes

  abbrev its_caller : Caller
  its_caller = caller_of s 0

  abbrev step_one : Step
  step_one = step_of its.log its_caller (places_shown s r 0) nothing_kept (append 6) (stood_at 6 1 0 0)

  abbrev step_two : Step
  step_two = step_of its.log its_caller (places_shown s r 0) (kept_past its.log its_caller step_one) (asks 7 a (whats.Sync x))
      (synced items)

  keeps_8 : Keeps s r 8
  keeps_8 = (
    its,
    told 1 [] asked lines (entry ∷ []) 1 keys [] (counts 1 0) (counts 0 0) nodes refl,
    (
      (
        (
          (
            (
              (
                (
                  (
                    tt,
                    one (rule1_of 1 [] asked lines (entry ∷ []) 1 keys [] (counts 1 0) (counts 0 0) nodes
                        (two_of (IsReplyTo its_caller) step_one step_two
                        (record { line = refl; word = refl; answer = (refl, inl refl, (refl, refl)) })
                        (record { line = refl; word = refl; answer = refl }))),
                  ),
                  two (rule2_of 1 [] asked lines (entry ∷ []) 1 keys [] (counts 1 0) (counts 0 0) nodes
                      (legal_one entry (record { fresh = refl; stamped = refl; in_range = omega arith }))
                      (one_of (λ (z : Entry). z.by < 1) entry (omega arith))
                      (record {
                        clock_shown = refl;
                        line_shown = refl;
                        queue_shown = refl;
                        cut_shown = cut-is_greatest 0 (dated 0 (entry ∷ []));
                        base_shown = refl;
                      })),
                ),
                three (rule3_of 1 [] asked lines (entry ∷ []) 1 keys [] (counts 1 0) (counts 0 0) nodes
                    (one_of (λ (z : Entry). FitsRows [] 0 z.event) entry
                    (λ i d lt. absurd (let f : ⊥ = omega (arith, lt) in f)))),
              ),
              four (rule4_of 1 [] asked lines (entry ∷ []) 1 keys [] (counts 1 0) (counts 0 0) nodes
                  (two_of (λ (t : Step). Names its.log t.untold its_caller (kept_at t) t.command.what t.reply.answer)
                  step_one step_two
                  (one_of (NamesPoint its.log its_caller nothing_kept) (point x 0 0)
                  ((omega arith, (entry, refl, refl, refl)), omega arith))
                  ((omega arith, omega arith), omega arith))
                  refl (one_of (λ (z : Entry). IsHelp z.by z.event → ⊥) entry (λ f. f))),
            ),
            five (rule5_of 1 [] asked lines (entry ∷ []) 1 keys [] (counts 1 0) (counts 0 0) nodes
                (two_of (λ (t : Step). UsesNode its.log its_caller (kept_at t) t.command.what t.reply.answer) step_one step_two (
                  (on_x, codes "s", (refl, refl), refl),
                  (λ z there.
                      ap (λ (w : Entry). w.event) (sym (some_same entry z there))),
                ) tt)
                refl refl),
          ),
          six (rule6_of 1 [] asked lines (entry ∷ []) 1 keys [] (counts 1 0) (counts 0 0) nodes
              (two_of (λ (t : Step). Stands its.log t.untold its_caller (kept_at t) t.command.what t.reply.answer) step_one
              step_two (
                on_x,
                codes "s",
                (refl, refl),
                (
                  refl,
                  0,
                  refl,
                  record {
                    next = refl;
                    entered = refl;
                    unseen = omega arith;
                    stands = refl;
                    behind = omega arith;
                    above = omega arith;
                  },
                  refl,
                ),
              ) tt)),
        ),
        seven (rule7_of 1 [] asked lines (entry ∷ []) 1 keys [] (counts 1 0) (counts 0 0) nodes
            (two_of (λ (t : Step). StopsAsTold its.log t.untold its_caller (kept_at t) t.command.what t.reply.answer) step_one
            step_two tt tt)),
      ),
      eight (rule8_of 1 [] asked lines (entry ∷ []) 1 keys [] (counts 1 0) (counts 0 0) nodes
          (one_of (λ (z : Entry). IsHelp z.by z.event → ⊥) entry (λ f. f))
          (one_of (λ (z : Standing). z.settled ≡ true) (record { key = key 1 (id a 0); settled = true }) refl)),
    ),
  )

-- THE ONE NODE
abbrev the_head : Head
the_head = record { key = key 1 (id a 0); needs = counts 0 0 }

abbrev one_chain : Chains
one_chain = chain 0 (dated 0 (entry ∷ []))

other_chain : (region : ℕ) → one_chain (suc region) ≡ []
other_chain region =
    let n : (suc region == 0) ≡ false = false_from_ne_true (suc region == 0)
    (λ t. let g = eqb-true (suc region) 0 t in let f : ⊥ = omega (arith, g) in f) in
    rw n refl

-- no other node is there
lone : (region position : ℕ) (head : Head) → slice_get (one_chain region) position ≡ Some head → head ≡ the_head
lone zero zero head h = sym (some_same the_head head h)
lone zero (suc position) head h = absurd (let f : ⊥ = cc (h) in f)
lone (suc region) position head h =
    let g = ap (λ (hs : List Head). slice_get hs position) (sym (other_chain region)) ∙ h in
    absurd (let f : ⊥ = cc (g) in f)

pub under_another_stamp : Breaks a_node_under_another_stamp 9
under_another_stamp = breaks_next a_node_under_another_stamp 8 (omega arith) (omega arith)
    (keeps_8 (shown 2 (codes "s") ∷ []))
    (λ keeps.
    let t = client_tells a_node_under_another_stamp.script a_node_under_another_stamp.report keeps.0 keeps.1
    (λ c t. Shows keeps.0.log t.untold c (kept_at t) t.command.what t.reply.nodes t.reply.answer) (rule9 keeps.2.1).shows 0 _
    refl in
    let h = all_at (λ (c : ColumnReport). c.journal ≡ keeps.0.log.histories c.region c.colour)
    a_node_under_another_stamp.report.columns 0 _ refl keeps.1.histories in
    let chains : chain 0 (first keeps.0.log 0 0 1) ≡ one_chain =
    ap (λ (es : List Entry). chain 0 (dated 0 (take 1 es))) (sym h) in
    wrong keeps.0 chains t.2.1.2.order t.2.1.2.lines) where
      wrong : (account : Account) → chain 0 (first account.log 0 0 1) ≡ one_chain → (order : List Place)
          → AllZip (ShowsNode account.log (caller_of a_node_under_another_stamp.script 0) 0 1) order
          (shown 2 (codes "s") ∷ []) → ⊥
      wrong account chains [] all = all
      wrong account chains (q ∷ qs) all =
          let n = all.0 in
          let l = lone q.region q.position n.head
          (subst (λ (c : Chains). slice_get (c q.region) q.position ≡ Some n.head) chains n.stands) in
          let f : 2 ≡ 1 = ap (λ (k : Key). k.stamp) (n.key ∙ ap (λ (head : Head). head.key) l) in omega (arith, f)
