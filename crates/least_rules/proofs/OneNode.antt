-- Which rules a report keeps of one append of one client alone, in whose column one node stands; and appends that break one.
use Rattle.std.proofs.Common.{◌≡◌, ◌∙◌, ℕ, zero, suc, ◌<◌, List, [], ◌∷◌, Some, inl, refl, ap, sym, subst, arith, codes}
use Rattle.std.specs.Prelude.{slice_get}
use Rattle.log_node.specs.declared.ids.Key.{Key}
use Rattle.log_node.specs.declared.node.Node.{Node}
use Rattle.col_core.specs.declared.Event as events
use Rattle.col_core.specs.declared.Event.TheVariants.{Single}
use Rattle.col_core.specs.declared.Entry.{Entry}
use Rattle.col_core.specs.History.{line}
use Rattle.log_node.specs.Reach.{IsGreatestReachable}
use Rattle.col_core.specs.Computed.{dated, cut}
use Rattle.col_core.specs.Cuts.{Dated, chain}
use Rattle.col_core.specs.Legal.{IsColumnHistory, IsLawfulEvent}
use Rattle.col_core.specs.Rows.{FitsRows}
use Rattle.col_core.specs.Keeping.{nothing_kept}
use Rattle.col_core.proofs.CallerLemmas.{cut-is_greatest}
use Rattle.script_text.specs.declared.script.Script.{Script}
use Rattle.report_text.specs.declared.report.ColumnReport.{ColumnReport}
use Rattle.report_text.specs.declared.report.Report.{Report}
use Rattle.lawful_run.specs.Callers.{Caller, caller_of, node_of}
use Rattle.lawful_run.specs.Lawful.{IsHelp}
use Rattle.run_rules.specs.Told.{Account, Step, IsTold, kept_at}
use Rattle.run_rules.specs.Telling.{places_shown, step_of}
use Rattle.run_rules.specs.Naming.{Names, NamesPoint}
use Rattle.run_rules.specs.Rules.{IsReplyTo, UsesNode, Stands}
use Rattle.run_rules.specs.Keeping.{Keeps, RulesTo, one, two, three, four, five}
use Rattle.run_rules.proofs.CallerLemmas.{rule5, rule6}
use Rattle.wrong_reports.specs.Cases.{Case, a, x, id, key, on_x, counts, enters, point}
use Rattle.wrong_reports.specs.Naming.{append, stood_at, a_single_of_nobody, an_append_under_another_stamp}
use Rattle.wrong_reports.specs.Naming.{an_append_at_another_position}
use Rattle.least_rules.specs.Breaking.{Breaks}
use Rattle.least_rules.proofs.Lists.{all_at, some_same}
use Rattle.least_rules.proofs.Tools.{client_tells, breaks_next}
use Rattle.least_rules.proofs.Alone.{scr, rep, acc, told, rule1_of, rule2_of, rule3_of, rule4_of, rule5_of, one_of}

-- one event that may come first is a lawful history
pub legal_one : (y : Entry) → IsLawfulEvent 0 1 [] y.event y.stamp → IsColumnHistory 0 1 (dated 0 (y ∷ []))
legal_one y lawful zero d there =
    subst (λ (t : Dated). IsLawfulEvent 0 1 [] t.entry.event t.entry.stamp) (some_same _ d there) lawful
legal_one y lawful (suc n) d there = absurd (let f : ⊥ = cc (there) in f)

-- the node that a client appends first
abbrev pub its_node : Caller → Node
its_node c = node_of c nothing_kept on_x (codes "s")

-- the column's one event enters the client's node number k
module _ (k : ℕ) (stamp position : ℕ) where
  abbrev entry : Entry
  entry = enters a (id a k) 0 1

  abbrev keys : List Key
  keys = key 1 (id a k) ∷ []

  abbrev nodes : List Node
  nodes = its_node (record { client = 0; own = 0; regions = 1; rows = 1; objects = [] }) ∷ []

  abbrev s : Script
  s = scr 1 [] (append 6 ∷ []) (stood_at 6 stamp 0 position ∷ []) (entry ∷ []) 1 keys [] (counts 1 0) (counts 0 0) nodes

  abbrev r : Report
  r = rep 1 [] (append 6 ∷ []) (stood_at 6 stamp 0 position ∷ []) (entry ∷ []) 1 keys [] (counts 1 0) (counts 0 0) nodes

  abbrev its : Account
  its = acc 1 [] (append 6 ∷ []) (stood_at 6 stamp 0 position ∷ []) (entry ∷ []) 1 keys [] (counts 1 0) (counts 0 0) nodes

  abbrev its_caller : Caller
  its_caller = caller_of s 0

  abbrev step : Step
  step = step_of its.log its_caller (places_shown s r 0) nothing_kept (append 6) (stood_at 6 stamp 0 position)

  its_told : IsTold s r its
  its_told = told 1 [] (append 6 ∷ []) (stood_at 6 stamp 0 position ∷ []) (entry ∷ []) 1 keys [] (counts 1 0) (counts 0 0)
      nodes refl

  rules_4 : cut 0 (dated 0 (entry ∷ [])) ≡ counts 1 0 → RulesTo s r its 4
  rules_4 whole = (
    (
      (
        (
          tt,
          one (rule1_of 1 [] (append 6 ∷ []) (stood_at 6 stamp 0 position ∷ []) (entry ∷ []) 1 keys [] (counts 1 0)
              (counts 0 0) nodes (one_of (IsReplyTo its_caller) step
              (record { line = refl; word = refl; answer = (refl, inl refl, (refl, refl)) }))),
        ),
        two (rule2_of 1 [] (append 6 ∷ []) (stood_at 6 stamp 0 position ∷ []) (entry ∷ []) 1 keys [] (counts 1 0)
            (counts 0 0) nodes (legal_one entry (record { fresh = refl; stamped = refl; in_range = omega arith }))
            (one_of (λ (y : Entry). y.by < 1) entry (omega arith))
            (record {
              clock_shown = refl;
              line_shown = refl;
              queue_shown = refl;
              cut_shown = subst (IsGreatestReachable (chain 0 (dated 0 (entry ∷ [])))) whole
                  (cut-is_greatest 0 (dated 0 (entry ∷ [])));
              base_shown = refl;
            })),
      ),
      three (rule3_of 1 [] (append 6 ∷ []) (stood_at 6 stamp 0 position ∷ []) (entry ∷ []) 1 keys [] (counts 1 0)
          (counts 0 0) nodes (one_of (λ (y : Entry). FitsRows [] 0 y.event) entry
          (λ i d lt. absurd (let f : ⊥ = omega (arith, lt) in f)))),
    ),
    four (rule4_of 1 [] (append 6 ∷ []) (stood_at 6 stamp 0 position ∷ []) (entry ∷ []) 1 keys [] (counts 1 0)
        (counts 0 0) nodes
        (one_of (λ (t : Step). Names its.log t.untold its_caller (kept_at t) t.command.what t.reply.answer) step
        (one_of (NamesPoint its.log its_caller nothing_kept) (point x 0 position)
        ((omega arith, (entry, refl, refl, refl)), omega arith)))
        refl (one_of (λ (y : Entry). IsHelp y.by y.event → ⊥) entry (λ f. f))),
  )

  keeps_4 : cut 0 (dated 0 (entry ∷ [])) ≡ counts 1 0 → Keeps s r 4
  keeps_4 whole = (its, its_told, rules_4 whole)

-- the client's first node
keeps_5 : (stamp position : ℕ) → Keeps (s 0 stamp position) (r 0 stamp position) 5
keeps_5 stamp position = (
  its 0 stamp position,
  its_told 0 stamp position,
  (
    rules_4 0 stamp position refl,
    five (rule5_of 1 [] (append 6 ∷ []) (stood_at 6 stamp 0 position ∷ []) (entry 0 stamp position ∷ []) 1
        (keys 0 stamp position) [] (counts 1 0) (counts 0 0) (nodes 0 stamp position)
        (one_of (λ (t : Step). UsesNode (its 0 stamp position).log (its_caller 0 stamp position) (kept_at t) t.command.what
        t.reply.answer) (step 0 stamp position) (
          (on_x, codes "s", (refl, refl), refl),
          (λ y there.
              ap (λ (z : Entry). z.event) (sym (some_same (entry 0 stamp position) y there))),
        ))
        refl refl),
  ),
)

-- the journal of the column of a report is its history
history_of : (case : Case) (n : ℕ) (c : ColumnReport) → slice_get case.report.columns n ≡ Some c → (account : Account)
    → IsTold case.script case.report account → c.journal ≡ account.log.histories c.region c.colour
history_of case n c there account told =
    all_at (λ (d : ColumnReport). d.journal ≡ account.log.histories d.region d.colour) case.report.columns n c there
    told.histories

-- how many nodes a client made before this one, where the event enters it
abbrev count_in : events.Event → ℕ
count_in (Single id floor wants) = id.count
count_in _ = 0

pub of_nobody : Breaks a_single_of_nobody 5
of_nobody = breaks_next a_single_of_nobody 4 (omega arith) (omega arith) (keeps_4 1 1 0 refl)
    (λ keeps.
    let t = client_tells a_single_of_nobody.script a_single_of_nobody.report keeps.0 keeps.1
    (λ c t. UsesNode keeps.0.log c (kept_at t) t.command.what t.reply.answer) (rule5 keeps.2.1).used 0 _ refl in
    let h = history_of a_single_of_nobody 0 _ refl keeps.0 keeps.1 in
    let is = t.1.1 (enters a (id a 1) 0 1) (ap (λ (es : List Entry). slice_get es 0) (sym h)) in
    let f : 1 ≡ 0 = ap count_in is in omega (arith, f))

pub under_another : Breaks an_append_under_another_stamp 6
under_another = breaks_next an_append_under_another_stamp 5 (omega arith) (omega arith) (keeps_5 2 0)
    (λ keeps.
    let t = client_tells an_append_under_another_stamp.script an_append_under_another_stamp.report keeps.0 keeps.1
    (λ c t. Stands keeps.0.log t.untold c (kept_at t) t.command.what t.reply.answer) (rule6 keeps.2.1).stands 0 _ refl in
    let h = history_of an_append_under_another_stamp 0 _ refl keeps.0 keeps.1 in
    let a0 = t.1.3 in
    let place : 0 ≡ a0.1 = (let at = a0.2 in cc (at)) in
    let same = some_same (enters a (id a 0) 0 1) _
    (ap (λ (es : List Entry). slice_get es 0) h
    ∙ (ap (λ (p : ℕ). slice_get (keeps.0.log.histories 0 0) p) place ∙ a0.3.entered)) in
    let f : 1 ≡ 2 = ap (λ (y : Entry). y.stamp) same in omega (arith, f))

pub another_position : Breaks an_append_at_another_position 6
another_position = breaks_next an_append_at_another_position 5 (omega arith) (omega arith) (keeps_5 1 1)
    (λ keeps.
    let t = client_tells an_append_at_another_position.script an_append_at_another_position.report keeps.0 keeps.1
    (λ c t. Stands keeps.0.log t.untold c (kept_at t) t.command.what t.reply.answer) (rule6 keeps.2.1).stands 0 _ refl in
    let h = history_of an_append_at_another_position 0 _ refl keeps.0 keeps.1 in
    let g = ap (λ (es : List Entry). slice_get (line es) 1) h ∙ t.1.3.3.stands in cc (g))
