-- Stops that come before what they say was done.
use Rattle.std.proofs.Common.{◌≡◌, inl, inr, ℕ, zero, suc, ◌+◌, ◌<◌, ◌≤◌, List, [], ◌∷◌, length, take, Some, None, refl}
use Rattle.std.proofs.Common.{ap, sym, subst, ◌∙◌, arith, lit<, lit≤, slice_get, codes}
use Rattle.std.specs.Prelude.{IsTrue, slice_index_or}
use Rattle.std.specs.List.{Contains, filter}
use Rattle.log_node.specs.declared.ids.Colours.{Colours}
use Rattle.log_node.specs.declared.node.Node.{Node}
use Rattle.log_node.specs.Sets.{members}
use Rattle.log_node.specs.declared.marks.ColourMark.{ColourMark}
use Rattle.log_node.specs.declared.marks.Mark.{Mark}
use Rattle.log_node.specs.declared.marks.Mark.TheVariants as marks
use Rattle.log_node.specs.declared.marks.Why.{Why}
use Rattle.log_node.specs.declared.marks.Why.TheVariants.{Memory}
use Rattle.log_node.specs.declared.marks.Outcome.{Outcome}
use Rattle.log_node.specs.declared.marks.Outcome.TheVariants.{Open, Gone}
use Rattle.log_node.specs.Standings.{open_entry}
use Rattle.col_core.specs.declared.Entry.{Entry}
use Rattle.col_core.specs.History.{entries, has_entered}
use Rattle.col_core.specs.Rows.{BegunRow, is_of}
use Rattle.col_core.specs.Log.{Log}
use Rattle.col_core.specs.Keeping.{Kept, nothing_kept}
use Rattle.script_text.specs.declared.commands.What.TheVariants.{Append}
use Rattle.lawful_run.specs.Callers.{Caller, caller_of, node_of}
use Rattle.lawful_run.specs.Appends.{IsSettledIn}
use Rattle.lawful_run.specs.Stops.{Stops, stopped_at_once, stopped_after}
use Rattle.lawful_run.specs.Refusals.{FindsNoMemory, nothing, gone, gave, hidden}
use Rattle.lawful_run.specs.Lawful.{LawfulRun}
use Rattle.wrong_reports.specs.Cases.{IsUnlawful, a, e, id, x, on_both}
use Rattle.wrong_reports.specs.Rows.{proposed, row}
use Rattle.wrong_reports.specs.Several.{no_memory_for_what_is_open}
use Rattle.wrong_reports.specs.Helping.{a_stop_before_its_decision, a_stop_before_its_settling}
use Rattle.wrong_reports.proofs.Tools.{only, column_at}
use Rattle.wrong_reports.proofs.Told.{two}
use Rattle.wrong_reports.proofs.BegunRows.{OneRow, one_row, only_row}
use Rattle.wrong_reports.proofs.WrongHelping.{stopped_says}

pub not_decided : IsUnlawful a_stop_before_its_decision
not_decided run =
    let said = (only run.log _ _ _ _ (run.clients 0 _ refl).explained).explained in
    let c : said.1 ≡ on_both = (let w = said.3 in cc (w)) in
    let stopped = stopped_says run.log _ _ _ 4 _ (lit< tt) said.4 in
    let d = stopped.says.decided (subst (λ (cs : Colours). length (members cs) + 2 ≤ 4) (sym c) (lit≤ tt)) in
    let one = one_row 0 (run.log.rows 0) _ run.begun.all in
    let r = only_row _ d.2.0 (subst (λ (rows : List BegunRow). Contains rows d.2.0) one.rows_are d.2.1.begun) in
    let f : Open ≡ d.0 = ap (λ (r : BegunRow). r.last) r ∙ d.2.2 in
    d.1 (sym f)

-- a fence among marks of which the first is a number
no_fence : (why : Why) (of_y : Mark) → Contains {X = ColourMark} (record { colour = 0; mark = marks.Number 1 }
    ∷ record { colour = 1; mark = of_y } ∷ []) (record { colour = 0; mark = marks.Fenced why }) → ⊥
no_fence why of_y (zero, lt, same) =
    let m : marks.Number 1 ≡ marks.Fenced why = ap (λ (m : ColourMark). m.mark) same in
    cc (m)
no_fence why of_y (suc zero, lt, same) = let f : 1 ≡ 0 = ap (λ (m : ColourMark). m.colour) same in omega (arith, f)
no_fence why of_y (suc (suc k), lt, same) = let f : ⊥ = omega (arith, lt) in f

-- what was proposed in x and has its mark is not settled there
pub open_in_x : (log : Log) (caller : Caller) (node : Node) (of_y : Mark) (last : Outcome) → caller.own ≡ 0
    → node.region ≡ 0 → node.id ≡ id 0 0 → (proposed x).journal ≡ log.histories 0 0
    → OneRow (log.rows 0) (row e a 0 (id a 0) (marks.Number 1) of_y last)
    → IsSettledIn log caller node 0 → ⊥
open_in_x log caller node of_y last own region is h one s = elim s.2.for_good [
  | inl fenced ↦
      let m = fenced.1 in
      let begun = subst (λ n. Contains (log.rows n) m.0) region m.1.begun in
      let r = only_row _ m.0 (subst (λ (rows : List BegunRow). Contains rows m.0) one.rows_are begun) in
      no_fence fenced.0 of_y (subst (λ (r : BegunRow). Contains r.marks (record {
        colour = 0;
        mark =
            marks.Fenced fenced.0;
      })) (sym r) m.2)
  | inr entered ↦
      by s.0 (subst (λ (es : List Entry). s.0 ≤ length es) (sym same) s.1)
      (subst (λ i. open_entry i (entries (take s.0 (proposed x).journal)) ≡ None) is
      (subst (λ (es : List Entry). open_entry node.id (entries (take s.0 es)) ≡ None) (sym same) s.2.not_open))
      (subst (λ i. IsTrue (has_entered i (take s.0 (proposed x).journal))) is
      (subst (λ (es : List Entry). IsTrue (has_entered node.id (take s.0 es))) (sym same) entered))
] where
  same : (proposed x).journal ≡ log.histories caller.own 0
  same = h ∙ ap (λ n. log.histories n 0) (sym own)

  by : (events : ℕ) → events ≤ 1 → open_entry (id 0 0) (entries (take events (proposed x).journal)) ≡ None
      → IsTrue (has_entered (id 0 0) (take events (proposed x).journal)) → ⊥
  by zero le closed entered = cc (entered)
  by (suc zero) le closed entered = cc (closed)
  by (suc (suc n)) le closed entered = omega (arith, le)

pub not_settled : IsUnlawful a_stop_before_its_settling
not_settled run =
    let said = (only run.log _ _ _ _ (run.clients 0 _ refl).explained).explained in
    let c : said.1 ≡ on_both = (let w = said.3 in cc (w)) in
    let stopped = stopped_says run.log _ _ _ 5 _ (lit< tt) said.4 in
    let first : slice_get (members said.1) 0 ≡ Some 0 = ap (λ (c : Colours). slice_get (members c) 0) c in
    let within = subst (λ (cs : Colours). 0 + length (members cs) + 2 < 5) (sym c) (lit< tt) in
    let h = (column_at a_stop_before_its_settling run 0 (proposed x) refl).history in
    open_in_x run.log (caller_of a_stop_before_its_settling.script 0) _ _ _ refl refl refl h
    (one_row 0 (run.log.rows 0) _ run.begun.all)
    (stopped.says.settled 0 0 first within)

-- NO MEMORY: what may have been done, where the node is open in x
module _ (run : LawfulRun no_memory_for_what_is_open.script no_memory_for_what_is_open.report) where
  one_begun : OneRow (run.log.rows 0) (row e a 0 (id a 0) (marks.Number 1) (marks.Fenced Memory) (Gone Memory))
  one_begun = one_row 0 (run.log.rows 0) _ run.begun.all

  not_begun : (kept : Kept) → kept.rows ≡ 0 → length (filter (is_of 0) (run.log.rows 0)) ≡ kept.rows → ⊥
  not_begun kept none is =
      let f : 1 ≡ 0 = ap (λ (rows : List BegunRow). length (filter (is_of 0) rows)) (sym one_begun.rows_are)
      ∙ is ∙ none in
      omega (arith, f)

  found : (after : Kept)
      → FindsNoMemory run.log (caller_of no_memory_for_what_is_open.script 0) nothing_kept (Append on_both
      (codes "s")) after
      → length (filter (is_of 0) (run.log.rows 0)) ≡ after.rows → ⊥
  found after nothing rows = not_begun nothing_kept refl rows
  found after (gone colours text places asks is) rows =
      let some = subst (λ (cs : Colours). 0 < length (members cs)) (sym asks.0) (lit< tt) in
      let first : slice_index_or (members colours) 0 0 ≡ 0 = ap (λ (cs : Colours). slice_index_or (members cs) 0 0)
      asks.0 in
      let h = (column_at no_memory_for_what_is_open run 0 (proposed x) refl).history in
      let caller = caller_of no_memory_for_what_is_open.script 0 in
      let node = node_of caller nothing_kept colours text in
      open_in_x run.log caller node _ _ refl refl refl h one_begun (subst (λ c. IsSettledIn run.log caller node c) first
      (is.settled 0 0 some))
  found after (gave region colour looked too_low gives pull g) rows = cc (pull)
  found after (hidden other hides) rows = not_begun other (ap (λ (k : Kept). k.rows) hides) rows

-- a stop at once leaves what was kept
at_once : (log : Log) (caller : Caller) (kept after : Kept) (node : Node) (steps : ℕ) → steps ≡ 0
    → Stops log caller kept node steps after → after ≡ kept
at_once log caller kept after node steps none stopped_at_once = refl
at_once log caller kept after node steps none (stopped_after n places s) = absurd (omega (arith, none))

pub still_open : IsUnlawful no_memory_for_what_is_open
still_open run =
    let client = run.clients 0 _ refl in
    let t = two run.log _ _ _ _ _ _ client.explained in
    let last = t.second.after_is ∙ at_once run.log _ _ _ _ _ refl t.second.explained.4 in
    found run t.kept (subst (FindsNoMemory run.log (caller_of no_memory_for_what_is_open.script 0) nothing_kept
    (Append on_both (codes "s"))) (sym t.first.after_is) t.first.explained.1)
    (client.rows ∙ ap (λ (k : Kept). k.rows) last)
