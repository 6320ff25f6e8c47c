-- Replies to an append to several colours that are unlike its row.
use Rattle.lawful_run.specs.Lawful.{LawfulRun}
use Rattle.std.proofs.Common.{◌≡◌, ℕ, List, length, refl, ap, sym, subst, ◌∙◌, arith, lit<, slice_get, Some, codes}
use Rattle.std.proofs.Common.{◌∷◌, []}
use Rattle.std.specs.List.{Contains, filter}
use Rattle.log_node.specs.declared.ids.Id.{Id}
use Rattle.log_node.specs.declared.ids.Counts.{Counts}
use Rattle.log_node.specs.declared.marks.Outcome.TheVariants.{Open, Final, Gone}
use Rattle.col_core.specs.declared.Event.TheVariants.{Single}
use Rattle.col_core.specs.declared.Entry.{Entry}
use Rattle.col_core.specs.History.{line}
use Rattle.col_core.specs.Rows.{BegunRow, is_of}
use Rattle.col_core.specs.Keeping.{Kept}
use Rattle.wrong_reports.specs.Cases.{IsUnlawful, a, e, x, id, enters, point}
use Rattle.wrong_reports.specs.Rows.{proposed}
use Rattle.wrong_reports.specs.Several.{a_look_before_its_own_settling, its_own_proposal_told_as_a_look}
use Rattle.wrong_reports.specs.Several.{no_memory_for_what_stands, another_rows_number, a_colour_without_a_point}
use Rattle.wrong_reports.specs.Several.{stood_before_it_is_settled, stood_before_it_is_decided}
use Rattle.wrong_reports.specs.Several.{a_row_that_no_command_began, an_append_to_several_that_leaves_the_floor}
use Rattle.script_text.specs.declared.commands.What.TheVariants.{Append}
use Rattle.log_node.specs.declared.marks.Mark.TheVariants as marks
use Rattle.log_node.specs.declared.marks.Why.TheVariants.{Memory}
use Rattle.col_core.specs.Keeping.{nothing_kept, seen_past}
use Rattle.col_core.specs.Log.{places_of}
use Rattle.lawful_run.specs.Callers.{caller_of}
use Rattle.lawful_run.specs.Refusals.{FindsNoMemory, nothing, gone, gave, hidden}
use Rattle.wrong_reports.specs.Rows.{row, complete}
use Rattle.wrong_reports.specs.Cases.{proposes, on_both}
use Rattle.wrong_reports.proofs.Tools.{only, column_at, some_same, none_there}
use Rattle.wrong_reports.proofs.Told.{two, stood_says, several_says}
use Rattle.wrong_reports.proofs.BegunRows.{one_row, only_row, OneRow}

pub rows_number : IsUnlawful another_rows_number
rows_number run =
    let s = only run.log _ _ _ _ (run.clients 0 _ refl).explained in
    let n = (several_says run.log _ _ _ _ _ _ _ _ _ _ s).0 in
    omega (arith, n)

pub without_point : IsUnlawful a_colour_without_a_point
without_point run =
    let s = only run.log _ _ _ _ (run.clients 0 _ refl).explained in
    let c = (several_says run.log _ _ _ _ _ _ _ _ _ _ s).2.colours in
    let f : 1 ≡ 2 = ap (λ (cs : List ℕ). length cs) c in
    omega (arith, f)

pub not_settled : IsUnlawful stood_before_it_is_settled
not_settled run =
    let s = only run.log _ _ _ _ (run.clients 0 _ refl).explained in
    let p = (several_says run.log _ _ _ _ _ _ _ _ _ _ s).2.each 0 (point x 0 0) (lit< tt) in
    let h = (column_at stood_before_it_is_settled run 0 (proposed x) refl).history in
    none_there _ (ap (λ (es : List Entry). slice_get (line es) 0) h ∙ p.stands)

pub not_decided : IsUnlawful stood_before_it_is_decided
not_decided run =
    let s = only run.log _ _ _ _ (run.clients 0 _ refl).explained in
    let o = (several_says run.log _ _ _ _ _ _ _ _ _ _ s).2.outcome in
    let one = one_row 0 (run.log.rows 0) _ run.begun.all in
    let r = only_row _ o.0 (subst (λ (rows : List BegunRow). Contains rows o.0) one.rows_are o.1.begun) in
    let f : Open ≡ Final 1 = ap (λ (r : BegunRow). r.last) r ∙ o.2 in
    cc (f)

pub no_command : IsUnlawful a_row_that_no_command_began
no_command run =
    let client = run.clients 0 _ refl in
    let s = only run.log _ _ _ _ client.explained in
    let one = one_row 0 (run.log.rows 0) _ run.begun.all in
    let n : length (filter (is_of 0) (run.log.rows 0)) ≡ client.kept.rows = client.rows in
    let f : 1 ≡ 0 = ap (λ (rows : List BegunRow). length (filter (is_of 0) rows)) (sym one.rows_are) ∙ n
    ∙ ap (λ (k : Kept). k.rows) (s.after_is ∙ s.explained.4) in
    omega (arith, f)

single_floor : (i j : Id) (floor other : ℕ) (wants more : Counts)
    → Single i floor wants ≡ Single j other more → floor ≡ other
single_floor i j floor other wants more e = cc (e)

pub leaves_floor : IsUnlawful an_append_to_several_that_leaves_the_floor
leaves_floor run =
    let t = two run.log _ _ _ _ _ _ (run.clients 0 _ refl).explained in
    let k = (several_says run.log _ _ _ _ _ _ _ _ _ _ t.first).3 in
    let s = (stood_says run.log _ _ _ _ _ _ _ _ _ _ _ t.second).0.entered in
    let h = (column_at an_append_to_several_that_leaves_the_floor run 0 _ refl).history in
    let same = some_same (enters a (id a 1) 0 2) _ (ap (λ (es : List Entry). slice_get es 2) h ∙ s) in
    let floor : 0 ≡ t.kept.floor = single_floor _ _ _ _ _ _ (ap (λ (en : Entry). en.event) same) in
    let f : 0 ≡ 1 = floor ∙ ap (λ (k : Kept). k.floor) k in
    omega (arith, f)

pub before_settling : IsUnlawful a_look_before_its_own_settling
before_settling run =
    let client = run.clients 0 _ refl in
    let t = two run.log _ _ _ _ _ _ client.explained in
    let s = several_says run.log _ _ _ _ _ _ _ _ _ _ t.first in
    let h = (column_at a_look_before_its_own_settling run 0 (complete x) refl).history in
    let made = client.made 0 0 (lit< tt) (lit< tt) in
    let last = ap (λ (k : Kept). k.made 0 0) (t.second.after_is ∙ t.second.explained.4) in
    let places : 0 ∷ 1 ∷ [] ≡ s.1 0 = ap (places_of 0) h ∙ made ∙ last ∙ ap (λ (k : Kept). k.made 0 0) s.3 in
    let seen : t.kept.seen 0 0 ≡ 2 = ap (λ (k : Kept). k.seen 0 0) s.3 ∙ ap (λ ps. seen_past 1 ps) (sym places) in
    let unseen = t.second.explained.2.unseen in
    omega (arith, seen, unseen)

pub told_as_look : IsUnlawful its_own_proposal_told_as_a_look
told_as_look run =
    let s = only run.log _ _ _ _ (run.clients 0 _ refl).explained in
    let p = (several_says run.log _ _ _ _ _ _ _ _ _ _ s).2.each 0 (point x 0 0) (lit< tt) in
    let en = p.entered in
    let z : en.2 ≡ 0 = (let lt = en.3 in omega (arith, lt)) in
    let h = (column_at its_own_proposal_told_as_a_look run 0 (complete x) refl).history in
    let there : slice_get (run.log.histories 0 0) 0 ≡ Some en.4 =
    subst (λ n. slice_get (run.log.histories 0 0) n ≡ Some en.4) z en.5 in
    let same = some_same (proposes a (id a 0) 0 1) _ (ap (λ (es : List Entry). slice_get es 0) h ∙ there) in
    en.6 (ap (λ (en : Entry). en.by) (sym same))

-- what may have been done without memory, where no row was begun for it
module _ (run : LawfulRun no_memory_for_what_stands.script no_memory_for_what_stands.report) where
  one_begun : OneRow (run.log.rows 0) (row e a 0 (id a 0) (marks.Number 1) (marks.Number 1) (Final 1))
  one_begun = one_row 0 (run.log.rows 0) _ run.begun.all

  not_begun : (kept : Kept) → kept.rows ≡ 0 → length (filter (is_of 0) (run.log.rows 0)) ≡ kept.rows → ⊥
  not_begun kept none is =
      let f : 1 ≡ 0 = ap (λ (rows : List BegunRow). length (filter (is_of 0) rows)) (sym one_begun.rows_are)
      ∙ is ∙ none in
      omega (arith, f)

  found_none : (after : Kept)
      → FindsNoMemory run.log (caller_of no_memory_for_what_stands.script 0) nothing_kept (Append on_both
      (codes "s")) after
      → length (filter (is_of 0) (run.log.rows 0)) ≡ after.rows → ⊥
  found_none after nothing rows = not_begun nothing_kept refl rows
  found_none after (gone colours text places asks is) rows =
      let r = only_row _ is.outcome.0 (subst (λ
      (rows : List BegunRow). Contains rows is.outcome.0) one_begun.rows_are is.outcome.1.begun) in
      let f : Final 1 ≡ Gone Memory = ap (λ (r : BegunRow). r.last) r ∙ is.outcome.2 in
      cc (f)
  found_none after (gave region colour looked too_low gives pull g) rows = cc (pull)
  found_none after (hidden other hides) rows = not_begun other (ap (λ (k : Kept). k.rows) hides) rows

pub without_memory : IsUnlawful no_memory_for_what_stands
without_memory run =
    let client = run.clients 0 _ refl in
    let s = only run.log _ _ _ _ client.explained in
    found_none run _ (subst (FindsNoMemory run.log (caller_of no_memory_for_what_stands.script 0) nothing_kept
    (Append on_both (codes "s"))) (sym s.after_is) s.explained.1) client.rows
