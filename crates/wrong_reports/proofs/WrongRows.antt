-- Rows that are not as they may be.
use Rattle.std.proofs.Common.{◌≡◌, ℕ, zero, suc, ◌<◌, List, [], ◌∷◌, length, map, Some, None, refl, ap, sym, subst}
use Rattle.std.proofs.Common.{◌∙◌, arith, lit<, lit≤, slice_get, ◌≤◌}
use Rattle.std.specs.List.{All, Contains}
use Rattle.log_node.specs.declared.ids.Id.{Id}
use Rattle.log_node.specs.declared.node.Node.{Node}
use Rattle.log_node.specs.Vectors.{zeros}
use Rattle.log_node.specs.declared.marks.ColourMark.{ColourMark}
use Rattle.log_node.specs.declared.marks.Mark.TheVariants as marks
use Rattle.log_node.specs.declared.marks.Outcome.TheVariants.{Open, Final}
use Rattle.col_core.specs.declared.Event.TheVariants.{Propose, Settle}
use Rattle.col_core.specs.declared.Entry.{Entry}
use Rattle.col_core.specs.Rows.{BegunRow, AreLawfulRows, FitsRow, FitsRows, IsMarkOf, FitsMarks}
use Rattle.report_text.specs.declared.report.RowReport.{RowReport}
use Rattle.lawful_run.specs.Lawful.{LawfulRun}
use Rattle.wrong_reports.specs.Cases.{Case, IsUnlawful, a, b, e, w, x, y, id, together}
use Rattle.wrong_reports.specs.Rows.{a_fence_with_stamps_left, row, settles, complete, one_append, has_rows}
use Rattle.wrong_reports.specs.Rows.{a_row_out_of_count, a_row_for_anothers_node, a_row_of_one_colour}
use Rattle.wrong_reports.specs.Rows.{two_rows_for_one_node, a_mark_that_was_not_proposed, a_proposal_without_a_mark}
use Rattle.wrong_reports.specs.Rows.{an_outcome_of_other_marks, a_settling_unlike_the_outcome}
use Rattle.wrong_reports.specs.Rows.{a_proposal_without_a_row, rows_out_of_order, full_too_early, two_orders}
use Rattle.wrong_reports.specs.Rows.{a_settling_under_a_lesser_stamp}
use Rattle.std.specs.Prelude.{max}
use Rattle.log_node.specs.declared.marks.Why.TheVariants.{StampEnd}
use Rattle.log_node.specs.declared.ids.Colours.{Colours}
use Rattle.log_node.specs.Sets.{members}
use Rattle.col_core.specs.History.{clock, last_stamp}
use Rattle.col_core.specs.Log.{Log}
use Rattle.col_core.specs.Keeping.{Kept}
use Rattle.lawful_run.specs.Callers.{Caller}
use Rattle.lawful_run.specs.Appends.{HasNoStamp, none_for_one, none_for_several, IsGoneAtEnd}
use Rattle.wrong_reports.specs.Cases.{empty}
use Rattle.wrong_reports.proofs.Tools.{only, column_at}
use Rattle.wrong_reports.proofs.BegunRows.{begun, OneRow, one_row, two_rows, no_row, at_row, only_row}

-- the rows of the one region
module _ (rows : List RowReport) (run : LawfulRun one_append (has_rows rows).report) where
  lawful : AreLawfulRows 0 2 (run.log.histories 0) (run.log.rows 0)
  lawful = run.begun.lawful 0 (lit< tt)

  -- the history of x
  history : (complete x).journal ≡ run.log.histories 0 0
  history = (column_at (has_rows rows) run 0 (complete x) refl).history

  -- the events of x fit the rows
  fits : (k : ℕ) (en : Entry) → k < 2
      → FitsRows (run.log.rows 0) 0 (Rattle.std.specs.Prelude.slice_index_or (complete x).journal k en).event
  fits k en lt =
      subst (λ (es : List Entry). All (λ (en : Entry). FitsRows (run.log.rows 0) 0 en.event) es) (sym history)
      (lawful.events 0 (lit< tt)) k en lt

module _ (shown : RowReport) (run : LawfulRun one_append (has_rows (shown ∷ [])).report) where
  one : OneRow (run.log.rows 0) shown
  one = one_row 0 (run.log.rows 0) shown run.begun.all

  one_lawful : AreLawfulRows 0 2 (run.log.histories 0) (begun shown one.node ∷ [])
  one_lawful = subst (AreLawfulRows 0 2 (run.log.histories 0)) one.rows_are (lawful (shown ∷ []) run)

  marked : All (λ (m : ColourMark). IsMarkOf (run.log.histories 0 m.colour) one.node m.mark) shown.marks
  marked = at_row (λ (r : BegunRow). All (λ (m : ColourMark). IsMarkOf
      (run.log.histories 0 m.colour) r.node m.mark) r.marks) one (lawful (shown ∷ []) run).marks

pub out_of_count : IsUnlawful a_row_out_of_count
out_of_count run = let n = (one_lawful _ run).in_order 0 in cc (n)

pub anothers_node : IsUnlawful a_row_for_anothers_node
anothers_node run =
    let c = (at_row (FitsRow 0) (one _ run) (lawful _ run).fit).client in
    let i = ap (λ (i : Id). i.client) (one _ run).id_is in
    omega (arith, c, i)

pub one_colour : IsUnlawful a_row_of_one_colour
one_colour run =
    let f = at_row (FitsRow 0) (one _ run) (lawful _ run).fit in
    let s = f.several in
    let m = ap (λ (cs : List ℕ). length cs) f.a_mark_each in
    omega (arith, s, m)

pub one_node_twice : IsUnlawful two_rows_for_one_node
one_node_twice run =
    let two = two_rows 0 (run.log.rows 0) _ _ run.begun.all in
    let l = subst (AreLawfulRows 0 2 (run.log.histories 0)) two.rows_are (run.begun.lawful 0 (lit< tt)) in
    l.ids_differ 0 1 (begun (row e a 0 (id a 0) (marks.Number 1) (marks.Number 1) (Final 1)) two.node)
    (lit< tt) (lit< tt) (two.id_is ∙ sym two.next_is)

-- no stamp 2 in the column
one_stamp : (n : ℕ) (en : Entry) → slice_get (complete x).journal n ≡ Some en → en.stamp ≡ 2 → ⊥
one_stamp zero en h two = let s : (complete x).journal ≡ _
    ∷ _ = refl in let t : Some (Rattle.wrong_reports.specs.Cases.proposes a (id a 0) 0 1) ≡ Some en =
    h in let u : 1 ≡ en.stamp = cc (t) in omega (arith, u, two)
one_stamp (suc zero) en h two = let t : Some (settles a (id a 0) 1) ≡ Some en = h in let u : 0 ≡ en.stamp =
    cc (t) in omega (arith, u, two)
one_stamp (suc (suc n)) en h two = let t : None ≡ Some en = h in cc (t)

pub not_proposed : IsUnlawful a_mark_that_was_not_proposed
not_proposed run =
    let m = marked _ run 0 (record { colour = 0; mark = marks.Number 2 }) (lit< tt) in
    one_stamp m.0 m.1 (ap (λ (es : List Entry). slice_get es m.0) (history _ run) ∙ m.4) m.6

pub without_mark : IsUnlawful a_proposal_without_a_mark
without_mark run =
    let one = one _ run in
    let m = marked _ run 0 (record { colour = 0; mark = marks.None }) (lit< tt) in
    m 1 (
      0,
      Rattle.wrong_reports.specs.Cases.proposes a (id a 0) 0 1,
      0,
      zeros,
      ap (λ (es : List Entry). slice_get es 0) (sym (history _ run)),
      ap (λ i. Propose i 0 zeros) (sym one.id_is),
      refl,
    )

pub other_outcome : IsUnlawful an_outcome_of_other_marks
other_outcome run = let k =
    at_row (λ (r : BegunRow). FitsMarks (map (λ (m : ColourMark). m.mark) r.marks) r.last) (one _ run)
    (lawful _ run).outcomes in cc (k)

-- no row of these settles so
pub unlike_outcome : IsUnlawful a_settling_unlike_the_outcome
unlike_outcome run =
    let f = fits _ run 1 (settles a (id a 0) 1) (lit< tt) in
    let g = subst (λ (rows : List BegunRow). FitsRows rows 0 (Settle (id a 0) (Final 1))) (one _ run).rows_are f in
    none (one _ run).node g.0 g.1 g.2 g.4 where
      none : (node : Node) (n : ℕ) (r : BegunRow)
          → slice_get (begun (row e a 0 (id a 0) (marks.Number 1) (marks.Number 1) Open) node
          ∷ []) n ≡ Some r → r.last ≡ Final 1 → ⊥
      none node zero r h l = let o : Open ≡ r.last =
          (let t : Some (begun (row e a 0 (id a 0) (marks.Number 1) (marks.Number 1) Open) node) ≡ Some r =
          h in let s : begun (row e a 0 (id a 0) (marks.Number 1) (marks.Number 1) Open) node ≡ r =
          cc (t) in ap (λ (r : BegunRow). r.last) s) in cc (o, l)
      none node (suc n) r h l = let t : None ≡ Some r = h in cc (t)

pub without_row : IsUnlawful a_proposal_without_a_row
without_row run =
    let f = fits _ run 0 (settles a (id a 0) 1) (lit< tt) in
    let n = no_row 0 (run.log.rows 0) run.begun.all in
    let g : None ≡ Some f.1 = ap (λ (rows : List BegunRow). slice_get rows f.0) (sym n) ∙ f.2 in
    cc (g)

pub rows_order : IsUnlawful rows_out_of_order
rows_order run =
    let two = two_rows 0 (run.log.rows 0) _ _ run.begun.all in
    let s = subst (λ (rows : List BegunRow). Rattle.std.specs.List.Sorted.IsNonDecreasing (map (λ
    (r : BegunRow). r.row.client) rows)) two.rows_are (run.begun.by_client 0 (lit< tt)) in
    let l = s 0 1 0 (lit≤ tt) (lit< tt) in
    omega (arith, l)

pub full_early : IsUnlawful full_too_early
full_early run =
    let s = (only run.log _ _ _ _ (run.clients 0 _ refl).explained).explained.3.3.all in
    cc (s)

abbrev of_a : Node → BegunRow
of_a node = begun (row e a 0 (id a 0) (marks.Number 1) (marks.Number 1) (Final 1)) node

abbrev of_b : Node → BegunRow
of_b node = begun (row e b 0 (id b 0) (marks.Number 2) (marks.Number 2) (Final 2)) node

pub orders : IsUnlawful two_orders
orders run =
    let two = two_rows 0 (run.log.rows 0) _ _ run.begun.all in
    let h = (column_at two_orders run 1 _ refl).history in
    let l = run.begun.lawful 0 (lit< tt) in
    let f = subst (λ (es : List Entry). All (λ (en : Entry). FitsRows (run.log.rows 0) 1 en.event) es) (sym h)
    (l.events 1 (lit< tt)) 3 (settles a (id a 0) 3) (lit< tt) in
    let g = subst (λ (rows : List BegunRow). FitsRows rows 1 (Settle (id a 0) (Final 3))) two.rows_are f in
    none two.node two.next two.next_is g.0 g.1 g.2 g.3 g.4 where
      none : (node next : Node) → next.id ≡ id b 0 → (n : ℕ) (r : BegunRow)
          → slice_get (of_a node ∷ of_b next ∷ []) n ≡ Some r → r.node.id ≡ id a 0 → r.last ≡ Final 3 → ⊥
      none node next is zero r h i l = let s : of_a node ≡ r = (let t : Some (of_a node) ≡ Some r =
          h in cc (t)) in cc (s, l)
      none node next is (suc zero) r h i l = let s : of_b next ≡ r = (let t : Some (of_b next) ≡ Some r =
          h in cc (t)) in cc (s, l)
      none node next is (suc (suc n)) r h i l = let t : None ≡ Some r = h in cc (t)

pub lesser_stamp : IsUnlawful a_settling_under_a_lesser_stamp
lesser_stamp run = let s =
    ((column_at a_settling_under_a_lesser_stamp run 0 _ refl).legal 2 _ refl).1.0 in omega (arith, s)

-- a row that is gone for the stamps' end
pub gone_at_end : (log : Log) (caller : Caller) (kept after : Kept) (node : Node) (colour : ℕ)
    → 2 ≤ length (members node.colours) → HasNoStamp log caller kept node colour after
    → (places : ℕ → List ℕ) × IsGoneAtEnd log caller kept node colour places
gone_at_end log caller kept after node colour two (none_for_one is had) =
    absurd (let l = ap (λ (cs : List ℕ). length cs) is in omega (arith, l, two))
gone_at_end log caller kept after node colour two (none_for_several places gone) = (places, gone)

pub fence : IsUnlawful a_fence_with_stamps_left
fence run =
    let said = (only run.log _ _ _ _ (run.clients 0 _ refl).explained).explained.2 in
    let two : 2 ≤ length (members said.0) =
    subst (λ (cs : Colours). 2 ≤ length (members cs)) (sym said.2.0) (lit≤ tt) in
    let gone = (gone_at_end run.log _ _ _ _ _ two said.3).1 in
    let one = one_row 0 (run.log.rows 0) _ run.begun.all in
    let r = only_row _ gone.begins.row (subst (λ
    (rows : List BegunRow). Contains rows gone.begins.row) one.rows_are gone.begins.begun.begun) in
    let floor : one.node.floor ≡ 0 = ap (λ (r : BegunRow). r.node.floor) r
    ∙ ap (λ (n : Node). n.floor) gone.begins.begun.of_node in
    let P = λ (r : BegunRow). All (λ (m : ColourMark). IsMarkOf
    (run.log.histories 0 m.colour) r.node m.mark) r.marks in
    let ended = (at_row P one (run.begun.lawful 0 (lit< tt)).marks 0 (record {
      colour = 0;
      mark =
          marks.Fenced StampEnd;
    }) (lit< tt)).1 in
    let h = (column_at a_fence_with_stamps_left run 0 (empty e x) refl).history in
    let none : max (clock []) one.node.floor ≡ last_stamp =
    subst (λ (es : List Entry). max (clock es) one.node.floor ≡ last_stamp) (sym h) ended in
    let f : 0 ≡ last_stamp = ap (λ n. max 0 n) (sym floor) ∙ none in
    omega (arith, f)
